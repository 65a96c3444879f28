-- `next` is right because what waits is right behind the block in work, so that its first one can begin where that ended.
use borrow.Author.Rules.{rules}
use mathlib.Core.Path.{sym, subst, ◌∙◌}
use Prim.Native.Nat.{◌≤◌}
use native.Mathlib.Omega.{arith}
use Rattle.queue.specs.declared.Waiting.{Waiting}
use Rattle.work.specs.computed.Asked.{Loadable}
use Rattle.work.specs.laws.Left.{accepted_loadable}
use Rattle.machine.specs.laws.Next.{next_busy, next_none, first_accepted, next_first}
use Rattle.machine.proofs.waiting.next.Statement.{statement}
use Rattle.machine.proofs.waiting.next.Tie as tie

is_nothing-requires : tie.Need-is_nothing-requires
is_nothing-requires c κs = search rules

returns-then-not-is_nothing : tie.Need-returns-then-not-is_nothing
returns-then-not-is_nothing c = next_busy c.requires (sym c.is_nothing.ensures ∙ c.if-not-is_nothing.true)

returns-then-q-eq0 : tie.Need-returns-then-q-eq0
returns-then-q-eq0 c =
    let e = c in
    next_none e.requires (sym e.is_nothing.ensures ∙ e.if-not-is_nothing.false) c.if-q-eq0.true

first-w-requires : tie.Need-first-w-requires
first-w-requires c κs = search rules

begin-begun-requires : tie.Need-begin-begun-requires
begin-begun-requires c κs =
    let n = c in
    let e = c in
    let some : 1 ≤ e.args.q.len = omega (arith, n.if-q-eq0.false) in
    subst (λ (w : Waiting). Loadable c.args.k.at w.block w.block.path) (sym c.first-w.ensures)
    (accepted_loadable (first_accepted e.requires
    (sym e.is_nothing.ensures ∙ e.if-not-is_nothing.false) some))

moved-requires : tie.Need-moved-requires
moved-requires c κs = search rules

pop-requires : tie.Need-pop-requires
pop-requires c κs = omega (arith, c.if-q-eq0.false)

returns : tie.Need-returns
returns c =
    let n = c in
    let e = c in
    let some : 1 ≤ e.args.q.len = omega (arith, n.if-q-eq0.false) in
    rw (c.pop.ensures, c.moved.ensures, c.begin-begun.ensures, c.first-w.ensures)
    (next_first e.requires (sym e.is_nothing.ensures ∙ e.if-not-is_nothing.false) some)

pub next_spec : {M : Type 1} → statement M
next_spec = tie.close (tie.spec is_nothing-requires returns-then-not-is_nothing returns-then-q-eq0 first-w-requires begin-begun-requires
    moved-requires pop-requires returns)
