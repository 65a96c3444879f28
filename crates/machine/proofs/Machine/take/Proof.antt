-- `take` is right because an accepted block adds its cycles to those still to do, in work or waiting.
use borrow.Author.Rules.{rules}
use mathlib.Core.Path.{sym, ap, ◌∙◌}
use native.Mathlib.Omega.{arith}
use Rattle.work.specs.declared.Begun.{Begun}
use Rattle.work.specs.laws.Left.{accepted_loadable, begun_countable, rooted}
use Rattle.machine.specs.laws.Load.{room_left, taken_accepted, taken_fits, c_own, into_work, waits}
use Rattle.machine.proofs.Machine.take.Statement.{statement}
use Rattle.machine.proofs.Machine.take.Tie as tie

begin-begun-requires : tie.Need-begin-begun-requires
begin-begun-requires c κs = accepted_loadable (taken_accepted c.requires)

root_of-root-requires : tie.Need-root_of-root-requires
root_of-root-requires c κs =
    rooted c.args.start c.begin-begun.result.work
    (rw c.begin-begun.ensures (begun_countable (taken_accepted c.requires)))

cycles_left-requires : tie.Need-cycles_left-requires
cycles_left-requires c κs =
    (rw c.begin-begun.ensures (begun_countable (taken_accepted c.requires)), c.root_of-root.ensures)

overflow_add-left : tie.Need-overflow_add-left
overflow_add-left c =
    let r = c.before.before in
    let g = r.requires in
    omega (
      arith,
      taken_fits g (c_own g (ap (λ (b : Begun). b.work) r.begin-begun.ensures)
          (ap (λ (b : Begun). b.width) r.begin-begun.ensures) r.root_of-root.ensures c.cycles_left.ensures),
    )

is_nothing-requires : tie.Need-is_nothing-requires
is_nothing-requires c κs = search rules

moved-next-requires : tie.Need-moved-next-requires
moved-next-requires c κs = search rules

returns-then-is_nothing : tie.Need-returns-then-is_nothing
returns-then-is_nothing c =
    let n = c.before.before.before in
    let r = n.before.before.before in
    let begun = r.begin-begun.ensures in
    rw c.moved-next.ensures
    (into_work r.requires (ap (λ (b : Begun). b.work) begun) (ap (λ (b : Begun). b.width) begun)
    r.root_of-root.ensures n.cycles_left.ensures (sym n.is_nothing.ensures ∙ c.if-is_nothing.true))

push-next-requires : tie.Need-push-next-requires
push-next-requires c κs = room_left c.requires

returns : tie.Need-returns
returns c =
    let n = c.before.before.before in
    let r = n.before.before.before in
    let begun = r.begin-begun.ensures in
    rw c.push-next.ensures
    (waits r.requires (ap (λ (b : Begun). b.work) begun) (ap (λ (b : Begun). b.width) begun)
    r.root_of-root.ensures n.cycles_left.ensures (sym n.is_nothing.ensures ∙ c.if-is_nothing.false))

pub take_spec : {M : Type 1} → statement M
take_spec = tie.close (tie.spec begin-begun-requires root_of-root-requires cycles_left-requires overflow_add-left is_nothing-requires
    moved-next-requires returns-then-is_nothing push-next-requires returns)
