-- `take` is right because an accepted block adds its cycles to those still to do, in work or waiting.
use borrow.Author.Rules.{rules}
use mathlib.Core.Path.{sym, ap, ◌∙◌}
use Prim.Native.Nat.{ℕ, ◌+◌}
use native.Mathlib.Omega.{arith}
use Rattle.work.specs.declared.Begun.{Begun}
use Rattle.work.specs.Work.{is_nothing}
use Rattle.work.specs.laws.Left.{accepted_loadable, begun_countable, rooted}
use Rattle.machine.specs.declared.Answered.{Answered}
use Rattle.machine.specs.laws.Load.{room_left, taken_accepted, taken_fits, c_own, into_work, waits}
use Rattle.record.specs.Words.{encode_of, over}
use Rattle.record.specs.computed.Words.{machine_in}
use Rattle.record.specs.computed.Write.{working_of, waits_of}
use Rattle.record.proofs.write.take.Statement.{statement}
use Rattle.record.proofs.write.take.Tie as tie

begin-begun-requires : tie.Need-begin-begun-requires
begin-begun-requires c κs = accepted_loadable (taken_accepted c.requires.taking)

root_of-root-requires : tie.Need-root_of-root-requires
root_of-root-requires c κs =
    rooted c.args.start c.begin-begun.result.work (rw c.begin-begun.ensures (begun_countable (taken_accepted c.requires.taking)))

left_in-requires : tie.Need-left_in-requires
left_in-requires c κs = search rules

cycles_left-requires : tie.Need-cycles_left-requires
cycles_left-requires c κs =
    (rw c.begin-begun.ensures (begun_countable (taken_accepted c.requires.taking)), c.root_of-root.ensures)

overflow_add-left : tie.Need-overflow_add-left
unfolding machine_in
overflow_add-left c =
    let g = c.requires.taking in
    let begun = c.begin-begun.ensures in
    omega (
      arith,
      c.left_in.ensures,
      taken_fits g (c_own g (ap (λ (b : Begun). b.work) begun) (ap (λ (b : Begun). b.width) begun) c.root_of-root.ensures
          c.cycles_left.ensures),
    )

is_nothing-requires : tie.Need-is_nothing-requires
is_nothing-requires c κs = search rules

into_work-requires : tie.Need-into_work-requires
into_work-requires c κs = search rules

returns-then-is_nothing : tie.Need-returns-then-is_nothing
unfolding machine_in
returns-then-is_nothing c =
    let begun = c.begin-begun.ensures in
    let ws = c.args.words.now in
    let idle = ap is_nothing (sym c.requires.work) ∙ sym c.is_nothing.ensures ∙ c.if-is_nothing.true in (
      ap (λ (b : Begun). b.width) begun,
      c.into_work.ensures
          ∙ ap (λ (m : ℕ). over (encode_of (working_of (machine_in ws) c.begin-begun.result.work c.root_of-root.result
          (m + c.cycles_left.result))) ws)
          c.left_in.ensures
          ∙ ap (λ (a : Answered). over (encode_of a.machine) ws)
          (into_work c.requires.taking (ap (λ (b : Begun). b.work) begun) (ap (λ (b : Begun). b.width) begun) c.root_of-root.ensures
          c.cycles_left.ensures idle),
    )

push-requires : tie.Need-push-requires
unfolding machine_in
push-requires c κs =
    (c.requires.sound, room_left c.requires.taking)

returns : tie.Need-returns
unfolding machine_in
returns c =
    let begun = c.begin-begun.ensures in
    let ws = c.args.words.now in
    let busy = ap is_nothing (sym c.requires.work) ∙ sym c.is_nothing.ensures ∙ c.if-is_nothing.false in (
      ap (λ (b : Begun). b.width) begun,
      c.push.ensures
          ∙ ap (λ (m : ℕ). over (encode_of (waits_of (machine_in ws) (record { block = c.args.b; root = c.root_of-root.result })
          (m + c.cycles_left.result))) ws)
          c.left_in.ensures
          ∙ ap (λ (a : Answered). over (encode_of a.machine) ws)
          (waits c.requires.taking (ap (λ (b : Begun). b.work) begun) (ap (λ (b : Begun). b.width) begun) c.root_of-root.ensures
          c.cycles_left.ensures busy),
    )

pub take_spec : {M : Type 1} → statement M
take_spec = tie.close (tie.spec begin-begun-requires root_of-root-requires left_in-requires cycles_left-requires overflow_add-left
    is_nothing-requires into_work-requires returns-then-is_nothing push-requires returns)
