-- A fall goes as a rise in the next quadrant.
use Rattle.arc.proofs.stepper.trace.Goals as goal
use Rattle.std.proofs.Common.{ap, ◌∙◌}
use Rattle.std.proofs.Common.{ℕ}
use Rattle.circle.specs.declared.step.Move.TheVariants.{Rise}
use Rattle.circle.proofs.laws.Stepper.{entered_bounds}
use Rattle.arc.specs.computed.Stepper.{move_code}
use Rattle.arc.specs.laws.Stepper.{next_below, fall_rise}

pub rise_code-requires : goal.rise_code-requires
rise_code-requires c = (entered_bounds c.requires).four

pub next_quadrant-requires : goal.next_quadrant-requires
next_quadrant-requires c = (entered_bounds c.requires).four

pub rise_code-requires-2 : goal.rise_code-requires-2
rise_code-requires-2 c = rw c.next_quadrant.ensures (next_below _ (entered_bounds c.requires).four)

pub next_move-requires : goal.next_move-requires
next_move-requires c = c.requires

pub returns : goal.returns
returns c =
    let s = c.args.s in
    let rise = c.rise_code.ensures in
    let fall =
    c.rise_code-2.ensures
    ∙ ap (λ (k : ℕ). move_code s.turn k Rise) c.next_quadrant.ensures
    ∙ fall_rise s.turn s.quadrant (entered_bounds c.requires).four in
    let next = c.next_move.ensures in
    λ i. record { circle = s; rise = rise i; fall = fall i; next = next i }
