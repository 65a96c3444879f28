-- It is a move, and an axis written in its own quadrant.
use Rattle.std.proofs.Common.{ap, ◌∙◌}
use Rattle.circle.specs.computed.Stepper.{moved, brought_on, advanced_by}
use Rattle.circle.proofs.laws.Stepper.{entered_bounds, movable, moved_quadrant}
use Rattle.circle.proofs.step.Stepper.advance.Goals as goal

pub moved_by-requires : goal.moved_by-requires
moved_by-requires c = rw c.requires.1 (movable c.requires.0)

pub settle-requires : goal.settle-requires
settle-requires c = rw (c.moved_by.ensures, moved_quadrant c.args.m c.args.self) (entered_bounds c.requires.0).four

pub returns : goal.returns
unfolding advanced_by
returns c = c.settle.ensures ∙ ap brought_on c.moved_by.ensures ∙ ap (λ m. brought_on (moved m c.args.self)) c.requires.1
