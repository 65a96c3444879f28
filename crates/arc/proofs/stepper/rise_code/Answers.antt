-- Quadrant by quadrant.
use Rattle.std.proofs.Common.{rules}
use Rattle.plane.specs.Pulse.{change_of}
use Rattle.arc.specs.computed.Stepper.{move_code, way_code}
use Rattle.arc.proofs.stepper.rise_code.Goals as goal

pub returns-in-1-default : goal.returns-in-1-default
unfolding move_code way_code change_of
returns-in-1-default c = search rules

pub returns-in-3-default : goal.returns-in-3-default
unfolding move_code way_code change_of
returns-in-3-default c = search rules

pub returns-in_default : goal.returns-in_default
unfolding move_code way_code change_of
returns-in_default c = search rules

pub returns-in_default-2 : goal.returns-in_default-2
unfolding move_code way_code change_of
returns-in_default-2 c = search rules

pub returns-in-0-Counterclockwise : goal.returns-in-0-Counterclockwise
unfolding move_code way_code change_of
returns-in-0-Counterclockwise c = search rules

pub returns-in-0-Counterclockwise-2 : goal.returns-in-0-Counterclockwise-2
unfolding move_code way_code change_of
returns-in-0-Counterclockwise-2 c = search rules
