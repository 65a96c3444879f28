-- The two ways round, as the laws name them: handed on from one place, so that a must-fail edit can exchange them in all laws at once.
pub use Rattle.circle.specs.declared.plane.Turn.TheVariants.{Clockwise, Counterclockwise}
