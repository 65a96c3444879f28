-- Its differences are small.
use Rattle.plane.specs.declared.point.Point.{Point}
use Rattle.plane.specs.declared.travel.Travel.{Travel}
use Rattle.plane.specs.Point.{Near}
use Rattle.plane.specs.computed.Travel.{Wide}
use Rattle.whole.specs.laws.Bounded.{Code, at, ◌⊟◌, exact, subs}
use Rattle.arc.proofs.centre.room.Goals as goal

module _ (travel : Travel) (centre : Point) (r : Near 2000000 centre × Wide travel) where
  abbrev x : Code
  x = at centre.x 2000000 r.0.x

  abbrev y : Code
  y = at centre.y 2000000 r.0.y

  abbrev right : Code
  right = at travel.x.upper 1000000 r.1.x_upper

  abbrev up : Code
  up = at travel.y.upper 1000000 r.1.y_upper

  abbrev left : Code
  left = at travel.x.lower 1000000 r.1.x_lower

  abbrev down : Code
  down = at travel.y.lower 1000000 r.1.y_lower

pub overflow_sub-result : goal.overflow_sub-result
overflow_sub-result c = let s = c.args in subs (right s.travel s.centre c.requires) (x s.travel s.centre c.requires) tt

pub overflow_sub-result-2 : goal.overflow_sub-result-2
overflow_sub-result-2 c = let s = c.args in subs (up s.travel s.centre c.requires) (y s.travel s.centre c.requires) tt

pub overflow_sub-result-3 : goal.overflow_sub-result-3
overflow_sub-result-3 c = let s = c.args in subs (x s.travel s.centre c.requires) (left s.travel s.centre c.requires) tt

pub overflow_sub-result-4 : goal.overflow_sub-result-4
overflow_sub-result-4 c = let s = c.args in subs (y s.travel s.centre c.requires) (down s.travel s.centre c.requires) tt

pub returns : goal.returns
returns c =
    let t = c.args.travel in
    let p = c.args.centre in
    let r = c.requires in
    λ i. record {
      right = exact (right t p r ⊟ x t p r) tt i;
      up = exact (up t p r ⊟ y t p r) tt i;
      left = exact (x t p r ⊟ left t p r) tt i;
      down = exact (y t p r ⊟ down t p r) tt i;
    }
