-- What an accepted block has: its numbers are small, an arc is on its circle, it takes some cycles and not too many.
use Rattle.std.specs.Prelude.{◌≡◌, Bool, true, ℕ, ◌≤◌, nat_abs}
use Rattle.std.proofs.Common.{arith, le-leb, leb-true}
use Rattle.whole.specs.laws.Order.{abs_sub}
use Rattle.whole.specs.laws.Test.{both, joined}
use Rattle.plane.specs.declared.point.Point.{Point}
use Rattle.plane.specs.declared.travel.Travel.{Travel}
use Rattle.plane.specs.Travel.{inside_of}
use Rattle.plane.specs.Point.{Near}
use Rattle.plane.specs.computed.Travel.{Wide}
use Rattle.plane.specs.laws.Travel.{inside, travel_near}
use Rattle.line.specs.Line.{increment_x, increment_y}
use Rattle.line.specs.computed.Line.{short_of}
use Rattle.line.specs.laws.Cycles.{cycles_bound, cycles_some, differ_apart}
use Rattle.arc.specs.computed.Arc.{StandsOnArc}
use Rattle.arc.specs.laws.Step.{cycles_bounds}
use Rattle.block.specs.declared.Block.{Block}
use Rattle.block.specs.declared.Path.{Path}
use Rattle.block.specs.Block.{arc_of, cycles_along, block_cycles}
use Rattle.block.specs.Questions.{offset_right, feed_right, load_no, ask_load}
use Rattle.block.specs.computed.Questions.{path_no}
use Rattle.block.specs.computed.Chain.{Accepted}
use Rattle.question.specs.declared.Question.{Question}
use Rattle.question.specs.laws.Ask.{answered}
use Rattle.block.proofs.laws.Begin.{begins}

-- the questions 11 to 16, each answered by yes
pub record Yes (q0 : ℕ) (t : Travel) (start : Point) (b : Block) : Type 0 where
  pub some : 1 ≤ b.feed
  pub most : b.feed ≤ q0
  pub end_in_lem : inside_of t b.end ≡ true
  pub path : path_no t start b b.path ≡ 0

pub yes : (q0 : ℕ) (t : Travel) (room : Bool) (start : Point) (b : Block) → load_no q0 t room start b ≡ 0 → Yes q0 t start b
unfolding ask_load
yes q0 t room start b e =
    let feed = answered {yes = feed_right q0 b.feed} Question.Feed _ (answered {yes = room} Question.Room _ e).1 in
    let end = answered Question.EndInTravel _ feed.1 in
    let f = both feed.0 in
    record { some = leb-true 1 b.feed f.0; most = leb-true b.feed q0 f.1; end_in_lem = end.0; path = end.1 }

-- what the code asks of an accepted path
abbrev pub Ready : (start : Point) → Block → Path → Type 0
Ready start b Path.Line = short_of start b.end ≡ true
Ready start b (Path.Arc turn centre) = Near 1000000 start × (offset_right centre ≡ true) × StandsOnArc (arc_of start b turn centre) start

module _ {t : Travel} (start : Point) (b : Block)
    (wide : Wide t) (here : inside_of t start ≡ true) (there : inside_of t b.end ≡ true) where
  sides : (nat_abs (increment_x start b.end) ≤ 2000000) × (nat_abs (increment_y start b.end) ≤ 2000000)
  sides =
      let s = travel_near wide (inside here) in
      let e = travel_near wide (inside there) in (
        omega (arith, abs_sub b.end.x start.x, s.x, e.x),
        omega (arith, abs_sub b.end.y start.y, s.y, e.y),
      )

  pub short : short_of start b.end ≡ true
  short = joined (le-leb _ _ sides.0) (le-leb _ _ sides.1)

  pub ready : (p : Path) → path_no t start b p ≡ 0 → Ready start b p
  unfolding arc_of
  ready Path.Line e = short
  ready (Path.Arc turn centre) e =
      let offset = answered {yes = offset_right centre} Question.Centre _ e in
      let ends = answered Question.EndOnCircle _ offset.1 in
      let g = begins start b turn centre wide here there offset.0 in
      let near = travel_near wide (inside here) in
      (near, offset.0, record { centre = g.centre; here = near; there = travel_near wide (inside there); on = g.on; end_on = ends.0 })

  along : (p : Path) → path_no t start b p ≡ 0 → (1 ≤ cycles_along start b p) × (cycles_along start b p ≤ 8000000)
  along Path.Line e = (
    cycles_some start b.end (differ_apart start b.end (answered Question.Moves _ e).0),
    omega (arith, cycles_bound start b.end sides.0 sides.1),
  )
  along (Path.Arc turn centre) e =
      let on = (ready (Path.Arc turn centre) e).2 in
      cycles_bounds (arc_of start b turn centre) start (record { on = on.on; end_on = on.end_on })

module _ {start : Point} {b : Block} (a : Accepted start b) where
  pub accepted : Yes a.capacity a.travel start b
  accepted = yes a.capacity a.travel true start b a.none

  pub path_ready : Ready start b b.path
  path_ready = ready start b a.wide a.start_in accepted.end_in_lem b.path accepted.path

  -- 1 cycle at least, and no more than the longest way takes
  pub cycles_range : (1 ≤ block_cycles start b) × (block_cycles start b ≤ 8000000)
  unfolding block_cycles
  cycles_range = along start b a.wide a.start_in accepted.end_in_lem b.path accepted.path
