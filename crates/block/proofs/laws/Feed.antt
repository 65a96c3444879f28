-- What a block does from its start, what its cycles are charged, and load's questions but 11 do not look at its feed.
use Rattle.std.specs.Prelude.{◌≡◌, Bool}
use Rattle.std.proofs.Math.Path.{refl}
use Prim.Native.Nat.{ℕ, zero, suc, ◌+◌}
use Rattle.plane.specs.declared.point.Point.{Point}
use Rattle.plane.specs.declared.travel.Travel.{Travel}
use Rattle.arc.specs.computed.Arc.{arc_after, arc_cycles}
use Rattle.arc.specs.Arc.{arc_width}
use Rattle.block.specs.declared.Block.{Block}
use Rattle.block.specs.declared.Path.{Path}
use Rattle.block.specs.Block.{arc_of, cycles_along, point_along, width_along, block_cycles, block_point, block_width}
use Rattle.block.specs.Charge.{block_charge, charges_to, block_charges}
use Rattle.block.specs.Feed.{at_feed}
use Rattle.block.specs.Questions.{feed_right, ask_path, load_no, ask_load}

module _ (f : ℕ) (start : Point) (b : Block) where
  cycles_along_lem : (p : Path) → cycles_along start (at_feed f b) p ≡ cycles_along start b p
  unfolding arc_of arc_cycles
  cycles_along_lem Path.Line = refl
  cycles_along_lem (Path.Arc turn centre) = refl

  pub cycles_at_feed : block_cycles start (at_feed f b) ≡ block_cycles start b
  unfolding block_cycles
  cycles_at_feed = cycles_along_lem b.path

  point_along_lem : (c : ℕ) (p : Path) → point_along start (at_feed f b) p c ≡ point_along start b p c
  unfolding arc_of arc_after
  point_along_lem c Path.Line = refl
  point_along_lem c (Path.Arc turn centre) = refl

  pub point_at_feed : (c : ℕ) → block_point start (at_feed f b) c ≡ block_point start b c
  unfolding block_point
  point_at_feed c = point_along_lem c b.path

  width_along_lem : (p : Path) → width_along start (at_feed f b) p ≡ width_along start b p
  unfolding arc_of arc_width
  width_along_lem Path.Line = refl
  width_along_lem (Path.Arc turn centre) = refl

  pub width_at_feed : block_width start (at_feed f b) ≡ block_width start b
  unfolding block_width
  width_at_feed = width_along_lem b.path

  pub charge_at_feed : (c : ℕ) → block_charge start (at_feed f b) c ≡ block_charge start b c
  unfolding block_charge
  charge_at_feed c = rw (point_at_feed c, point_at_feed (c + 1))

  charges_to_lem : (c : ℕ) → charges_to start (at_feed f b) c ≡ charges_to start b c
  unfolding charges_to
  charges_to_lem zero = refl
  charges_to_lem (suc c) = rw (charges_to_lem c, charge_at_feed c)

  pub charges_at_feed : block_charges start (at_feed f b) ≡ block_charges start b
  charges_at_feed = rw cycles_at_feed (charges_to_lem (block_cycles start b))

  path_same : (t : Travel) (p : Path) → ask_path t start (at_feed f b) p ≡ ask_path t start b p
  unfolding arc_of arc_after arc_cycles
  path_same t Path.Line = refl
  path_same t (Path.Arc turn centre) = refl

  -- where question 11 has the same answer, so has load
  pub load_at_feed : (q g : ℕ) (t : Travel) (room : Bool) → feed_right q f ≡ feed_right g b.feed
      → load_no q t room start (at_feed f b) ≡ load_no g t room start b
  unfolding ask_load
  load_at_feed q g t room same = rw (same, path_same t b.path)
