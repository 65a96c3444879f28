-- A run to the tick on which the block in work ends, without its bytes. 02 §2: "A block ends on the tick that stepping by this rule gives";
-- its cycles are, 01, Feed divider, "q for a line, the number of visited points for an arc".
use Rattle.std.specs.Prelude.{Bool, cond, ◌&&◌, ◌||◌, not, ℕ, ◌*◌}
use Rattle.plane.specs.declared.point.Point.{Point}
use Rattle.divider.specs.Divider.{added_at}
use Rattle.divider.specs.computed.Divider.{ending_of}
use Rattle.work.specs.declared.Work.{Work}
use Rattle.work.specs.Work.{is_nothing, feed_of, cycles_left, charges_left, end_of}
use Rattle.work.specs.computed.Work.{last_tick_for}
use Rattle.bench.specs.declared.Bench.{Bench}
use Rattle.settings.specs.Settings.{capacity_of}
use Rattle.bench.specs.computed.Bench.{sound_of}
use Rattle.bench.specs.Bench.{moved_of}
use Rattle.finish.specs.declared.Finished.{Finished}

-- k cycles of these charges at the feed f to this end, with the remainder that "goes over to the next block"
abbrev pub finished_of : Bench → (end : Point) (k charges f : ℕ) → Finished
finished_of m end k charges f =
    let last = ending_of (charges * capacity_of m.settings) (added_at f) m.remainder k in
    record { cycles = k; ticks = last.tick; bench = moved_of m end last.remainder Work.Nothing }

-- without a tick: the record as it was
abbrev pub unmoved : Bench → Finished
unmoved m = record { cycles = 0; ticks = 0; bench = m }

-- the working tick on which what is in work ends, its first being 1
abbrev pub last_tick_of : Bench → ℕ
last_tick_of m = last_tick_for (capacity_of m.settings) m.at m.remainder m.work

abbrev pub at_end : Bench → Finished
at_end m = finished_of m (end_of m.at m.work) (cycles_left m.at m.work) (charges_left m.at m.work) (feed_of m.work)

-- "Each working tick (block in work, not held)"; a record that is not sound has none
unfoldable pub works_of : Bench → Bool
works_of m = sound_of m && not (is_nothing m.work || m.held)

unfoldable pub finish_of : Bench → Finished
finish_of m = cond (works_of m) (at_end m) (unmoved m)
