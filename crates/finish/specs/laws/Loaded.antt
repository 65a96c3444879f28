-- A block that load accepts, finished from its start.
use Rattle.std.specs.Prelude.{◌≡◌, false}
use Rattle.std.proofs.Math.Path.{refl}
use Rattle.std.proofs.Common.{sym, arith}
use Rattle.question.specs.laws.Ask.{passed}
use Rattle.plane.specs.declared.point.Point.{Point}
use Rattle.block.specs.declared.Block.{Block}
use Rattle.block.specs.declared.Path.{Path}
use Rattle.block.specs.Block.{arc_of, cycles_along, block_cycles}
use Rattle.block.specs.Charge.{charges_to, block_charges}
use Rattle.block.specs.Questions.{load_no, ask_load}
use Rattle.block.proofs.laws.Charge.{charges_line, charges_arc}
use Rattle.work.specs.Work.{is_nothing, feed_of, cycles_left, charges_left, end_of, work_along, begun_of}
use Rattle.bench.specs.declared.Bench.{Bench}
use Rattle.settings.specs.Settings.{capacity_of}
use Rattle.bench.specs.Bench.{moved_of}
use Rattle.bench.specs.computed.Calls.{load_of}
use Rattle.invariant.specs.laws.Calls.{load_keeps}
use Rattle.finish.specs.computed.Finish.{finished_of, finish_of}
use Rattle.finish.specs.laws.Record.{AtWork, AtRest, finishes}
use Rattle.finish.specs.laws.Run.{finish_keeps_sound}

-- ---- what a block newly in work is, by its path

module _ (start : Point) (b : Block) where
  begun_busy : (p : Path) → is_nothing (work_along start b p) ≡ false
  begun_busy Path.Line = refl
  begun_busy (Path.Arc turn centre) = refl

  begun_cycles : (p : Path) → cycles_left start (work_along start b p) ≡ cycles_along start b p
  begun_cycles Path.Line = omega arith
  begun_cycles (Path.Arc turn centre) = refl

  begun_charges : (p : Path) → b.path ≡ p → charges_left start (work_along start b p) ≡ charges_to start b (cycles_along start b p)
  begun_charges Path.Line e = omega (arith, charges_line start b (cycles_along start b Path.Line) e)
  begun_charges (Path.Arc turn centre) e = sym (charges_arc start b turn centre (cycles_along start b (Path.Arc turn centre)) e)

  begun_feed : (p : Path) → feed_of (work_along start b p) ≡ b.feed
  unfolding arc_of
  begun_feed Path.Line = refl
  begun_feed (Path.Arc turn centre) = refl

  begun_end : (p : Path) → end_of start (work_along start b p) ≡ b.end
  unfolding arc_of
  begun_end Path.Line = refl
  begun_end (Path.Arc turn centre) = refl

-- ---- loaded into a record at rest

module _ (m : Bench) (rest : AtRest m) (b : Block)
    (accepted : load_no (capacity_of m.settings) m.settings.travel (is_nothing m.work) m.at b ≡ 0) where
  loads : (load_of m b).bench ≡ moved_of m m.at m.remainder (work_along m.at b b.path)
  unfolding load_of begun_of
  loads = rw (rest.sound, passed (ask_load (capacity_of m.settings) m.settings.travel (is_nothing m.work) m.at b) accepted)

  pub loaded_at_work : AtWork (load_of m b).bench
  unfolding moved_of
  loaded_at_work =
      record { sound = load_keeps m rest.sound b; free = rw loads rest.free; busy = rw loads (begun_busy m.at b b.path) }

  -- its cycles, its ticks and its end are the block's
  pub finish_loaded : finish_of (load_of m b).bench ≡ finished_of m b.end (block_cycles m.at b) (block_charges m.at b) b.feed
  unfolding moved_of block_cycles
  finish_loaded =
      rw (
        finishes (load_of m b).bench loaded_at_work,
        loads,
        begun_charges m.at b b.path refl,
        begun_cycles m.at b b.path,
        begun_feed m.at b b.path,
        begun_end m.at b b.path,
      )

  -- and the record is again at rest, for the next block
  pub loaded_rests : AtRest (finish_of (load_of m b).bench).bench
  loaded_rests = finish_keeps_sound (load_of m b).bench loaded_at_work
