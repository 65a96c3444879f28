-- The test of a record. `Sound` in crate demands says in the paper's words which records pass it.
use Rattle.std.specs.Prelude.{Bool, ◌&&◌, ◌||◌, not, ℕ, eqb}
use Rattle.plane.specs.declared.point.Point.{Point}
use Rattle.plane.specs.declared.travel.Travel.{Travel}
use Rattle.queue.specs.declared.Queue.{Queue}
use Rattle.queue.specs.Queue.{waiting}
use Rattle.queue.specs.computed.Queue.{queue_sound}
use Rattle.work.specs.declared.Work.{Work}
use Rattle.work.specs.Work.{is_nothing, end_of}
use Rattle.work.specs.Work.{root_in}
use Rattle.settings.specs.Settings.{capacity_of}
use Rattle.bench.specs.computed.Bench.{sound_of as bench_sound}
use Rattle.machine.specs.declared.Machine.{Machine}
use Rattle.machine.specs.Machine.{to_do}

-- "A sound record has this figure right, only waiting blocks that would be accepted in turn, and none waiting when nothing is in work." The
-- record also keeps the root of the block in work.
unfoldable pub waiting_right : (q0 : ℕ) → Travel → (at : Point) → Work → (root left : ℕ) → Queue → Bool
waiting_right q0 t at w root left q =
    eqb root (root_in w)
    && ((not (is_nothing w) || eqb q.len 0) && (queue_sound q0 t (end_of at w) q && eqb left (to_do at w (waiting q))))

abbrev pub sound_of : Machine → Bool
sound_of m =
    let k = m.bench in
    bench_sound k && waiting_right (capacity_of k.settings) k.settings.travel k.at k.work m.root m.left m.queue
