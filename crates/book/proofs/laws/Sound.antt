-- What holds of every book of a history: the remainder does not pay for the next cycle, the point is in travel, and so is the way of the
-- block in work; and those that wait would be accepted in turn.
use Rattle.std.specs.Prelude.{◌≡◌, refl, Bool, true, [], ℕ, ◌+◌, ◌*◌, ◌≤◌, ◌<◌, length}
use Rattle.std.proofs.Common.{subst, mul-le-mul_right, arith}
use Rattle.std.proofs.lemmas.Bool.{false≢true}
use Rattle.plane.specs.declared.point.Point.{Point}
use Rattle.plane.specs.declared.travel.Travel.{Travel}
use Rattle.plane.specs.laws.Travel.{Bounded}
use Rattle.circle.specs.Charge.{straight}
use Rattle.block.specs.Block.{block_cycles, block_point}
use Rattle.block.specs.Charge.{block_charge, charges_to, block_charges}
use Rattle.block.specs.computed.Chain.{chain_accepted}
use Rattle.block.proofs.laws.Charge.{block_charge_range, charges_next}
use Rattle.book.specs.Bench.{BlockInWork, InWork, Bench, fresh_bench, is_nothing, end_in, work_end, cycle_due}
use Rattle.book.specs.Book.{Book, fresh_book}
use Rattle.book.proofs.laws.Settings.{SettingsRight}
use Rattle.book.proofs.laws.Way.{PathRight, Way, block_way}

-- a bench by its parts, so that a law can be proved for each mark and each work
abbrev pub bench_of : Point → Bool → ℕ → InWork → Bench
bench_of at mark r w = record { at = at; mark = mark; remainder = r; work = w }

-- the block in work: its feed is in 1..q0, cycles are left to do, and the point is the one after those done
pub record JobSound (q0 : ℕ) (t : Travel) (at : Point) (j : BlockInWork) : Type 0 where
  pub some : 1 ≤ j.block.feed
  pub short : j.block.feed ≤ q0
  pub more : j.done < block_cycles j.start j.block
  pub point : at ≡ block_point j.start j.block j.done
  pub start : Bounded t j.start
  pub path : PathRight t j.start j.block j.block.path

abbrev pub WorkSound : ℕ → Travel → Point → InWork → Type 0
WorkSound q0 t at InWork.nothing = Unit {0}
WorkSound q0 t at (InWork.working j) = JobSound q0 t at j

-- the charge of the cycle to come, of those done, and of all
abbrev pub job_charge : BlockInWork → ℕ
job_charge j = block_charge j.start j.block j.done

abbrev pub job_paid : BlockInWork → ℕ
job_paid j = charges_to j.start j.block j.done

abbrev pub job_charges : BlockInWork → ℕ
job_charges j = block_charges j.start j.block

-- with nothing in work the remainder pays for no cycle whatever
abbrev pub Below : (q0 : ℕ) → InWork → (r : ℕ) → Type 0
Below q0 InWork.nothing r = r < straight * q0
Below q0 (InWork.working j) r = r < cycle_due q0 j

-- so a block loaded then begins below its first due
pub below_due : (q0 : ℕ) {r : ℕ} (j : BlockInWork) → r < straight * q0 → r < cycle_due q0 j
below_due q0 j h = omega (arith, mul-le-mul_right q0 (block_charge_range j.start j.block j.done).0)

pub idle_below : (q0 r : ℕ) (w : InWork) → is_nothing w ≡ true → Below q0 w r → r < straight * q0
idle_below q0 r InWork.nothing e h = h
idle_below q0 r (InWork.working j) e h = absurd (false≢true e)

-- the next cycle's charge is within what is left to pay
pub charge_within : {q0 : ℕ} {t : Travel} {at : Point} {j : BlockInWork} → JobSound q0 t at j → job_paid j + job_charge j ≤ job_charges j
charge_within {j = j} s = charges_next j.start j.block j.done (block_cycles j.start j.block) s.more

pub due_within : {q0 : ℕ} {t : Travel} {at : Point} {j : BlockInWork} → JobSound q0 t at j
    → job_paid j * q0 + cycle_due q0 j ≤ job_charges j * q0
due_within {q0} s = omega (arith, mul-le-mul_right q0 (charge_within s))

pub record BenchSound (q0 : ℕ) (t : Travel) (b : Bench) : Type 0 where
  pub below : Below q0 b.work b.remainder
  pub inside : Bounded t b.at
  pub work : WorkSound q0 t b.at b.work

pub fresh_bench_lem : {q0 : ℕ} {t : Travel} → SettingsRight q0 t → BenchSound q0 t fresh_bench
fresh_bench_lem s = record { below = omega (arith, s.some); inside = s.origin; work = tt }

pub job_way : {q0 : ℕ} {t : Travel} {at : Point} {j : BlockInWork} → JobSound q0 t at j
    → Way t j.start j.block.end (block_cycles j.start j.block) (block_point j.start j.block)
job_way {j = j} s = block_way j.block s.start s.path

pub job_inside : {q0 : ℕ} {t : Travel} {at : Point} {j : BlockInWork} → JobSound q0 t at j → Bounded t at
job_inside {j = j} s = rw s.point ((job_way s).inside j.done (omega (arith, s.more)))

-- where the block in work ends, and so where the first that waits starts, is in travel
pub end_inside : {q0 : ℕ} {t : Travel} {b : Bench} → BenchSound q0 t b → Bounded t (work_end b)
end_inside {q0} {t} {b} s = by b.work s.work
  where
    by : (w : InWork) → WorkSound q0 t b.at w → Bounded t (end_in b.at w)
    by InWork.nothing work = s.inside
    by (InWork.working j) work =
        let way = job_way work in subst (Bounded t) way.ends (way.inside (block_cycles j.start j.block) (omega arith))

-- ---- with the blocks that wait

-- 02 §3: "only waiting blocks that would be accepted in turn, and none waiting when nothing is in work"
pub record Sound (q0 : ℕ) (t : Travel) (b : Book) : Type 0 where
  pub bench : BenchSound q0 t b.bench
  pub few : length b.waiting ≤ 16
  pub accepted : chain_accepted q0 t (work_end b.bench) b.waiting ≡ true
  pub none : is_nothing b.bench.work ≡ true → b.waiting ≡ []

pub fresh_sound : {q0 : ℕ} {t : Travel} → SettingsRight q0 t → Sound q0 t fresh_book
unfolding chain_accepted
fresh_sound s = record { bench = fresh_bench_lem s; few = omega arith; accepted = refl; none = λ i. refl }
