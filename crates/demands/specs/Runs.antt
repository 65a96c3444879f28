-- Demand 2, runs: "A run does every tick that its budget, buffer and block allow.", for every sound record, made-up ones too.
use Rattle.std.specs.Prelude.{◌≡◌, true, false, ◌≢◌, ◌↔◌, List, [], ◌∷◌, ℕ, ◌+◌, ◌-◌, ◌*◌, ◌/◌, ◌≤◌, ◌<◌, min, max, length, take, drop, Ok}
use Rattle.std.specs.Borrow.{MutBor}
use contract.Lifetimes.{Lfts}
use Rattle.plane.specs.Byte.{cycles_marked}
use Rattle.work.specs.declared.Work.{Work}
use Rattle.charges.specs.Paid.{most_paid}
use Rattle.work.specs.Work.{added_of, cycles_left, charges_for, charges_left, end_of}
use Rattle.settings.specs.Settings.{capacity_of}
use Rattle.bench.specs.declared.Bench.{Bench}
use Rattle.queue.specs.Queue.{waiting}
use Rattle.machine.specs.declared.Machine.{Machine}
use Rattle.machine.specs.declared.Ticked.{Ticked}
use Rattle.machine.specs.declared.Ran.{Ran}
use Rattle.book.specs.Bench.{Report}
use Rattle.book.specs.Book.{Reply}
use Rattle.history.specs.CallContracts.{Ticks, Runs}
use Rattle.demands.specs.Sound.{Sound}
use Rattle.demands.specs.Answers.{ran_reply}
use Rattle.demands.specs.Taken.{ComesIn}

-- ticks called one by one, each getting the record that the one before returned, answer these bytes and leave the record m'
pub data TicksTo : Machine → List ℕ → Machine → Type 0 where
  none : {m : Machine} → TicksTo m [] m
  one : {m m' : Machine} {bytes : List ℕ} (r : Ticked) (byte : ℕ) → Ticks m r → r.tick ≡ Ok byte
      → TicksTo r.machine bytes m' → TicksTo m (byte ∷ bytes) m'

-- the report of a run that leaves the buffer as new
abbrev pub Reports : Ran → (new : List ℕ) → Report → Type 0
Reports r new report = ran_reply r new ≡ Reply.ran report r.ticks (take r.ticks new)

-- the working ticks to the block's end: each cycle left has one, and by the last of them the remainder and 1,000 × f a tick reach the
-- charges left times q0. 02 §2: "A block ends on the tick that stepping by this rule gives; in a history that is its working tick
-- ⌈(C × q0 - r) / (1,000 × f)⌉, C being the sum of its charges."
abbrev pub ticks_left : Bench → ℕ
ticks_left m =
    let w = m.work in
    let due = charges_left m.at w * capacity_of m.settings in
    max (cycles_left m.at w) ((due - m.remainder + (added_of w - 1)) / added_of w)

-- the cycles that n of these ticks do: the most, at most n and at most those left, whose charges times q0 are paid by the remainder and
-- 1,000 × f a tick. 02 §2: "A cycle is due when the remainder reaches its charge times q0, at most one a tick."
abbrev pub cycles_in : Bench → (n : ℕ) → ℕ
cycles_in m n =
    let w = m.work in
    most_paid (λ c. charges_for m.at w c * capacity_of m.settings) (m.remainder + n * added_of w) (min n (cycles_left m.at w))

-- a run lent the buffer old, which it leaves as new
pub record Running (m : Machine) (budget : ℕ) (old new : List ℕ) (r : Ran) : Type 0 where
  -- "It does the least of its tick budget, the buffer length and the ticks to the block's end"
  pub ticks : r.ticks ≡ min budget (min (length old) (ticks_left m.bench))
  -- "A run writes tick bytes into a lent buffer": they are its ticks' answers one by one, and it leaves the record that they leave
  pub bytes : TicksTo m (take r.ticks new) r.machine
  -- and they mark as many cycles as are paid, "at most one a tick"
  pub cycles : cycles_marked (take r.ticks new) ≡ cycles_in m.bench r.ticks
  -- "later bytes keep their contents"
  pub later : drop r.ticks new ≡ drop r.ticks old
  pub long : length new ≡ length old
  -- "else ended, spent or full, the first that is true"
  pub ended : Reports r new Report.ended ↔ (ticks_left m.bench ≤ r.ticks)
  pub spent : Reports r new Report.spent ↔ ((r.ticks < ticks_left m.bench) × (budget ≤ r.ticks))
  pub full : Reports r new Report.full ↔ ((r.ticks < ticks_left m.bench) × (r.ticks < budget))
  -- 02 §3: "When a block ends, the first waiting one becomes the one in work, and a run still stops there.": the point is the commanded end
  pub over : ticks_left m.bench ≤ r.ticks
      → (let end = end_of m.bench.at m.bench.work in
      (r.machine.bench.at ≡ end) × ComesIn end (waiting m.queue) r.machine)

-- a run without a tick
pub record Resting (m : Machine) (old new : List ℕ) (r : Ran) (report : Report) : Type 0 where
  pub reply : ran_reply r new ≡ Reply.ran report 0 []
  pub machine : r.machine ≡ m
  pub buffer : new ≡ old

pub record RunOf (m : Machine) (budget : ℕ) (old new : List ℕ) (r : Ran) : Type 0 where
  -- "It answers idle or held (idle first) with 0 ticks"
  pub idle : m.bench.work ≡ Work.Nothing → Resting m old new r Report.idle
  pub held : m.bench.work ≢ Work.Nothing → m.bench.held ≡ true → Resting m old new r Report.held
  pub works : m.bench.work ≢ Work.Nothing → m.bench.held ≡ false → Running m budget old new r

abbrev pub EveryRun : Type 0
EveryRun =
    (κs : Lfts 1) (m : Machine) (budget : ℕ) (out out' : MutBor (List ℕ)) (r : Ran) → Runs κs m budget out out' r → Sound m
    → RunOf m budget out.now out'.now r
