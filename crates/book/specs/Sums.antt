-- Demand 3: "What was done adds up: pulses sent on each axis since the machine was made sum to the point, and since the last stop, if any,
-- cycles times feed capacity plus remainder equals the feed numbers of all working ticks." 02 §2: "In the feed sum charges replace cycles
-- and 1,000 × f replaces f." Pulses and cycles are counted from the answers; the path by which a cycle is charged is the book's, and so are
-- feed numbers.
use Rattle.std.specs.Prelude.{Bool, false, cond, not, List, [], ◌∷◌, ℕ, ◌+◌, ◌*◌, ℤ, pos, ◌+ℤ◌, length}
use Rattle.plane.specs.declared.travel.Travel.{Travel}
use Rattle.plane.specs.Pulse.{pulse_of}
use Rattle.plane.specs.Byte.{code_x, code_y, cycle_mark}
use Rattle.block.specs.declared.Path.{Path}
use Rattle.block.specs.Charge.{charge_by}
use Rattle.book.specs.Bench.{InWork, added_by}
use Rattle.book.specs.Book.{Book, Call, Reply, entry}

-- ---- tick bytes

-- "Tick bytes are each tick's answer and, as a run returns, the first bytes of its buffer, as many as it reports."
abbrev pub tick_bytes : Reply → List ℕ
tick_bytes (Reply.refused number) = []
tick_bytes (Reply.width bits) = []
tick_bytes Reply.done = []
tick_bytes (Reply.byte b) = b ∷ []
tick_bytes (Reply.ran report ticks bytes) = bytes

-- ---- pulses of an axis, which `code` picks

-- "Pulses sent are their codes, 1 as plus one and 2 as minus one"
abbrev pub pulses_in : (code : ℕ → ℕ) → List ℕ → ℤ
pulses_in code [] = pos 0
pulses_in code (b ∷ bs) = pulse_of (code b) +ℤ pulses_in code bs

unfoldable pub pulses_sent : (code : ℕ → ℕ) → List Reply → ℤ
pulses_sent code [] = pos 0
pulses_sent code (r ∷ rs) = pulses_in code (tick_bytes r) +ℤ pulses_sent code rs

-- ---- charges and feed numbers since the last stop

-- a total since the last stop, after a call that adds to it
abbrev pub since_stop : (before : ℕ) → Call → (more : ℕ) → ℕ
since_stop before (Call.load block) more = before + more
since_stop before Call.tick more = before + more
since_stop before (Call.run budget buffer) more = before + more
since_stop before Call.hold more = before + more
since_stop before Call.release more = before + more
since_stop before Call.stop more = 0

-- "cycles in the feed sum are the bytes that mark one"; 02 §2: "charges replace cycles". A byte tells by its codes what its cycle is
-- charged, once the path is known: a line's diagonal cycle and an arc's look alike.
abbrev pub charge_marked : Path → (byte : ℕ) → ℕ
charge_marked p b = cycle_mark b * charge_by p (record { x = code_x b; y = code_y b })

abbrev pub charges_marked : Path → List ℕ → ℕ
charges_marked p [] = 0
charges_marked p (b ∷ bs) = charge_marked p b + charges_marked p bs

-- the charges of a call's bytes, by what the call finds in work: a run ends with its block, and the tick that ends a block does nothing for
-- the next, so all are of that one
abbrev pub charges_told : InWork → List ℕ → ℕ
charges_told InWork.nothing bytes = 0
charges_told (InWork.working j) bytes = charges_marked j.block.path bytes

-- "Tick: with a block and no mark it is a working tick."
abbrev pub ticks_work : (mark : Bool) → InWork → Bool
ticks_work mark InWork.nothing = false
ticks_work mark (InWork.working j) = not mark

-- "and 1,000 × f replaces f"
abbrev pub added_in : InWork → ℕ
added_in InWork.nothing = 0
added_in (InWork.working j) = added_by j.block

module _ (q0 : ℕ) (travel : Travel) where
  unfoldable pub charges_since : (before : ℕ) → Book → List Call → List Reply → ℕ
  charges_since before b [] rs = before
  charges_since before b (c ∷ cs) [] = before
  charges_since before b (c ∷ cs) (r ∷ rs) =
      charges_since (since_stop before c (charges_told b.bench.work (tick_bytes r))) (entry q0 travel b c).next cs rs

  -- "Working ticks and their feed numbers are the book's." A call's ticks, too, are all of the block that it finds in work.
  abbrev pub working_ticks : Book → Call → ℕ
  working_ticks b c = cond (ticks_work b.bench.mark b.bench.work) (length (tick_bytes (entry q0 travel b c).reply)) 0

  unfoldable pub feeds_since : (before : ℕ) → Book → List Call → ℕ
  feeds_since before b [] = before
  feeds_since before b (c ∷ cs) =
      feeds_since (since_stop before c (working_ticks b c * added_in b.bench.work)) (entry q0 travel b c).next cs
