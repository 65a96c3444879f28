-- 01, "Pulses worked by hand": the starred rows, each as document 01 has it, and what it is for a row to hold. After them examples worked
-- out by hand, of 02 §2: an arc, a line with a diagonal cycle, and a remainder that no history leaves; of 02 §3: blocks that wait.
use Rattle.std.specs.Prelude.{Bool, true, false, ◌&&◌, List, [], ◌∷◌, ◌++◌, ℕ, zero, suc, ◌*◌, eqb, ℤ, pos, negsuc, length, Result, Ok, Err}
use Rattle.std.specs.Bool.{beq}
use Rattle.question.specs.Question.{number_told}
use Rattle.question.specs.declared.Question.{Question}
use Rattle.whole.specs.Equal.{equal_z}
use Rattle.plane.specs.declared.point.Point.{Point}
use Rattle.plane.specs.declared.travel.Range.{Range}
use Rattle.plane.specs.Point.{equal_point}
use Rattle.plane.specs.Travel.{visits_inside}
use Rattle.circle.specs.declared.plane.Offset.{Offset}
use Rattle.circle.specs.declared.plane.Turn.{Turn}
use Rattle.circle.specs.declared.plane.Turn.TheVariants.{Clockwise, Counterclockwise}
use Rattle.circle.specs.Circle.{excess, on_circle, offset}
use Rattle.circle.specs.computed.Step.{after_of}
use Rattle.circle.specs.computed.Count.{circle_cycles as cycles}
use Rattle.divider.specs.Divider.{added_at, end_tick}
use Rattle.divider.specs.computed.Divider.{last_tick}
use Rattle.arc.specs.declared.arc.Arc.{Arc}
use Rattle.arc.specs.computed.Arc.{arc_after, arc_cycles}
use Rattle.line.specs.Line.{line_cycles, line_point}
use Rattle.block.specs.declared.Block.{Block}
use Rattle.block.specs.declared.Path.{Path}
use Rattle.block.specs.Block.{block_cycles}
use Rattle.block.specs.Charge.{block_charge}
use Rattle.work.specs.Work.{work_along}
use Rattle.run.specs.computed.Run.{Strip, strip_of}
use Rattle.settings.specs.declared.Settings.{Settings}
use Rattle.bench.specs.declared.Answer.{Answer}
use Rattle.machine.specs.declared.Machine.{Machine}
use Rattle.machine.specs.Machine.{fresh_of}
use Rattle.machine.specs.computed.Calls.{load_of, tick_of}

abbrev pub at : (x y : ℤ) → Point
at x y = record { x = x; y = y }

pub data Row : Type 0 where
  -- a line of these increments takes q cycles, and after each it is at the next of the points, seen from its start
  line : (a b : ℤ) (q : ℕ) (points : List Point) → Row
  -- load of this block into a fresh machine with this upper X bound, its other settings standard, answers this number; 0 where it accepts
  -- it
  load : (upper : ℕ) → Block → (number : ℕ) → Row
  -- the same after these blocks were loaded, one after the other, into a standard machine
  load_after : List Block → Block → (number : ℕ) → Row
  -- these blocks loaded so, ticks answer these bytes; then the point is this, so many blocks wait, and so many cycles are still to do
  queued : List Block → (bytes : List ℕ) (point : Point) (waiting left : ℕ) → Row
  -- an arc of N from a point to a point, seen from the centre, visits these points and takes as many cycles as they are
  arc : (N : ℕ) (turn : Turn) (start end : Offset) (visited : List Offset) → Row
  -- a full turn of N from a point takes so many cycles
  full_turn : (N : ℕ) (turn : Turn) (start : Offset) (cycles : ℕ) → Row
  -- as an end on the circle of N a point has this F, and question 15 says yes or no
  end_test : (N : ℕ) (end : Offset) (F : ℤ) (accepted : Bool) → Row
  -- an arc from a position takes so many cycles, and question 16 says yes or no under this upper X bound, the other bounds being widest
  bounded : Arc → (start : Point) (cycles upper : ℕ) (accepted : Bool) → Row
  -- at capacity q0 a block of k cycles, charged C together, and of feed f, that begins at remainder r, ends on this working tick
  ends : (q0 f r C k tick : ℕ) → Row
  -- the document's number, ⌈(C × q0 - r) / (1,000 × f)⌉, is this
  gives : (q0 f r C tick : ℕ) → Row
  -- the cycles of a block from (0, 0) are charged this, one by one
  charged : Block → (charges : List ℕ) → Row
  -- at q0 300,000,000 the working ticks of a block from (0, 0), begun at remainder r, give these bytes, to its end, and leave this
  -- remainder
  ticked : Block → (r : ℕ) (bytes : List ℕ) (left : ℕ) → Row

-- the points of a line from (0, 0): n of them, the first after cycle c
unfoldable pub points : (end : Point) (n c : ℕ) → List Point
points end zero c = []
points end (suc n) c = line_point (at (pos 0) (pos 0)) end c ∷ points end n (suc c)

unfoldable pub same : (ps qs : List Point) → Bool
same [] [] = true
same [] (q ∷ qs) = false
same (p ∷ ps) [] = false
same (p ∷ ps) (q ∷ qs) = equal_point p q && same ps qs

-- the same for points seen from a centre
unfoldable pub same_seen : (ps qs : List Offset) → Bool
same_seen [] [] = true
same_seen [] (q ∷ qs) = false
same_seen (p ∷ ps) [] = false
same_seen (p ∷ ps) (q ∷ qs) = (equal_z p.x q.x && equal_z p.y q.y) && same_seen ps qs

unfoldable pub visits : (N : ℕ) (turn : Turn) (start : Offset) (n c : ℕ) → List Offset
visits N turn start zero c = []
visits N turn start (suc n) c = after_of N turn start c ∷ visits N turn start n (suc c)

abbrev pub widest : Range
widest = record { lower = negsuc 999999; upper = pos 1000000 }

-- the number of a refusal, else 0
abbrev pub number_of : Result Answer Question → ℕ
number_of a = number_told a

-- p 50, w 5,000 and the widest travel but for this upper X bound
abbrev pub bounded_by : (upper : ℕ) → Settings
bounded_by upper = record {
  scale = 50;
  clock = 5000;
  travel =
      record { x = record { lower = widest.lower; upper = pos upper }; y = widest };
}

abbrev pub line_by : (end : Point) (feed : ℕ) → Block
line_by end f = record { path = Path.Line; end = end; feed = f }

-- from (0, 0) round the centre (-5, 0), so from (5, 0) to (0, 5) as the centre sees it
abbrev pub quarter : (feed : ℕ) → Block
quarter f = record { path = Path.Arc Counterclockwise (offset (negsuc 4) (pos 0)); end = at (negsuc 4) (pos 5); feed = f }

-- blocks with feed 1
abbrev pub line_to : (end : Point) → Block
line_to end = line_by end 1

abbrev pub arc_to : Turn → (centre : Offset) (end : Point) → Block
arc_to turn centre end = record { path = Path.Arc turn centre; end = end; feed = 1 }

-- the charges of n cycles, the first after c
unfoldable pub charges_from : Block → (n c : ℕ) → List ℕ
charges_from b zero c = []
charges_from b (suc n) c = block_charge (at (pos 0) (pos 0)) b c ∷ charges_from b n (suc c)

unfoldable pub same_numbers : (ns ms : List ℕ) → Bool
same_numbers [] [] = true
same_numbers [] (m ∷ ms) = false
same_numbers (n ∷ ns) [] = false
same_numbers (n ∷ ns) (m ∷ ms) = eqb n m && same_numbers ns ms

-- so many ticks of the block, at most to its end
abbrev pub strip_from : Block → (r n : ℕ) → Strip
strip_from b r n = let o = at (pos 0) (pos 0) in strip_of 300000000 n o r (work_along o b b.path)

-- blocks loaded one after the other
unfoldable pub loaded : Machine → List Block → Machine
loaded m [] = m
loaded m (b ∷ later) = loaded (load_of m b).machine later

-- the byte of a tick, and after so many ticks all bytes, and the machine; no byte is 64
abbrev pub byte_of : Result ℕ Question → ℕ
byte_of (Ok b) = b
byte_of (Err number) = 64

unfoldable pub bytes_of : (n : ℕ) → Machine → List ℕ
bytes_of zero m = []
bytes_of (suc n) m = let t = tick_of m in byte_of t.tick ∷ bytes_of n t.machine

unfoldable pub after : (n : ℕ) → Machine → Machine
after zero m = m
after (suc n) m = after n (tick_of m).machine

-- a pulse to the right and back, so many times
unfoldable pub to_and_fro : ℕ → List Block
to_and_fro zero = []
to_and_fro (suc n) = line_to (at (pos 1) (pos 0)) ∷ line_to (at (pos 0) (pos 0)) ∷ to_and_fro n

unfoldable pub holds : Row → Bool
holds (line a b q ps) = eqb (line_cycles (at (pos 0) (pos 0)) (at a b)) q && same (points (at a b) q 1) ps
holds (load upper b number) = eqb (number_of (load_of (fresh_of (bounded_by upper)) b).answer) number
holds (load_after bs b number) = eqb (number_of (load_of (loaded (fresh_of (bounded_by 1000000)) bs) b).answer) number
holds (queued bs bytes p waiting left) =
    let m = loaded (fresh_of (bounded_by 1000000)) bs in
    let m' = after (length bytes) m in
    same_numbers (bytes_of (length bytes) m) bytes
    && (equal_point m'.bench.at p && (eqb m'.queue.len waiting && eqb m'.left left))
holds (arc N turn start end ps) = let k = cycles N turn start end in eqb k (length ps) && same_seen (visits N turn start k 1) ps
holds (full_turn N turn start k) = eqb (cycles N turn start start) k
holds (end_test N end F accepted) = equal_z (excess N end) F && beq (on_circle N end) accepted
holds (bounded a start k upper accepted) =
    eqb (arc_cycles a start) k
    && beq (visits_inside (record { x = record { lower = widest.lower; upper = pos upper }; y = widest }) (arc_after a start)
    (arc_cycles a start)) accepted
holds (ends q0 f r C k tick) = eqb (last_tick (C * q0) (added_at f) r k) tick
holds (gives q0 f r C tick) = eqb (end_tick (C * q0) (added_at f) r) tick
holds (charged b cs) = same_numbers (charges_from b (block_cycles (at (pos 0) (pos 0)) b) 0) cs
holds (ticked b r bytes left) =
    let s = strip_from b r (length bytes) in s.ended && (same_numbers s.bytes bytes && eqb s.remainder left)

unfoldable pub all_hold : List Row → Bool
all_hold [] = true
all_hold (r ∷ rs) = holds r && all_hold rs

abbrev pub half_turn : Arc
half_turn = record { centre = at (pos 0) (pos 5); square = 25; turn = Counterclockwise; end = at (pos 0) (pos 10); feed = 1 }

abbrev pub corner : List Block
corner = line_by (at (pos 1) (pos 0)) 200000000 ∷ line_by (at (pos 1) (pos 1)) 200000000 ∷ line_by (at (pos 0) (pos 1)) 200000000 ∷ []

unfoldable pub table : List Row
table =
    -- "Line (1, 0): q 1, one cycle."
    line (pos 1) (pos 0) 1 (at (pos 1) (pos 0) ∷ [])
    -- "Line (1, 1): q 2; points (1, 1), (1, 1)."
    ∷ line (pos 1) (pos 1) 2 (at (pos 1) (pos 1) ∷ at (pos 1) (pos 1) ∷ [])
    -- "Line (3, 4): (1, 1), (1, 2), (2, 2), (2, 3), (3, 4)."
    ∷ line (pos 3) (pos 4) 5 (at (pos 1) (pos 1) ∷ at (pos 1) (pos 2) ∷ at (pos 2) (pos 2) ∷ at (pos 2) (pos 3) ∷ at (pos 3) (pos 4) ∷ [])
    -- "Line (0, 0): 13."
    ∷ load 1000000 (line_to (at (pos 0) (pos 0))) 13
    -- "N 25 from (5, 0) kind 3 to (0, 5), seen from the centre: (5, 1), (5, 2), (4, 3), (3, 4), (2, 5), (1, 5), (0, 5); seven cycles, as
    -- source 003's table."
    ∷ arc 25 Counterclockwise (offset (pos 5) (pos 0)) (offset (pos 0) (pos 5))
    (offset (pos 5) (pos 1) ∷ offset (pos 5) (pos 2) ∷ offset (pos 4) (pos 3) ∷ offset (pos 3) (pos 4) ∷ offset (pos 2) (pos 5) ∷ offset
    (pos 1) (pos 5) ∷ offset (pos 0) (pos 5) ∷ [])
    -- "N 25, full turn: 28 cycles. N 1: 4. N 2: 8."
    ∷ full_turn 25 Counterclockwise (offset (pos 5) (pos 0)) 28
    ∷ full_turn 25 Clockwise (offset (pos 5) (pos 0)) 28
    ∷ full_turn 1 Counterclockwise (offset (pos 1) (pos 0)) 4
    ∷ full_turn 2 Counterclockwise (offset (pos 1) (pos 1)) 8
    -- "N 2: end (0, 1) has F -1, accepted; (0, 2) has F 2, gives 15."
    ∷ end_test 2 (offset (pos 0) (pos 1)) (negsuc 0) true
    ∷ end_test 2 (offset (pos 0) (pos 2)) (pos 2) false
    -- as loads at (0, 0), which the centre (-1, -1) sees at (1, 1)
    ∷ load 1000000 (arc_to Counterclockwise (offset (negsuc 0) (negsuc 0)) (at (negsuc 0) (pos 0))) 0
    ∷ load 1000000 (arc_to Counterclockwise (offset (negsuc 0) (negsuc 0)) (at (negsuc 0) (pos 1))) 15
    -- "From (0, 0), I 0, J 5, kind 3, to (0, 10): upper X bound 5 accepted, 14 cycles; bound 4 gives 16."
    ∷ bounded half_turn (at (pos 0) (pos 0)) 14 5 true
    ∷ bounded half_turn (at (pos 0) (pos 0)) 14 4 false
    ∷ load 5 (arc_to Counterclockwise (offset (pos 0) (pos 5)) (at (pos 0) (pos 10))) 0
    ∷ load 4 (arc_to Counterclockwise (offset (pos 0) (pos 5)) (at (pos 0) (pos 10))) 16
    -- a clockwise arc that is not a full turn: the first one back
    ∷ arc 25 Clockwise (offset (pos 0) (pos 5)) (offset (pos 5) (pos 0))
    (offset (pos 1) (pos 5) ∷ offset (pos 2) (pos 5) ∷ offset (pos 3) (pos 4) ∷ offset (pos 4) (pos 3) ∷ offset (pos 5) (pos 2) ∷ offset
    (pos 5) (pos 1) ∷ offset (pos 5) (pos 0) ∷ [])
    -- "q0 300,000, r 0, k 1: f 150,000 ends on tick 2, 149,999 on tick 3.": one cycle, charged 1,000. 02 §4: "In 01's worked tick case q0
    -- and f count a thousandfold.", and a thousandth of a pulse less than half of q0 takes a third tick too
    ∷ ends 300000000 150000000 0 1000 1 2
    ∷ ends 300000000 149999000 0 1000 1 3
    ∷ ends 300000000 149999999 0 1000 1 3
    ∷ gives 300000000 150000000 0 1000 2
    ∷ gives 300000000 149999000 0 1000 3
    -- "f equal to q0 accepted; q0 + 1 gives 11."
    ∷ load 1000000 (line_by (at (pos 1) (pos 0)) 300000000) 0
    ∷ load 1000000 (line_by (at (pos 1) (pos 0)) 300000001) 11
    -- 02 §2. The first arc of N 25 again, seen from its start: of its seven steps the third, fourth and fifth are diagonal. C = 4 × 1,000 +
    -- 3 × 1,414 = 8,242. At f 150,000,000, half of q0, a tick adds 500 q0; the sums of charges, 1,000, 2,000, 3,414, 4,828, 6,242, 7,242,
    -- 8,242, are reached on the ticks 2, 4, 7, 10, 13, 15, 17, and 17 × 500 - 8,242 = 258 q0 are left.
    ∷ charged (quarter 150000000) (1000 ∷ 1000 ∷ 1414 ∷ 1414 ∷ 1414 ∷ 1000 ∷ 1000 ∷ [])
    ∷ ends 300000000 150000000 0 8242 7 17
    ∷ gives 300000000 150000000 0 8242 17
    ∷ ticked (quarter 150000000) 0
    (0 ∷ 20 ∷ 0 ∷ 20 ∷ 0 ∷ 0 ∷ 22 ∷ 0 ∷ 0 ∷ 22 ∷ 0 ∷ 0 ∷ 22 ∷ 0 ∷ 18 ∷ 0 ∷ 50 ∷ []) 77400000000
    -- The line (1, 1): its first cycle sends a pulse on both axes, its second none, and each is charged 1,000.
    ∷ charged (line_to (at (pos 1) (pos 1))) (1000 ∷ 1000 ∷ [])
    ∷ ticked (line_by (at (pos 1) (pos 1)) 150000000) 0 (0 ∷ 21 ∷ 0 ∷ 48 ∷ []) 0
    -- The line (3, 0) at f = q0, with a remainder of 1,400 q0, which is sound but which no history leaves: 1,400 + 1,000 × 2 would pay its
    -- 3,000 on tick 2, but a tick does one cycle at most, so it ends on tick 3, and 1,400 q0 are left.
    ∷ gives 300000000 300000000 420000000000 3000 2
    ∷ ends 300000000 300000000 420000000000 3000 3 3
    ∷ ticked (line_by (at (pos 3) (pos 0)) 300000000) 420000000000 (17 ∷ 17 ∷ 49 ∷ []) 420000000000
    -- 02 §3. Lines of one pulse each, right, up and left, at f 200,000,000, two thirds of q0: a tick adds 2 × 10^11, and a cycle is due at
    -- 3 × 10^11. The first ends on tick 2 with 10^11 left; with these the second reaches its due on its first tick, and nothing is left for
    -- the third.
    ∷ queued corner [] (at (pos 0) (pos 0)) 2 3
    ∷ queued corner (0 ∷ 49 ∷ []) (at (pos 1) (pos 0)) 1 2
    ∷ queued corner (0 ∷ 49 ∷ 52 ∷ []) (at (pos 1) (pos 1)) 0 1
    ∷ queued corner (0 ∷ 49 ∷ 52 ∷ 0 ∷ 50 ∷ 0 ∷ []) (at (pos 0) (pos 1)) 0 0
    -- a block to where the one in work ends gets 13, one back to the present point is a block
    ∷ load_after (line_to (at (pos 1) (pos 0)) ∷ []) (line_to (at (pos 1) (pos 0))) 13
    ∷ load_after (line_to (at (pos 1) (pos 0)) ∷ []) (line_to (at (pos 0) (pos 0))) 0
    -- "are fewer than 16 waiting?": one in work and 15 or 16 behind it
    ∷ load_after (to_and_fro 8) (line_to (at (pos 1) (pos 0))) 0
    ∷ load_after (to_and_fro 8 ++ (line_to (at (pos 1) (pos 0)) ∷ [])) (line_to (at (pos 0) (pos 0))) 10
    ∷ []
