-- 01, Questions, "Job text": what a line of words asks of the machine.
use Rattle.std.specs.Prelude.{◌≡◌, Bool, true, false, cond, ◌||◌, ℕ, ◌+◌, ◌*◌, ◌/◌, ◌%◌, eqb, ℤ, Option, Some, None, is_some}
use Rattle.whole.specs.Sign.{signed}
use Rattle.plane.specs.declared.point.Point.{Point}
use Rattle.circle.specs.declared.plane.Turn.{Turn}
use Rattle.block.specs.declared.Block.{Block}
use Rattle.block.specs.declared.Path.{Path}
use Rattle.letters.specs.declared.word.Word.{Word}
use Rattle.letters.specs.declared.word.Words.{Words}
use Rattle.reader.specs.declared.Motion.{Motion}
use Rattle.reader.specs.declared.Feed.{Feed}
use Rattle.reader.specs.declared.Reader.{Reader}
use Rattle.plane.specs.Point.{equal_point}

-- ---- "G and F count from their own line until changed"

-- before the first line none is known
abbrev pub unknown : Reader
unknown = record { motion = None; feed = None }

-- G 1 is a straight line, 2 an arc clockwise, 3 one counterclockwise
abbrev pub motion_of : ℕ → Option Motion
motion_of g = cond (eqb g 1) (Some Motion.Line) (cond (eqb g 2) (Some (Motion.Arc Turn.Clockwise))
    (cond (eqb g 3) (Some (Motion.Arc Turn.Counterclockwise)) None))

abbrev pub motion_after : Option Motion → Word → Option Motion
motion_after m g = cond g.stands (motion_of g.magnitude) m

-- a word is in thousandths of a millimetre per minute; kept are whole millimetres and thousandths of one
abbrev pub feed_of : (millimetres thousandths : ℕ) → Option Feed
feed_of m t = Some (record { millimetres = m; thousandths = t })

abbrev pub feed_after : Option Feed → Word → Option Feed
feed_after f w = cond w.stands (feed_of (w.magnitude / 1000) (w.magnitude % 1000)) f

abbrev pub reader_after : Reader → Words → Reader
reader_after k ws = record { motion = motion_after k.motion ws.g; feed = feed_after k.feed ws.f }

-- 02 §4: an F from a word without a point, or none known
abbrev pub WholeKnown : Option Feed → Type 0
WholeKnown None = Unit {0}
WholeKnown (Some f) = f.thousandths ≡ 0

-- ---- what the questions ask about

-- X or Y stands
abbrev pub end_stands : Words → Bool
end_stands ws = ws.x.stands || ws.y.stands

-- I or J stands
abbrev pub centre_stands : Words → Bool
centre_stands ws = ws.i.stands || ws.j.stands

-- "one of those four stands"
abbrev pub moving : Words → Bool
moving ws = end_stands ws || centre_stands ws

abbrev pub motion_known : Option Motion → Bool
motion_known m = is_some m

abbrev pub feed_known : Option Feed → Bool
feed_known f = is_some f

abbrev pub is_arc : Option Motion → Bool
is_arc None = false
is_arc (Some Motion.Line) = false
is_arc (Some (Motion.Arc turn)) = true

-- ---- the block

-- a word is in thousandths of a millimetre; question 35 has asked that it falls on whole pulses
abbrev pub in_pulses : (p : ℕ) → Word → ℤ
in_pulses p w = signed w.negative (w.magnitude * p / 1000)

-- "X and Y are absolute, a missing one stays"
abbrev pub coordinate : (p : ℕ) → Word → (here : ℤ) → ℤ
coordinate p w here = cond w.stands (in_pulses p w) here

-- "a missing I or J is 0": a missing word has the magnitude 0
abbrev pub path_of : (p : ℕ) → Option Motion → Words → Path
path_of p None ws = Path.Line
path_of p (Some Motion.Line) ws = Path.Line
path_of p (Some (Motion.Arc turn)) ws = Path.Arc turn (record { x = in_pulses p ws.i; y = in_pulses p ws.j })

-- 01, Feed divider: "The block's feed number f is pulses per minute: millimetres per minute times p." In u-ths of a pulse per minute it is
-- u times as much: 01 has u 1, and 02 §4 ("The feed number becomes thousandths of a pulse per minute") u 1,000
abbrev pub feed_number_at : (u p : ℕ) → Option Feed → ℕ
feed_number_at u p None = 0
feed_number_at u p (Some f) = (f.millimetres * 1000 + f.thousandths) * p * u / 1000

unfoldable pub block_at : (u p : ℕ) → Reader → Words → (at : Point) → Block
block_at u p k ws at =
    record {
      path = path_of p k.motion ws;
      end = record { x = coordinate p ws.x at.x; y = coordinate p ws.y at.y };
      feed = feed_number_at u p k.feed;
    }

-- "a straight line to the point where it stands"; an arc to its start is a full turn
abbrev pub goes_nowhere : (end place : Point) → Path → Bool
goes_nowhere end place Path.Line = equal_point end place
goes_nowhere end place (Path.Arc turn centre) = false
