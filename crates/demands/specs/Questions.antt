-- 01, "Questions, and the number when the answer is no", and 02's 38: what each call is asked, question by question. 1, 2 and 3 are in
-- Bench, 11 to 16 in Block, the list behind 9 in Sound; 30, which is asked of a whole text, is in Texts.
use Rattle.std.specs.Prelude.{◌≡◌, Bool, true, false, List, ℕ, ◌*◌, ◌%◌, ◌≤◌, ◌<◌, length, Option}
use Rattle.plane.specs.declared.point.Point.{Point}
use Rattle.block.specs.declared.Block.{Block}
use Rattle.settings.specs.declared.Settings.{Settings}
use Rattle.settings.specs.Settings.{feed_unit}
use Rattle.machine.specs.declared.Machine.{Machine}
use Rattle.machine.specs.Machine.{start_of}
use Rattle.letters.specs.declared.letter.Letter.{Letter}
use Rattle.letters.specs.declared.word.Word.{Word}
use Rattle.letters.specs.declared.word.Words.{Words}
use Rattle.letters.specs.Word.{word_at}
use Rattle.words.specs.declared.line.Line.{Line}
use Rattle.words.specs.Grammar.{LineOfWords}
use Rattle.reader.specs.declared.Motion.{Motion}
use Rattle.reader.specs.declared.Reader.{Reader}
use Rattle.reader.specs.Reader.{reader_after, end_stands, centre_stands, moving, motion_known, feed_known, is_arc, block_at}
use Rattle.reader.specs.Reader.{goes_nowhere}
use Rattle.demands.specs.Asked.{Questions, none, question, and_then}
use Rattle.demands.specs.Block.{block_questions}
use Rattle.demands.specs.Sound.{Sound}

-- "Any call on a record: is it sound? 9."
abbrev pub sound_question : Machine → Questions → Questions
sound_question m later = question 9 (Sound m) later

-- 02 §1: "38: more than 1,000,000 ticks, checked after 9."
abbrev pub look_questions : Machine → (ticks : ℕ) → Questions
look_questions m ticks = sound_question m (question 38 (ticks ≤ 1000000) none)

-- ---- load

-- 02 §3: "Question 10 becomes: are fewer than 16 waiting?"
abbrev pub FewerWaiting : Machine → Type 0
FewerWaiting m = m.queue.len < 16

-- 02 §3: "The other load questions, and what a text line leaves out, start from the end of the last waiting block, else of the block in
-- work, else from the point"
abbrev pub next_start : Machine → Point
next_start m = start_of m.bench m.queue

abbrev pub load_questions : Machine → Block → Questions
load_questions m b = sound_question m (block_questions feed_unit (FewerWaiting m) m.bench.settings (next_start m) b)

-- ---- a text line; l is what its bytes mean, after the G and F known with it

-- "No letter twice? 33."
abbrev pub NoLetterTwice : Words → Type 0
NoLetterTwice ws = (letter : Letter) → (word_at ws letter).twice ≡ false

-- "Is G 1, 2 or 3? 34."
abbrev pub MotionRight : Words → Type 0
MotionRight ws = ws.g.stands ≡ true → (1 ≤ ws.g.magnitude) × (ws.g.magnitude ≤ 3)

-- "Do X, Y, I, J fall on whole pulses? 35." A word is in thousandths of a millimetre, p in pulses per millimetre.
abbrev pub OnPulse : (p : ℕ) → Word → Type 0
OnPulse p w = w.magnitude * p % 1000 ≡ 0

pub record OnPulses (p : ℕ) (ws : Words) : Type 0 where
  pub x : OnPulse p ws.x
  pub y : OnPulse p ws.y
  pub i : OnPulse p ws.i
  pub j : OnPulse p ws.j

-- "If one of those four stands, are a G and an F known? 36."
abbrev pub MotionAndFeedKnown : (after : Reader) → Words → Type 0
MotionAndFeedKnown after ws = moving ws ≡ true → (motion_known after.motion ≡ true) × (feed_known after.feed ≡ true)

-- "Do I or J stand only under G 2 or 3, and does a line under 2 or 3 with X or Y have I or J? 37."
pub record CentreStands (m : Option Motion) (ws : Words) : Type 0 where
  pub only : centre_stands ws ≡ true → is_arc m ≡ true
  pub there : is_arc m ≡ true → end_stands ws ≡ true → centre_stands ws ≡ true

abbrev pub word_questions : (after : Reader) → (scale : ℕ) → (bytes : List ℕ) → Line → Questions
word_questions after scale bytes l =
    question 31 (length bytes ≤ 80)
    (question 32 (LineOfWords bytes)
    (question 33 (NoLetterTwice l.words)
    (question 34 (MotionRight l.words)
    (question 35 (OnPulses scale l.words)
    (question 36 (MotionAndFeedKnown after l.words)
    (question 37 (CentreStands after.motion l.words) none))))))

-- ---- the block of a text line, its feed number in u-ths of a pulse per minute: by 02 §4 u is 1,000, by 01 it was 1. k is the G and F
-- known before it. "G and F count from their own line"

abbrev pub line_block : (u : ℕ) → Reader → (scale : ℕ) → (start : Point) → Line → Block
line_block u k scale start l = block_at u scale (reader_after k l.words) l.words start

-- "A line without X, Y, I, J makes no block; nor does a straight line to the point where it stands, and then 10 to 13 are not put." 02 §3:
-- "a straight text line to that place makes no block", the place where its block would start
abbrev pub is_block : (moves stays : Bool) → Bool
is_block true false = true
is_block true true = false
is_block false stays = false

-- the unit does not show in it: no feed is looked at
abbrev pub makes_block : (u : ℕ) → Reader → (scale : ℕ) → (start : Point) → Line → Bool
makes_block u k scale start l = let b = line_block u k scale start l in is_block (moving l.words) (goes_nowhere b.end start b.path)

abbrev pub if_block : (makes : Bool) → Questions → Questions
if_block true qs = qs
if_block false qs = none

-- 31 to 37. "Then load's questions."
abbrev pub text_questions : (u : ℕ) (Room : Type 0) → Reader → Settings → (start : Point) → (bytes : List ℕ) → Line → Questions
text_questions u Room k s start bytes l =
    and_then (word_questions (reader_after k l.words) s.scale bytes l)
    (if_block (makes_block u k s.scale start l) (block_questions u Room s start (line_block u k s.scale start l)))

-- "Any call on a record: is it sound? 9."
abbrev pub line_questions : Reader → Machine → (bytes : List ℕ) → Line → Questions
line_questions k m bytes l = sound_question m (text_questions feed_unit (FewerWaiting m) k m.bench.settings (next_start m) bytes l)
