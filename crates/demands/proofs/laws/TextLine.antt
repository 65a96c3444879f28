-- A text line answers by the first no of its questions.
use Rattle.std.specs.Prelude.{◌≡◌, Bool, cond, not, ◌||◌, ◌↔◌, List, leb, ltb, length, Option, Result, Ok, Err, ⊤}
use Rattle.std.proofs.Math.Path.{refl}
use Rattle.std.proofs.Common.{sym, ap, ◌∙◌, true≢false, arith, leb-true, le-leb, eqb-true, eq-eqb}
use Rattle.std.proofs.Math.Bool.{true, false}
use Rattle.std.proofs.lemmas.Bool.{false≢true}
use Prim.Native.Nat.{ℕ, zero, suc}
use Rattle.std.specs.Borrow.{Bor}
use contract.Lifetimes.{Lfts}
use Rattle.question.specs.laws.Number.{number_some}
use Rattle.question.specs.Question.{ask as ask_question, number_of, number_told}
use Rattle.question.specs.declared.Question.{Question}
use Rattle.whole.specs.laws.Test.{both, joined}
use Rattle.plane.specs.declared.point.Point.{Point}
use Rattle.block.specs.declared.Block.{Block}
use Rattle.whole.specs.computed.Ask.{ask}
use Rattle.block.specs.Questions.{load_no, ask_load}
use Rattle.settings.specs.declared.Settings.{Settings}
use Rattle.settings.specs.Settings.{feed_unit, capacity_at, capacity_of}
use Rattle.machine.specs.declared.Machine.{Machine}
use Rattle.machine.specs.computed.Machine.{sound_of}
use Rattle.machine.specs.computed.Calls.{load_with, load_of}
use Rattle.letters.specs.declared.letter.Letter.TheVariants.{N, G, F, X, Y, I, J}
use Rattle.letters.specs.declared.word.Word.{Word}
use Rattle.letters.specs.declared.word.Words.{Words}
use Rattle.letters.specs.Word.{once_of}
use Rattle.words.specs.declared.line.Line.{Line}
use Rattle.words.specs.Grammar.{LineOfWords}
use Rattle.words.specs.Meaning.{Means}
use Rattle.reader.specs.declared.Motion.{Motion}
use Rattle.reader.specs.declared.Reader.{Reader}
use Rattle.reader.specs.declared.asked.ToLoad.{ToLoad}
use Rattle.reader.specs.declared.text_line.Read.{Read}
use Rattle.reader.specs.computed.Reader.{longest_line, motion_right, on_pulse, all_on_pulse, all_known, centre_right, line_no}
use Rattle.reader.specs.Reader.{reader_after, end_stands, centre_stands, moving, is_arc, block_at}
use Rattle.reader.specs.computed.Asked.{asked_with, asked_of}
use Rattle.reader.specs.Reader.{goes_nowhere}
use Rattle.textline.specs.declared.ReadLine.{ReadLine}
use Rattle.textline.specs.computed.TextLine.{reads, loaded, takes, taken_of}
use Rattle.textline.specs.laws.TextLine.{read_means}
use Rattle.history.specs.CallContracts.{ReadsLine}
use Rattle.demands.specs.Asked.{Questions, AsAsked, AllYes}
use Rattle.demands.specs.Questions.{NoLetterTwice, MotionRight, OnPulse, OnPulses, MotionAndFeedKnown, CentreStands}
use Rattle.demands.specs.Questions.{next_start, word_questions, line_block, is_block, if_block, text_questions, line_questions}
use Rattle.demands.specs.Answers.{read_reply}
use Rattle.demands.specs.Calls.{LineTaken}
use Rattle.demands.proofs.laws.Asked.{Verdict, asked, none_asked, or_else, then_asked, passed, Says, says_some, judged}
use Rattle.demands.proofs.laws.Bench.{in_range_lem}
use Rattle.demands.proofs.laws.Load.{block_verdict}
use Rattle.demands.proofs.laws.Sound.{sound_is}
use Rattle.demands.proofs.laws.Answers.{fewer_is, load_is}

-- ---- tests

implies : (a b : Bool) → (not a || b ≡ true) ↔ (a ≡ true → b ≡ true)
implies true b = (λ e t. e, λ f. f refl)
implies false b = (λ e t. absurd (false≢true t), λ f. refl)

either : (a b : Bool) → (a || b ≡ false) ↔ ((a ≡ false) × (b ≡ false))
either true b = (λ e. absurd (true≢false e), λ p. p.0)
either false b = (λ e. (refl, e), λ p. p.1)

untrue : (a : Bool) → (not a ≡ true) ↔ (a ≡ false)
untrue true = (λ e. absurd (false≢true e), λ e. absurd (true≢false e))
untrue false = (λ e. refl, λ e. refl)

-- 33
once_is : (ws : Words) → (once_of ws ≡ true) ↔ NoLetterTwice ws
once_is ws = (
  λ e.
      let n = (either ws.n.twice _).0 ((untrue _).0 e) in
      let g = (either ws.g.twice _).0 n.1 in
      let f = (either ws.f.twice _).0 g.1 in
      let x = (either ws.x.twice _).0 f.1 in
      let y = (either ws.y.twice _).0 x.1 in
      let i = (either ws.i.twice _).0 y.1 in
      let j = (either ws.j.twice _).0 i.1 in
      by n.0 g.0 f.0 x.0 y.0 i.0 j.0,
  λ f. rw (f N, f G, f F, f X, f Y, f I, f J),
)
  where
    by : ws.n.twice ≡ false → ws.g.twice ≡ false → ws.f.twice ≡ false → ws.x.twice ≡ false → ws.y.twice ≡ false
        → ws.i.twice ≡ false → ws.j.twice ≡ false → NoLetterTwice ws
    by n g f x y i j N = n
    by n g f x y i j G = g
    by n g f x y i j F = f
    by n g f x y i j X = x
    by n g f x y i j Y = y
    by n g f x y i j I = i
    by n g f x y i j J = j

-- what the line's answer says of letters that stand twice is what its words say
own_once : (bytes : List ℕ) (l : Line) → Means bytes l → l.once ≡ once_of l.words
own_once bytes l means = by l.formed refl
  where
    by : (b : Bool) → l.formed ≡ b → l.once ≡ once_of l.words
    by true e = rw (means.said (means.formed e))
    by false e = rw (means.refused e)

formed_is : (bytes : List ℕ) (l : Line) → Means bytes l → (l.formed ≡ true) ↔ LineOfWords bytes
formed_is bytes l means = (means.formed, λ line. ap (λ (l : Line). l.formed) (means.said line))

-- 34
motion_is : (ws : Words) → (motion_right ws.g ≡ true) ↔ MotionRight ws
motion_is ws =
    let r = in_range_lem 1 3 ws.g.magnitude in
    let i = implies ws.g.stands _ in
    (λ e t. r.0 (i.0 e t), λ f. i.1 (λ t. r.1 (f t)))

-- 35
pulse_is : (p : ℕ) (w : Word) → (on_pulse p w ≡ true) ↔ OnPulse p w
pulse_is p w = (eqb-true _ 0, eq-eqb _ 0)

pulses_are : (p : ℕ) (ws : Words) → (all_on_pulse p ws ≡ true) ↔ OnPulses p ws
pulses_are p ws = (
  λ e.
      let x = both {a = on_pulse p ws.x} e in
      let y = both {a = on_pulse p ws.y} x.1 in
      let i = both {a = on_pulse p ws.i} y.1 in
      record { x = eqb-true _ 0 x.0; y = eqb-true _ 0 y.0; i = eqb-true _ 0 i.0; j = eqb-true _ 0 i.1 },
  λ r. joined (eq-eqb _ 0 r.x) (joined (eq-eqb _ 0 r.y) (joined (eq-eqb _ 0 r.i) (eq-eqb _ 0 r.j))),
)

-- 36
known_is : (k : Reader) (ws : Words) → (all_known k ws ≡ true) ↔ MotionAndFeedKnown k ws
known_is k ws =
    let i = implies (moving ws) _ in
    (λ e t. both (i.0 e t), λ f. i.1 (λ t. joined (f t).0 (f t).1))

-- 37
centre_stands_lem : (m : Option Motion) (ws : Words) → (centre_right m ws ≡ true) ↔ CentreStands m ws
centre_stands_lem m ws = by (is_arc m) (centre_stands ws) refl refl
  where
    by : (arc c : Bool) → is_arc m ≡ arc → centre_stands ws ≡ c
        → (cond (is_arc m) (not (end_stands ws) || centre_stands ws) (not (centre_stands ws)) ≡ true) ↔ CentreStands m ws
    by true c a e =
        rw a (
          λ h. record { only = λ t. a; there = λ t. (implies (end_stands ws) (centre_stands ws)).0 h },
          λ s. (implies (end_stands ws) (centre_stands ws)).1
              (s.there a),
        )
    by false true a e = rw (a, e) (λ h. absurd (false≢true h), λ s. absurd (true≢false (sym (s.only e) ∙ a)))
    by false false a e =
        rw (a, e) (λ h. record { only = λ t. absurd (false≢true (sym e ∙ t)); there = λ t. absurd (false≢true (sym a ∙ t)) }, λ s. refl)

word_verdict : (k : Reader) (scale : ℕ) (bytes : List ℕ) (l : Line) → Means bytes l
    → Verdict (word_questions k scale bytes l) (line_no scale k (length bytes) l)
unfolding line_no
word_verdict k scale bytes l means =
    let ws = l.words in
    let once = own_once bytes l means in
    asked (leb (length bytes) longest_line) 30 (leb-true _ longest_line, le-leb _ longest_line) (λ _.
    asked l.formed 31 (formed_is bytes l means) (λ _.
    asked l.once 32 (λ e. (once_is ws).0 (sym once ∙ e), λ f. once ∙ (once_is ws).1 f) (λ _.
    asked (motion_right ws.g) 33 (motion_is ws) (λ _.
    asked (all_on_pulse scale ws) 34 (pulses_are scale ws) (λ _.
    asked (all_known k ws) 35 (known_is k ws) (λ _.
    asked (centre_right k.motion ws) 36 (centre_stands_lem k.motion ws) (λ _. none_asked)))))))

-- the number of the block, where the line makes one
abbrev pub block_number : (moves stays : Bool) (n : ℕ) → ℕ
block_number true false n = n
block_number true true n = 0
block_number false stays n = 0

block_asked_lem : {qs : Questions} {n : ℕ} (moves stays : Bool) → Verdict qs n
    → Verdict (if_block (is_block moves stays) qs) (block_number moves stays n)
block_asked_lem true false v = v
block_asked_lem true true v = none_asked
block_asked_lem false stays v = none_asked

pub text_verdict : {Room : Type 0} (u : ℕ) (room : Bool) → (room ≡ true) ↔ Room → (k : Reader) (s : Settings) (start : Point)
    (bytes : List ℕ) (l : Line) → Means bytes l
    → (let b = line_block u k s.scale start l in
    Verdict (text_questions u Room k s start bytes l)
    (or_else (line_no s.scale (reader_after k l.words) (length bytes) l)
    (block_number (moving l.words) (goes_nowhere b.end start b.path) (load_no (capacity_at u s) s.travel room start b))))
text_verdict u room is k s start bytes l means =
    let b = line_block u k s.scale start l in
    then_asked (word_verdict (reader_after k l.words) s.scale bytes l means)
    (block_asked_lem (moving l.words) (goes_nowhere b.end start b.path) (block_verdict s start b u room is))

-- ---- the answer

module _ (k k' : Reader) (m : Machine) (ws : Words) where
  abbrev b : Block
  b = block_at feed_unit m.bench.settings.scale k' ws (next_start m)

  abbrev block_asked : Result ⊤ Question
  block_asked = ask_load (capacity_of m.bench.settings) m.bench.settings.travel (ltb m.queue.len 16) (next_start m) b

  -- the line by its numbers: that of its words, and that of its block
  abbrev line_by : (number : ℕ) (moves stays : Bool) (asked : Result ⊤ Question) → ReadLine
  line_by (suc number) moves stays asked = reads (Read.Refused (suc number)) k m
  line_by zero true true asked = reads Read.Nothing k' m
  line_by zero true false asked = loaded k k' m (load_with m b asked).machine (load_with m b asked).answer
  line_by zero false stays asked = reads Read.Nothing k' m

  line_says : (number : ℕ) (moves stays : Bool) (asked : Result ⊤ Question)
      → Says (or_else number (block_number moves stays (number_told asked))) (read_reply (line_by number moves stays asked).answer)
  line_says (suc number) moves stays asked = refl
  line_says zero true true asked = refl
  line_says zero true false (Ok passed) = refl
  line_says zero true false (Err q) = says_some (number_of q) (number_some q)
  line_says zero false stays asked = refl

  line_kept : (number : ℕ) (moves stays : Bool) (asked : Result ⊤ Question)
      → (or_else number (block_number moves stays (number_told asked)) ≡ 0 → ⊥)
      → (let r = line_by number moves stays asked in (r.reader ≡ k) × (r.machine ≡ m))
  line_kept (suc number) moves stays asked some = (refl, refl)
  line_kept zero true true asked some = absurd (some refl)
  line_kept zero true false (Ok passed) some = absurd (some refl)
  line_kept zero true false (Err q) some = (refl, refl)
  line_kept zero false stays asked some = absurd (some refl)

  line_is : sound_of m ≡ true → (number : ℕ)
      → taken_of k m (asked_with m.bench.settings.scale k k' (next_start m) ws number)
      ≡ line_by number (moving ws) (goes_nowhere b.end (next_start m) b.path) block_asked
  unfolding load_of
  line_is sound (suc number) = refl
  line_is sound zero = by (moving ws) (goes_nowhere b.end (next_start m) b.path)
    where
      by : (moves stays : Bool)
          → takes k k' m (cond moves (cond stays ToLoad.Nothing (ToLoad.Block b)) ToLoad.Nothing) ≡ line_by zero moves stays block_asked
      by true true = refl
      by true false = rw sound
      by false stays = refl

pub line_answers : (κs : Lfts 1) (k : Reader) (m : Machine) (bytes : Bor (List ℕ)) (r : ReadLine) → ReadsLine κs k m bytes r → (l : Line)
    → Means bytes.now l
    → AsAsked (line_questions k m bytes.now l) (read_reply r.answer) ((r.reader ≡ k) × (r.machine ≡ m))
unfolding asked_of
line_answers κs k m bytes r h l means =
    rw (h ∙ read_means k m bytes.now l means)
    (by (sound_of m) refl
    (asked (sound_of m) 8 (sound_is m) (λ _. text_verdict feed_unit _ (fewer_is m) k m.bench.settings (next_start m) bytes.now l means)))
  where
    ws : Words
    ws = l.words

    k' : Reader
    k' = reader_after k ws

    moves : Bool
    moves = moving ws

    stays : Bool
    stays = goes_nowhere (b k k' m ws).end (next_start m) (b k k' m ws).path

    number : ℕ
    number = line_no m.bench.settings.scale k' (length bytes.now) l

    inner : ℕ
    inner = or_else number (block_number moves stays (number_told (block_asked k k' m ws)))

    by : (sound : Bool) → sound_of m ≡ sound → Verdict (line_questions k m bytes.now l) (ask sound inner 9)
        → (let r =
        cond sound (taken_of k m (asked_with m.bench.settings.scale k k' (next_start m) ws number)) (reads (Read.Refused 9) k m) in
        AsAsked (line_questions k m bytes.now l) (read_reply r.answer) ((r.reader ≡ k) × (r.machine ≡ m)))
    by true e v =
        rw (line_is k k' m ws e number)
        (judged inner v (line_says k k' m ws number moves stays _) (line_kept k k' m ws number moves stays _))
    by false e v = judged 9 v refl (λ some. (refl, refl))

-- ---- a line that no question refuses

module _ (k k' : Reader) (m : Machine) (ws : Words) where
  -- by its numbers: without a block, and with one
  by_nothing : (number : ℕ) (moves stays : Bool) (asked : Result ⊤ Question)
      → or_else number (block_number moves stays (number_told asked)) ≡ 0
      → is_block moves stays ≡ false
      → line_by k k' m ws number moves stays asked ≡ reads Read.Nothing k' m
  by_nothing (suc number) moves stays asked z e = absurd (omega arith)
  by_nothing zero true true asked z e = refl
  by_nothing zero true false asked z e = absurd (false≢true (sym e))
  by_nothing zero false stays asked z e = refl

  by_block : (number : ℕ) (moves stays : Bool) (asked : Result ⊤ Question)
      → or_else number (block_number moves stays (number_told asked)) ≡ 0
      → is_block moves stays ≡ true
      → (asked ≡ Ok tt) ×
      (line_by k k' m ws number moves stays asked ≡ loaded k k' m (load_with m (b k k' m ws) (Ok tt)).machine (load_with m
      (b k k' m ws) (Ok tt)).answer)
  by_block (suc number) moves stays asked z e = absurd (omega arith)
  by_block zero true true asked z e = absurd (false≢true e)
  by_block zero true false (Ok passed) z e = (refl, refl)
  by_block zero true false (Err q) z e = absurd (number_some q z)
  by_block zero false stays asked z e = absurd (false≢true e)

pub line_taken : (κs : Lfts 1) (k : Reader) (m : Machine) (bytes : Bor (List ℕ)) (r : ReadLine) → ReadsLine κs k m bytes r → (l : Line)
    → Means bytes.now l → AllYes (line_questions k m bytes.now l) → LineTaken k m l r
unfolding asked_of
line_taken κs k m bytes r h l means all =
    record {
      no_block = λ e. is ∙ by_nothing k k' m ws number moves stays load none e;
      block = λ e.
          let t = by_block k k' m ws number moves stays load none e in
          let a : load_of m (b k k' m ws) ≡ load_with m (b k k' m ws) (Ok tt) = load_is m (b k k' m ws)
          ∙ ap (λ (asked : Result ⊤ Question). load_with m (b k k' m ws) (ask_question (sound_of m) asked Question.Sound)) t.0
          ∙ ap (λ (s : Bool). load_with m (b k k' m ws) (ask_question s (Ok tt) Question.Sound)) sound in
          (load_with m (b k k' m ws) (Ok tt), _, sym a, refl, is ∙ t.1);
    }
  where
    ws : Words
    ws = l.words

    k' : Reader
    k' = reader_after k ws

    moves : Bool
    moves = moving ws

    stays : Bool
    stays = goes_nowhere (b k k' m ws).end (next_start m) (b k k' m ws).path

    number : ℕ
    number = line_no m.bench.settings.scale k' (length bytes.now) l

    load : Result ⊤ Question
    load = block_asked k k' m ws

    sound : sound_of m ≡ true
    sound = (sound_is m).1 all.0

    none : or_else number (block_number moves stays (number_told load)) ≡ 0
    none = (passed (text_verdict feed_unit _ (fewer_is m) k m.bench.settings (next_start m) bytes.now l means)).1 all.1

    is : r ≡ line_by k k' m ws number moves stays load
    is =
        h ∙ read_means k m bytes.now l means
        ∙ ap (λ (s : Bool). cond s (taken_of k m (asked_with m.bench.settings.scale k k' (next_start m) ws number))
        (reads (Read.Refused 9) k m)) sound
        ∙ line_is k k' m ws sound number
