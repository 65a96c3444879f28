-- A line by whether the words are such, and by what it asks.
use Rattle.std.specs.Prelude.{◌≡◌, Bool, true, false, Some, None, cond, List, ℕ, zero, suc, ◌≤◌, ltb, ℤ, negsuc, length, Result, Ok, Err, ⊤}
use Rattle.std.proofs.Math.Path.{refl}
use Rattle.std.proofs.Common.{sym, ap, ◌∙◌, arith}
use Rattle.question.specs.declared.Question.{Question}
use Rattle.plane.specs.declared.point.Point.{Point}
use Rattle.block.specs.declared.Block.{Block}
use Rattle.block.specs.Questions.{ask_load}
use Rattle.words.specs.computed.Meaning.{meaning_of}
use Rattle.settings.specs.Settings.{capacity_of}
use Rattle.settings.specs.laws.Right.{settings_right}
use Rattle.bench.specs.declared.Bench.{Bench}
use Rattle.bench.specs.declared.Answer.{Answer}
use Rattle.machine.specs.declared.Machine.{Machine}
use Rattle.machine.specs.computed.Machine.{sound_of}
use Rattle.machine.specs.Machine.{start_of}
use Rattle.machine.specs.computed.Calls.{load_with, load_of}
use Rattle.reader.specs.declared.Reader.{Reader}
use Rattle.reader.specs.declared.asked.ToLoad.{ToLoad}
use Rattle.reader.specs.declared.asked.Asked.{Asked}
use Rattle.reader.specs.declared.text_line.Read.{Read}
use Rattle.reader.specs.computed.Asked.{asked_of}
use Rattle.textline.specs.declared.ReadLine.{ReadLine}
use Rattle.textline.specs.computed.TextLine.{loaded, taken_of, read_line_of}
use Rattle.record.specs.Words.{encode_of, over}
use Rattle.record.specs.computed.Words.{machine_in, sound_words}
use Rattle.record.specs.laws.Write.{told_sound}
use Rattle.calls.specs.computed.Asked.{Asking}
use Rattle.calls.specs.laws.Load.{own_words, settings_pass}
use Rattle.progress.specs.Known.{encode_known}
use Rattle.progress.specs.computed.Known.{decode_known, reader_told}
use Rattle.progress.specs.laws.Told.{told_none, told_some}
use Rattle.cmachine.specs.declared.text.Heard.{Heard}
use Rattle.cmachine.specs.Texts.{read_number}
use Rattle.cmachine.specs.computed.Texts.{heard_of, loads_of, tells_line, told_line_of}

-- a refused load hands the record back as it was
pub load_same : (m : Machine) (b : Block) {q : Question} → (load_of m b).answer ≡ Err q → (load_of m b).machine ≡ m
unfolding load_of
load_same m b = by (sound_of m) (let s = m.bench.settings in
    ask_load (capacity_of s) s.travel (ltb m.queue.len 16) (start_of m.bench m.queue) b)
  where
    by : (sound : Bool) (asked : Result ⊤ Question) {q : Question}
        → (cond sound (load_with m b asked) (record { answer = Err Question.Sound; machine = m })).answer ≡ Err q
        → (cond sound (load_with m b asked) (record { answer = Err Question.Sound; machine = m })).machine ≡ m
    by true (Ok passed) e = let none : ◌≡◌ {A = ℕ} 0 1 = cc in absurd (omega (arith, none))
    by true (Err q) e = refl
    by false asked e = refl

-- ---- what the words become, by what the line asks

module _ (ws : List ℤ) (before : Reader) where
  abbrev m : Machine
  m = machine_in ws

  -- what a line was read as, and the words after it
  abbrev Hears : ReadLine → Heard → (after : List ℤ) → Type 0
  Hears r h after = (h ≡ heard_of r) × (after ≡ over (encode_of r.machine) ws)

  pub line_loads : (after : Reader) (b : Block) {answer : Result Answer Question} {now : List ℤ} → answer ≡ (load_of m b).answer
      → now ≡ over (encode_of (load_of m b).machine) ws → {a : Result Answer Question} → answer ≡ a
      → Hears (loads_of before after m b) (heard_of (loaded before after m m a)) now
  line_loads after b {answer} {now} is stored {a} e = by a (sym is ∙ e)
    where
      by : (a : Result Answer Question) → (load_of m b).answer ≡ a
          → Hears (loads_of before after m b) (heard_of (loaded before after m m a)) now
      by (Ok Answer.Done) e = rw e (refl, stored)
      by (Ok (Answer.Width bits)) e = rw e (refl, stored)
      by (Err q) e = rw e (refl, stored ∙ ap (λ (n : Machine). over (encode_of n) ws) (load_same m b e))

  -- a line that asks for no block leaves them
  module _ (t : sound_words ws ≡ true) (a : Asked) where
    pub line_nothing : a.asks ≡ ToLoad.Nothing → Hears (taken_of before m a) (record { read = Read.Nothing; reader = a.reader }) ws
    line_nothing e = rw e (refl, sym (own_words ws t))

    pub line_refused : {number : ℕ} → a.asks ≡ ToLoad.Refused number
        → Hears (taken_of before m a) (record { read = Read.Refused number; reader = before }) ws
    line_refused e = rw e (refl, sym (own_words ws t))

-- few enough for the reader
pub scale_fits : {ws : List ℤ} {k : Bench} {start : Point} → Asking ws k start → k.settings.scale ≤ 1000
scale_fits {k = k} g = (settings_right k.settings (settings_pass g)).scale_most

-- ---- what is told

module _ (ws ks : List ℤ) (line : List ℕ) where
  pub line_no_record : sound_words ws ≡ false → tells_line (negsuc 8) ws ks ≡ told_line_of ws ks line
  unfolding told_line_of
  line_no_record bad = rw bad

  module _ (t : sound_words ws ≡ true) where
    pub line_not_known : None ≡ reader_told ks → tells_line (negsuc 8) ws ks ≡ told_line_of ws ks line
    unfolding told_line_of
    line_not_known e = rw (t, told_none (decode_known ks).ok (decode_known ks).reader e)

    module _ {before : Reader} (e : Some before ≡ reader_told ks) {k : Bench} {start : Point} (g : Asking ws k start) where
      known : ((decode_known ks).ok ≡ true) × (before ≡ (decode_known ks).reader)
      known = told_some (decode_known ks).ok (decode_known ks).reader e

      -- what the line asks there
      abbrev asks : (scale : ℕ) → Point → Asked
      asks scale place = asked_of scale before place (length line) (meaning_of line)

      asks_own : asks k.settings.scale start
          ≡ (let m = machine_in ws in asks m.bench.settings.scale (start_of m.bench m.queue))
      unfolding machine_in
      asks_own = rw (g.start_is, g.bench_is) refl

      pub line_told_lem : {a : Asked} → a ≡ asks k.settings.scale start → {h : Heard} {after : List ℤ}
          → h ≡ heard_of (taken_of before (machine_in ws) a)
          → after ≡ over (encode_of (taken_of before (machine_in ws) a).machine) ws
          → tells_line (read_number h.read) after (encode_known h.reader) ≡ told_line_of ws ks line
      unfolding told_line_of read_line_of
      line_told_lem a_is h_is after_is = rw (h_is, after_is, a_is ∙ asks_own, t, known.0, known.1, told_sound ws t) refl
