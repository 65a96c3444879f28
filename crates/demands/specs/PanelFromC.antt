-- 02 §5, the check on the operator panel from C: in 19 words of a bench, as a check has them, and in 10 of how far it has come. The text
-- comes in pieces, cut anywhere, and is never held whole.
use Rattle.std.specs.Prelude.{◌≡◌, true, List, [], ◌++◌, ℕ, suc, ◌≤◌, ℤ, pos, length, take, drop}
use Rattle.std.specs.Borrow.{Bor, MutBor}
use contract.Lifetimes.{Lfts}
use Rattle.settings.specs.declared.Settings.{Settings}
use Rattle.bench.specs.declared.Bench.{Bench}
use Rattle.machine.specs.declared.Answered.{Answered}
use Rattle.history.specs.CallContracts.{Makes}
use Rattle.encoding.specs.Words.{encode_of, count_of, at, settings_of}
use Rattle.calls.specs.Calls.{answer_number}
use Rattle.calls.specs.computed.Calls.{tells, bench_made}
use Rattle.panel.specs.declared.PanelCheck.{PanelCheck}
use Rattle.panel.specs.declared.PieceRead.{PieceRead}
use Rattle.cpanel.specs.Words.{encode_panel, panel_in}
use Rattle.cpanel.specs.Read.{told_number, is_last, ToldRead, tells_read, unchanged}
use Rattle.cpanel.specs.computed.Panel.{start_panel, TellsRead}
use Rattle.demands.specs.Bench.{BenchSound}
use Rattle.demands.specs.Panel.{StartsPanel, ReadsPanel, LongEnough}

-- the words of the panel's check c
pub record TellsPanel (c : PanelCheck) (ws ps : List ℤ) : Type 0 where
  pub words : ws ≡ encode_of c.tally.bench
  pub panel : ps ≡ encode_panel c

-- a start may answer n
abbrev pub StartsPanelFromC : Lfts 2 → (words words' panel panel' : MutBor (List ℤ)) (p w xlo xhi ylo yhi n : ℤ) → Type 0
StartsPanelFromC κs words words' panel panel' p w xlo xhi ylo yhi n =
    let s = settings_of p w xlo xhi ylo yhi in (tells n words'.now ≡ bench_made s) × (panel'.now ≡ start_panel s)

-- the words of a panel's check that begins at the bench of the machine that a make answers
abbrev pub StartedPanel : Settings → (n : ℤ) (ws ps : List ℤ) → Type 0
StartedPanel s n ws ps =
    (r : Answered) × Makes s r × (n ≡ answer_number r.answer) × (c : PanelCheck) × StartsPanel r.machine.bench c × TellsPanel c ws ps

-- what a call is lent, and what that is after it, and its answer; a piece is lent for reading
pub record ReadCall : Type 0 where
  pub lifetimes : Lfts 7
  pub words : MutBor (List ℤ)
  pub words' : MutBor (List ℤ)
  pub panel : MutBor (List ℤ)
  pub panel' : MutBor (List ℤ)
  pub scratch : MutBor (List ℕ)
  pub free : MutBor (List ℕ)
  pub piece : Bor (List ℕ)
  pub last : ℤ
  pub rows : MutBor (List ℕ)
  pub rows' : MutBor (List ℕ)
  pub took : MutBor ℕ
  pub took' : MutBor ℕ
  pub written : MutBor ℕ
  pub written' : MutBor ℕ
  pub answer : ℤ

-- a call may do so
abbrev pub ReadsFromC : ReadCall → Type 0
ReadsFromC f =
    TellsRead f.words.now f.panel.now f.scratch.now f.piece.now f.last f.rows.now
    (tells_read f.answer f.took'.now f.written'.now f.words'.now f.panel'.now f.free.now f.rows'.now)

-- what it told; and that all is as it was, but for this answer
abbrev pub read_told : ReadCall → ToldRead
read_told f =
    tells_read f.answer f.took'.now f.written'.now f.words'.now f.panel'.now f.free.now f.rows'.now

abbrev pub Unchanged : (answer : ℤ) → ReadCall → Type 0
Unchanged n f = read_told f ≡ unchanged n f.words.now f.panel.now f.scratch.now f.rows.now

-- the call of the panel's check c itself: 0 where there is more to come, 1 once all is handed out, 2 where a buffer is too short
abbrev pub OwnRead : PanelCheck → ReadCall → Type 0
OwnRead c f =
    (read : PieceRead) × ((κs : Lfts 3) → ReadsPanel κs c f.scratch f.free f.piece (is_last f.last) f.rows f.rows' read)
    × (f.answer ≡ told_number read.told) × (f.took'.now ≡ read.took) × (f.written'.now ≡ read.wrote)
    × TellsPanel read.check f.words'.now f.panel'.now

-- the words of a sound bench, and of a panel's check at it: at most 65,536 bytes are left of the text, and at most 81 are held
abbrev pub IsPanel : (ws ps : List ℤ) → Bench → Type 0
IsPanel ws ps k =
    BenchSound k × (ws ≡ encode_of k) × (ps ≡ encode_panel (panel_in k ps)) × ((panel_in k ps).left ≤ 65536) × ((panel_in k ps).held ≤ 81)

-- how many bytes of the scratch buffer the words say that a line has there
abbrev pub held_bytes : (ps : List ℤ) → ℕ
held_bytes ps = count_of (at ps 9)

-- Calls on one text, one after the other, lead from these words to those, and hand these bytes out; n is what the last answered. Each is
-- lent a piece of what is left of the text, and any number but 0 only where nothing is left behind the piece; what it did not take is left
-- for the next. The buffers may be others each time, but that the first bytes of the scratch buffer are those that the call before left
-- there, as many as the words say.
pub data RowsReadToC (text : List ℕ) (ws ps : List ℤ) : (left scratch bytes : List ℕ) (n : ℤ) (ws' ps' : List ℤ) → Type 0 where
  none : {scratch : List ℕ} → RowsReadToC text ws ps text scratch [] (pos 0) ws ps
  read : {left scratch bytes : List ℕ} {n : ℤ} {ws₁ ps₁ : List ℤ} → RowsReadToC text ws ps left scratch bytes n ws₁ ps₁
      → (f : ReadCall) (rest : List ℕ) → f.words.now ≡ ws₁ → f.panel.now ≡ ps₁
      → take (held_bytes ps₁) f.scratch.now ≡ take (held_bytes ps₁) scratch
      → f.piece.now ++ rest ≡ left → (is_last f.last ≡ true → rest ≡ []) → ReadsFromC f
      → RowsReadToC text ws ps (drop f.took'.now f.piece.now ++ rest) f.free.now
      (bytes ++ take f.written'.now f.rows'.now) f.answer f.words'.now f.panel'.now

-- so many calls from these words on that answered 0, each with buffers that are long enough and with a byte or the end of the text
pub data MoreToC : (ws ps : List ℤ) (calls : ℕ) → Type 0 where
  none : {ws ps : List ℤ} → MoreToC ws ps 0
  read : {ws ps : List ℤ} {n : ℕ} (f : ReadCall) → f.words.now ≡ ws → f.panel.now ≡ ps → LongEnough f.scratch.now f.rows.now
      → (length f.piece.now ≡ 0 → is_last f.last ≡ true) → ReadsFromC f → f.answer ≡ pos 0
      → MoreToC f.words'.now f.panel'.now n
      → MoreToC ws ps (suc n)
