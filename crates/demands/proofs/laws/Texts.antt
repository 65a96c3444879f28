-- The job of a text is what its lines mean, one after the other, and nothing else; the listing that is handed out is that job's.
use Rattle.std.specs.Prelude.{◌≡◌, Bool, List, [], ◌∷◌, ◌++◌, ℕ, zero, suc, ◌+◌, length, take}
use Rattle.std.proofs.Math.Path.{refl}
use Rattle.std.proofs.Common.{sym, ap, subst, ◌∙◌, true≢false, append_assoc, leb-true, leb-false, le-leb}
use Rattle.std.proofs.Math.Bool.{true, false, cond}
use Rattle.std.proofs.lemmas.Bool.{false≢true, lt-leb}
use Rattle.std.proofs.Math.Dec.{leb}
use Rattle.std.proofs.Math.IntN.{pos}
use Rattle.plane.specs.declared.point.Point.{Point}
use Rattle.circle.proofs.laws.Circle.{on_circle_to}
use Rattle.block.specs.declared.Block.{Block}
use Rattle.block.specs.declared.Path.{Path}
use Rattle.block.specs.Block.{arc_of}
use Rattle.block.proofs.laws.Begin.{offset_right_lem, start_on}
use Rattle.block.specs.Questions.{load_no}
use Rattle.settings.specs.declared.Settings.{Settings}
use Rattle.settings.specs.Settings.{feed_unit, capacity_at}
use Rattle.book.specs.Ledger.{CountedAlong}
use Rattle.book.proofs.laws.Counts.{counted_arc}
use Rattle.words.specs.declared.line.Line.{Line}
use Rattle.words.specs.Meaning.{Means}
use Rattle.words.specs.computed.Meaning.{meaning_of}
use Rattle.words.specs.laws.Meaning.{meaning_means}
use Rattle.reader.specs.declared.Reader.{Reader}
use Rattle.reader.specs.computed.Reader.{longest_text, line_no}
use Rattle.reader.specs.Reader.{unknown, reader_after, moving}
use Rattle.reader.specs.Reader.{goes_nowhere}
use Rattle.job.specs.declared.Stage.{Stage}
use Rattle.job.specs.declared.Check.{Check}
use Rattle.job.specs.Text.{lines_of}
use Rattle.job.specs.computed.Job.{Asks, load_asks, words_ask, line_asks, read_on, job_from_at, job_at}
use Rattle.job.specs.Job.{Made, End, Job}
use Rattle.job.specs.computed.Listing.{listing_at}
use Rattle.job.specs.Check.{stage_over, is_over}
use Rattle.job.specs.computed.Check.{rest_at, rest_of}
use Rattle.job.specs.laws.Asks.{asks_means}
use Rattle.job.specs.laws.Listing.{listing_is}
use Rattle.demands.specs.Asked.{Questions, none, question, and_then, FirstNo, AllYes}
use Rattle.demands.specs.Block.{path_questions, block_questions}
use Rattle.demands.specs.Questions.{word_questions, line_block, is_block, makes_block, if_block, text_questions}
use Rattle.demands.specs.Texts.{LinesMean, TextMeans, EveryCounted, RowsOut, EveryText}
use Rattle.demands.proofs.laws.Asked.{Verdict, or_else, first_once, not_both}
use Rattle.demands.proofs.laws.Bench.{settings_pass}
use Rattle.demands.proofs.laws.Block.{centre_is}
use Rattle.demands.proofs.laws.TextLine.{block_number, text_verdict}

-- ---- one line

-- what a line asks, by its questions
data Says (u : ℕ) (s : Settings) (at : Point) (k : Reader) (bytes : List ℕ) (l : Line) : Asks → Type 0 where
  refuses : (number : ℕ) → FirstNo (text_questions u (Unit {0}) k s at bytes l) number → Says u s at k bytes l (Asks.refuses number)
  nothing : AllYes (text_questions u (Unit {0}) k s at bytes l) → makes_block u k s.scale at l ≡ false
      → Says u s at k bytes l (Asks.nothing (reader_after k l.words))
  makes : AllYes (text_questions u (Unit {0}) k s at bytes l) → makes_block u k s.scale at l ≡ true
      → Says u s at k bytes l (Asks.makes (reader_after k l.words) (line_block u k s.scale at l))

-- they settle it
says_once : (u : ℕ) (s : Settings) (at : Point) (k : Reader) (bytes : List ℕ) (l : Line) {a c : Asks} → Says u s at k bytes l a
    → Says u s at k bytes l c → a ≡ c
says_once u s at k bytes l (Says.refuses n f) (Says.refuses m g) =
    ap Asks.refuses (first_once (text_questions u (Unit {0}) k s at bytes l) n m f g)
says_once u s at k bytes l (Says.refuses n f) (Says.nothing y e) = absurd (not_both (text_questions u (Unit {0}) k s at bytes l) n y f)
says_once u s at k bytes l (Says.refuses n f) (Says.makes y e) = absurd (not_both (text_questions u (Unit {0}) k s at bytes l) n y f)
says_once u s at k bytes l (Says.nothing y e) (Says.refuses n f) = absurd (not_both (text_questions u (Unit {0}) k s at bytes l) n y f)
says_once u s at k bytes l (Says.nothing y e) (Says.nothing z g) = refl
says_once u s at k bytes l (Says.nothing y e) (Says.makes z g) = absurd (false≢true (sym e ∙ g))
says_once u s at k bytes l (Says.makes y e) (Says.refuses n f) = absurd (not_both (text_questions u (Unit {0}) k s at bytes l) n y f)
says_once u s at k bytes l (Says.makes y e) (Says.nothing z g) = absurd (true≢false (sym e ∙ g))
says_once u s at k bytes l (Says.makes y e) (Says.makes z g) = refl

module _ (u : ℕ) (s : Settings) (at : Point) (k : Reader) (bytes : List ℕ) (l : Line) (means : Means bytes l) where
  abbrev after : Reader
  after = reader_after k l.words

  abbrev b : Block
  b = line_block u k s.scale at l

  -- what the line asks, by its numbers
  abbrev asks_by : (number : ℕ) (moves stays : Bool) (load : ℕ) → Asks
  asks_by (suc number) moves stays load = Asks.refuses (suc number)
  asks_by zero moves stays load = cond moves (cond stays (Asks.nothing after) (load_asks after b load)) (Asks.nothing after)

  asks_are : (number : ℕ)
      → words_ask u s at after l.words number ≡ asks_by number (moving l.words) (goes_nowhere b.end at b.path)
      (load_no (capacity_at u s) s.travel true at b)
  asks_are zero = refl
  asks_are (suc number) = refl

  says_by : (number : ℕ) (moves stays : Bool) (load : ℕ) → makes_block u k s.scale at l ≡ is_block moves stays
      → Verdict (text_questions u (Unit {0}) k s at bytes l) (or_else number (block_number moves stays load))
      → Says u s at k bytes l (asks_by number moves stays load)
  says_by (suc number) moves stays load e v = Says.refuses (suc number) v.told
  says_by zero true true load e v = Says.nothing v.told e
  says_by zero true false zero e v = Says.makes v.told e
  says_by zero true false (suc load) e v = Says.refuses (suc load) v.told
  says_by zero false stays load e v = Says.nothing v.told e

  line_says : Says u s at k bytes l (line_asks u s at k bytes)
  line_says =
      let number = line_no s.scale after (length bytes) l in
      let moves = moving l.words in
      let stays = goes_nowhere b.end at b.path in
      subst (Says u s at k bytes l) (sym (asks_means u s at k bytes l means ∙ asks_are number))
      (says_by number moves stays (load_no (capacity_at u s) s.travel true at b) refl
      (text_verdict u true (λ _. tt, λ _. refl) k s at bytes l means))

-- ---- the lines of a text

module _ (u : ℕ) (s : Settings) (n : ℕ) (at : Point) (k : Reader) (bytes : List ℕ) (lines : List (List ℕ)) where
  abbrev Rest : Type 0
  Rest = (at : Point) (k : Reader) → (let j = job_from_at u s (n + 1) at k lines in LinesMean u s (n + 1) at k lines j.blocks j.end)

  line_means_job : Rest → (l : Line) → Means bytes l → (a : Asks) → Says u s at k bytes l a
      → (let j = read_on n at a (λ at' k'. job_from_at u s (n + 1) at' k' lines) in LinesMean u s n at k (bytes ∷ lines) j.blocks j.end)
  line_means_job rest l means _ (Says.refuses number f) = LinesMean.refused l means number f
  line_means_job rest l means _ (Says.nothing y e) = LinesMean.nothing l means y e (rest at (reader_after k l.words))
  line_means_job rest l means _ (Says.makes y e) =
      LinesMean.block l means y e (rest (line_block u k s.scale at l).end (reader_after k l.words))

pub lines_mean : (u : ℕ) (s : Settings) (n : ℕ) (at : Point) (k : Reader) (lines : List (List ℕ))
    → (let j = job_from_at u s n at k lines in LinesMean u s n at k lines j.blocks j.end)
unfolding job_from_at
lines_mean u s n at k [] = LinesMean.over
lines_mean u s n at k (bytes ∷ lines) =
    line_means_job u s n at k bytes lines (λ at k. lines_mean u s (n + 1) at k lines) (meaning_of bytes) (meaning_means bytes)
    (line_asks u s at k bytes)
    (line_says u s at k bytes (meaning_of bytes) (meaning_means bytes))

-- no other job
pub lines_once : (u : ℕ) (s : Settings) {n : ℕ} {at : Point} {k : Reader} {lines : List (List ℕ)} {made : List Made} {end : End}
    → LinesMean u s n at k lines made end
    → job_from_at u s n at k lines ≡ record { blocks = made; end = end }
unfolding job_from_at
lines_once u s LinesMean.over = refl
lines_once u s {at = at} {k = k} (LinesMean.refused {bytes = bytes} l means number f) =
    rw (says_once u s at k bytes l (line_says u s at k bytes l means) (Says.refuses number f))
lines_once u s {at = at} {k = k} (LinesMean.nothing {bytes = bytes} l means y e later) =
    rw (says_once u s at k bytes l (line_says u s at k bytes l means) (Says.nothing y e)) (lines_once u s later)
lines_once u s {at = at} {k = k} (LinesMean.block {bytes = bytes} l means y e later) =
    rw (says_once u s at k bytes l (line_says u s at k bytes l means) (Says.makes y e), lines_once u s later)

module _ (u : ℕ) (s : Settings) (text : List ℕ) where
  pub text_means : (let j = job_at u s text in TextMeans u s text j.blocks j.end)
  unfolding job_at
  text_means = by (leb (length text) longest_text) refl
    where
      by : (short : Bool) → leb (length text) longest_text ≡ short
          → (let j = cond short (job_from_at u s 1 (record { x = pos 0; y = pos 0 }) unknown (lines_of text))
          (record { blocks = []; end = End.refused 1 30 }) in
          TextMeans u s text j.blocks j.end)
      by true e = TextMeans.read (leb-true (length text) longest_text e)
          (lines_mean u s 1 (record { x = pos 0; y = pos 0 }) unknown (lines_of text))
      by false e = TextMeans.long (leb-false (length text) longest_text e)

  pub text_once : {made : List Made} {end : End} → TextMeans u s text made end → job_at u s text ≡ record { blocks = made; end = end }
  unfolding job_at
  text_once (TextMeans.long h) = rw (lt-leb (length text) longest_text h)
  text_once (TextMeans.read h lines) = rw (le-leb (length text) longest_text h) (lines_once u s lines)

-- ---- the listing

nothing_left : (g : Stage) (c : Check) (text : List ℕ) → stage_over g ≡ true → rest_at g c text ≡ []
nothing_left Stage.Header c text e = absurd (false≢true e)
nothing_left Stage.Lines c text e = absurd (false≢true e)
nothing_left Stage.Over c text e = refl

rows_rest : {text : List ℕ} {c : Check} {bytes : List ℕ} {d : Check} → RowsOut text c bytes d → bytes ++ rest_of d text ≡ rest_of c text
rows_rest RowsOut.none = refl
rows_rest {text} {c} (RowsOut.fill {bytes = bytes} {d = d} before κs lent out out' f is h) =
    append_assoc bytes (take f.len out'.now) (rest_of f.check text)
    ∙ ap (λ (rest : List ℕ). bytes ++ rest)
    (subst (λ (t : List ℕ). take f.len out'.now ++ rest_of f.check t ≡ rest_of d t) is h.bytes)
    ∙ rows_rest before

over_rest : (d : Check) (text : List ℕ) → is_over d ≡ true → rest_of d text ≡ []
unfolding rest_of
over_rest d text e = nothing_left d.stage d text e

-- ---- the cycles that it shows

-- the questions of the block, where the line makes one
block_yes : (qs : Questions) (block : Bool) (bs : Questions) → block ≡ true → AllYes (and_then qs (if_block block bs)) → AllYes bs
block_yes none true bs e all = all
block_yes none false bs e all = absurd (false≢true e)
block_yes (question number holds qs) block bs e all = block_yes qs block bs e all.1

pub path_counted : (s : Settings) (start : Point) (b : Block) (p : Path) → AllYes (path_questions s start b p) → CountedAlong start b p
unfolding arc_of
path_counted s start b Path.Line all = tt
path_counted s start b (Path.Arc turn centre) all =
    let right = offset_right_lem centre ((centre_is centre).1 all.0) in
    counted_arc start b turn centre (on_circle_to _ _ (start_on start centre right)).circle all.1.0

pub lines_counted : (u : ℕ) (s : Settings) {n : ℕ} {at : Point} {k : Reader} {lines : List (List ℕ)} {made : List Made} {end : End}
    → LinesMean u s n at k lines made end → EveryCounted made
lines_counted u s LinesMean.over = tt
lines_counted u s (LinesMean.refused l means number f) = tt
lines_counted u s (LinesMean.nothing l means y e later) = lines_counted u s later
lines_counted u s {at = at} {k = k} (LinesMean.block {bytes = bytes} l means y e later) =
    let b = line_block u k s.scale at l in
    let words = word_questions (reader_after k l.words) s.scale bytes l in
    let yes_all = block_yes words (makes_block u k s.scale at l) (block_questions u (Unit {0}) s at b) e y in
    (path_counted s at b b.path yes_all.1.1.1, lines_counted u s later)

pub text_counted : (u : ℕ) (s : Settings) (text : List ℕ) {made : List Made} {end : End} → TextMeans u s text made end → EveryCounted made
text_counted u s text (TextMeans.long h) = tt
text_counted u s text (TextMeans.read h lines) = lines_counted u s lines

pub every_text : EveryText
unfolding listing_at
every_text =
    record {
      means = λ u s text made end. (
        text_once u s text,
        λ e. subst (λ (j : Job). TextMeans u s text j.blocks j.end) e (text_means u s text),
      );
      counts = λ s text. text_counted feed_unit s text (text_means feed_unit s text);
      fill = λ κs c text out out' f h. record { fits = h.room; later = h.later; progress = h.onward };
      listing = λ s pass c e text bytes d rows.
          record {
            rest = rest_of d text;
            front = rows_rest rows ∙ ap (λ (c : Check). rest_of c text) e ∙ listing_is s ((settings_pass s).1 pass) text;
            all = λ told. over_rest d text (sym told);
          };
    }
