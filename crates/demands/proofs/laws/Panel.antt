-- What the panel lists is what the whole lines mean; and its calls, however the text is cut, hand that listing out.
use Rattle.std.specs.Prelude.{◌≡◌, Bool, ◌⊎◌, List, ◌++◌, ℕ, ◌≤◌, ◌<◌, min, pos, length, take, drop}
use Rattle.std.proofs.Math.Path.{refl}
use Rattle.std.proofs.Common.{sym, ap, subst, ◌∙◌, true≢false, inl, inr, append_assoc, arith, take-take, leb-true, leb-false, le-leb}
use Rattle.std.proofs.Math.Bool.{true, false, cond}
use Rattle.std.proofs.Math.Dec.{leb}
use Rattle.std.proofs.lemmas.Bool.{lt-leb}
use Rattle.settings.specs.declared.Settings.{Settings}
use Rattle.settings.specs.Settings.{feed_unit, capacity_of}
use Rattle.bench.specs.declared.Bench.{Bench}
use Rattle.row.specs.Lines.{header_line}
use Rattle.reader.specs.computed.Reader.{longest_text}
use Rattle.reader.specs.Reader.{unknown}
use Rattle.job.specs.declared.Stage.{Stage}
use Rattle.job.specs.Check.{stage_over}
use Rattle.job.specs.Job.{Made, End, Job}
use Rattle.job.specs.Listing.{job_listing}
use Rattle.job.specs.computed.Job.{job_of_lines, job_at}
use Rattle.panel.specs.declared.PanelCheck.{PanelCheck}
use Rattle.panel.specs.declared.Told.{Told}
use Rattle.panel.specs.declared.PieceRead.{PieceRead}
use Rattle.panel.specs.Whole.{whole_lines}
use Rattle.panel.specs.computed.Listing.{thirty_after, long_job, panel_job, panel_listing}
use Rattle.panel.specs.computed.Piece.{scratch_bytes, start_of, held_in, tell_of, piece_of, ReadsPiece}
use Rattle.panel.specs.computed.Rest.{rows_on, rest_at, rest_of, calls_left}
use Rattle.panel.specs.laws.Listing.{panel_is}
use Rattle.panel.specs.laws.Hand.{small_scratch, small_rows, fitting}
use Rattle.panel.specs.laws.Pieces.{over_none, reads_on, reads_less}
use Rattle.demands.specs.Texts.{EveryCounted}
use Rattle.demands.specs.Panel.{FromStart, PanelMeans, Reading, Unread, LongEnough, RowsRead, CallsOn, EveryPanel}
use Rattle.demands.proofs.laws.Bench.{settings_pass}
use Rattle.demands.proofs.laws.Texts.{lines_mean, lines_once, lines_counted, text_means, text_once, text_counted}

-- ---- what it lists

module _ (s : Settings) (text : List ℕ) where
  abbrev whole : Job
  whole = job_of_lines feed_unit s (whole_lines text)

  long_means : longest_text < length text → PanelMeans s text whole.blocks (thirty_after (length (whole_lines text)) whole.end)
  long_means h = by whole.end (lines_mean feed_unit s 1 (record { x = pos 0; y = pos 0 }) unknown (whole_lines text))
    where
      by : (end : End) → FromStart s (whole_lines text) whole.blocks end
          → PanelMeans s text whole.blocks (thirty_after (length (whole_lines text)) end)
      by End.complete m = PanelMeans.long h m
      by (End.refused n number) m = PanelMeans.refused h m

  panel_means : (let j = panel_job s text in PanelMeans s text j.blocks j.end)
  unfolding panel_job long_job
  panel_means = by (leb (length text) longest_text) refl
    where
      by : (short : Bool) → leb (length text) longest_text ≡ short
          → (let j = cond short (job_at feed_unit s text) (long_job s text) in PanelMeans s text j.blocks j.end)
      by true e = PanelMeans.short (leb-true (length text) longest_text e) (text_means feed_unit s text)
      by false e = long_means (leb-false (length text) longest_text e)

  panel_once : {made : List Made} {end : End} → PanelMeans s text made end → panel_job s text ≡ record { blocks = made; end = end }
  unfolding panel_job long_job
  panel_once (PanelMeans.short h m) = rw (le-leb (length text) longest_text h) (text_once feed_unit s text m)
  panel_once (PanelMeans.refused h m) = rw (lt-leb (length text) longest_text h, lines_once feed_unit s m)
  panel_once (PanelMeans.long h m) = rw (lt-leb (length text) longest_text h, lines_once feed_unit s m)

  panel_counted : {made : List Made} {end : End} → PanelMeans s text made end → EveryCounted made
  panel_counted (PanelMeans.short h m) = text_counted feed_unit s text m
  panel_counted (PanelMeans.refused h m) = lines_counted feed_unit s m
  panel_counted (PanelMeans.long h m) = lines_counted feed_unit s m

  panel_same : length text ≤ longest_text → panel_job s text ≡ job_at feed_unit s text
  unfolding panel_job
  panel_same h = rw (le-leb (length text) longest_text h)

-- ---- a call

more_told : (stage : Stage) → tell_of stage ≡ Told.More → false ≡ stage_over stage
more_told Stage.Header e = refl
more_told Stage.Lines e = refl
more_told Stage.Over e = cc

over_told : (stage : Stage) → tell_of stage ≡ Told.Over → true ≡ stage_over stage
over_told Stage.Header e = cc
over_told Stage.Lines e = cc
over_told Stage.Over e = refl

either_told : (stage : Stage) → (tell_of stage ≡ Told.More) ⊎ (tell_of stage ≡ Told.Over)
either_told Stage.Header = inl refl
either_told Stage.Lines = inl refl
either_told Stage.Over = inr refl

module _ (c : PanelCheck) (scratch piece : List ℕ) (last : Bool) (rows : List ℕ) {f : PieceRead} {free rows' : List ℕ} where
  reading : ReadsPiece c scratch piece last rows f free rows' → LongEnough scratch rows → Reading piece rows rows' f
  reading (ReadsPiece.short small _ _ _) (wide, room) =
      absurd (true≢false (sym (fitting scratch rows wide (le-leb 160 (length rows) room)) ∙ small))
  reading (ReadsPiece.read ok h) _ =
      let on = reads_on c scratch piece last rows (ReadsPiece.read ok h) in
      let stage = (piece_of c scratch piece last).check.stage in
      record {
        took = on.took;
        line = on.line;
        wrote = rw h.read h.short;
        later = on.later;
        more = rw h.read (more_told stage);
        over = rw h.read (over_told stage);
        told = rw h.read (either_told stage);
      }

  unread : ReadsPiece c scratch piece last rows f free rows' → (length scratch < 81) ⊎ (length rows < 160)
      → Unread c scratch free rows rows' f
  unread (ReadsPiece.short _ e kept same) _ = record { read = e; scratch_kept = kept; rows_kept = same }
  unread (ReadsPiece.read ok _) (inl small) = absurd (true≢false (sym ok ∙ small_scratch scratch rows small))
  unread (ReadsPiece.read ok _) (inr few) = absurd (true≢false (sym ok ∙ small_rows scratch rows (lt-leb 160 (length rows) few)))

-- ---- calls one after the other

-- of the scratch buffer the bytes of the line count alone
pub rest_held : (c : PanelCheck) (a b text : List ℕ) → take c.held a ≡ take c.held b → rest_of c a text ≡ rest_of c b text
unfolding rest_of
rest_held c a b text e = by c.stage
  where
    n : ℕ
    n = min c.held scratch_bytes

    same : held_in c.held a ≡ held_in c.held b
    same = sym (take-take n c.held a (omega arith)) ∙ ap (take n) e ∙ take-take n c.held b (omega arith)

    by : (stage : Stage) → rest_at stage c a text ≡ rest_at stage c b text
    by Stage.Header = ap (λ (l : List ℕ). header_line ++ rows_on c.tally c.left l text) same
    by Stage.Lines = ap (λ (l : List ℕ). rows_on c.tally c.left l text) same
    by Stage.Over = refl

rows_rest : {text : List ℕ} {c : PanelCheck} {whole : List ℕ} → ((scratch : List ℕ) → rest_of c scratch text ≡ whole)
    → {left scratch bytes : List ℕ} {d : PanelCheck} → RowsRead text c left scratch bytes d
    → bytes ++ rest_of d scratch left ≡ whole
rows_rest start (RowsRead.none scratch) = start scratch
rows_rest start (RowsRead.read {left = left} {before = before} {bytes = bytes}
    {d = d} so_far κs scratch free piece last rows rows' f rest kept cut
    end h) =
    let on = reads_on d scratch.now piece.now last rows.now h in
    append_assoc bytes (take f.wrote rows'.now) (rest_of f.check free.now (drop f.took piece.now ++ rest))
    ∙ ap (λ (s : List ℕ). bytes ++ s) (on.bytes rest end ∙ ap (rest_of d scratch.now) cut ∙ rest_held d scratch.now before left kept)
    ∙ rows_rest start so_far

calls_few : {c : PanelCheck} {n : ℕ} → CallsOn c n → n ≤ calls_left c
calls_few CallsOn.none = omega arith
calls_few (CallsOn.read {c = c} κs scratch free piece last rows rows' f going (wide, room) some h later) =
    let less = reads_less c scratch.now piece.now last rows.now h wide (le-leb 160 (length rows.now) room) (sym going) some in
    omega (arith, less, calls_few later)

start_few : (m : Bench) → calls_left (start_of m) ≡ 131074
unfolding start_of
start_few m = refl

pub every_panel : EveryPanel
unfolding panel_listing
every_panel =
    record {
      means = λ s text made end. (
        panel_once s text,
        λ e. subst (λ (j : Job). PanelMeans s text j.blocks j.end) e (panel_means s text),
      );
      counts = λ s text. panel_counted s text (panel_means s text);
      same = λ s text h. ap (job_listing (capacity_of s)) (panel_same s text h);
      read = λ κs c scratch free piece last rows rows' f h enough. reading c scratch.now piece.now last rows.now h enough;
      short = λ κs c scratch free piece last rows rows' f h few. unread c scratch.now piece.now last rows.now h few;
      listing = λ s pass c e text left scratch bytes d rows.
          record {
            rest = rest_of d scratch left;
            front = rows_rest (λ scratch. ap (λ (c : PanelCheck). rest_of c scratch text) e
                ∙ panel_is s ((settings_pass s).1 pass) scratch text) rows;
            all = λ told. over_none d (sym told) scratch left;
          };
      ends = λ m c e n calls. omega (arith, calls_few calls, ap calls_left e, start_few m);
    }
