-- The panel's check from C is its own on the words of a sound bench and of a panel's check.
use Rattle.std.specs.Prelude.{◌≡◌, refl, Bool, true, false, List, [], ◌++◌, ℕ, ◌+◌, ◌≤◌, ℤ, pos, negsuc, length, take, drop}
use Rattle.std.proofs.Common.{sym, ap, subst, ◌∙◌, true≢false, append_assoc, arith, le-leb, leb-true}
use Rattle.whole.specs.laws.Test.{both, joined, refuted}
use Rattle.settings.specs.declared.Settings.{Settings}
use Rattle.bench.specs.declared.Bench.{Bench}
use Rattle.bench.specs.computed.Calls.{make_of}
use Rattle.machine.specs.computed.Calls.{make_of as machine_make}
use Rattle.tally.specs.computed.Tally.{tally_from}
use Rattle.encoding.specs.computed.Words.{bench_read, same_words, sound_words}
use Rattle.encoding.specs.laws.Same.{same_true, same_words_lem}
use Rattle.encoding.specs.laws.Record.{machine_back, words_are, told_sound, sound_words_lem}
use Rattle.calls.specs.Calls.{answer_number}
use Rattle.calls.specs.computed.Calls.{Told, tells, bench_made}
use Rattle.job.specs.declared.Stage.{Stage}
use Rattle.job.specs.Check.{stage_over}
use Rattle.panel.specs.declared.PanelCheck.{PanelCheck}
use Rattle.panel.specs.declared.PieceRead.{PieceRead}
use Rattle.panel.specs.computed.Over.{is_over}
use Rattle.panel.specs.computed.Listing.{panel_listing}
use Rattle.panel.specs.computed.Piece.{start_of, piece_of, tell_of, ReadsPiece}
use Rattle.panel.specs.computed.Rest.{rest_of, calls_at, calls_left}
use Rattle.panel.specs.laws.Pieces.{over_none, reads_less}
use Rattle.cpanel.specs.Words.{encode_panel, panel_in}
use Rattle.cpanel.specs.Read.{told_number, is_last, ToldRead}
use Rattle.cpanel.specs.computed.Panel.{start_panel, decode_panel, panel_told, is_panel, Hands}
use Rattle.cpanel.specs.laws.Panel.{hands_told, refused_told, over_told, short_told}
use Rattle.cpanel.specs.laws.Start.{Told as PanelTold, start_told, start_lists, hands, read_bytes, read_told_lem}
use Rattle.demands.specs.Asked.{AllYes}
use Rattle.demands.specs.Bench.{settings_questions}
use Rattle.demands.specs.Texts.{FrontOf}
use Rattle.demands.specs.PanelFromC.{StartedPanel, ReadCall, ReadsFromC, read_told, Unchanged, OwnRead, IsPanel, held_bytes}
use Rattle.demands.specs.PanelFromC.{RowsReadToC, MoreToC}
use Rattle.demands.proofs.laws.Bench.{bench_is, settings_pass}
use Rattle.demands.proofs.laws.CheckFromC.{made_bench}
use Rattle.demands.proofs.laws.Panel.{rest_held}

-- ---- a start

pub started : (s : Settings) (n : ℤ) (ws ps : List ℤ) → tells n ws ≡ bench_made s → ps ≡ start_panel s → StartedPanel s n ws ps
unfolding start_of tally_from
started s n ws ps made panel =
    let same = made_bench s in (
      machine_make s,
      refl,
      ap (λ (t : Told). t.answer) made ∙ ap answer_number same.0,
      start_of (make_of s).bench,
      ap start_of same.1,
      record { words = ap (λ (t : Told). t.words) made; panel = panel },
    )

-- ---- a read, whatever the words

panel_told_lem : (ws ps : List ℤ) (k : Bench) → IsPanel ws ps k → (is_panel ws ps ≡ true) × ((panel_told ws ps).check ≡ panel_in k ps)
unfolding is_panel decode_panel
panel_told_lem ws ps k c =
    let e = (bench_is k).1 c.0 in
    let here = ap bench_read c.1 ∙ machine_back k e in
    let limits = joined (le-leb (panel_in k ps).left 65536 c.3) (le-leb (panel_in k ps).held 81 c.4) in (
      joined (ap sound_words c.1 ∙ sound_words_lem k e) (rw here (joined (sym (same_words_lem c.2)) limits)),
      ap (λ (x : Bench). panel_in x ps) here,
    )

panel_of_lem : (ws ps : List ℤ) → is_panel ws ps ≡ true → IsPanel ws ps (bench_read ws)
unfolding is_panel decode_panel
panel_of_lem ws ps t =
    let b = both {a = sound_words ws} t in
    let c = panel_in (bench_read ws) ps in
    let w = both {a = same_words ps (encode_panel c)} b.1 in
    let limits = both w.1 in (
      (bench_is (bench_read ws)).0 (told_sound ws b.0),
      words_are ws b.0,
      same_true ps (encode_panel c) w.0,
      leb-true c.left 65536 limits.0,
      leb-true c.held 81 limits.1,
    )

no_panel_told : (ws ps : List ℤ) → ((k : Bench) → ¬ (IsPanel ws ps k)) → is_panel ws ps ≡ false
no_panel_told ws ps none = refuted (is_panel ws ps) (λ t. none (bench_read ws) (panel_of_lem ws ps t))

module _ (f : ReadCall) (h : ReadsFromC f) where
  pub panel_reads : (k : Bench) → IsPanel f.words.now f.panel.now k → OwnRead (panel_in k f.panel.now) f
  panel_reads k c =
      let is = panel_told_lem f.words.now f.panel.now k c in
      let g = subst (λ (p : PanelCheck). Hands p f.scratch.now f.piece.now (is_last f.last) f.rows.now (read_told f))
      is.1
      (hands_told is.0 h) in (
        g.read,
        λ κs. g.reads,
        ap (λ (t : ToldRead). t.answer) g.told,
        ap (λ (t : ToldRead). t.took) g.told,
        ap (λ (t : ToldRead). t.written) g.told,
        record { words = ap (λ (t : ToldRead). t.words) g.told; panel = ap (λ (t : ToldRead). t.panel) g.told },
      )

  pub no_panel_reads : ((k : Bench) → ¬ (IsPanel f.words.now f.panel.now k)) → Unchanged (negsuc 8) f
  no_panel_reads none = refused_told (no_panel_told f.words.now f.panel.now none) h

  pub short_reads : f.answer ≡ pos 2 → Unchanged (pos 2) f
  short_reads two = short_told h two

-- ---- reads from the words of a start: the panel's check that they have come to, and what it has still to hand out

record Come (whole left scratch bytes : List ℕ) (n : ℤ) (ws ps : List ℤ) : Type 0 where
  check : PanelCheck
  told : PanelTold ws ps check
  front : bytes ++ rest_of check scratch left ≡ whole
  ended : n ≡ pos 1 → rest_of check scratch left ≡ []

held_told : {ws ps : List ℤ} {c : PanelCheck} → PanelTold ws ps c → held_bytes ps ≡ c.held
unfolding decode_panel panel_in
held_told t = ap (λ (p : PanelCheck). p.held) t.told

-- the words of a panel's check that a call leaves
told_here : {ws ps ws₁ ps₁ : List ℤ} {c : PanelCheck} → ws ≡ ws₁ → ps ≡ ps₁ → PanelTold ws₁ ps₁ c → PanelTold ws ps c
told_here {ps = ps} {ws₁ = ws₁} {c = c} at_words at_panel t =
    subst (λ (ws : List ℤ). PanelTold ws ps c) (sym at_words) (subst (λ (ps : List ℤ). PanelTold ws₁ ps c) (sym at_panel) t)

told_on : {text : List ℕ} {ws ps : List ℤ} (c : PanelCheck) → PanelTold ws ps c → {left scratch bytes : List ℕ} {n : ℤ} {ws' ps' : List ℤ}
    → RowsReadToC text ws ps left scratch bytes n ws' ps'
    → (d : PanelCheck) × PanelTold ws' ps' d
told_on c t RowsReadToC.none = (c, t)
told_on c t (RowsReadToC.read before f rest at_words at_panel at_scratch at_text at_last h) =
    let b = told_on c t before in
    let here = told_here at_words at_panel b.1 in ((hands here h).read.check, read_told_lem here h)

zero_one : (whole : List ℕ) → pos 0 ≡ pos 1 → whole ≡ []
zero_one whole e = cc

module _ {text : List ℕ} {ws ps : List ℤ} (c : PanelCheck) (t : PanelTold ws ps c) {whole : List ℕ}
    (lists : (scratch : List ℕ) → rest_of c scratch text ≡ whole) where
  come : {left scratch bytes : List ℕ} {n : ℤ} {ws' ps' : List ℤ} → RowsReadToC text ws ps left scratch bytes n ws' ps'
      → Come whole left scratch bytes n ws' ps'
  come (RowsReadToC.none {scratch = scratch}) =
      record { check = c; told = t; front = lists scratch; ended = zero_one (rest_of c scratch text) }
  come (RowsReadToC.read {left = left} {scratch = scratch} {bytes = bytes} before f rest at_words at_panel at_scratch at_text at_last h) =
      let b = come before in
      let here = told_here at_words at_panel b.told in
      let kept = subst (λ (n : ℕ). take n f.scratch.now ≡ take n scratch) (held_told b.told) at_scratch in
      let g = hands here h in
      record {
        check = g.read.check;
        told = read_told_lem here h;
        front =
            append_assoc bytes (take f.written'.now f.rows'.now)
            (rest_of g.read.check f.free.now (drop f.took'.now f.piece.now ++ rest))
            ∙ ap (λ (l : List ℕ). bytes ++ l) (read_bytes here h rest at_last
            ∙ ap (rest_of b.check f.scratch.now) at_text
            ∙ rest_held b.check f.scratch.now scratch left kept)
            ∙ b.front;
        ended = λ one.
            over_none g.read.check (over_told g.reads (sym (ap (λ (t : ToldRead). t.answer) g.told) ∙ one)) f.free.now
            (drop f.took'.now f.piece.now ++ rest);
      }

start_of_lem : (s : Settings) {n : ℤ} {ws ps : List ℤ} → tells n ws ≡ bench_made s → ps ≡ start_panel s
    → PanelTold ws ps (start_of (make_of s).bench)
start_of_lem s made panel = told_here (ap (λ (t : Told). t.words) made) panel (start_told s)

pub from_words : (s : Settings) → AllYes (settings_questions s) → {n : ℤ} (ws ps : List ℤ) → tells n ws ≡ bench_made s → ps ≡ start_panel s
    → (text left scratch bytes : List ℕ) (last : ℤ) (ws' ps' : List ℤ) → RowsReadToC text ws ps left scratch bytes last ws' ps'
    → FrontOf (panel_listing s text) bytes (last ≡ pos 1)
from_words s pass ws ps made panel text left scratch bytes last ws' ps' rows =
    let t = start_of_lem s made panel in
    let lists = start_lists s ((settings_pass s).1 pass) in
    let k = come (start_of (make_of s).bench) t (λ scratch. lists scratch text) rows in
    record { rest = rest_of k.check scratch left; front = k.front; all = k.ended }

-- ---- and no more

pub panel_kept : (s : Settings) {n : ℤ} (ws ps : List ℤ) → tells n ws ≡ bench_made s → ps ≡ start_panel s
    → {text left scratch bytes : List ℕ} {last : ℤ} (ws' ps' : List ℤ) → RowsReadToC text ws ps left scratch bytes last ws' ps'
    → (k : Bench) × IsPanel ws' ps' k
panel_kept s ws ps made panel ws' ps' rows =
    let d = told_on (start_of (make_of s).bench) (start_of_lem s made panel) rows in (bench_read ws', panel_of_lem ws' ps' d.1.is)

stage_more : (stage : Stage) → told_number (tell_of stage) ≡ pos 0 → stage_over stage ≡ false
stage_more Stage.Header e = refl
stage_more Stage.Lines e = refl
stage_more Stage.Over e = cc

two_zero : (b : Bool) → pos 2 ≡ pos 0 → b ≡ false
two_zero b e = cc

-- a call that answers 0 has more to hand out
told_more : {c : PanelCheck} {scratch piece : List ℕ} {last : Bool} {old : List ℕ} {f : PieceRead} {free new : List ℕ}
    → ReadsPiece c scratch piece last old f free new → told_number f.told ≡ pos 0 → is_over f.check ≡ false
told_more {c} {f = f} (ReadsPiece.short small e kept same) zero =
    two_zero (is_over f.check) (sym (ap (λ (r : PieceRead). told_number r.told) e) ∙ zero)
told_more {c} {scratch} {piece} {last} (ReadsPiece.read ok h) zero =
    let stage = (piece_of c scratch piece last).check.stage in
    ap (λ (r : PieceRead). is_over r.check) h.read
    ∙ stage_more stage (sym (ap (λ (r : PieceRead). told_number r.told) h.read) ∙ zero)

some_left : (stage : Stage) (left held : ℕ) → stage_over stage ≡ false → 1 ≤ calls_at stage left held
some_left Stage.Header left held e = omega arith
some_left Stage.Lines left held e = omega arith
some_left Stage.Over left held e = absurd (true≢false e)

more_few : {ws ps : List ℤ} (c : PanelCheck) → PanelTold ws ps c → is_over c ≡ false → {n : ℕ} → MoreToC ws ps n → n + 1 ≤ calls_left c
more_few c t going MoreToC.none = omega (arith, some_left c.stage c.left c.held going)
more_few c t going (MoreToC.read f at_words at_panel enough some h zero later) =
    let here = told_here at_words at_panel t in
    let g = hands here h in
    let told = sym (ap (λ (t : ToldRead). t.answer) g.told) ∙ zero in
    let room = le-leb 160 (length f.rows.now) enough.1 in
    let less = reads_less c f.scratch.now f.piece.now (is_last f.last) f.rows.now g.reads enough.0 room going some in
    omega (arith, less, more_few g.read.check (read_told_lem here h) (told_more g.reads told) later)

start_going : (m : Bench) → (is_over (start_of m) ≡ false) × (calls_left (start_of m) ≡ 131074)
unfolding start_of
start_going m = (refl, refl)

pub panel_few : (s : Settings) {n : ℤ} (ws ps : List ℤ) → tells n ws ≡ bench_made s → ps ≡ start_panel s → (calls : ℕ) → MoreToC ws ps calls
    → calls ≤ 131073
panel_few s ws ps made panel calls more =
    let start = start_going (make_of s).bench in
    omega (arith, more_few (start_of (make_of s).bench) (start_of_lem s made panel) start.0 more, start.1)
