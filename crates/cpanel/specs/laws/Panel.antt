-- A read by whether the words are a panel's check.
use Rattle.std.specs.Prelude.{◌≡◌, Bool, true, Some, None, List, ℕ, ℤ, pos, negsuc}
use Rattle.std.proofs.Math.Path.{refl}
use Rattle.std.proofs.Common.{sym, ap, subst, ◌∙◌, true≢false, SFits}
use Rattle.std.proofs.Math.Bool.{false}
use Rattle.std.specs.Int.{w64}
use Rattle.std.proofs.Math.Facts.{sfits_lit}
use Rattle.whole.specs.laws.Test.{both}
use Rattle.job.specs.declared.Stage.{Stage}
use Rattle.job.specs.Check.{stage_over}
use Rattle.encoding.specs.Words.{encode_of}
use Rattle.encoding.specs.computed.Words.{bench_read, same_words, sound_words}
use Rattle.encoding.specs.laws.Same.{same_true}
use Rattle.encoding.specs.laws.Record.{words_are}
use Rattle.progress.specs.Progress.{check_in}
use Rattle.progress.specs.laws.Told.{told_none, told_some}
use Rattle.panel.specs.declared.PanelCheck.{PanelCheck}
use Rattle.panel.specs.declared.Told.{Told}
use Rattle.panel.specs.declared.PieceRead.{PieceRead}
use Rattle.panel.specs.computed.Over.{is_over}
use Rattle.panel.specs.computed.Piece.{piece_of, tell_of, ReadsPiece}
use Rattle.cpanel.specs.Words.{encode_panel, panel_in}
use Rattle.cpanel.specs.Read.{told_number, is_last, ToldRead, tells_read, unchanged}
use Rattle.cpanel.specs.computed.Panel.{decode_panel, panel_check_told, panel_told, is_panel, told_by, Hands, TellsRead}

pub told_fits : (t : Told) → SFits w64 (told_number t)
told_fits Told.Short = sfits_lit tt
told_fits Told.More = sfits_lit tt
told_fits Told.Over = sfits_lit tt

is : (ws ps : List ℤ) → sound_words ws ≡ true → is_panel ws ps ≡ (panel_told ws ps).ok
unfolding is_panel
is ws ps ok = rw ok refl

module _ (ws ps : List ℤ) {scratch piece : List ℕ} {last : ℤ} {old : List ℕ} where
  pub read_no_record : sound_words ws ≡ false → TellsRead ws ps scratch piece last old (unchanged (negsuc 8) ws ps scratch old)
  unfolding is_panel
  read_no_record bad = let no : is_panel ws ps ≡ false = rw bad in TellsRead.no_check no refl

  module _ (ok : sound_words ws ≡ true) where
    pub read_no_panel : None ≡ panel_check_told (bench_read ws) ps
        → TellsRead ws ps scratch piece last old (unchanged (negsuc 8) ws ps scratch old)
    read_no_panel none = TellsRead.no_check (is ws ps ok ∙ told_none (panel_told ws ps).ok (panel_told ws ps).check none) refl

    pub read_hands : {c : PanelCheck} → Some c ≡ panel_check_told (bench_read ws) ps → {end : Bool} → end ≡ is_last last
        → {read : PieceRead} {free rows : List ℕ}
        → ReadsPiece c scratch piece end old read free rows → {answer : ℤ} {ws' ps' : List ℤ} → answer ≡ told_number read.told
        → ws' ≡ encode_of read.check.tally.bench → ps' ≡ encode_panel read.check
        → TellsRead ws ps scratch piece last old (tells_read answer read.took read.wrote ws' ps' free rows)
    read_hands {c} panel {end} at_last {read} {free} {rows} h told words come =
        let t = told_some (panel_told ws ps).ok (panel_told ws ps).check panel in
        TellsRead.check (is ws ps ok ∙ t.0)
        (record {
          read = read;
          reads =
              subst (λ (k : PanelCheck). ReadsPiece k scratch piece (is_last last) old read free rows) t.1
              (subst (λ (b : Bool). ReadsPiece c scratch piece b old read free rows) at_last h);
          told = rw (told, words, come);
        })

module _ {ws ps : List ℤ} {scratch piece : List ℕ} {last : ℤ} {old : List ℕ} {t : ToldRead} where
  pub hands_told : is_panel ws ps ≡ true → TellsRead ws ps scratch piece last old t
      → Hands (panel_told ws ps).check scratch piece (is_last last) old t
  hands_told ok (TellsRead.check _ h) = h
  hands_told ok (TellsRead.no_check bad _) = absurd (true≢false (sym ok ∙ bad))

  pub refused_told : is_panel ws ps ≡ false → TellsRead ws ps scratch piece last old t → t ≡ unchanged (negsuc 8) ws ps scratch old
  refused_told bad (TellsRead.check ok _) = absurd (true≢false (sym ok ∙ bad))
  refused_told bad (TellsRead.no_check _ e) = e

-- ---- the answer 1

-- all is handed out then
pub over_told : {c : PanelCheck} {scratch piece : List ℕ} {end : Bool} {old : List ℕ} {read : PieceRead} {free rows : List ℕ}
    → ReadsPiece c scratch piece end old read free rows → told_number read.told ≡ pos 1 → is_over read.check ≡ true
over_told (ReadsPiece.short _ done _ _) one = by (sym (ap (λ (f : PieceRead). told_number f.told) done) ∙ one)
  where
    by : {over : Bool} → pos 2 ≡ pos 1 → over ≡ true
    by e = cc
over_told {c} {scratch} {piece} {end} (ReadsPiece.read _ h) one =
    ap (λ (f : PieceRead). is_over f.check) h.read
    ∙ by (piece_of c scratch piece end).check.stage (sym (ap (λ (f : PieceRead). told_number f.told) h.read) ∙ one)
  where
    by : (stage : Stage) → told_number (tell_of stage) ≡ pos 1 → stage_over stage ≡ true
    by Stage.Header e = cc
    by Stage.Lines e = cc
    by Stage.Over e = refl

-- ---- the answer 2: a buffer is too short

-- a panel's check writes its own words back
same_back : (ws ps : List ℤ) → is_panel ws ps ≡ true
    → (encode_of (panel_told ws ps).check.tally.bench ≡ ws) × (encode_panel (panel_told ws ps).check ≡ ps)
unfolding is_panel decode_panel panel_in check_in
same_back ws ps ok =
    let b = both {a = sound_words ws} ok in
    let words = (both {a = same_words ps (encode_panel (panel_in (bench_read ws) ps))} b.1).0 in
    (sym (words_are ws b.0), sym (same_true ps (encode_panel (panel_in (bench_read ws) ps)) words))

-- no other read, and no refused one, answers 2
no_other : (stage : Stage) (t u : ToldRead) → told_number (tell_of stage) ≡ pos 2 → t ≡ u
no_other Stage.Header t u e = cc
no_other Stage.Lines t u e = cc
no_other Stage.Over t u e = cc

no_refusal : (t u : ToldRead) → negsuc 8 ≡ pos 2 → t ≡ u
no_refusal t u e = cc

module _ {ws ps : List ℤ} {scratch piece old : List ℕ} {t : ToldRead} where
  by_reads : is_panel ws ps ≡ true → {end : Bool} {read : PieceRead} → ReadsPiece (panel_told ws ps).check scratch piece end old read
      t.free t.rows
      → t ≡ told_by read t.free t.rows → t.answer ≡ pos 2 → t ≡ unchanged (pos 2) ws ps scratch old
  by_reads ok (ReadsPiece.short _ done kept same) told two = let b = same_back ws ps ok in told ∙ rw (done, kept, same, b.0, b.1)
  by_reads ok {end} (ReadsPiece.read _ h) told two =
      no_other (piece_of (panel_told ws ps).check scratch piece end).check.stage t _
      (sym (ap (λ (f : PieceRead). told_number f.told) h.read) ∙ sym (ap (λ (u : ToldRead). u.answer) told) ∙ two)

  -- after the answer 2 all is as it was
  pub short_told : {last : ℤ} → TellsRead ws ps scratch piece last old t → t.answer ≡ pos 2 → t ≡ unchanged (pos 2) ws ps scratch old
  short_told (TellsRead.check ok h) two = by_reads ok h.reads h.told two
  short_told (TellsRead.no_check _ e) two = no_refusal t _ (sym (ap (λ (u : ToldRead). u.answer) e) ∙ two)
