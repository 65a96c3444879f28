-- What a start's words have to hand out is the panel's listing, whatever the text; and a caller may hand the words that a start or a read
-- wrote to the next read.
use Rattle.std.specs.Prelude.{◌≡◌, true, List, [], ◌++◌, ℕ, ℤ, take, drop}
use Rattle.std.proofs.Common.{sym, ap, subst, ◌∙◌}
use Rattle.question.specs.laws.Ask.{passed as all_asked}
use Rattle.settings.specs.declared.Settings.{Settings}
use Rattle.settings.specs.computed.Settings.{settings_no, ask_settings}
use Rattle.bench.specs.computed.Calls.{make_of}
use Rattle.tally.specs.computed.Tally.{tally_from}
use Rattle.job.specs.laws.Listing.{made_rests}
use Rattle.encoding.specs.Words.{encode_of}
use Rattle.encoding.specs.laws.Record.{machine_back, sound_words_lem}
use Rattle.panel.specs.declared.PanelCheck.{PanelCheck}
use Rattle.panel.specs.computed.Piece.{start_of}
use Rattle.panel.specs.computed.Rest.{rest_of, Lists, ReachedPanel}
use Rattle.panel.specs.laws.Listing.{panel_is}
use Rattle.panel.specs.laws.Piece.{start_panel_lem}
use Rattle.panel.specs.laws.Pieces.{Reads-on, reads_on}
use Rattle.cpanel.specs.computed.Panel.{DecodedPanel}
use Rattle.cpanel.specs.Words.{encode_panel}
use Rattle.cpanel.specs.Read.{is_last, ToldRead}
use Rattle.cpanel.specs.computed.Panel.{start_panel, panel_told, is_panel, Hands, TellsRead}
use Rattle.cpanel.specs.laws.Words.{panel_decode}
use Rattle.cpanel.specs.laws.Panel.{hands_told}

-- the words of a panel's check that a start reaches
pub record Told (ws ps : List ℤ) (c : PanelCheck) : Type 0 where
  pub is : is_panel ws ps ≡ true
  pub told : (panel_told ws ps).check ≡ c
  pub reached : ReachedPanel c

-- its words tell it
pub reached_told : (c : PanelCheck) → ReachedPanel c → Told (encode_of c.tally.bench) (encode_panel c) c
unfolding is_panel
reached_told c r =
    let d = machine_back c.tally.bench r.tally.sound in
    let p = panel_decode c r in
    record {
      is = rw (sound_words_lem c.tally.bench r.tally.sound, d, p);
      told = rw d (ap (λ (g : DecodedPanel). g.check) p);
      reached = r;
    }

module _ (s : Settings) where
  pub start_told : Told (encode_of (make_of s).bench) (start_panel s) (start_of (make_of s).bench)
  unfolding start_of tally_from
  start_told = reached_told (start_of (make_of s).bench) (start_panel_lem (make_of s).bench (made_rests s))

  -- settings that pass: the panel's listing at them
  pub start_lists : settings_no s ≡ 0 → Lists s (start_of (make_of s).bench)
  unfolding make_of
  start_lists e = rw (all_asked (ask_settings s) e) (panel_is s e)

module _ {ws ps : List ℤ} {c : PanelCheck} (t : Told ws ps c) {scratch piece : List ℕ} {last : ℤ} {old : List ℕ} {after : ToldRead} where
  pub hands : TellsRead ws ps scratch piece last old after → Hands c scratch piece (is_last last) old after
  hands f = subst (λ (k : PanelCheck). Hands k scratch piece (is_last last) old after) t.told (hands_told t.is f)

  read_on_lem : (f : TellsRead ws ps scratch piece last old after)
      → Reads-on c scratch piece (is_last last) old (hands f).read after.free after.rows
  read_on_lem f = reads_on c scratch piece (is_last last) old (hands f).reads

  -- it hands out the next bytes, whatever the rest of the text
  pub read_bytes : (f : TellsRead ws ps scratch piece last old after) (rest : List ℕ) → (is_last last ≡ true → rest ≡ [])
      → take after.written after.rows ++ rest_of (hands f).read.check after.free (drop after.took piece ++ rest)
      ≡ rest_of c scratch (piece ++ rest)
  read_bytes f rest end =
      let h = hands f in
      let later : (took : ℕ) → List ℕ = λ took. rest_of h.read.check after.free (drop took piece ++ rest) in
      ap (λ (n : ℕ). take n after.rows ++ later after.took) (ap (λ (t : ToldRead). t.written) h.told)
      ∙ ap (λ (n : ℕ). take h.read.wrote after.rows ++ later n) (ap (λ (t : ToldRead). t.took) h.told)
      ∙ (read_on_lem f).bytes rest end

  pub read_told_lem : (f : TellsRead ws ps scratch piece last old after) → Told after.words after.panel (hands f).read.check
  read_told_lem f =
      let h = hands f in
      let c' = h.read.check in
      let again = reached_told c' ((read_on_lem f).keeps t.reached) in
      subst (λ (ws : List ℤ). Told ws after.panel c') (sym (ap (λ (t : ToldRead). t.words) h.told))
      (subst (λ (ps : List ℤ). Told (encode_of c'.tally.bench) ps c') (sym (ap (λ (t : ToldRead). t.panel) h.told)) again)
