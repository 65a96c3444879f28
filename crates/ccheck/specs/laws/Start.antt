-- What a start's words have to hand out is the listing, whatever the text; and a caller may hand the words that a start or a fill wrote
-- to the next fill.
use Rattle.std.specs.Prelude.{◌≡◌, true, List, ℕ, ℤ}
use Rattle.std.proofs.Common.{sym, ap, subst}
use Rattle.question.specs.laws.Ask.{passed as all_asked}
use Rattle.settings.specs.declared.Settings.{Settings}
use Rattle.settings.specs.computed.Settings.{settings_no, ask_settings}
use Rattle.bench.specs.computed.Calls.{make_of}
use Rattle.tally.specs.computed.Tally.{tally_from as tally_start}
use Rattle.job.specs.declared.Check.{Check}
use Rattle.job.specs.computed.Check.{check_from, Lists}
use Rattle.job.specs.laws.Listing.{made_rests, listing_is}
use Rattle.job.specs.laws.Reached.{start_reached as rests_reached}
use Rattle.encoding.specs.Words.{encode_of}
use Rattle.encoding.specs.laws.Record.{machine_back, sound_words_lem}
use Rattle.progress.specs.computed.Progress.{DecodedProgress}
use Rattle.progress.specs.Progress.{encode_progress}
use Rattle.progress.specs.laws.Inverse.{ReachedCheck, reached_fits, progress_decode}
use Rattle.ccheck.specs.computed.Check.{start_progress, check_told, is_check, Hands, TellsFill}
use Rattle.ccheck.specs.laws.Check.{rows_told}

-- the words of a check that a start reaches
pub record Told (ws ps : List ℤ) (c : Check) : Type 0 where
  pub is : is_check ws ps ≡ true
  pub told : (check_told ws ps).check ≡ c
  pub reached : ReachedCheck c

-- its words tell it
pub reached_told : (c : Check) → ReachedCheck c → Told (encode_of c.tally.bench) (encode_progress c) c
unfolding is_check
reached_told c r =
    let f = reached_fits c r in
    let d = machine_back c.tally.bench f.sound in
    let p = progress_decode c f in
    record {
      is = rw (sound_words_lem c.tally.bench f.sound, d, p);
      told = rw d (ap (λ (g : DecodedProgress). g.check) p);
      reached = r;
    }

module _ (s : Settings) where
  start_reached : ReachedCheck (check_from (make_of s).bench)
  unfolding check_from
  start_reached = rests_reached (made_rests s)

  pub start_told : Told (encode_of (make_of s).bench) (start_progress s) (check_from (make_of s).bench)
  unfolding check_from tally_start
  start_told = reached_told (check_from (make_of s).bench) start_reached

  -- settings that pass: the listing at them
  pub start_lists : settings_no s ≡ 0 → Lists s (check_from (make_of s).bench)
  unfolding make_of
  start_lists e = rw (all_asked (ask_settings s) e) (listing_is s e)

module _ {ws ps : List ℤ} {c : Check} (t : Told ws ps c) {text old : List ℕ} {answer : ℤ} {len : ℕ} {ws' ps' : List ℤ} {new : List ℕ} where
  pub hands : TellsFill ws ps text old answer len ws' ps' new → Hands c text old answer len ws' ps' new
  hands f = subst (λ (k : Check). Hands k text old answer len ws' ps' new) t.told (rows_told t.is f)

  pub fill_told : (f : TellsFill ws ps text old answer len ws' ps' new) → Told ws' ps' (hands f).next
  fill_told f =
      let h = hands f in
      let again = reached_told h.next (h.fills.keeps t.reached) in
      subst (λ (ws : List ℤ). Told ws ps' h.next) (sym h.words)
      (subst (λ (ps : List ℤ). Told (encode_of h.next.tally.bench) ps h.next) (sym h.progress) again)
