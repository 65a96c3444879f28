-- A fill by whether the words are a check.
use Rattle.std.specs.Prelude.{◌≡◌, refl, true, Some, None, List, ℕ, ℤ, negsuc}
use Rattle.std.proofs.Common.{sym, subst, ◌∙◌, true≢false}
use Rattle.std.proofs.Math.Bool.{false}
use Rattle.encoding.specs.computed.Words.{bench_read, sound_words}
use Rattle.job.specs.declared.Check.{Check}
use Rattle.progress.specs.computed.Progress.{check_told as progress_told}
use Rattle.progress.specs.laws.Told.{told_none, told_some}
use Rattle.ccheck.specs.computed.Check.{check_told, is_check, Hands, TellsFill}
use Rattle.ccheck.specs.Check.{Refuses}

-- nothing changed
refuses : {ws ps : List ℤ} {old : List ℕ} → Refuses ws ps old (negsuc 8) 0 ws ps old
refuses = record { nine = refl; none = refl; record_kept = refl; progress_kept = refl; buffer_kept = refl }

module _ (ws ps : List ℤ) where
  pub fill_no_record : {text old : List ℕ} → sound_words ws ≡ false → TellsFill ws ps text old (negsuc 8) 0 ws ps old
  unfolding is_check
  fill_no_record bad = let no : is_check ws ps ≡ false = rw bad in TellsFill.no_check no refuses

  module _ (ok : sound_words ws ≡ true) where
    is : is_check ws ps ≡ (check_told ws ps).ok
    unfolding is_check
    is = rw ok refl

    pub fill_no_progress : None ≡ progress_told (bench_read ws) ps → {text old : List ℕ} → TellsFill ws ps text old (negsuc 8) 0 ws ps old
    fill_no_progress none = TellsFill.no_check (is ∙ told_none (check_told ws ps).ok (check_told ws ps).check none) refuses

    pub fill_rows : {c : Check} → Some c ≡ progress_told (bench_read ws) ps → {text old : List ℕ} {answer : ℤ} {len : ℕ}
        {ws' ps' : List ℤ} {new : List ℕ} → Hands c text old answer len ws' ps' new → TellsFill ws ps text old answer len ws' ps' new
    fill_rows told {text} {old} {answer} {len} {ws'} {ps'} {new} rows =
        let t = told_some (check_told ws ps).ok (check_told ws ps).check told in
        TellsFill.check (is ∙ t.0) (subst (λ (k : Check). Hands k text old answer len ws' ps' new) t.1 rows)

module _ {ws ps : List ℤ} {text old : List ℕ} {answer : ℤ} {len : ℕ} {ws' ps' : List ℤ} {new : List ℕ} where
  pub rows_told : is_check ws ps ≡ true → TellsFill ws ps text old answer len ws' ps' new
      → Hands (check_told ws ps).check text old answer len ws' ps' new
  rows_told ok (TellsFill.check _ rows) = rows
  rows_told ok (TellsFill.no_check bad _) = absurd (true≢false (sym ok ∙ bad))

  pub refused_told : is_check ws ps ≡ false → TellsFill ws ps text old answer len ws' ps' new → Refuses ws ps old answer len ws' ps' new
  refused_told bad (TellsFill.check ok _) = absurd (true≢false (sym ok ∙ bad))
  refused_told bad (TellsFill.no_check _ refused) = refused
