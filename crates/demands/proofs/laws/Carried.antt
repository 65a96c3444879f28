-- Words and the sound records that they carry tell each other, and so it is again after every call.
use Rattle.std.specs.Prelude.{◌≡◌, true, false, List, ◌++◌, ℕ, ℤ, length, drop}
use Rattle.std.proofs.Common.{sym, ap, subst, ◌∙◌, take-append-drop}
use Rattle.std.proofs.Math.Seq.{take-append_seam}
use Rattle.whole.specs.laws.Test.{refuted}
use Rattle.bench.specs.computed.Run.{run_of as bench_run}
use Rattle.machine.specs.declared.Machine.{Machine}
use Rattle.machine.specs.computed.Machine.{sound_of}
use Rattle.machine.specs.computed.Run.{run_of}
use Rattle.machine.specs.laws.Right.{sound}
use Rattle.record.specs.Words.{encode_of, over}
use Rattle.record.specs.computed.Words.{machine_in, sound_words}
use Rattle.record.specs.laws.Write.{told_sound}
use Rattle.record.specs.laws.Again.{Blanks, told_blanks, next_blanks, told_again, sound_again}
use Rattle.calls.specs.laws.Load.{own_words}
use Rattle.demands.specs.FromC.{Carries, NoRecord}
use Rattle.demands.proofs.laws.Sound.{sound_is}

-- ---- words and records

module _ (ws : List ℤ) (m : Machine) (c : Carries ws m) where
  pub carries_own : over (encode_of m) ws ≡ ws
  carries_own =
      ap (λ (l : List ℤ). l ++ drop (length (encode_of m)) ws) (sym c.words) ∙ take-append-drop (length (encode_of m)) ws

  pub carries_sound : sound_words ws ≡ true
  carries_sound = ap sound_words (sym carries_own) ∙ sound_again m ((sound_is m).1 c.sound) c.blank ws

  pub carries_it : machine_in ws ≡ m
  carries_it = ap machine_in (sym carries_own) ∙ told_again m ((sound_is m).1 c.sound) c.blank ws

-- words over which those of a sound record were laid
pub carried : (m : Machine) → sound_of m ≡ true → Blanks m.queue → (ws : List ℤ) → Carries (over (encode_of m) ws) m
carried m e rest ws =
    record { sound = (sound_is m).0 e; words = take-append_seam (encode_of m) (drop (length (encode_of m)) ws); blank = rest }

pub carries_told : (ws : List ℤ) → sound_words ws ≡ true → Carries ws (machine_in ws)
carries_told ws t =
    subst (λ (l : List ℤ). Carries l (machine_in ws)) (own_words ws t) (carried (machine_in ws) (told_sound ws t) (told_blanks ws t) ws)

-- words that no sound record has
pub unsound_words : (ws : List ℤ) → NoRecord ws → sound_words ws ≡ false
unsound_words ws none = refuted (sound_words ws) (λ t. none (machine_in ws) (carries_told ws t))

-- ---- places in which none waits stay blank

module _ (m : Machine) (e : sound_of m ≡ true) (rest : Blanks m.queue) where
  pub run_blanks : (budget buffer : ℕ) → Blanks (run_of m budget buffer).ran.machine.queue
  unfolding run_of
  run_blanks budget buffer =
      let q = (sound m e).right.queue in
      rw e (next_blanks (bench_run m.bench budget buffer).ran.bench m.queue q.sixteen q.most rest)
