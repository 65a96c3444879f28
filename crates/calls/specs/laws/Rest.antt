-- A tick on the words of a machine at rest leaves them as they are.
use Rattle.std.specs.Prelude.{◌≡◌, refl, Bool, true, false, ◌||◌, List, ℤ, pos}
use Rattle.std.proofs.Math.Path.{sym, ap}
use Rattle.std.proofs.Common.{◌∙◌}
use Rattle.work.specs.Work.{is_nothing}
use Rattle.bench.specs.declared.Bench.{Bench}
use Rattle.machine.specs.laws.Rest.{tick_rests}
use Rattle.record.specs.computed.Words.{bench_in, machine_in, sound_words}
use Rattle.record.specs.laws.Write.{told_sound}
use Rattle.calls.specs.Calls.{WordCall}
use Rattle.calls.specs.computed.Calls.{tells, told_tick, call_of, told_of}
use Rattle.calls.specs.laws.Told.{told_call}
use Rattle.calls.specs.laws.Load.{own_words}

module _ (ws : List ℤ) (t : sound_words ws ≡ true) {k : Bench} (is : k ≡ bench_in ws) where
  rest_told : k.held || is_nothing k.work ≡ true → tells (pos 0) ws ≡ told_of ws WordCall.tick
  unfolding call_of machine_in
  rest_told still =
      ap (tells (pos 0)) (sym (own_words ws t))
      ∙ sym (ap (told_tick ws) (tick_rests (machine_in ws) (told_sound ws t) (rw is at still)))
      ∙ told_call ws t WordCall.tick

  pub held_told : k.held ≡ true → tells (pos 0) ws ≡ told_of ws WordCall.tick
  held_told e = rest_told (rw e refl)

  pub idle_told : is_nothing k.work ≡ true → tells (pos 0) ws ≡ told_of ws WordCall.tick
  idle_told e = rest_told (rw e (by k.held))
    where
      by : (held : Bool) → held || true ≡ true
      by true = refl
      by false = refl
