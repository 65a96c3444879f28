-- What the calls do where no question refuses them.
use Rattle.std.specs.Prelude.{◌≡◌, refl, Ok}
use Rattle.std.proofs.Common.{ap, ◌∙◌}
use Rattle.settings.specs.computed.Settings.{ask_settings}
use Rattle.question.specs.laws.Ask.{passed}
use Rattle.bench.specs.Bench.{fresh_of, moved_of}
use Rattle.bench.specs.computed.Calls.{ticks as bench_ticks, tick_of as bench_tick}
use Rattle.machine.specs.declared.Machine.{Machine}
use Rattle.machine.specs.computed.Calls.{make_with, make_of, tick_of, hold_of, release_of, stop_of}
use Rattle.machine.specs.Calls.{ticks}
use Rattle.machine.specs.laws.Right.{sound}
use Rattle.machine.specs.laws.Rest.{next_own}
use Rattle.demands.specs.Sound.{Sound}
use Rattle.demands.specs.Calls.{EveryCall}
use Rattle.demands.proofs.laws.Bench.{settings_pass}
use Rattle.demands.proofs.laws.Sound.{sound_is}
use Rattle.demands.proofs.laws.TextLine.{line_taken}
use Rattle.demands.proofs.laws.Arcs.{idle_rest, held_rest}

-- a machine whose bench stays, stays
rests : (m : Machine) → Sound m → bench_tick m.bench ≡ bench_ticks (Ok 0) m.bench → tick_of m ≡ ticks (Ok 0) m
unfolding tick_of
rests m s still = let e = (sound_is m).1 s in rw (e, still, next_own m (sound m e)) refl

pub every_call : EveryCall
unfolding make_of fresh_of hold_of release_of stop_of moved_of
every_call =
    record {
      make = λ s r e pass. e ∙ ap (make_with s) (passed (ask_settings s) ((settings_pass s).1 pass));
      hold = λ m r e s. rw ((sound_is m).1 s) at e;
      release = λ m r e s. rw ((sound_is m).1 s) at e;
      stop = λ m r e s. rw ((sound_is m).1 s) at e;
      idle = λ m r e s none. e ∙ rests m s (idle_rest m.bench s.bench none);
      held = λ m r e s mark. e ∙ rests m s (held_rest m.bench s.bench mark);
      line = line_taken;
    }
