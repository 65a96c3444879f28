-- The claims, put together.
use Rattle.std.specs.Prelude.{refl, length}
use Rattle.std.proofs.Common.{sym, ◌∙◌}
use denote.Ref.{at_last}
use Rattle.run.specs.computed.Run.{written}
use Rattle.machine.specs.computed.Calls.{make_of, load_of, tick_of, hold_of, release_of, stop_of}
use Rattle.machine.specs.computed.Run.{run_of}
use Rattle.look.specs.computed.Look.{ahead_of}
use Rattle.words.specs.computed.Meaning.{meaning_of}
use Rattle.words.specs.laws.Meaning.{meaning_means}
use Rattle.textline.specs.computed.TextLine.{read_line_of}
use Rattle.demands.specs.Answers.{Comes, EveryAnswer}
use Rattle.demands.specs.Records.{EveryRecord}
use Rattle.demands.proofs.laws.Sound.{sound_is}
use Rattle.demands.proofs.laws.Answers.{make_answers, load_answers, tick_answers, run_answers}
use Rattle.demands.proofs.laws.Answers.{hold_answers, release_answers, stop_answers, look_answers}
use Rattle.demands.proofs.laws.TextLine.{line_answers}

comes : Comes
comes =
    record {
      make = λ s. (make_of s, refl);
      load = λ m b. (load_of m b, refl);
      tick = λ m. (tick_of m, refl);
      run = λ κs m budget out.
          let k = run_of m budget (length out.now) in
          (at_last out (written k.bytes out.now), k.ran, (refl, refl));
      hold = λ m. (hold_of m, refl);
      release = λ m. (release_of m, refl);
      stop = λ m. (stop_of m, refl);
      look = λ m ticks. (ahead_of m ticks, refl);
      line = λ κs k m bytes. (read_line_of k m bytes.now, refl);
      means = λ bytes. (meaning_of bytes, meaning_means bytes);
    }

pub every_answer : EveryAnswer
every_answer =
    record {
      comes = comes;
      make = make_answers;
      load = load_answers;
      tick = tick_answers;
      run = λ κs m budget out out' r h. run_answers m κs budget out out' r h;
      hold = hold_answers;
      release = release_answers;
      stop = stop_answers;
      look = look_answers;
      line = line_answers;
    }

pub every_record : EveryRecord
every_record =
    record {
      answers = λ m r e. (λ t. (sound_is m).0 (sym e ∙ t), λ s. e ∙ (sound_is m).1 s);
      passes = λ m. (λ p. (sound_is m).0 (sym p), λ s. sym ((sound_is m).1 s));
    }
