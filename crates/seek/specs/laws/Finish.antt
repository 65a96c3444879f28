-- A run to the end of any sound record is what finishing it gives, in ticks and in the record left.
use Rattle.std.specs.Prelude.{◌≡◌, refl, Bool, true, false, ℕ, ◌+◌, ◌-◌, ltb}
use Rattle.std.proofs.Common.{sym, ap, subst, ◌∙◌}
use Rattle.work.specs.declared.Work.{Work}
use Rattle.work.specs.declared.rest.Left.{Left}
use Rattle.work.specs.Work.{is_nothing}
use Rattle.work.specs.computed.Rest.{Countable, left_of}
use Rattle.run.specs.laws.Skip.{skip_counts}
use Rattle.ahead.specs.computed.Ahead.{ticking_of}
use Rattle.ahead.specs.laws.Ticks.{ticking_sound}
use Rattle.bench.specs.declared.Bench.{Bench}
use Rattle.bench.specs.declared.Ran.{Ran}
use Rattle.bench.specs.computed.Bench.{sound_of}
use Rattle.bench.specs.computed.Run.{run_of}
use Rattle.bench.specs.laws.Sound.{sound, running}
use Rattle.bench.specs.laws.Run.{ticks_are}
use Rattle.finish.specs.declared.Finished.{Finished}
use Rattle.finish.specs.computed.Finish.{works_of, finish_of}
use Rattle.finish.specs.laws.Record.{works, ticks_most}
use Rattle.finish.specs.laws.Run.{finish_is_run}
use Rattle.reader.specs.declared.Reader.{Reader}
use Rattle.job.specs.computed.Check.{enough}
use Rattle.stream.specs.laws.Pieces.{still}
use Rattle.seek.specs.declared.Found.{Found}
use Rattle.seek.specs.declared.Search.{Search}
use Rattle.seek.specs.computed.Seek.{answer}
use Rattle.seek.specs.computed.Search.{block_with, block_of}

pub record EndsBlock (m : Bench) : Type 0 where
  pub ticks : (run_of m enough enough).ran.ticks ≡ (finish_of m).ticks
  pub bench : (run_of m enough enough).ran.bench ≡ (finish_of m).bench

-- held or idle neither does a tick
resting : (m : Bench) → works_of m ≡ false → EndsBlock m
unfolding finish_of
resting m rests =
    let s = still m rests enough enough in
    record { ticks = ticks_are m enough enough ∙ rw (s.0, rests); bench = rw (s.1, rests) }

pub run_ends : (m : Bench) → EndsBlock m
run_ends m = by (works_of m) refl
  where
    by : (b : Bool) → works_of m ≡ b → EndsBlock m
    by true e =
        let is = finish_is_run m (works e) enough enough (ticks_most m) (ticks_most m) in
        record { ticks = ap (λ (r : Ran). r.ticks) is; bench = ap (λ (r : Ran). r.bench) is }
    by false e = resting m e

sound_counts : (m : Bench) → sound_of m ≡ true → Countable m.at m.work
sound_counts m e = by m.work (λ busy. skip_counts (running (sound e) busy))
  where
    by : (w : Work) → (is_nothing w ≡ false → Countable m.at w) → Countable m.at w
    by Work.Nothing busy = tt
    by (Work.Line l) busy = busy refl
    by (Work.Arc a) busy = busy refl

-- a block of a search, finished
module _ (s : Search) (k : Reader) (m : Bench) {f : Finished} (is : f ≡ finish_of m) where
  block_ends : block_of s k m ≡ block_with s k m f.ticks f.bench
  unfolding block_of
  block_ends = rw (is, (run_ends m).ticks, (run_ends m).bench)

  abbrev n : ℕ
  n = s.sought.ticks

  -- the record after n ticks tells the cycles left
  pub then_counts : sound_of m ≡ true → {then : Bench} → then ≡ (ticking_of n m).bench → Countable then.at then.work
  then_counts e {then} here =
      sound_counts then (subst (λ (k : Bench). sound_of k ≡ true) (sym here) (ticking_sound n m e))

  pub block_here : ltb n f.ticks ≡ true → {then : Bench} → then ≡ (ticking_of n m).bench
      → {left : Left} → left ≡ left_of then.at then.work
      → record {
        decided = ltb n f.ticks;
        reader = k;
        sought =
            record {
              found = Found.InWork;
              block = s.sought.block + 1;
              line = s.sought.line + 1;
              ticks = n;
              left = left.cycles;
              bench = then;
            };
      } ≡ block_of s k m
  block_here more here left = rw (block_ends, more, left, here)

  pub block_on : ltb n f.ticks ≡ false
      → record {
        decided = ltb n f.ticks;
        reader = k;
        sought = answer Found.Over (s.sought.block + 1) (s.sought.line + 1) (n - f.ticks) f.bench;
      } ≡ block_of s k m
  block_on all = rw (block_ends, all)
