-- A block in work: the bytes of its first ticks are the first of its run, and so they lead to the record after these ticks.
use Rattle.std.specs.Prelude.{◌≡◌, List, ℕ, ◌≤◌, min, length, take}
use Rattle.std.proofs.Common.{sym, ap, subst, ◌∙◌, arith}
use Rattle.std.proofs.Math.Seq.{take-length}
use Rattle.bench.specs.declared.Bench.{Bench}
use Rattle.bench.specs.declared.Ran.{Ran}
use Rattle.bench.specs.computed.Run.{Run, run_of}
use Rattle.bench.specs.laws.Run.{ticks_are}
use Rattle.finish.specs.computed.Finish.{finish_of}
use Rattle.finish.specs.laws.Record.{AtWork, ticks_most}
use Rattle.finish.specs.laws.Run.{finish_is_run}
use Rattle.ahead.specs.computed.Ahead.{ticking_of}
use Rattle.ahead.specs.laws.Sums.{Leads, ticking_leads}
use Rattle.ahead.specs.laws.Ticks.{left_by, ticks_of, ticking_works, ticking_bytes}
use Rattle.job.specs.computed.Check.{enough}
use Rattle.stream.specs.laws.Pieces.{runs}

module _ (m : Bench) (a : AtWork m) where
  abbrev run : Run
  run = run_of m enough enough

  -- n of its ticks
  pub first_lead : (n : ℕ) → n ≤ length run.bytes → Leads m.at (take n run.bytes) (ticking_of n m).bench.at
  first_lead n few =
      let is = runs m a enough enough in
      let bytes = ticking_bytes n (min enough enough) m a (subst (λ (r : Run). n ≤ length r.bytes) is few) in
      subst (λ (r : Run). Leads m.at (take n r.bytes) (ticking_of n m).bench.at) (sym is)
      (subst (λ (l : List ℕ). Leads m.at l (ticking_of n m).bench.at) bytes (ticking_leads n m a.sound))

  -- all of them leave the record that the run leaves
  all_left : (ticking_of (length run.bytes) m).bench ≡ run.ran.bench
  all_left =
      let t = length run.bytes in
      let whole = finish_is_run m a enough enough (ticks_most m) (ticks_most m) in
      let long : (finish_of m).ticks ≡ t = sym (ap (λ (r : Ran). r.ticks) whole) ∙ ticks_are m enough enough in
      let just = finish_is_run m a t t (omega (arith, long)) (omega (arith, long)) in
      let same : min t t ≡ t = omega arith in
      ticking_works t m a ∙ sym (ap (λ (k : ℕ). left_by m (ticks_of m k)) same) ∙ sym (ap (λ (r : Run). r.ran.bench) (runs m a t t))
      ∙ ap (λ (r : Ran). r.bench) just ∙ sym (ap (λ (r : Ran). r.bench) whole)

  pub all_lead : Leads m.at run.bytes run.ran.bench.at
  all_lead =
      let t = length run.bytes in
      subst (λ (k : Bench). Leads m.at run.bytes k.at) all_left
      (subst (λ (l : List ℕ). Leads m.at l (ticking_of t m).bench.at) (take-length run.bytes) (first_lead t (omega arith)))
