-- A record that is not sound is refused, and any other runs.
use Rattle.std.proofs.Common.{sym, ◌∙◌}
use Rattle.bench.specs.laws.Run.{run_refused}
use Rattle.bench.proofs.Bench.run.Goals as goal

pub returns-then-not-sound : goal.returns-then-not-sound
returns-then-not-sound c =
    let r = run_refused _ _ _ (sym c.sound.ensures ∙ c.if-not-sound.true) in
    rw c.without_tick.ensures (record { value = r.0; out_after = r.1 })
