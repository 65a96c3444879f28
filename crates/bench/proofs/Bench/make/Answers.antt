-- `make` is right because it asks questions 1 to 3 and hands back the fresh machine of the settings, or of the standard ones.
use Rattle.std.proofs.Common.{sym, ◌∙◌}
use Rattle.bench.specs.computed.Calls.{make_of}
use Rattle.bench.proofs.Bench.make.Goals as goal

pub returns-in-Ok : goal.returns-in-Ok
unfolding make_of
returns-in-Ok c = simp (c.fresh.ensures, sym c.ask_settings.ensures ∙ c.in-Ok.is)

pub returns-in-Err : goal.returns-in-Err
unfolding make_of
returns-in-Err c = simp (c.fresh-in-Err.ensures, c.standard.ensures, sym c.ask_settings.ensures ∙ c.in-Err.is)
