-- `make` is right because it asks the questions of the settings, and answers the fresh machine of those that pass, else of the standard
-- ones.
use Rattle.std.proofs.Common.{sym, ◌∙◌}
use Rattle.machine.specs.computed.Calls.{make_of}
use Rattle.machine.proofs.Machine.make.Goals as goal

pub returns-in-Ok : goal.returns-in-Ok
unfolding make_of
returns-in-Ok c = simp (c.fresh.ensures, sym c.ask_settings.ensures ∙ c.in-Ok.is)

pub returns-in-Err : goal.returns-in-Err
unfolding make_of
returns-in-Err c = simp (c.fresh-in-Err.ensures, c.standard.ensures, sym c.ask_settings.ensures ∙ c.in-Err.is)
