-- `every_figure` is right because every call leaves a sound record sound, and soundness asks for the figure.
use Rattle.history.proofs.laws.Figure.{every_figure}
use Rattle.demands.proofs.every_figure.Statement.{statement}
use Rattle.demands.proofs.every_figure.Tie as tie

returns : tie.Need-returns
returns c = every_figure

pub every_figure_spec : {M : Type 1} → statement M
every_figure_spec = tie.close (tie.spec returns)
