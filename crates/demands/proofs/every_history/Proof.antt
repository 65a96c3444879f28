-- `every_history` is right because each call follows the book, and the book has what demand 3 asks.
use Rattle.history.proofs.laws.Claim.{every_history}
use Rattle.demands.proofs.every_history.Statement.{statement}
use Rattle.demands.proofs.every_history.Tie as tie

returns : tie.Need-returns
returns c = every_history

pub every_history_spec : {M : Type 1} → statement M
every_history_spec = tie.close (tie.spec returns)
