-- `every_list` is right because each call's contract is an equation, which its definition meets.
use Rattle.history.proofs.laws.Claim.{every_list}
use Rattle.demands.proofs.every_list.Statement.{statement}
use Rattle.demands.proofs.every_list.Tie as tie

returns : tie.Need-returns
returns c = every_list

pub every_list_spec : {M : Type 1} → statement M
every_list_spec = tie.close (tie.spec returns)
