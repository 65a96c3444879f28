-- `encode_progress` is right because it lays the words of how far the check has come.
use borrow.Author.Rules.{rules}
use Rattle.progress.specs.Progress.{encode_progress}
use Rattle.progress.proofs.progress.encode_progress.Statement.{statement}
use Rattle.progress.proofs.progress.encode_progress.Tie as tie

progress_of-requires : tie.Need-progress_of-requires
progress_of-requires c κs = search rules

in_order-requires : tie.Need-in_order-requires
in_order-requires c κs = search rules

returns : tie.Need-returns
unfolding encode_progress
returns c = simp (c.in_order.ensures, c.progress_of.ensures)

pub encode_progress_spec : {M : Type 1} → statement M
encode_progress_spec = tie.close (tie.spec progress_of-requires in_order-requires returns)
