-- `every_whole_feed` is right because the unit does not show in the divider, and so neither in the book nor in a listing.
use Rattle.demands.proofs.laws.Before.{every_whole_feed}
use Rattle.demands.proofs.every_whole_feed.Statement.{statement}
use Rattle.demands.proofs.every_whole_feed.Tie as tie

returns : tie.Need-returns
returns c = every_whole_feed

pub every_whole_feed_spec : {M : Type 1} → statement M
every_whole_feed_spec = tie.close (tie.spec returns)
