-- `encode_known` is right because it lays the two words in the definition's order.
use borrow.Author.Rules.{rules}
use mir.Syntax.{w64}
use mir.Val.{SFits}
use mir.Facts.{to_z-of_z}
use Rattle.progress.specs.Known.{encode_known}
use Rattle.progress.proofs.known.encode_known.Statement.{statement}
use Rattle.progress.proofs.known.encode_known.Tie as tie

known_of-known-requires : tie.Need-known_of-known-requires
known_of-known-requires c κs = search rules

returns : tie.Need-returns
unfolding encode_known
returns c =
    let m : SFits w64 c.before.known_of-known.result.motion = search rules in
    let f : SFits w64 c.before.known_of-known.result.feed = search rules in
    simp to_z-of_z (simp c.before.known_of-known.ensures)

pub encode_known_spec : {M : Type 1} → statement M
encode_known_spec = tie.close (tie.spec known_of-known-requires returns)
