-- `decode_known` is right because its tests pass exactly where the words are those of what they tell.
use Rattle.std.proofs.Common.{rules, refl, sym, ◌∙◌, get_or, pos, w64, SFits, to_z-of_z}
use Rattle.progress.specs.computed.Known.{decode_known}
use Rattle.progress.specs.laws.Right.{known_same}
use Rattle.progress.proofs.known.decode_known.Goals as goal

pub returns-then-not-known_right : goal.returns-then-not-known_right
unfolding decode_known
returns-then-not-known_right c =
    let m : SFits w64 (get_or c.args.words.now 0 (pos 0)) = search rules in
    let f : SFits w64 (get_or c.args.words.now 1 (pos 0)) = search rules in
    let ok = (simp to_z-of_z at c.known_right.ensures) ∙ known_same c.args.words.now (search rules) in
    rw (sym ok ∙ c.if-not-known_right.true) refl

pub returns : goal.returns
unfolding decode_known
returns c =
    let m : SFits w64 (get_or c.args.words.now 0 (pos 0)) = search rules in
    let f : SFits w64 (get_or c.args.words.now 1 (pos 0)) = search rules in
    let ok = (simp to_z-of_z at c.known_right.ensures) ∙ known_same c.args.words.now (search rules) in
    let k = simp to_z-of_z at c.reader_of.ensures in
    rw (sym ok ∙ c.if-not-known_right.false, k) refl
