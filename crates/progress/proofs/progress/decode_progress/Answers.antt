-- `decode_progress` is right because its tests pass exactly where the words are those of the check that they tell.
use Rattle.std.proofs.Common.{rules, refl, sym, ap, subst, ◌∙◌, w64, SFits}
use Rattle.progress.specs.Progress.{check_in}
use Rattle.progress.specs.computed.Progress.{decode_progress}
use Rattle.progress.specs.computed.Right.{progress_right}
use Rattle.progress.specs.laws.Right.{Fits, progress_same}
use Rattle.progress.proofs.progress.decode_progress.Goals as goal

pub returns-then-not-progress_right : goal.returns-then-not-progress_right
unfolding check_in decode_progress
returns-then-not-progress_right c =
    let i = c.progress_in-p in
    let a : SFits w64 i.result.at = search rules in
    let l : SFits w64 i.result.lines = search rules in
    let b : SFits w64 i.result.blocks = search rules in
    let k : SFits w64 i.result.cycles = search rules in
    let t : SFits w64 i.result.ticks.low = search rules in
    let fits = subst Fits i.ensures (record { at = a; lines = l; blocks = b; cycles = k; ticks = t }) in
    let ok = c.progress_right.ensures ∙ ap progress_right i.ensures ∙ progress_same c.args.m c.args.words (search rules) fits in
    rw (sym ok ∙ c.if-not-progress_right.true) refl

pub returns : goal.returns
unfolding check_in decode_progress
returns c =
    let i = c.progress_in-p in
    let a : SFits w64 i.result.at = search rules in
    let l : SFits w64 i.result.lines = search rules in
    let b : SFits w64 i.result.blocks = search rules in
    let k : SFits w64 i.result.cycles = search rules in
    let t : SFits w64 i.result.ticks.low = search rules in
    let fits = subst Fits i.ensures (record { at = a; lines = l; blocks = b; cycles = k; ticks = t }) in
    let ok = c.progress_right.ensures ∙ ap progress_right i.ensures ∙ progress_same c.args.m c.args.words (search rules) fits in
    rw (sym ok ∙ c.if-not-progress_right.false, c.check_of.ensures, i.ensures) refl
