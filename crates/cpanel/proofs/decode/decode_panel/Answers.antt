-- `decode_panel` is right because its test passes exactly where the words are those of what they tell.
use Rattle.std.proofs.Common.{rules, sym, ap, ◌∙◌, w64, SFits, to_z-of_z}
use Rattle.encoding.specs.Words.{at}
use Rattle.cpanel.specs.Words.{panel_of}
use Rattle.cpanel.specs.laws.Words.{panel_missing, panel_wrong, panel_decoded}
use Rattle.cpanel.proofs.decode.decode_panel.Goals as goal

pub returns-in_default : goal.returns-in_default
returns-in_default c =
    let held : SFits w64 (at c.args.words 9) = search rules in
    panel_missing c.args.m c.args.words (search rules) held (rw c.first_nine.ensures at c.in_default.ensures)

pub returns-then-not-panel_right : goal.returns-then-not-panel_right
returns-then-not-panel_right c =
    let held : SFits w64 (at c.args.words 9) = search rules in
    panel_wrong c.args.m c.args.words (search rules) held (rw c.first_nine.ensures at c.in-Some.ensures)
    (c.panel_of-check.ensures ∙ ap (panel_of _) (simp to_z-of_z at c.count.ensures))
    (sym (simp to_z-of_z at c.panel_right.ensures) ∙ c.if-not-panel_right.true)

pub returns : goal.returns
returns c =
    let held : SFits w64 (at c.args.words 9) = search rules in
    panel_decoded c.args.m c.args.words (search rules) held (rw c.first_nine.ensures at c.in-Some.ensures)
    (c.panel_of-check.ensures ∙ ap (panel_of _) (simp to_z-of_z at c.count.ensures))
    (sym (simp to_z-of_z at c.panel_right.ensures) ∙ c.if-not-panel_right.false)
