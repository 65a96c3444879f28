-- `in_line` is right because a line ends where the text does or at its LF.
use Rattle.std.proofs.Common.{arith, sym, ap, ◌∙◌, ltb, length, le-ltb}
use Rattle.words.specs.laws.FirstLine.{byte_of_line, end_after_lem}
use Rattle.words.proofs.text.in_line.Goals as goal

pub returns-then-at-text : goal.returns-then-at-text
returns-then-at-text c = byte_of_line c.args.text.now c.args.at (omega arith)

pub returns-else-at-text : goal.returns-else-at-text
returns-else-at-text c =
    let a = c.args in
    le-ltb a.at (length a.text.now) (omega arith) ∙ sym (ap (ltb 0) (end_after_lem a.text.now a.at (omega arith)))
