-- `end_of_line` is right because the line is what stands before the first LF.
use Rattle.std.proofs.Common.{◌∙◌, ap, rules, arith, eqb, ◌+◌, ℕ, length, drop, length-drop}
use Rattle.std.proofs.lemmas.Iterator.{YieldsList-from_slice}
use Rattle.std.proofs.lemmas.Iterator.Search.{position_from_yields_List}
use Rattle.std.proofs.lemmas.List.{take_rest}
use borrow.Author.Tests.{tests}
use Rattle.words.specs.laws.FirstLine.{first_short, first_lf, place_or_end}
use Rattle.words.proofs.text.end_of_line.Goals as goal

pub returns-then-text-from : goal.returns-then-text-from
returns-then-text-from c =
    let a = c.args in
    omega (arith, first_short (drop a.from a.text.now), length-drop a.from a.text.now)

pub returns : goal.returns
returns c =
    let a = c.args in
    let s = drop a.from a.text.now in
    let chain = YieldsList-from_slice s (rw (take_rest a.text.now a.from) at c.iter.ensures.rest) in
    let place = position_from_yields_List (λ b. eqb b 10) _ _ c.position.result c.position.ensures.ran chain (λ x b q k. search
    (rules, tests)) in
    let found = rw (take_rest a.text.now a.from) at c.unwrap_or.ensures in
    ap (λ (n : ℕ). a.from + n) (found ∙ rw (place, first_lf s) (place_or_end _ (length s) (first_short s)))
