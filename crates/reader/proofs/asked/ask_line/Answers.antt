-- `ask_line` is right because a line without an LF is its own first line, and with one it is no line of words.
use mathlib.Core.Path.{ap, ◌∙◌}
use mathlib.Core.List.{List}
use Prim.Native.Nat.{ℕ}
use native.Mathlib.Omega.{arith}
use lib.ListN.{length}
use Rattle.words.specs.computed.Meaning.{meaning_of}
use Rattle.words.specs.laws.Scanning.{first_whole}
use Rattle.reader.specs.computed.Asked.{asked_of}
use Rattle.reader.specs.laws.Asked.{asked_broken}
use Rattle.reader.proofs.asked.ask_line.Goals as goal

pub returns-then-first-line : goal.returns-then-first-line
returns-then-first-line c =
    let a = c.args in
    c.refused.ensures
    ∙ rw c.broken_no.ensures (asked_broken a.scale a.k a.place a.line.now (omega (arith, c.ask_first-first.ensures.bytes_value)))

pub returns : goal.returns
returns c =
    let a = c.args in
    let same = first_whole a.line.now (omega (arith, c.ask_first-first.ensures.bytes_value)) in
    c.ask_first-first.ensures.asked_value ∙ ap (λ (line : List ℕ). asked_of a.scale a.k a.place (length line) (meaning_of line)) same
