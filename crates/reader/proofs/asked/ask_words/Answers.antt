-- `ask_words` is right because it asks the questions of the definition, and what the code asks of the words follows from their digits.
use mathlib.Core.Path.{sym, ◌∙◌}
use Rattle.reader.specs.Reader.{reader_after}
use Rattle.reader.specs.computed.Asked.{asked_of}
use Rattle.reader.specs.laws.Asked.{asked_refused}
use Rattle.reader.proofs.asked.ask_words.Goals as goal

pub returns-then-no-ne0 : goal.returns-then-no-ne0
unfolding asked_of
returns-then-no-ne0 c =
    let s = c.args in
    c.refused.ensures
    ∙ asked_refused s.scale s.k (reader_after s.k s.l.words) s.place s.l.words _ c.if-no-ne0.true
    ∙ rw (rw c.reader_after-next.ensures at c.line_no-no.ensures)

pub returns-then-not-moves : goal.returns-then-not-moves
unfolding asked_of
returns-then-not-moves c =
    let number_is = rw c.reader_after-next.ensures at c.line_no-no.ensures in
    rw (sym number_is ∙ c.if-no-ne0.false, sym c.moves.ensures ∙ c.if-not-moves.true, c.reader_after-next.ensures)

pub returns : goal.returns
unfolding asked_of
returns c =
    let number_is = rw c.reader_after-next.ensures at c.line_no-no.ensures in
    rw (sym number_is ∙ c.if-no-ne0.false, sym c.moves.ensures ∙ c.if-not-moves.false)
    (rw (c.block_asked.ensures, c.block_of.ensures, c.reader_after-next.ensures))
