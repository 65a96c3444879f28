use Rattle.std.proofs.Common.{sym, ◌∙◌}
use Rattle.whole.specs.laws.Test.{equal_library}
use Rattle.line.specs.Line.{differ}
use Rattle.block.proofs.laws.Begin.{begins}
use Rattle.block.proofs.questions.ask_path.Goals as goal

-- the arc of an accepted block is one that `ask_arc` can ask about
pub ask_arc-requires : goal.ask_arc-requires
ask_arc-requires c =
    rw c.arc_of.ensures (begins c.args.start c.args.b _ _ c.requires.0 c.requires.1 c.requires.2
    (sym c.offset_right.ensures ∙ c.if-not-offset_right.false))

pub returns-then-eq : goal.returns-then-eq
unfolding differ
returns-then-eq c = simp (c.in-Line.is, ← equal_library, sym c.eq.ensures ∙ c.if-eq.true)
