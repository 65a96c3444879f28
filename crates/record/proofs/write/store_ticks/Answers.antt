-- `store_ticks` is right because each kind of work changes its own words, and where nothing is in work the next block comes.
use Rattle.std.proofs.Common.{ap}
use Rattle.work.specs.Work.{is_nothing}
use Rattle.encoding.specs.laws.Number.{word_fits, through}
use Rattle.record.specs.laws.Write.{bringing, idle_words, line_words, arc_words}
use Rattle.record.proofs.write.store_ticks.Goals as goal

pub bring_in-requires : goal.bring_in-requires
bring_in-requires c =
    rw (c.set_place.ensures, through (word_fits _) c.word.ensures)
    (bringing c.args.words.now c.args.k c.args.left c.requires (ap is_nothing c.in-Nothing.is))

pub returns-in-Nothing : goal.returns-in-Nothing
returns-in-Nothing c =
    simp (c.bring_in.ensures, c.set_place.ensures, through (word_fits _) c.word.ensures)
    (idle_words c.args.words.now c.args.k c.args.left c.requires (ap is_nothing c.in-Nothing.is))

pub returns-in-Line : goal.returns-in-Line
returns-in-Line c =
    simp (c.set_done.ensures, c.set_place.ensures, through (word_fits _) c.word.ensures)
    (line_words c.args.words.now c.args.k c.args.left c.requires _ c.in-Line.is)

pub returns-in-Arc : goal.returns-in-Arc
returns-in-Arc c =
    simp (c.set_place.ensures, through (word_fits _) c.word.ensures)
    (arc_words c.args.words.now c.args.k c.args.left c.requires _ c.in-Arc.is)
