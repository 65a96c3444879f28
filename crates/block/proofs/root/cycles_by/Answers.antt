-- q is a line's cycles, and an arc is counted by those of a quarter turn.
use Rattle.std.proofs.Common.{sym, ap, subst, ◌∙◌}
use Rattle.block.specs.Block.{arc_of, cycles_along, block_cycles}
use Rattle.block.specs.Chain.{root_along, root_of}
use Rattle.block.proofs.laws.Accepted.{Ready, path_ready}
use Rattle.block.proofs.root.cycles_by.Goals as goal

pub arc_of-requires : goal.arc_of-requires
arc_of-requires c = let r = subst (Ready c.args.start c.args.b) c.in-Arc.is (path_ready c.requires.0) in (r.0, r.1)

pub cycles-requires : goal.cycles-requires
unfolding root_of arc_of
cycles-requires c =
    let is = c.in-Arc.is in
    let on = (subst (Ready c.args.start c.args.b) is (path_ready c.requires.0)).2 in
    rw c.arc_of.ensures (on, c.requires.1 ∙ ap (root_along c.args.start c.args.b) is)

pub returns-in-Line : goal.returns-in-Line
unfolding root_of block_cycles
returns-in-Line c =
    let is = c.in-Line.is in
    c.requires.1 ∙ ap (root_along c.args.start c.args.b) is ∙ sym (ap (cycles_along c.args.start c.args.b) is)

pub returns-in-Arc : goal.returns-in-Arc
unfolding block_cycles
returns-in-Arc c = c.cycles.ensures ∙ simp (c.in-Arc.is, c.arc_of.ensures)
