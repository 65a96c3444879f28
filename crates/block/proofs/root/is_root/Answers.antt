-- Each kind of path is asked its own root, whose square the questions have made small.
use Rattle.std.proofs.Common.{subst, ◌∙◌, ◌≤◌, ◌≡◌, ℕ, arith, true}
use Rattle.circle.specs.declared.plane.Offset.{Offset}
use Rattle.block.specs.Block.{square_of}
use Rattle.block.specs.Questions.{offset_right}
use Rattle.block.specs.Chain.{root_of}
use Rattle.block.proofs.laws.Accepted.{Ready, path_ready}
use Rattle.block.proofs.laws.Begin.{offset_right_lem, square_most}
use Rattle.block.proofs.root.is_root.Goals as goal

small : (o : Offset) {n : ℕ} → n ≡ square_of o → offset_right o ≡ true → n ≤ 2000000000000
small o e right = rw e (square_most o (offset_right_lem o right))

pub takes-requires : goal.takes-requires
takes-requires c = subst (Ready c.args.start c.args.b) c.in-Line.is (path_ready c.requires)

pub square-requires : goal.square-requires
square-requires c = (subst (Ready c.args.start c.args.b) c.in-Arc.is (path_ready c.requires)).1

pub overflow_mul-square : goal.overflow_mul-square
overflow_mul-square c =
    omega (arith, small c.in-Arc.centre c.square.ensures (subst (Ready c.args.start c.args.b) c.in-Arc.is (path_ready c.requires)).1)

pub is_nearest_root-requires : goal.is_nearest_root-requires
is_nearest_root-requires c =
    omega (arith, small c.in-Arc.centre c.square.ensures (subst (Ready c.args.start c.args.b) c.in-Arc.is (path_ready c.requires)).1)

pub returns-in-Line : goal.returns-in-Line
unfolding root_of
returns-in-Line c = simp (c.in-Line.is, c.takes.ensures)

pub returns-in-Arc : goal.returns-in-Arc
unfolding root_of
returns-in-Arc c = c.is_nearest_root.ensures ∙ simp (c.in-Arc.is, c.square.ensures)
