-- `way` is right because its differences are small.
use Rattle.whole.specs.laws.Bounded.{Code, at, ◌⊟◌, exact, subs}
use Rattle.plane.specs.declared.point.Point.{Point}
use Rattle.plane.specs.Point.{Near}
use Rattle.look.proofs.way.Statement.{statement}
use Rattle.look.proofs.way.Tie as tie

abbrev x : (p : Point) → Near 1000000 p → Code
x p h = at p.x 1000000 h.x

abbrev y : (p : Point) → Near 1000000 p → Code
y p h = at p.y 1000000 h.y

overflow_sub-result : tie.Need-overflow_sub-result
overflow_sub-result c = let s = c.before.before.before.before in subs (x s.args.to s.requires.1) (x s.args.from s.requires.0) tt

overflow_sub-result-2 : tie.Need-overflow_sub-result-2
overflow_sub-result-2 c =
    let s = c.before.before.before.before.before.before.before.before in
    subs (y s.args.to s.requires.1) (y s.args.from s.requires.0) tt

returns : tie.Need-returns
returns c =
    let s = c.before.before.before.before.before.before.before.before in
    λ i. record {
      x = exact (x s.args.to s.requires.1 ⊟ x s.args.from s.requires.0) tt i;
      y = exact (y s.args.to s.requires.1 ⊟ y s.args.from s.requires.0) tt i;
    }

pub way_spec : {M : Type 1} → statement M
way_spec = tie.close (tie.spec overflow_sub-result overflow_sub-result-2 returns)
