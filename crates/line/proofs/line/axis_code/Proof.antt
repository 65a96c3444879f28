-- `axis_code` is right because it clocks the axis's own register.
use borrow.Author.Rules.{rules}
use mathlib.Core.Path.{ap, ◌∙◌}
use Prim.Native.Nat.{ℕ}
use native.Mathlib.Omega.{arith}
use Rattle.plane.specs.Pulse.{code_of}
use Rattle.line.specs.declared.register.Clocked.{Clocked}
use Rattle.line.specs.Register.{clock_of, pulses_of}
use Rattle.line.specs.laws.Register.{register_below}
use Rattle.line.proofs.line.axis_code.Statement.{statement}
use Rattle.line.proofs.line.axis_code.Tie as tie

register-requires : tie.Need-register-requires
register-requires c κs = search rules

clock-k-requires : tie.Need-clock-k-requires
clock-k-requires c κs =
    let s = c.before in
    let x = s.requires.0 in
    omega (arith, c.register.ensures, register_below _ _ _ x)

code-requires : tie.Need-code-requires
code-requires c κs = search rules

returns : tie.Need-returns
unfolding pulses_of
returns c =
    let s = c.before.before.before in
    let k = c.before in
    c.code.ensures
    ∙ ap (λ (t : Clocked). code_of t.pulse s.args.way.negative) k.clock-k.ensures
    ∙ ap (λ (r : ℕ). code_of (clock_of s.args.q s.args.way.magnitude r).pulse s.args.way.negative)
    k.register.ensures

pub axis_code_spec : {M : Type 1} → statement M
axis_code_spec = tie.close (tie.spec register-requires clock-k-requires code-requires returns)
