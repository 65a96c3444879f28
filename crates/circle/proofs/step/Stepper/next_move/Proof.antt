-- `next_move` is right because its tests are those of the definition.
use Prim.Native.Nat.{◌+◌, ◌*◌}
use native.Mathlib.Omega.{arith}
use borrow.Author.Tests.{lt-ltb, le-ltb, le-leb, lt-leb}
use Rattle.circle.specs.computed.Stepper.{bias, move_of}
use Rattle.circle.proofs.laws.Stepper.{entered_bounds}
use Rattle.circle.proofs.step.Stepper.next_move.Statement.{statement}
use Rattle.circle.proofs.step.Stepper.next_move.Tie as tie

overflow_mul-self : tie.Need-overflow_mul-self
overflow_mul-self c = let b = entered_bounds c.requires in omega arith

overflow_add-self : tie.Need-overflow_add-self
overflow_add-self c = let b = entered_bounds c.requires in omega arith

overflow_add-self-then-self : tie.Need-overflow_add-self-then-self
overflow_add-self-then-self c = let b = entered_bounds c.requires in omega arith

overflow_add-self-then-self-2 : tie.Need-overflow_add-self-then-self-2
overflow_add-self-then-self-2 c = let b = entered_bounds c.requires in omega arith

returns-then-self-2 : tie.Need-returns-then-self-2
unfolding move_of
returns-then-self-2 c =
    let s = c.args.self in
    rw (lt-ltb s.across s.along (omega arith), lt-ltb (s.excess + 2 * s.across + 1) (bias + s.along) (omega arith))

returns-then-self : tie.Need-returns-then-self
unfolding move_of
returns-then-self c =
    let s = c.args.self in
    rw (lt-ltb s.across s.along (omega arith), le-ltb (s.excess + 2 * s.across + 1) (bias + s.along) (omega arith))

overflow_mul-self-2 : tie.Need-overflow_mul-self-2
overflow_mul-self-2 c = let b = entered_bounds c.requires in omega arith

overflow_add-self-2 : tie.Need-overflow_add-self-2
overflow_add-self-2 c = let b = entered_bounds c.requires in omega arith

overflow_add-self-3 : tie.Need-overflow_add-self-3
overflow_add-self-3 c = let b = entered_bounds c.requires in omega arith

overflow_add-self-4 : tie.Need-overflow_add-self-4
overflow_add-self-4 c = let b = entered_bounds c.requires in omega arith

returns-then-self-3 : tie.Need-returns-then-self-3
unfolding move_of
returns-then-self-3 c =
    let s = c.args.self in
    rw (le-ltb s.across s.along (omega arith), le-leb (bias + 2 * s.along) (s.excess + s.across + 1) (omega arith))

returns : tie.Need-returns
unfolding move_of
returns c =
    let s = c.args.self in
    rw (le-ltb s.across s.along (omega arith), lt-leb (bias + 2 * s.along) (s.excess + s.across + 1) (omega arith))

pub next_move_spec : {M : Type 1} → statement M
next_move_spec = tie.close (tie.spec overflow_mul-self overflow_add-self overflow_add-self-then-self overflow_add-self-then-self-2
    returns-then-self-2 returns-then-self overflow_mul-self-2 overflow_add-self-2 overflow_add-self-3 overflow_add-self-4
    returns-then-self-3 returns)
