-- `next_line` is right because it asks the text's length, whether a line is left, and then what the reader makes of the line.
use Rattle.stream.proofs.Stream.next_line.Goals as goal
use mathlib.Core.Path.{refl, sym, ap, ◌∙◌}
use Prim.Native.Nat.{ℕ, ◌+◌}
use native.Mathlib.Omega.{arith}
use lib.ListN.{drop, length-drop}
use Rattle.words.specs.laws.FirstLine.{first_short}
use Rattle.job.specs.laws.Text.{slice_rest}
use Rattle.stream.specs.laws.Line.{next_long, next_none, next_refused, next_read}

pub returns-then-text-gt-LONGEST_TEXT : goal.returns-then-text-gt-LONGEST_TEXT
returns-then-text-gt-LONGEST_TEXT c = rw c.ended.ensures (next_long c.args.self c.args.text.now c.requires (omega arith))

pub returns-then-text-self : goal.returns-then-text-self
returns-then-text-self c =
    rw c.ended-then-text-self.ensures (next_none c.args.self c.args.text.now c.requires (omega arith) (omega arith))

pub returns-then-is_refused : goal.returns-then-is_refused
returns-then-is_refused c =
    let s = c.args in
    let read = rw (slice_rest s.text.now s.self.at) at c.read_first-first.ensures.read_value in
    rw c.ended-then-is_refused.ensures
    (next_refused s.self s.text.now c.requires (omega arith) (omega arith) refl read (sym c.is_refused.ensures ∙ c.if-is_refused.true))

pub overflow_add-result : goal.overflow_add-result
overflow_add-result c =
    let s = c.args in
    let bytes = rw (slice_rest s.text.now s.self.at) at c.read_first-first.ensures.bytes_value in
    omega (arith, bytes, first_short (drop s.self.at s.text.now), length-drop s.self.at s.text.now)

pub overflow_add-result-2 : goal.overflow_add-result-2
overflow_add-result-2 c =
    let s = c.args in
    let bytes = rw (slice_rest s.text.now s.self.at) at c.read_first-first.ensures.bytes_value in
    omega (arith, bytes, first_short (drop s.self.at s.text.now), length-drop s.self.at s.text.now)

pub returns : goal.returns
returns c =
    let s = c.args in
    let read = rw (slice_rest s.text.now s.self.at) at c.read_first-first.ensures.read_value in
    let bytes = rw (slice_rest s.text.now s.self.at) at c.read_first-first.ensures.bytes_value in
    next_read s.self s.text.now c.requires (omega arith) (omega arith) (ap (λ (n : ℕ). s.self.at + n) bytes) read
    (sym c.is_refused.ensures ∙ c.if-is_refused.false)
