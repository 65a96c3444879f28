-- `line` is right because it asks the text's length, whether a line is left, and then what the tally makes of the line.
use native.Mathlib.Omega.{arith}
use Rattle.job.specs.laws.Text.{slice_rest}
use Rattle.job.specs.laws.Step.{step_long, step_total, step_refused, near, step_line}
use Rattle.job.proofs.Check.line.Goals as goal

pub returns-then-text-gt-LONGEST_TEXT : goal.returns-then-text-gt-LONGEST_TEXT
returns-then-text-gt-LONGEST_TEXT c =
    let s = c.args in
    let w = c.refused-refused.ensures in
    rw (c.last.ensures, c.unwrap_or.ensures)
    (step_long s.self s.text.now s.out.now s.place c.requires.0 (omega arith)
    (record { room = c.requires.1; buffer = w.buffer; place = w.place }))

pub returns-then-text-self : goal.returns-then-text-self
returns-then-text-self c =
    let s = c.args in
    let w = c.total-total.ensures in
    rw (c.last-then-text-self.ensures, c.unwrap_or-then-text-self.ensures)
    (step_total s.self s.text.now s.out.now s.place c.requires.0 (omega arith) w.short (omega arith)
    (record { room = c.requires.1; buffer = w.buffer; place = w.place }))

pub returns-then-l : goal.returns-then-l
returns-then-l c =
    let s = c.args in
    let reads = rw (slice_rest s.text.now s.self.at) at c.read-l.ensures.reads in
    rw c.last-then-l.ensures
    (step_refused s.self s.text.now s.out.now s.place c.requires.0 (omega arith) c.requires.1 (omega arith) reads c.if-l.true)

pub overflow_add-result : goal.overflow_add-result
overflow_add-result c =
    let s = c.args in
    let reads = rw (slice_rest s.text.now s.self.at) at c.read-l.ensures.reads in
    let bytes = rw (slice_rest s.text.now s.self.at) at c.read-l.ensures.bytes_value in
    omega (
      arith,
      near s.self s.text.now s.out.now s.place c.requires.0 (omega arith) c.requires.1 (omega arith) reads c.if-l.false bytes,
    )

pub overflow_add-result-2 : goal.overflow_add-result-2
overflow_add-result-2 c =
    let s = c.args in
    let reads = rw (slice_rest s.text.now s.self.at) at c.read-l.ensures.reads in
    let bytes = rw (slice_rest s.text.now s.self.at) at c.read-l.ensures.bytes_value in
    omega (
      arith,
      near s.self s.text.now s.out.now s.place c.requires.0 (omega arith) c.requires.1 (omega arith) reads c.if-l.false bytes,
    )

pub returns : goal.returns
returns c =
    let s = c.args in
    let reads = rw (slice_rest s.text.now s.self.at) at c.read-l.ensures.reads in
    let bytes = rw (slice_rest s.text.now s.self.at) at c.read-l.ensures.bytes_value in
    step_line s.self s.text.now s.out.now s.place c.requires.0 (omega arith) c.requires.1 (omega arith) reads c.if-l.false bytes
