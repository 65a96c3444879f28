-- `read_first` is right because each way through the loop's body is one of the scan's, and at the line's end the words so far are its
-- answer.
use Rattle.std.proofs.Common.{◌+◌, ◌∙◌, sym, arith, rules}
use Rattle.std.proofs.lemmas.List.{take_rest}
use Rattle.letters.specs.laws.Put.{gathered_none, gathered_more, words_more}
use Rattle.words.specs.computed.Scan.{first_line}
use Rattle.words.specs.laws.Run.{scanned_start}
use Rattle.words.specs.laws.Meaning.{scan_means}
use Rattle.words.specs.laws.FirstLine.{in_text, at_end_lem}
use Rattle.words.specs.laws.Scanning.{line_left, line_over, inside, line_blank, line_other, line_wrong, line_word}
use Rattle.words.proofs.line.read_first.Goals as goal

pub loop-b-init : goal.loop-b-init
loop-b-init c =
    rw c.nothing-found.ensures (record { gathered = gathered_none; scanned = scanned_start (first_line c.args.s.now) })

pub bounds-s-i : goal.bounds-s-i
bounds-s-i c = (in_text c.args.s.now c.loop-b.i (sym c.in_line.ensures ∙ c.loop-b-test.true)).0

pub overflow_add-i : goal.overflow_add-i
overflow_add-i c =
    let h = (in_text c.args.s.now c.loop-b.i (sym c.in_line.ensures ∙ c.loop-b-test.true)).0 in
    search rules

pub refused-requires : goal.refused-requires
refused-requires c =
    let h = (in_text c.args.s.now c.loop-b.i (sym c.in_line.ensures ∙ c.loop-b-test.true)).0 in
    omega arith

pub returns-in_default-clause-line_value : goal.returns-in_default-clause-line_value
returns-in_default-clause-line_value c =
    let s = c.args.s.now in
    let on = in_text s c.loop-b.i (sym c.in_line.ensures ∙ c.loop-b-test.true) in
    let other = sym c.of_byte.ensures ∙ c.in_default.is in
    c.refused.ensures.line_value
    ∙ line_other s c.loop-b.invariant.scanned on.0 on.1 c.if-b-ne32.true other
    ∙ scan_means (first_line s)

pub returns-in_default-clause-bytes_value : goal.returns-in_default-clause-bytes_value
returns-in_default-clause-bytes_value c =
    let s = c.args.s.now in
    let on = in_text s c.loop-b.i (sym c.in_line.ensures ∙ c.loop-b-test.true) in
    c.refused.ensures.bytes_value ∙ line_left s (c.loop-b.i + 1) (omega (arith, inside s c.loop-b.invariant.scanned on.0 on.1))

pub returns-in_default-read-clause-line_value : goal.returns-in_default-read-clause-line_value
returns-in_default-read-clause-line_value c =
    let s = c.args.s.now in
    let on = in_text s c.loop-b.i (sym c.in_line.ensures ∙ c.loop-b-test.true) in
    let letter = sym c.of_byte.ensures ∙ c.in-Some.is in
    let wrong = rw (take_rest s (c.loop-b.i + 1)) at (sym c.read.ensures.value ∙ c.in_default-read.is) in
    c.refused-in_default-read.ensures.line_value
    ∙ line_wrong s c.loop-b.invariant.scanned on.0 on.1 c.if-b-ne32.true c.in-Some.l letter wrong
    ∙ scan_means (first_line s)

pub returns-in_default-read-clause-bytes_value : goal.returns-in_default-read-clause-bytes_value
returns-in_default-read-clause-bytes_value c =
    let s = c.args.s.now in
    let on = in_text s c.loop-b.i (sym c.in_line.ensures ∙ c.loop-b-test.true) in
    c.refused-in_default-read.ensures.bytes_value
    ∙ line_left s (c.loop-b.i + 1) (omega (arith, inside s c.loop-b.invariant.scanned on.0 on.1))

pub loop-b-preserved-then-b-ne32 : goal.loop-b-preserved-then-b-ne32
loop-b-preserved-then-b-ne32 c =
    let s = c.args.s.now in
    let on = in_text s c.loop-b.i (sym c.in_line.ensures ∙ c.loop-b-test.true) in
    let letter = sym c.of_byte.ensures ∙ c.in-Some.is in
    let r = c.loop-b.invariant.scanned in
    let g = c.loop-b.invariant.gathered in
    let n = c.in-Some-read.n in
    let value = rw (take_rest s (c.loop-b.i + 1)) at (sym c.read.ensures.value ∙ c.in-Some-read.is) in
    let word = line_word s r on.0 on.1 c.if-b-ne32.true c.in-Some.l letter n value in
    rw (c.add-found.ensures, c.magnitude.ensures, c.index.ensures)
    (record {
      gathered = gathered_more g c.in-Some.l n.negative n.magnitude;
      scanned = rw (words_more g c.in-Some.l n.negative n.magnitude) word;
    })

pub loop-b-preserved : goal.loop-b-preserved
loop-b-preserved c =
    let s = c.args.s.now in
    let on = in_text s c.loop-b.i (sym c.in_line.ensures ∙ c.loop-b-test.true) in
    let v = c.loop-b.invariant in
    record { gathered = v.gathered; scanned = line_blank s v.scanned on.0 on.1 c.if-b-ne32.false }

pub returns-clause-line_value : goal.returns-clause-line_value
returns-clause-line_value c =
    let s = c.args.s.now in
    let over = line_over s c.loop-b.invariant.scanned (at_end_lem s c.loop-b.i (sym c.in_line.ensures ∙ c.loop-b-test.false)) in
    c.formed.ensures ∙ over.0 ∙ scan_means (first_line s)

pub returns-clause-bytes_value : goal.returns-clause-bytes_value
returns-clause-bytes_value c =
    (line_over c.args.s.now c.loop-b.invariant.scanned
    (at_end_lem c.args.s.now c.loop-b.i (sym c.in_line.ensures ∙ c.loop-b-test.false))).1
