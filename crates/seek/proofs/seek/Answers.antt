use mathlib.Core.Path.{◌≡◌, sym, ap, subst, ◌∙◌}
use mathlib.Core.Bool.{true}
use mathlib.Core.List.{List}
use Prim.Native.Nat.{ℕ, ◌≤◌}
use native.Mathlib.Omega.{arith}
use lib.ListN.{length, drop, length-drop}
use Rattle.words.specs.laws.FirstLine.{first_short}
use Rattle.bench.specs.computed.Bench.{sound_of}
use Rattle.reader.specs.computed.Reader.{longest_text}
use Rattle.reader.specs.declared.text_line.ReadLine.{ReadLine}
use Rattle.settings.specs.declared.Settings.{Settings}
use Rattle.tally.specs.laws.Keeps.{loaded_sound}
use Rattle.job.specs.Text.{lines_of}
use Rattle.job.specs.laws.Text.{slice_rest}
use Rattle.seek.specs.declared.Search.{Search}
use Rattle.seek.specs.computed.Search.{search_from}
use Rattle.seek.specs.computed.Seek.{seek_of}
use Rattle.seek.specs.laws.Search.{to_find}
use Rattle.seek.specs.laws.Seek.{seek_long, seek_short, start_counted, seeking_start, counted}
use Rattle.seek.specs.laws.Seek.{seeking_end, seeking_found, seeking_on}
use Rattle.seek.proofs.seek.Goals as goal

-- what was sought at first
begun :
    (settings : Settings) (ticks : ℕ) (text : List ℕ) (s : Search) → s ≡ search_from settings ticks → length text ≤ longest_text
    → to_find s (lines_of text) ≡ seek_of settings text ticks
begun settings ticks text s is short = rw is (seek_short settings ticks text short)

pub refused-long-requires : goal.refused-long-requires
refused-long-requires c = start_counted _ _ c.start-search.ensures

pub returns-then-text-gt-LONGEST_TEXT : goal.returns-then-text-gt-LONGEST_TEXT
returns-then-text-gt-LONGEST_TEXT c =
    let s = c.args in
    rw (c.refused-long.ensures, c.start-search.ensures) (seek_long s.settings s.ticks s.text.now c.if-text-gt-LONGEST_TEXT.true)

pub loop-at-init : goal.loop-at-init
loop-at-init c = seeking_start _ _ _ c.start-search.ensures c.if-text-gt-LONGEST_TEXT.false

pub line-search-requires : goal.line-search-requires
line-search-requires c =
    let l = c.loop-at in
    let read = rw (slice_rest c.args.text.now l.at) at c.read_first-first.ensures.read_value in (
      counted l.invariant c.loop-at-test.true,
      λ bits is. subst (λ (r : ReadLine). sound_of r.bench ≡ true) (sym read)
          (loaded_sound l.search.reader l.search.sought.bench _ (ap (λ (r : ReadLine). r.answer) (sym read) ∙ is)),
    )

pub returns-then-search : goal.returns-then-search
returns-then-search c =
    let s = c.args in
    let read = rw (slice_rest s.text.now c.loop-at.at) at c.read_first-first.ensures.read_value in
    let decided = ap (λ (s : Search). s.decided) (sym c.line-search.ensures) ∙ c.if-search.true in
    rw c.line-search.ensures
    (seeking_found c.loop-at.invariant c.loop-at-test.true read decided
    ∙ begun s.settings s.ticks s.text.now c.start-search.result c.start-search.ensures c.if-text-gt-LONGEST_TEXT.false)

pub overflow_add-at : goal.overflow_add-at
overflow_add-at c =
    let k = c.loop-at.at in
    let text = c.args.text.now in
    let bytes = rw (slice_rest text k) at c.read_first-first.ensures.bytes_value in
    omega (arith, c.loop-at-test.true, bytes, first_short (drop k text), length-drop k text, c.loop-at.invariant.short)

pub overflow_add-at-in-loop-at : goal.overflow_add-at-in-loop-at
overflow_add-at-in-loop-at c =
    let k = c.loop-at.at in
    let text = c.args.text.now in
    let bytes = rw (slice_rest text k) at c.read_first-first.ensures.bytes_value in
    omega (arith, c.loop-at-test.true, bytes, first_short (drop k text), length-drop k text, c.loop-at.invariant.short)

pub loop-at-preserved : goal.loop-at-preserved
loop-at-preserved c =
    let text = c.args.text.now in
    let read = rw (slice_rest text c.loop-at.at) at c.read_first-first.ensures.read_value in
    let bytes = rw (slice_rest text c.loop-at.at) at c.read_first-first.ensures.bytes_value in
    let on = ap (λ (s : Search). s.decided) (sym c.line-search.ensures) ∙ c.if-search.false in
    rw c.line-search.ensures (seeking_on c.loop-at.invariant c.loop-at-test.true read bytes on)

pub returns : goal.returns
returns c =
    let s = c.args in
    seeking_end c.loop-at.invariant c.loop-at-test.false
    ∙ begun s.settings s.ticks s.text.now c.start-search.result c.start-search.ensures c.if-text-gt-LONGEST_TEXT.false
