-- `vz_check_fill` is right because it fills only where the words are a check.
use Rattle.std.proofs.Common.{sym, ap, ◌∙◌}
use Rattle.encoding.specs.Words.{mark_word}
use Rattle.encoding.specs.laws.Number.{mark_fits, through}
use Rattle.job.specs.Check.{is_over}
use Rattle.ccheck.specs.laws.Check.{fill_no_record, fill_no_progress, fill_rows}
use Rattle.ccheck.proofs.vz_check_fill.Goals as goal

pub returns-then-not-is_sound : goal.returns-then-not-is_sound
returns-then-not-is_sound c = fill_no_record _ _ (sym c.is_sound.ensures ∙ c.if-not-is_sound.true)

pub returns-in_default : goal.returns-in_default
returns-in_default c =
    fill_no_progress _ _ (sym c.is_sound.ensures ∙ c.if-not-is_sound.false) (rw c.bench_read-m.ensures at c.in_default.ensures)

pub returns : goal.returns
returns c =
    let next = c.fill-f.result.check in
    fill_rows _ _ (sym c.is_sound.ensures ∙ c.if-not-is_sound.false) (rw c.bench_read-m.ensures at c.in-Some.ensures)
    (record {
      next = next;
      fills = c.fill-f.ensures;
      words = c.encode-after.ensures;
      progress = c.encode_progress-come.ensures;
      over = through (mark_fits (is_over next)) (c.mark_word.ensures ∙ ap mark_word c.is_over.ensures);
    })
