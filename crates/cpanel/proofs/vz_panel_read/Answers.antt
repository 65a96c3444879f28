-- `vz_panel_read` is right because it reads only where the words are a panel's check.
use Rattle.std.proofs.Common.{sym, ◌∙◌, to_z-of_z}
use Rattle.encoding.specs.laws.Number.{through}
use Rattle.cpanel.specs.laws.Panel.{told_fits, read_no_record, read_no_panel, read_hands}
use Rattle.cpanel.proofs.vz_panel_read.Goals as goal

pub returns-then-not-is_sound : goal.returns-then-not-is_sound
returns-then-not-is_sound c = read_no_record _ _ (sym c.is_sound.ensures ∙ c.if-not-is_sound.true)

pub returns-in_default : goal.returns-in_default
returns-in_default c =
    read_no_panel _ _ (sym c.is_sound.ensures ∙ c.if-not-is_sound.false) (rw c.bench_read-m.ensures at c.in_default.ensures)

pub returns : goal.returns
returns c =
    let last = c.ranges.last in
    read_hands _ _ (sym c.is_sound.ensures ∙ c.if-not-is_sound.false) (rw c.bench_read-m.ensures at c.in-Some.ensures)
    (simp to_z-of_z at c.is_last.ensures) c.read-f.ensures
    (through (told_fits c.read-f.result.told) c.told_number.ensures) c.encode-after.ensures
    c.encode_panel-come.ensures
