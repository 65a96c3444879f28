-- `vz_read_line` is right because it reads the line only where the words are a sound record and tell what is known, and there it asks and
-- takes as the definition.
use Rattle.std.proofs.Common.{rules, sym, ◌∙◌, w64, SFits, to_z-of_z}
use Rattle.calls.specs.laws.Load.{sixteen_most}
use Rattle.cmachine.specs.laws.Texts.{line_no_record, line_not_known, scale_fits, line_told_lem}
use Rattle.cmachine.proofs.text.vz_read_line.Goals as goal

pub returns-then-not-is_sound : goal.returns-then-not-is_sound
returns-then-not-is_sound c = line_no_record _ _ _ (sym c.is_sound.ensures ∙ c.if-not-is_sound.true)

pub returns-in_default : goal.returns-in_default
returns-in_default c = line_not_known _ _ _ (sym c.is_sound.ensures ∙ c.if-not-is_sound.false) c.in_default.ensures

pub start_in-start-requires : goal.start_in-start-requires
start_in-start-requires c = sixteen_most _ (sym c.is_sound.ensures ∙ c.if-not-is_sound.false)

pub ask_line-a-requires : goal.ask_line-a-requires
ask_line-a-requires c = scale_fits (record {
  sound = sym c.is_sound.ensures ∙ c.if-not-is_sound.false;
  bench_is = c.bench_in-k.ensures;
  start_is = c.start_in-start.ensures;
})

pub take-h-requires : goal.take-h-requires
take-h-requires c = record {
  sound = sym c.is_sound.ensures ∙ c.if-not-is_sound.false;
  bench_is = c.bench_in-k.ensures;
  start_is = c.start_in-start.ensures;
}

pub returns : goal.returns
returns c =
    let n : SFits w64 c.read_number.result = search rules in
    let sound = sym c.is_sound.ensures ∙ c.if-not-is_sound.false in
    simp to_z-of_z
    (simp (c.read_number.ensures, c.encode_known-after.ensures)
    (line_told_lem _ _ _ sound c.in-Some.ensures
    (record { sound = sound; bench_is = c.bench_in-k.ensures; start_is = c.start_in-start.ensures })
    c.ask_line-a.ensures c.take-h.ensures.value c.take-h.ensures.words_after))
