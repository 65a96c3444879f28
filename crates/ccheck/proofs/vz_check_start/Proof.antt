-- `vz_check_start` is right because it makes the machine of these settings and lays its words and those of its check.
use borrow.Author.Rules.{rules}
use mir.Syntax.{w64}
use mir.Val.{SFits}
use mir.Facts.{to_z-of_z}
use Rattle.ccheck.proofs.vz_check_start.Statement.{statement}
use Rattle.ccheck.proofs.vz_check_start.Tie as tie

settings-requires : tie.Need-settings-requires
settings-requires c κs = search rules

make-a-requires : tie.Need-make-a-requires
make-a-requires c κs = search rules

encode-after-requires : tie.Need-encode-after-requires
encode-after-requires c κs = search rules

start-requires : tie.Need-start-requires
start-requires c κs = search rules

encode_progress-begun-requires : tie.Need-encode_progress-begun-requires
encode_progress-begun-requires c κs = search rules

answer_number-requires : tie.Need-answer_number-requires
answer_number-requires c κs = search rules

returns : tie.Need-returns
returns c =
    let s = c.before.before.before.before.before.before.before in
    let r : SFits w64 c.answer_number.result = search rules in
    let p = s.ranges.p in
    let w = s.ranges.w in
    let xlo = s.ranges.xlo in
    let xhi = s.ranges.xhi in
    let ylo = s.ranges.ylo in
    let yhi = s.ranges.yhi in
    let a = c.before.before.before.before.before in
    let given = simp to_z-of_z at a.settings.ensures in (
      simp to_z-of_z (simp (c.answer_number.ensures, c.encode-after.ensures, a.make-a.ensures, given)),
      simp (c.encode_progress-begun.ensures, c.start.ensures, a.make-a.ensures, given),
    )

pub vz_check_start_spec : {M : Type 1} → statement M
vz_check_start_spec = tie.close (tie.spec settings-requires make-a-requires encode-after-requires start-requires
    encode_progress-begun-requires answer_number-requires returns)
