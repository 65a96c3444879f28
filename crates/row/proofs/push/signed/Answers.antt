-- `signed` is right because a number's decimal is its sign and the decimal of its magnitude, which goes over a minus that is not meant.
use Rattle.std.proofs.Common.{ℕ, ◌<◌, ◌≡◌, [], ◌∷◌, ◌++◌, length, arith, length-append, length-set, rules}
use mir.Facts.{to_z-of_z}
use Rattle.whole.specs.computed.Sign.{part_of}
use Rattle.row.specs.Decimal.{decimal}
use Rattle.row.specs.laws.Decimal.{digits_least, with_sign_lem, without_sign}
use Rattle.row.specs.laws.Puts.{◌then◌, at_most, puts_byte, puts_over}
use Rattle.row.proofs.push.signed.Goals as goal
use Rattle.row.proofs.push.signed.Goals.{then-p, else-p}

-- there is a digit to go over it
some : (n end : ℕ) → 0 < length (decimal n ++ (end ∷ []))
some n end = simp length-append (omega (arith, digits_least n))

pub number-requires : goal.number-requires
number-requires c = rw (length-set c.args.out.now c.args.at 45) (elim c.if-p.branch [ then-p w ↦ omega arith | else-p w ↦ omega arith ])

pub returns : goal.returns
returns c =
    let f = c.ranges.v in
    let parted : c.part-p.result ≡ part_of c.args.v = simp to_z-of_z at c.part-p.ensures in
    elim c.if-p.branch [
      | then-p w ↦
          let rest = rw w.first-is at c.number.ensures in
          rw (with_sign_lem c.args.v c.part-p.result parted w.if-p.true)
          (puts_byte c.args.out.now c.args.at 45 (search rules) then rest)
      | else-p w ↦
          let all = rw w.first-is at c.number.ensures in
          rw (without_sign c.args.v c.part-p.result parted w.if-p.false)
          (puts_over c.args.at 45 (some c.part-p.result.magnitude c.args.end) (at_most all (omega arith)))
    ]
