-- It is the circle's, seen from the centre, and back; fewer cycles than to the end are less than a full turn.
use Rattle.std.proofs.Common.{◌≡◌, ap, ◌∙◌, ℕ}
use Rattle.std.proofs.Common.{arith}
use Rattle.circle.specs.declared.plane.Offset.{Offset}
use Rattle.plane.specs.declared.point.Point.{Point}
use Rattle.arc.specs.declared.arc.Arc.{Arc}
use Rattle.charges.specs.declared.Paid.{Paid}
use Rattle.charges.specs.computed.Paid.{paid_of}
use Rattle.arc.specs.Centre.{seen_from, back_from}
use Rattle.arc.specs.computed.Arc.{arc_after}
use Rattle.arc.specs.computed.Charge.{arc_paid_of}
use Rattle.arc.specs.laws.Step.{circles, after_reach, cycles_turn}
use Rattle.arc.proofs.arc.Arc.paid.Goals as goal

found : (a : Arc) (at : Point) (most sum : ℕ) {o : Offset} {r : Paid Offset} → o ≡ seen_from a.centre at
    → r ≡ paid_of a.square a.turn o most sum
    → r ≡ paid_of a.square a.turn (seen_from a.centre at) most sum
found a at most sum e r = r ∙ ap (λ (o : Offset). paid_of a.square a.turn o most sum) e

pub paid-r-requires : goal.paid-r-requires
paid-r-requires c =
    let p = c.requires.0 in
    (rw c.seen.ensures p.on, omega (arith, c.requires.1, cycles_turn c.args.self c.args.at (circles p)))

pub back-requires : goal.back-requires
unfolding paid_of
back-requires c =
    let s = c.args in (
      c.requires.0.centre,
      rw (found s.self s.at s.most s.sum c.seen.ensures c.paid-r.ensures)
          (after_reach s.self s.at (circles c.requires.0) _),
    )

pub returns : goal.returns
unfolding paid_of arc_paid_of arc_after
returns c =
    let a = c.args.self in
    let e = found a c.args.at c.args.most c.args.sum c.seen.ensures c.paid-r.ensures in
    let there = c.back.ensures ∙ ap (λ (r : Paid Offset). back_from a.centre r.at) e in
    λ i. record { cycles = (e i).cycles; charges = (e i).charges; at = there i }
