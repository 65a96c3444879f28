-- The search finds the most cycles, and the place after them is the walk's point in quadrant form.
use Rattle.std.proofs.Common.{◌≡◌, ap, ◌∙◌, arith, ℕ, true}
use Rattle.circle.specs.declared.plane.Offset.{Offset}
use Rattle.circle.specs.declared.plane.Turn.{Turn}
use Rattle.circle.specs.Circle.{on_circle}
use Rattle.circle.specs.computed.Step.{seen}
use Rattle.charges.specs.declared.jump.Arrived.{Arrived}
use Rattle.charges.specs.declared.jump.Start.{Start}
use Rattle.charges.specs.Paid.{most_paid}
use Rattle.charges.specs.computed.Sum.{charges_in}
use Rattle.charges.specs.computed.Jump.{jump_start, charges_on, arrived_of}
use Rattle.charges.specs.laws.Jump.{SmallPlace, started, reached_small}
use Rattle.charges.specs.laws.Paid.{paid_is}
use Rattle.charges.proofs.search.paid.Goals as goal

-- what the search finds, from the start that it was given
found : (n : ℕ) (turn : Turn) (p : Offset) (most sum : ℕ) {s : Start} {r : Arrived} → s ≡ jump_start n turn p
    → r ≡ arrived_of s (most_paid (charges_on s) sum most) → r ≡ arrived_of (jump_start n turn p) (most_paid (charges_in n turn p) sum most)
unfolding jump_start
found n turn p most sum e r = r ∙ ap (λ (x : Start). arrived_of x (most_paid (charges_on x) sum most)) e

small : (n : ℕ) (turn : Turn) (p : Offset) (k : ℕ) {r : Arrived} → on_circle n p ≡ true → r ≡ arrived_of (jump_start n turn p) k
    → SmallPlace r.place
small n turn p k on r = rw r (reached_small (started n turn p on) k)

pub search-r-requires : goal.search-r-requires
unfolding jump_start
search-r-requires c = let s = c.args in rw c.enter.ensures (started s.n s.turn s.p c.requires.0, c.requires.1)

pub point_of-requires : goal.point_of-requires
point_of-requires c =
    let s = c.args in
    let m = small s.n s.turn s.p _ c.requires.0 (found s.n s.turn s.p s.most s.sum c.enter.ensures c.search-r.ensures) in
    omega (arith, m.four, m.along, m.across)

pub seen_from-requires : goal.seen_from-requires
seen_from-requires c =
    let s = c.args in
    let m = small s.n s.turn s.p _ c.requires.0 (found s.n s.turn s.p s.most s.sum c.enter.ensures c.search-r.ensures) in
    rw c.point_of.ensures (omega (arith, m.height))

pub returns : goal.returns
returns c =
    let s = c.args in
    paid_is s.n s.turn s.p s.most s.sum c.requires.0 (found s.n s.turn s.p s.most s.sum c.enter.ensures c.search-r.ensures)
    (c.seen_from.ensures ∙ ap (seen s.turn) c.point_of.ensures)
