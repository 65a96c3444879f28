-- How many cycles a run of any sound record has done: the most, at most one a tick, whose charges the remainder and what its ticks add pay.
use Rattle.std.specs.Prelude.{◌≡◌, false, ℕ, zero, suc, ◌+◌, ◌*◌, ◌<◌, min, length}
use Rattle.std.proofs.Common.{sym, ap, ◌∙◌, arith}
use Rattle.std.proofs.Math.Decide.{dec_lt}
use Rattle.plane.specs.declared.point.Point.{Point}
use Rattle.plane.specs.laws.Travel.{inside, inside_test_lem}
use Rattle.charges.specs.Paid.{most_paid}
use Rattle.charges.specs.laws.Paid.{Most, Grows, most_unique}
use Rattle.divider.specs.computed.Divider.{gone_of}
use Rattle.divider.specs.laws.Ticks.{counts, total_le}
use Rattle.work.specs.declared.Work.{Work}
use Rattle.work.specs.Work.{is_nothing, added_of, cycles_left, charges_for}
use Rattle.work.specs.computed.Work.{cycle_of, last_tick_for}
use Rattle.work.specs.laws.Keep.{cycle_keeps}
use Rattle.work.specs.laws.Rest.{Reached, reached_of, dues_of, reached_none, reached_next, dues_for}
use Rattle.run.specs.computed.Run.{strip_of, SoundIn}
use Rattle.run.specs.laws.Cycles.{cycle_counts, added_some}
use Rattle.run.specs.laws.Cycling.{some_left}
use Rattle.run.specs.laws.Strip.{strip_ends, end_tick_lem, each_due, cycles_fewer, strip_early}

-- a cycle that leaves some in work leaves it sound
cycle_sound : {q0 : ℕ} {at : Point} {r : ℕ} {w : Work} → SoundIn q0 at r w
    → (let c = cycle_of at w in is_nothing c.work ≡ false → SoundIn q0 c.at r c.work)
cycle_sound {q0} {w = w} i more =
    let k = cycle_keeps q0 i.travel w (inside i.inside) i.sound in
    record {
      travel = i.travel;
      wide = i.wide;
      capacity = i.capacity;
      inside = inside_test_lem k.inside;
      below = i.below;
      sound = k.sound;
      busy = more;
    }

-- c cycles on, c fewer are left
pub reached_left : {q0 : ℕ} (c : ℕ) {at : Point} {r : ℕ} {w : Work} → SoundIn q0 at r w → c < cycles_left at w
    → (let s = reached_of at w c in c + cycles_left s.at s.work ≡ cycles_left at w)
reached_left {q0} zero {at} {w = w} i h =
    let here = ap (λ (s : Reached). cycles_left s.at s.work) (reached_none q0 i.travel at w i.sound) in
    omega (arith, here)
reached_left (suc c) {at} {w = w} i h =
    let d = cycle_of at w in
    let more = some_left d.at d.work (omega (arith, cycle_counts i)) in
    let rest = reached_left c (cycle_sound i more) (omega (arith, cycle_counts i)) in
    let there = ap (λ (s : Reached). cycles_left s.at s.work) (reached_next at w c more) in
    omega (arith, rest, there, cycle_counts i)

module _ {q0 : ℕ} {at : Point} {r : ℕ} {w : Work} (i : SoundIn q0 at r w) where
  -- the charges of its next cycles grow
  charges_grow : Grows (λ c. charges_for at w c * q0)
  charges_grow c =
      let d = dues_of q0 at w in
      let more = total_le d (added_of w) (added_some i) (each_due i) c (suc c) (omega arith) in
      omega (arith, more, dues_for q0 at w i.busy c, dues_for q0 at w i.busy (suc c))

  abbrev pub paid_in : (n : ℕ) → ℕ
  paid_in n = most_paid (λ c. charges_for at w c * q0) (r + n * added_of w) (min n (cycles_left at w))

  -- "A cycle is due when the remainder reaches its charge times q0, at most one a tick."
  pub strip_pays : (n : ℕ) → (let s = strip_of q0 n at r w in paid_in (length s.bytes) + cycles_left s.at s.work ≡ cycles_left at w)
  strip_pays n = by (dec_lt n (last_tick_for q0 at r w))
    where
      by : Dec (n < last_tick_for q0 at r w)
          → (let s = strip_of q0 n at r w in paid_in (length s.bytes) + cycles_left s.at s.work ≡ cycles_left at w)
      by (yes early) =
          let g = (gone_of (dues_of q0 at w) (added_of w) r n).cycles in
          let s = strip_early i n early in
          let few = cycles_fewer i n early in
          let c = counts (dues_of q0 at w) (added_of w) (added_some i) (each_due i) r n in
          let most : Most (λ c. charges_for at w c * q0) (r + n * added_of w) (min n (cycles_left at w)) g = record {
            within = omega (arith, c.most);
            pays = omega (arith, c.paid, dues_for q0 at w i.busy g);
            stops = λ l. omega (arith, c.no_more (omega arith), dues_for q0 at w i.busy (suc g));
          } in
          let same = ap paid_in s.ticks ∙ sym (most_unique (λ c. charges_for at w c * q0) charges_grow _ _ g most) in
          let left = ap (λ (x : Reached). cycles_left x.at x.work) s.reached in
          omega (arith, same, left, reached_left g i few)
      by (no late) =
          let last = last_tick_for q0 at r w in
          let e = end_tick_lem i in
          let s = strip_ends n last i e (omega arith) in
          let k = cycles_left at w in
          let most : Most (λ c. charges_for at w c * q0) (r + last * added_of w) (min last k) k = record {
            within = omega (arith, e.enough);
            pays = e.reached;
            stops = λ l. absurd (omega arith);
          } in
          let same = ap paid_in s.ticks ∙ sym (most_unique (λ c. charges_for at w c * q0) charges_grow _ _ k most) in
          omega (arith, same, ap (cycles_left (strip_of q0 n at r w).at) s.idle)
