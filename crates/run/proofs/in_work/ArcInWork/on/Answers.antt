-- The cycles done are the most that whole charges of the sum pay, at most one a tick and fewer than are left.
use Rattle.std.proofs.Common.{◌≡◌, ap, ◌∙◌, ◌+◌, ◌-◌, ◌*◌, ◌/◌, arith, ℕ}
use Rattle.std.specs.Prelude.{min}
use Rattle.plane.specs.declared.point.Point.{Point}
use Rattle.charges.specs.declared.Paid.{Paid}
use Rattle.arc.specs.computed.Arc.{arc_cycles}
use Rattle.arc.specs.computed.Charge.{arc_paid_of}
use Rattle.run.specs.declared.in_work.ArcInWork.{ArcInWork}
use Rattle.run.specs.laws.Cycles.{in_work_lem}
use Rattle.run.specs.laws.Sound.{run_ready}
use Rattle.run.specs.laws.Skip.{sum_fits, paid_fits, arc_on_ran}
use Rattle.run.specs.laws.Widest.{sound_in}
use Rattle.run.proofs.in_work.ArcInWork.on.Goals as goal

pub overflow_mul-sum : goal.overflow_mul-sum
overflow_mul-sum c = let i = sound_in c.args.self.sound in omega (arith, i.capacity, (in_work_lem i).feed.most)

pub overflow_mul-sum-2 : goal.overflow_mul-sum-2
overflow_mul-sum-2 c = omega (arith, sum_fits (sound_in c.args.self.sound) c.args.ticks c.requires.1)

pub overflow_add-sum : goal.overflow_add-sum
overflow_add-sum c = omega (arith, sum_fits (sound_in c.args.self.sound) c.args.ticks c.requires.1)

pub overflow_sub-cycles : goal.overflow_sub-cycles
overflow_sub-cycles c = omega (arith, c.requires.0, (in_work_lem (sound_in c.args.self.sound)).some)

-- as many cycles as are asked for
most : (ticks : ℕ) (a : ArcInWork) {cycles n : ℕ} → cycles ≡ arc_cycles a.arc a.at → n ≡ min ticks (cycles - 1)
    → n ≡ min ticks (arc_cycles a.arc a.at - 1)
most ticks a left n = n ∙ ap (λ (k : ℕ). min ticks (k - 1)) left

paid : (ticks : ℕ) (a : ArcInWork) {cycles n : ℕ} → cycles ≡ arc_cycles a.arc a.at → n ≡ min ticks (cycles - 1) → {p : Paid Point} →
    (let sum = a.remainder + ticks * (1000 * a.arc.feed) in
    p ≡ arc_paid_of a.arc a.at n (sum / a.capacity) → p ≡ arc_paid_of a.arc a.at (min ticks (arc_cycles a.arc a.at - 1)) (sum / a.capacity))
paid ticks a left n p =
    let sum = a.remainder + ticks * (1000 * a.arc.feed) in
    p ∙ ap (λ (k : ℕ). arc_paid_of a.arc a.at k (sum / a.capacity)) (most ticks a left n)

pub nonzero_div-sum : goal.nonzero_div-sum
nonzero_div-sum c = let f = (in_work_lem (sound_in c.args.self.sound)).feed in omega (arith, f.some, f.most)

pub paid-paid-requires : goal.paid-paid-requires
paid-paid-requires c =
    let i = sound_in c.args.self.sound in
    ((run_ready i).0, omega (arith, most c.args.ticks c.args.self c.requires.0 c.min.ensures, (in_work_lem i).some))

pub overflow_mul-result : goal.overflow_mul-result
overflow_mul-result c =
    let i = sound_in c.args.self.sound in
    let fits = paid_fits c.args.self.arc i c.args.ticks c.requires.1
    (paid c.args.ticks c.args.self c.requires.0 c.min.ensures c.paid-paid.ensures) in
    omega (arith, fits, sum_fits i c.args.ticks c.requires.1)

pub overflow_sub-result : goal.overflow_sub-result
overflow_sub-result c =
    paid_fits c.args.self.arc (sound_in c.args.self.sound) c.args.ticks c.requires.1
    (paid c.args.ticks c.args.self c.requires.0 c.min.ensures c.paid-paid.ensures)

pub returns : goal.returns
returns c =
    arc_on_ran c.args.self.arc (sound_in c.args.self.sound) c.args.ticks c.requires.1
    (paid c.args.ticks c.args.self c.requires.0 c.min.ensures c.paid-paid.ensures)
