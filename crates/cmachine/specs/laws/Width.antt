-- The register width of an accepted block has a few bits itself, so that its word is not negative.
use Rattle.std.specs.Prelude.{◌≡◌, refl, true, ltb, nat_abs, ℕ, ◌^◌, zero, suc, ◌≤◌, ◌<◌, max, Ok, Result, Err, ⊤}
use Rattle.std.proofs.Common.{subst, arith, leb-true, ap}
use Rattle.question.specs.Question.{number_told}
use Rattle.question.specs.declared.Question.{Question}
use Rattle.whole.specs.Root.{nearest_root}
use Rattle.whole.specs.Width.{width_of}
use Rattle.whole.specs.laws.Root.{nearest_root_lem}
use Rattle.whole.specs.laws.Squares.{square_lt, products}
use Rattle.whole.specs.laws.Test.{both}
use Rattle.whole.specs.laws.Width.{width_least}
use Rattle.plane.specs.declared.point.Point.{Point}
use Rattle.line.specs.Line.{increment_x, increment_y, line_width}
use Rattle.arc.specs.Arc.{arc_width}
use Rattle.block.specs.declared.Block.{Block}
use Rattle.block.specs.declared.Path.{Path}
use Rattle.block.specs.Block.{arc_of, width_along, block_width}
use Rattle.block.proofs.laws.Begin.{offset_right_lem, square_some, square_most}
use Rattle.block.specs.Questions.{ask_load}
use Rattle.work.specs.Work.{begun_of}
use Rattle.work.specs.computed.Asked.{Loadable}
use Rattle.work.specs.laws.Left.{accepted_loadable}
use Rattle.settings.specs.Settings.{capacity_of}
use Rattle.bench.specs.declared.Answer.{Answer}
use Rattle.machine.specs.declared.Machine.{Machine}
use Rattle.machine.specs.computed.Machine.{sound_of}
use Rattle.machine.specs.Machine.{start_of}
use Rattle.machine.specs.computed.Calls.{load_with, load_of}
use Rattle.machine.specs.laws.Load.{taken_accepted}

few : (n : ℕ) → n < 2097152 → width_of n < 2 ^ 63
few n h = omega (arith, width_least n 21 h)

root_few : (n : ℕ) → 0 < n → n ≤ 2000000000000 → nearest_root n < 2097152
root_few n some most =
    let r = nearest_root n in
    let b = (nearest_root_lem n some).below in
    let p = products r 1 in
    square_lt r 2097152 (omega arith)

pub width_few : (start : Point) (b : Block) (p : Path) → Loadable start b p → width_along start b p < 2 ^ 63
unfolding line_width arc_width arc_of
width_few start b Path.Line h =
    let s = both h in
    let a = nat_abs (increment_x start b.end) in
    let c = nat_abs (increment_y start b.end) in
    few (max a c) (omega (arith, leb-true a 2000000 s.0, leb-true c 2000000 s.1))
width_few start b (Path.Arc turn o) h =
    let r = offset_right_lem o h.1 in
    few _ (root_few _ (square_some o r) (square_most o r))

-- a load of a sound record that answers a width
pub width_word : (m : Machine) → sound_of m ≡ true → (b : Block) {n : ℕ} → (load_of m b).answer ≡ Ok (Answer.Width n) → n < 2 ^ 63
unfolding load_of begun_of block_width
width_word m e b = rw e (by (asked_of m) refl)
  where
    start : Point
    start = start_of m.bench m.queue

    asked_of : Machine → Result ⊤ Question
    asked_of m =
        let s = m.bench.settings in
        ask_load (capacity_of s) s.travel (ltb m.queue.len 16) (start_of m.bench m.queue) b

    by : (r : Result ⊤ Question) → asked_of m ≡ r → {n : ℕ} → (load_with m b r).answer ≡ Ok (Answer.Width n) → n < 2 ^ 63
    by (Ok passed) asked {n} is =
        let h = accepted_loadable (taken_accepted {m = m} {start = start}
        (record { sound = e; start_is = refl; asked = ap number_told asked })) in
        let w : width_along start b b.path ≡ n = cc in
        subst (λ (k : ℕ). k < 2 ^ 63) w (width_few start b b.path h)
    by (Err q) asked {n} is = let none : ◌≡◌ {A = ℕ} 0 1 = cc in omega (arith, none)
