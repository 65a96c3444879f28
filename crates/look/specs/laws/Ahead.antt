-- What a look-ahead answers, and that looks add up.
use Rattle.std.specs.Prelude.{◌≡◌, Bool, cond, ℕ, ◌+◌, ◌≤◌, ◌<◌, ℤ, pos, ◌+ℤ◌, ◌-ℤ◌}
use Rattle.std.proofs.Math.Path.{refl}
use Rattle.std.proofs.Common.{sym, ap, ◌∙◌, arith}
use Rattle.std.proofs.Math.Bool.{true, false}
use Rattle.std.proofs.Math.Dec.{leb}
use borrow.Author.Tests.{leb-true, le-leb, lt-leb}
use Rattle.question.specs.declared.Question.{Question}
use Rattle.whole.specs.laws.Difference.{ring, var, num, ◌⊕◌, ◌⊖◌}
use Rattle.plane.specs.declared.point.Point.{Point}
use Rattle.plane.specs.Point.{Near}
use Rattle.plane.specs.laws.Travel.{inside, travel_near}
use Rattle.settings.specs.laws.Right.{settings_right}
use Rattle.bench.specs.laws.Sound.{sound as bench_parts}
use Rattle.machine.specs.declared.Machine.{Machine}
use Rattle.machine.specs.computed.Machine.{sound_of}
use Rattle.machine.specs.laws.Right.{sound}
use Rattle.look.specs.declared.Sums.{Sums}
use Rattle.look.specs.declared.Ahead.{Ahead}
use Rattle.look.specs.computed.Look.{ticking_of, looked, refusing, ahead_of, way_of}
use Rattle.look.specs.Look.{most_ticks}
use Rattle.look.specs.laws.Sums.{ticking_leads, leads_way}
use Rattle.look.specs.laws.Ticks.{ticking_sound, ticking_adds}

-- a sound record's point is in travel
pub sound_near : (m : Machine) → sound_of m ≡ true → Near 1000000 m.bench.at
sound_near m e =
    let s = bench_parts (sound m e).bench in travel_near (settings_right m.bench.settings s.settings).wide (inside s.in_travel)

module _ (m : Machine) (n : ℕ) where
  pub looks : sound_of m ≡ true → n ≤ most_ticks → ahead_of m n ≡ looked m (ticking_of n m)
  unfolding ahead_of
  looks sound most = rw (sound, le-leb n most_ticks most)

  pub too_far : sound_of m ≡ true → most_ticks < n → ahead_of m n ≡ refusing m Question.LookLength
  unfolding ahead_of
  too_far sound more = rw (sound, lt-leb n most_ticks more)

  pub unsound : sound_of m ≡ false → ahead_of m n ≡ refusing m Question.Sound
  unfolding ahead_of
  unsound not_sound = rw not_sound

  -- what holds of a look, and of a refusal
  pub either : (P : Ahead → Type 0) → (sound_of m ≡ true → n ≤ most_ticks → P (looked m (ticking_of n m)))
      → ((q : Question) → P (refusing m q)) → P (ahead_of m n)
  unfolding ahead_of
  either P seen refused = by (sound_of m) (leb n most_ticks) refl refl
    where
      by : (sound most : Bool) → sound_of m ≡ sound → leb n most_ticks ≡ most
          → P (cond sound (cond most (looked m (ticking_of n m)) (refusing m Question.LookLength)) (refusing m Question.Sound))
      by true true s l = seen s (leb-true n most_ticks l)
      by true false s l = refused Question.LookLength
      by false most s l = refused Question.Sound

  -- "The machine itself comes back unchanged."
  pub unchanged : (ahead_of m n).machine ≡ m
  unchanged = either (λ a. a.machine ≡ m) (λ s l. refl) (λ k. refl)

  -- so a caller may go on with it
  pub then_sound : sound_of m ≡ true → sound_of (ahead_of m n).then ≡ true
  then_sound sound = either (λ a. sound_of a.then ≡ true) (λ s l. ticking_sound n m s) (λ k. sound)

  -- the sums are the point ahead less the point, of a refusal too
  pub sums_are : (ahead_of m n).sums ≡ way_of m.bench.at (ahead_of m n).then.bench.at
  sums_are =
      either (λ a. a.sums ≡ way_of m.bench.at a.then.bench.at) (λ s l. leads_way (ticking_leads n m s))
      (λ k. nowhere m.bench.at)
    where
      stays : (u : ℤ) → pos 0 ≡ u -ℤ u
      stays u = ring (num 0) (var u ⊖ var u) (omega arith)

      nowhere : (p : Point) → record { x = pos 0; y = pos 0 } ≡ way_of p p
      nowhere p = λ i. record { x = stays p.x i; y = stays p.y i }

-- ahead of s + t is ahead of t after ahead of s, with the same answer, for any record
pub ahead_adds : (s t : ℕ) (m : Machine) → s + t ≤ most_ticks
    → (let far = ahead_of m (s + t) in
    let next = ahead_of (ahead_of m s).then t in
    (far.answer ≡ next.answer) × (far.then ≡ next.then))
ahead_adds s t m most = by (sound_of m) refl
  where
    by : (b : Bool) → sound_of m ≡ b
        → (let far = ahead_of m (s + t) in
        let next = ahead_of (ahead_of m s).then t in
        (far.answer ≡ next.answer) × (far.then ≡ next.then))
    by true e =
        let first = looks m s e (omega arith) in
        let mid = (ticking_of s m).machine in
        rw (looks m (s + t) e most, first, looks mid t (ticking_sound s m e) (omega arith)) (refl, ticking_adds s t m)
    by false e = rw (unsound m (s + t) e, unsound m s e, unsound m t e) (refl, refl)

-- and so do the sums
abbrev pub both : Sums → Sums → Sums
both a b = record { x = a.x +ℤ b.x; y = a.y +ℤ b.y }

pub sums_add : (s t : ℕ) (m : Machine) → s + t ≤ most_ticks
    → (ahead_of m (s + t)).sums ≡ both (ahead_of m s).sums (ahead_of (ahead_of m s).then t).sums
sums_add s t m most =
    let mid = (ahead_of m s).then in
    let far = (ahead_of mid t).then in
    sums_are m (s + t) ∙ ap (λ (k : Machine). way_of m.bench.at k.bench.at) (ahead_adds s t m most).1
    ∙ over m.bench.at mid.bench.at far.bench.at ∙ sym (λ i. both (sums_are m s i) (sums_are mid t i))
  where
    axis : (u v w : ℤ) → w -ℤ u ≡ (v -ℤ u) +ℤ (w -ℤ v)
    axis u v w = ring (var w ⊖ var u) (var v ⊖ var u ⊕ (var w ⊖ var v)) (omega arith)

    over : (p q r : Point) → way_of p r ≡ both (way_of p q) (way_of q r)
    over p q r = λ i. record { x = axis p.x q.x r.x i; y = axis p.y q.y r.y i }
