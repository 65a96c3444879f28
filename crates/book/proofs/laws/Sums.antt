-- What was done adds up, after every list of calls.
use Rattle.std.specs.Prelude.{◌≡◌, Bool, true, false, cond, ℤ, pos, ◌+ℤ◌, length}
use Rattle.std.proofs.Math.Path.{refl, sym}
use Rattle.std.proofs.Common.{ap, ◌∙◌, arith}
use mathlib.Core.List.{List, [], ◌∷◌, ◌++◌}
use Prim.Native.Nat.{ℕ, zero, suc, ◌+◌, ◌*◌}
use Rattle.std.proofs.Math.IntN.{+ℤ_idl, +ℤ_idr}
use Rattle.plane.specs.declared.point.Point.{Point}
use Rattle.plane.specs.declared.travel.Travel.{Travel}
use Rattle.plane.specs.Byte.{code_x, code_y}
use Rattle.block.specs.declared.Block.{Block}
use Rattle.block.specs.Questions.{load_no}
use Rattle.book.specs.Bench.{InWork, Bench, bench_tick, bench_run}
use Rattle.book.specs.Book.{Book, Call, Reply, fresh_book, start_of, fewer_wait, settled, loaded, load_entry, entry, replies, closing}
use Rattle.book.specs.Sums.{tick_bytes, pulses_in, pulses_sent, since_stop, charges_told, charges_since, ticks_work, added_in}
use Rattle.book.specs.Sums.{working_ticks}
use Rattle.book.specs.Sums.{feeds_since}
use Rattle.book.proofs.laws.Byte.{onward, Silent, none_silent}
use Rattle.book.proofs.laws.Settings.{SettingsRight}
use Rattle.book.proofs.laws.Sound.{Sound, fresh_sound}
use Rattle.book.proofs.laws.Ticking.{Ticking, rests, works, tick_does, run_does}
use Rattle.book.proofs.laws.Settled.{settled_same}
use Rattle.book.proofs.laws.Call.{call_kept}

-- ---- a call's bytes lead to the next point

pub record Moves (b : Bench) (bytes : List ℕ) (after : Bench) : Type 0 where
  pub x : after.at.x ≡ b.at.x +ℤ pulses_in code_x bytes
  pub y : after.at.y ≡ b.at.y +ℤ pulses_in code_y bytes

stands : (b after : Bench) (bytes : List ℕ) → after.at ≡ b.at → pulses_in code_x bytes ≡ pos 0 → pulses_in code_y bytes ≡ pos 0
    → Moves b bytes after
stands b after bytes e x y = record { x = axis (ap (λ (p : Point). p.x) e) x; y = axis (ap (λ (p : Point). p.y) e) y }
  where
    axis : {u v s : ℤ} → v ≡ u → s ≡ pos 0 → v ≡ u +ℤ s
    axis {u} e none = e ∙ sym (rw none (+ℤ_idr u))

-- ---- its feeds lead to the next remainder, less its charges times q0; but a stop clears the remainder

pub record Feeds (q0 : ℕ) (b : Bench) (charges fed : ℕ) (after : Bench) : Type 0 where
  pub sum : charges * q0 + after.remainder ≡ b.remainder + fed

silent_told : (w : InWork) {bytes : List ℕ} → Silent bytes → charges_told w bytes ≡ 0
silent_told InWork.nothing s = refl
silent_told (InWork.working j) s = s.charges j.block.path

-- a call without ticks, whether ticks would work or not
quiet : (q0 : ℕ) (b after : Bench) → after.remainder ≡ b.remainder
    → Feeds q0 b (charges_told b.work []) (cond (ticks_work b.mark b.work) 0 0 * added_in b.work) after
quiet q0 b after e = rw (silent_told b.work none_silent) (by (ticks_work b.mark b.work) (added_in b.work))
  where
    by : (work : Bool) (feed : ℕ) → Feeds q0 b 0 (cond work 0 0 * feed) after
    by true feed = omega arith
    by false feed = omega arith

-- ---- and the pulses of all replies to the last point

pub record Sent (b : Bench) (rs : List Reply) (after : Bench) : Type 0 where
  pub x : after.at.x ≡ b.at.x +ℤ pulses_sent code_x rs
  pub y : after.at.y ≡ b.at.y +ℤ pulses_sent code_y rs

module _ (q0 : ℕ) (t : Travel) where
  -- ---- the laws of one call

  ticking_moves : {b : Bench} {w : InWork} {bytes : List ℕ} {n : ℕ} {after : Bench} → Ticking q0 t b w bytes n after → Moves b bytes after
  ticking_moves {b} {bytes = bytes} (rests silent) = stands b b bytes refl silent.x silent.y
  ticking_moves (works n stretch) = record { x = stretch.x; y = stretch.y }

  ticking_feeds : {b : Bench} {w : InWork} {bytes : List ℕ} {n : ℕ} {after : Bench} → Ticking q0 t b w bytes n after
      → Feeds q0 b (charges_told w bytes) (n * added_in w) after
  ticking_feeds {w = w} (rests silent) = record { sum = rw (silent_told w silent) (omega arith) }
  ticking_feeds (works n stretch) = record { sum = rw n stretch.feeds }

  -- the block that comes in changes neither point nor remainder
  settled_moves : (b k : Bench) (l : List Block) {bytes : List ℕ} → Moves b bytes k → Moves b bytes (settled k l).bench
  settled_moves b k l m =
      let same = (settled_same k l).at in
      record { x = ap (λ (p : Point). p.x) same ∙ m.x; y = ap (λ (p : Point). p.y) same ∙ m.y }

  settled_feeds : (b k : Bench) (l : List Block) {charges fed : ℕ} → Feeds q0 b charges fed k → Feeds q0 b charges fed (settled k l).bench
  settled_feeds b k l f = record { sum = rw (settled_same k l).remainder f.sum }

  abbrev charged_by : Book → Call → ℕ
  charged_by b c = charges_told b.bench.work (tick_bytes (entry q0 t b c).reply)

  abbrev fed_by : Book → Call → ℕ
  fed_by b c = working_ticks q0 t b c * added_in b.bench.work

  load_moves : (b : Book) (k : Block) → (let e = load_entry q0 t b k in Moves b.bench (tick_bytes e.reply) e.next.bench)
  unfolding load_entry
  load_moves b k = by (load_no q0 t (fewer_wait b) (start_of b) k)
    where
      by : (n : ℕ) → (let e = loaded b k n in Moves b.bench (tick_bytes e.reply) e.next.bench)
      by zero = settled_moves b.bench b.bench (b.waiting ++ (k ∷ [])) (stands b.bench b.bench [] refl refl refl)
      by (suc n) = stands b.bench b.bench [] refl refl refl

  load_feeds : (b : Book) (k : Block)
      → (let c = Call.load k in Feeds q0 b.bench (charged_by b c) (fed_by b c) (load_entry q0 t b k).next.bench)
  unfolding load_entry
  load_feeds b k = by (load_no q0 t (fewer_wait b) (start_of b) k)
    where
      by : (n : ℕ)
          → (let e = loaded b k n in
          let bytes = tick_bytes e.reply in
          let w = b.bench.work in
          Feeds q0 b.bench (charges_told w bytes) (cond (ticks_work b.bench.mark w) (length bytes) 0 * added_in w) e.next.bench)
      by zero = settled_feeds b.bench b.bench (b.waiting ++ (k ∷ [])) (quiet q0 b.bench b.bench refl)
      by (suc n) = quiet q0 b.bench b.bench refl

  pub call_moves : (b : Book) (c : Call) → Sound q0 t b
      → (let e = entry q0 t b c in Moves b.bench (tick_bytes e.reply) e.next.bench)
  call_moves b (Call.load k) s = load_moves b k
  call_moves b Call.tick s =
      settled_moves b.bench (bench_tick q0 b.bench).after b.waiting (ticking_moves (tick_does q0 t b s.bench))
  call_moves b (Call.run budget buffer) s =
      settled_moves b.bench (bench_run q0 b.bench budget buffer).after b.waiting
      (ticking_moves (run_does q0 t b budget buffer s.bench))
  call_moves b Call.hold s = stands b.bench _ [] refl refl refl
  call_moves b Call.release s = stands b.bench _ [] refl refl refl
  call_moves b Call.stop s = stands b.bench _ [] refl refl refl

  tick_feeds : (b : Book) → Sound q0 t b
      → (let c = Call.tick in Feeds q0 b.bench (charged_by b c) (fed_by b c) (entry q0 t b c).next.bench)
  tick_feeds b s =
      settled_feeds b.bench (bench_tick q0 b.bench).after b.waiting (ticking_feeds (tick_does q0 t b s.bench))

  run_feeds : (b : Book) (budget buffer : ℕ) → Sound q0 t b
      → (let c = Call.run budget buffer in Feeds q0 b.bench (charged_by b c) (fed_by b c) (entry q0 t b c).next.bench)
  run_feeds b budget buffer s =
      settled_feeds b.bench (bench_run q0 b.bench budget buffer).after b.waiting
      (ticking_feeds (run_does q0 t b budget buffer s.bench))

  pub call_feeds : (b : Book) (c : Call) (charges feeds : ℕ) → Sound q0 t b → charges * q0 + b.bench.remainder ≡ feeds
      → since_stop charges c (charged_by b c) * q0 + (entry q0 t b c).next.bench.remainder ≡ since_stop feeds c (fed_by b c)
  call_feeds b (Call.load k) charges feeds s e = omega (arith, (load_feeds b k).sum)
  call_feeds b Call.tick charges feeds s e = omega (arith, (tick_feeds b s).sum)
  call_feeds b (Call.run budget buffer) charges feeds s e = omega (arith, (run_feeds b budget buffer s).sum)
  call_feeds b Call.hold charges feeds s e = omega (arith, (quiet q0 b.bench b.bench refl).sum)
  call_feeds b Call.release charges feeds s e = omega (arith, (quiet q0 b.bench b.bench refl).sum)
  call_feeds b Call.stop charges feeds s e = omega arith

  -- ---- every list of calls

  module _ (settings : SettingsRight q0 t) where
    pub pulses_sum : (b : Book) (cs : List Call) → Sound q0 t b → Sent b.bench (replies q0 t b cs) (closing q0 t b cs).bench
    unfolding replies closing pulses_sent
    pulses_sum b [] s = record { x = sym (+ℤ_idr b.bench.at.x); y = sym (+ℤ_idr b.bench.at.y) }
    pulses_sum b (c ∷ cs) s =
        let one = call_moves b c s in
        let rest = pulses_sum (entry q0 t b c).next cs (call_kept q0 t settings b c s) in
        let bytes = tick_bytes (entry q0 t b c).reply in
        let later = replies q0 t (entry q0 t b c).next cs in
        record {
          x = onward b.bench.at.x (pulses_in code_x bytes) (pulses_sent code_x later) one.x rest.x;
          y = onward b.bench.at.y (pulses_in code_y bytes) (pulses_sent code_y later) one.y rest.y;
        }

    pub feeds_sum : (b : Book) (cs : List Call) (charges feeds : ℕ) → Sound q0 t b → charges * q0 + b.bench.remainder ≡ feeds
        → charges_since q0 t charges b cs (replies q0 t b cs) * q0 + (closing q0 t b cs).bench.remainder ≡ feeds_since q0 t feeds b cs
    unfolding replies closing charges_since feeds_since
    feeds_sum b [] charges feeds s e = e
    feeds_sum b (c ∷ cs) charges feeds s e =
        feeds_sum (entry q0 t b c).next cs _ _ (call_kept q0 t settings b c s) (call_feeds b c charges feeds s e)

    -- "pulses sent on each axis since the machine was made sum to the point"
    pub pulses_are_point : (cs : List Call)
        → (let rs = replies q0 t fresh_book cs in
        let after = closing q0 t fresh_book cs in
        (pulses_sent code_x rs ≡ after.bench.at.x) × (pulses_sent code_y rs ≡ after.bench.at.y))
    pulses_are_point cs =
        let s = pulses_sum fresh_book cs (fresh_sound settings) in
        let rs = replies q0 t fresh_book cs in
        (sym (s.x ∙ +ℤ_idl (pulses_sent code_x rs)), sym (s.y ∙ +ℤ_idl (pulses_sent code_y rs)))

    -- "since the last stop, if any, cycles times feed capacity plus remainder equals the feed numbers of all working ticks"; 02 §2: "In the
    -- feed sum charges replace cycles and 1,000 × f replaces f."
    pub charges_are_feeds : (cs : List Call)
        → charges_since q0 t 0 fresh_book cs (replies q0 t fresh_book cs) * q0 + (closing q0 t fresh_book cs).bench.remainder
        ≡ feeds_since q0 t 0 fresh_book cs
    charges_are_feeds cs = feeds_sum fresh_book cs 0 0 (fresh_sound settings) (omega arith)
