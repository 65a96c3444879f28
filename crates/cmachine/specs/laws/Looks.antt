-- Ticks on words: they are those of the record that the words tell, and those of one block are laid at once.
use Rattle.std.specs.Prelude.{◌≡◌, Bool, true, false, ℕ, zero, suc, ◌+◌, ◌-◌, ◌≤◌, ◌<◌, ℤ, pos, negsuc, length, drop}
use Rattle.std.proofs.Math.Path.{refl, sym, ap, subst}
use Rattle.std.proofs.Common.{◌∙◌, arith, drop-drop}
use mathlib.Core.List.{List, ◌++◌}
use borrow.Author.Tests.{le-leb, lt-leb}
use Rattle.plane.specs.Point.{Near}
use Rattle.queue.specs.declared.Queue.{Queue}
use Rattle.work.specs.declared.Advance.{Advance}
use Rattle.work.specs.Work.{is_nothing, cycles_left}
use Rattle.work.specs.computed.Work.{advance_of}
use Rattle.run.specs.declared.Ran.{Ran}
use Rattle.run.specs.computed.Run.{Strip, in_front, strip_of, ran_of}
use Rattle.settings.specs.Settings.{capacity_of}
use Rattle.bench.specs.declared.Bench.{Bench}
use Rattle.bench.specs.declared.Ticked.{Ticked}
use Rattle.bench.specs.computed.Bench.{sound_of as bench_sound}
use Rattle.bench.specs.Bench.{moved_of}
use Rattle.bench.specs.computed.Calls.{tick_of as bench_tick}
use Rattle.bench.specs.laws.Calls.{tick_works}
use Rattle.finish.specs.computed.Finish.{works_of}
use Rattle.finish.specs.laws.Record.{AtWork, works}
use Rattle.machine.specs.declared.Machine.{Machine}
use Rattle.machine.specs.computed.Machine.{sound_of}
use Rattle.machine.specs.Machine.{machine_of}
use Rattle.machine.specs.Calls.{next_of}
use Rattle.machine.specs.computed.Calls.{tick_of}
use Rattle.machine.specs.laws.Right.{Sound, sound}
use Rattle.machine.specs.laws.Onward.{Onward}
use Rattle.machine.specs.laws.Next.{left_less}
use Rattle.machine.specs.laws.Keeps.{tick_keeps}
use Rattle.look.specs.declared.Sums.{Sums}
use Rattle.look.specs.computed.Look.{ticking_of, sums_of, pass_of, way_of}
use Rattle.look.specs.Look.{most_ticks}
use Rattle.machine.specs.laws.Rest.{next_own}
use Rattle.look.specs.laws.Ticks.{tick_goes_on, ticking_sound, ticking_still}
use Rattle.look.specs.laws.Pass.{skip_onward, skip_less, passes, passed_most, passed_some, passed_on}
use Rattle.look.specs.laws.Sums.{ticking_leads, leads_way}
use Rattle.look.specs.laws.Ahead.{looks, too_far, sound_near}
use Rattle.encoding.specs.Words.{at, count_of, word_of, refusal_of}
use Rattle.record.specs.Words.{encode_of, over}
use Rattle.record.specs.computed.Words.{bench_in, machine_in, sound_words}
use Rattle.record.specs.computed.Write.{Later}
use Rattle.record.specs.laws.Write.{told_sound, words_are}
use Rattle.record.specs.laws.Later.{strip_later}
use Rattle.record.specs.laws.Again.{told_blanks, next_blanks, told_again, sound_again}
use Rattle.calls.specs.Calls.{WordCall}
use Rattle.calls.specs.computed.Calls.{Told, call_of, told_of}
use Rattle.calls.specs.laws.Told.{told_call}
use Rattle.calls.specs.laws.Load.{own_words}
use Rattle.cmachine.specs.computed.Looks.{tells_ahead, ticks_of, told_ahead_of, Passing}
use Rattle.cmachine.specs.Looks.{no_sums, sum_words}

front : (m : Machine) → 22 ≤ length (encode_of m)
unfolding encode_of
front m = omega arith

bench_read_lem : (ws : List ℤ) → bench_in ws ≡ (machine_in ws).bench
unfolding machine_in
bench_read_lem ws = refl

-- ---- one tick

module _ (ws : List ℤ) (t : sound_words ws ≡ true) where
  abbrev m : Machine
  m = machine_in ws

  abbrev q : Queue
  q = m.queue

  parts : Sound m
  parts = sound m (told_sound ws t)

  tick_words : (told_of ws WordCall.tick).words ≡ over (encode_of (tick_of m).machine) ws
  unfolding call_of
  tick_words = sym (ap (λ (r : Told). r.words) (told_call ws t WordCall.tick))

  -- the record after ticks of the bench
  next_again : (k : Bench) → sound_of (next_of k q) ≡ true
      → (machine_in (over (encode_of (next_of k q)) ws) ≡ next_of k q) × (sound_words (over (encode_of (next_of k q)) ws) ≡ true)
  next_again k e =
      let rest = next_blanks k q parts.right.queue.sixteen parts.right.queue.most (told_blanks ws t) in
      (told_again (next_of k q) e rest ws, sound_again (next_of k q) e rest ws)

  tick_again : (let n = (tick_of m).machine in
      (machine_in (over (encode_of n) ws) ≡ n) × (sound_words (over (encode_of n) ws) ≡ true))
  tick_again =
      let is = tick_goes_on m (told_sound ws t) refl in
      rw is (next_again (bench_tick m.bench).bench (subst (λ (n : Machine). sound_of n ≡ true) is (tick_keeps m (told_sound ws t))))

  -- where the queue stays, so do the words behind the first 22
  behind_same : (k : Bench) → drop 22 (over (encode_of (machine_of k q)) ws) ≡ drop 22 ws
  unfolding encode_of machine_of
  behind_same k = sym (ap (drop 22) (words_are ws t))

  over_again : (k : Bench) (n : Machine) → over (encode_of n) (over (encode_of (machine_of k q)) ws) ≡ over (encode_of n) ws
  over_again k n = ap (λ (l : List ℤ). encode_of n ++ l) (by (length (encode_of n)) (front n))
    where
      by : (j : ℕ) → 22 ≤ j → drop j (over (encode_of (machine_of k q)) ws) ≡ drop j ws
      by j h =
          let own = over (encode_of (machine_of k q)) ws in
          let is : 22 + (j - 22) ≡ j = omega arith in
          ap (λ (i : ℕ). drop i own) (sym is) ∙ sym (drop-drop (j - 22) 22 own) ∙ ap (drop (j - 22)) (behind_same k)
          ∙ drop-drop (j - 22) 22 ws ∙ ap (λ (i : ℕ). drop i ws) is

-- ---- ticks one after the other

-- they are those of the record that the words tell
pub ticks_told : (n : ℕ) (ws : List ℤ) → sound_words ws ≡ true
    → (machine_in (ticks_of n ws) ≡ (ticking_of n (machine_in ws)).machine) × (sound_words (ticks_of n ws) ≡ true)
unfolding ticks_of ticking_of
ticks_told zero ws t = (refl, t)
ticks_told (suc n) ws t =
    let next = (tick_of (machine_in ws)).machine in
    let a = tick_again ws t in
    let i = ticks_told n (over (encode_of next) ws) a.1 in
    subst (λ (l : List ℤ). (machine_in (ticks_of n l) ≡ (ticking_of n next).machine) × (sound_words (ticks_of n l) ≡ true))
    (sym (tick_words ws t))
    (i.0 ∙ ap (λ (k : Machine). (ticking_of n k).machine) a.0, i.1)

-- idle or held
ticks_rest : (n : ℕ) (ws : List ℤ) → sound_words ws ≡ true → works_of (machine_in ws).bench ≡ false → ticks_of n ws ≡ ws
unfolding ticks_of ticking_of
ticks_rest zero ws t rests = refl
ticks_rest (suc n) ws t rests = ap (ticks_of n) still ∙ ticks_rest n ws t rests
  where
    still : (told_of ws WordCall.tick).words ≡ ws
    still =
        tick_words ws t
        ∙ ap (λ (k : Machine). over (encode_of k) ws) (ticking_still (machine_in ws) (told_sound ws t) rests 1)
        ∙ own_words ws t

-- ---- as the code finds them

pub ticks_none : (n : ℕ) (ws : List ℤ) → n ≡ 0 → ticks_of n ws ≡ ws
unfolding ticks_of
ticks_none n ws none = rw none refl

pub ticks_still : (n : ℕ) (ws : List ℤ) → sound_words ws ≡ true → {k : Bench} → k ≡ bench_in ws → works_of k ≡ false → ticks_of n ws ≡ ws
ticks_still n ws t is rests = ticks_rest n ws t (subst (λ (k : Bench). works_of k ≡ false) (is ∙ bench_read_lem ws) rests)

-- ---- at work

module _ (ws : List ℤ) (t : sound_words ws ≡ true) (a : AtWork (machine_in ws).bench) where
  abbrev k : Bench
  k = (machine_in ws).bench

  abbrev next : Advance
  next = advance_of (capacity_of k.settings) k.at k.remainder k.work

  abbrev moved : Bench
  moved = moved_of k next.at next.remainder next.work

  abbrev after : Machine
  after = next_of moved (machine_in ws).queue

  tick_is : (tick_of (machine_in ws)).machine ≡ after
  tick_is =
      tick_goes_on (machine_in ws) (told_sound ws t)
      (sym (ap (λ (t : Ticked). t.bench) (tick_works k a.sound a.free a.busy refl)))

  first_words_lem : (told_of ws WordCall.tick).words ≡ over (encode_of after) ws
  first_words_lem = tick_words ws t ∙ ap (λ (n : Machine). over (encode_of n) ws) tick_is

  after_again : (machine_in (over (encode_of after) ws) ≡ after) × (sound_words (over (encode_of after) ws) ≡ true)
  after_again =
      next_again ws t moved (subst (λ (n : Machine). sound_of n ≡ true) tick_is (tick_keeps (machine_in ws) (told_sound ws t)))

  -- the block goes on
  module _ (busy : is_nothing next.work ≡ false) where
    same : after ≡ machine_of moved (machine_in ws).queue
    unfolding next_of moved_of
    same = rw busy refl

    told_on : machine_in (over (encode_of after) ws) ≡ machine_of moved (machine_in ws).queue
    told_on = after_again.0 ∙ same

    working_on : AtWork (machine_in (over (encode_of after) ws)).bench
    unfolding machine_of moved_of
    working_on =
        subst (λ (n : Machine). AtWork n.bench) (sym told_on)
        (record {
          sound = subst (λ (n : Machine). bench_sound n.bench ≡ true) told_on
              (sound (machine_in (over (encode_of after) ws)) (told_sound (over (encode_of after) ws) after_again.1)).bench;
          free = a.free;
          busy = busy;
        })

-- all of the block, and those that are left
ticks_work_lem : (n : ℕ) (ws : List ℤ) (t : sound_words ws ≡ true) → AtWork (machine_in ws).bench
    → (let p = pass_of (machine_in ws) n in ticks_of n ws ≡ ticks_of (n - p.ticks) (over (encode_of p.machine) ws))
unfolding ticks_of pass_of strip_of moved_of machine_of
ticks_work_lem zero ws t a = sym (ap (λ (n : Machine). over (encode_of n) ws) (next_own (machine_in ws) (parts ws t)) ∙ own_words ws t)
ticks_work_lem (suc n) ws t a =
    ap (ticks_of n) (first_words_lem ws t a)
    ∙ by (is_nothing (next ws t a).work) refl (λ busy. on busy (ticks_work_lem n later (after_again ws t a).1 (working_on ws t a busy)))
  where
    q₀ : Queue
    q₀ = (machine_in ws).queue

    k' : Bench
    k' = moved ws t a

    later : List ℤ
    later = over (encode_of (next_of k' q₀)) ws

    rest : Strip
    rest = strip_of (capacity_of k'.settings) n k'.at k'.remainder k'.work

    left_by_lem : Strip → Machine
    left_by_lem s = next_of (moved_of k' s.at s.remainder s.work) q₀

    After : (ticks : ℕ) → Strip → List ℤ
    After ticks s = ticks_of (ticks - length s.bytes) (over (encode_of (left_by_lem s)) ws)

    -- on the words that the tick left, which differ in front alone
    on : is_nothing (next ws t a).work ≡ false
        → (let p = pass_of (machine_in later) n in ticks_of n later ≡ ticks_of (n - p.ticks) (over (encode_of p.machine) later))
        → ticks_of n later ≡ After n rest
    on busy e =
        e
        ∙ ap (λ (m' : Machine). let p = pass_of m' n in ticks_of (n - p.ticks) (over (encode_of p.machine) later)) (told_on ws t a busy)
        ∙ ap (ticks_of (n - length rest.bytes))
        (ap (λ (m' : Machine). over (encode_of (left_by_lem rest)) (over (encode_of m') ws)) (same ws t a busy)
        ∙ over_again ws t k' (left_by_lem rest))

    one_less : (ticks : ℕ) → n - ticks ≡ suc n - suc ticks
    one_less ticks = omega arith

    by : (ended : Bool) → is_nothing (next ws t a).work ≡ ended
        → (is_nothing (next ws t a).work ≡ false → ticks_of n later ≡ After n rest)
        → ticks_of n later ≡ After (suc n) (in_front ended (next ws t a) rest)
    by true none more = let last : n ≡ suc n - 1 = omega arith in ap (λ (left : ℕ). ticks_of left later) last
    by false goes more =
        more goes ∙ ap (λ (left : ℕ). ticks_of left (over (encode_of (left_by_lem rest)) ws)) (one_less (length rest.bytes))

-- ---- a pass of the code

module _ {ws : List ℤ} {k : Bench} (g : Passing ws k) where
  own : k ≡ (machine_in ws).bench
  unfolding machine_in
  own = g.bench_is

  pub working : AtWork k
  working = works g.works

  module _ (n : ℕ) {q0 : ℕ} {r : Ran} {k' : Bench} (capacity : q0 ≡ capacity_of k.settings)
      (skip : r ≡ ran_of (strip_of q0 n k.at k.remainder k.work)) (moves : k' ≡ moved_of k r.at r.remainder r.work) where
    capacity_own : q0 ≡ capacity_of (machine_in ws).bench.settings
    capacity_own = capacity ∙ ap (λ (k : Bench). capacity_of k.settings) own

    skip_own : (let k = (machine_in ws).bench in r ≡ ran_of (strip_of q0 n k.at k.remainder k.work))
    skip_own = skip ∙ ap (λ (k : Bench). ran_of (strip_of q0 n k.at k.remainder k.work)) own

    moves_own : k' ≡ moved_of (machine_in ws).bench r.at r.remainder r.work
    moves_own = moves ∙ ap (λ (k : Bench). moved_of k r.at r.remainder r.work) own

    onward : Onward (machine_in ws).bench k'
    onward = skip_onward (machine_in ws) n capacity_own skip_own moves_own (subst AtWork own working)

    less : (let b = (machine_in ws).bench in cycles_left b.at b.work ≡ cycles_left k'.at k'.work + r.cycles)
    less = skip_less (machine_in ws) n capacity_own skip_own moves_own (subst AtWork own working)

    module _ {left : ℕ} (left_is : left ≡ count_of (at ws 20)) where
      pub pass_enough : r.cycles ≤ left
      unfolding machine_in
      pass_enough = rw left_is (left_less (sound (machine_in ws) (told_sound ws g.sound)).right onward less).0

      pub pass_stores : {then : ℕ} → then ≡ left - r.cycles → Later ws k' then
      unfolding machine_in
      pass_stores e =
          strip_later ws g.sound n (rw (skip_own, capacity_own) at moves_own) onward r.cycles less
          (e ∙ ap (λ (j : ℕ). j - r.cycles) left_is)

    pub pass_told : {after : List ℤ} → after ≡ over (encode_of (next_of k' (machine_in ws).queue)) ws
        → (r.ticks ≡ (pass_of (machine_in ws) n).ticks) × (after ≡ over (encode_of (pass_of (machine_in ws) n).machine) ws)
    pass_told e =
        let passed = passes (machine_in ws) n capacity_own skip_own moves_own {m' = next_of k' (machine_in ws).queue} refl in
        (ap (λ p. p.ticks) passed, e ∙ ap (λ p. over (encode_of p.machine) ws) passed)

  -- and what it answers
  module _ (n : ℕ) {ticks : ℕ} {after : List ℤ} (ticks_is : ticks ≡ (pass_of (machine_in ws) n).ticks)
      (after_is : after ≡ over (encode_of (pass_of (machine_in ws) n).machine) ws) where
    pub pass_most : ticks ≤ n
    pass_most = omega (arith, ticks_is, passed_most (machine_in ws) n refl)

    pub pass_some : 1 ≤ n → 1 ≤ ticks
    pass_some some = omega (arith, ticks_is, passed_some (machine_in ws) n refl some)

    pub pass_on : (sound_words after ≡ true) × (ticks_of n ws ≡ ticks_of (n - ticks) after)
    unfolding pass_of
    pass_on =
        let working = subst (λ (k : Bench). works_of k ≡ true) own g.works in
        let p = pass_of (machine_in ws) n in
        let still = (passed_on (machine_in ws) n refl (told_sound ws g.sound) working).0 in (
          subst (λ (l : List ℤ). sound_words l ≡ true) (sym after_is) (next_again ws g.sound _ still).1,
          ticks_work_lem n ws g.sound (works working)
              ∙ ap (λ (j : ℕ). ticks_of (n - j) (over (encode_of p.machine) ws)) (sym ticks_is)
              ∙ ap (ticks_of (n - ticks)) (sym after_is),
        )

-- ---- what is told

module _ (ws : List ℤ) (n : ℕ) where
  pub ahead_refused : sound_words ws ≡ false → tells_ahead (negsuc 8) ws no_sums ≡ told_ahead_of ws n
  unfolding told_ahead_of
  ahead_refused t = rw t

  module _ (t : sound_words ws ≡ true) where
    pub ahead_far : most_ticks < n → tells_ahead (negsuc 37) ws no_sums ≡ told_ahead_of ws n
    unfolding told_ahead_of refusal_of word_of
    ahead_far more = rw (t, too_far (machine_in ws) n (told_sound ws t) more, lt-leb n most_ticks more) refl

    module _ (most : n ≤ most_ticks) {from to : Bench} (from_is : from ≡ bench_in ws) (to_is : to ≡ bench_in (ticks_of n ws)) where
      from_own : from ≡ (machine_in ws).bench
      unfolding machine_in
      from_own = from_is

      to_own : to ≡ (ticking_of n (machine_in ws)).machine.bench
      to_own = by ∙ ap (λ (m : Machine). m.bench) (ticks_told n ws t).0
        where
          by : to ≡ (machine_in (ticks_of n ws)).bench
          by = to_is ∙ bench_read_lem (ticks_of n ws)

      pub ahead_near : Near 1000000 from.at × Near 1000000 to.at
      ahead_near =
          let e = told_sound ws t in (
            subst (λ (k : Bench). Near 1000000 k.at) (sym from_own) (sound_near (machine_in ws) e),
            subst (λ (k : Bench). Near 1000000 k.at) (sym to_own)
                (sound_near (ticking_of n (machine_in ws)).machine (ticking_sound n (machine_in ws) e)),
          )

      way_is : way_of from.at to.at ≡ sums_of (ticking_of n (machine_in ws)).bytes
      way_is =
          ap (λ (k : Bench). way_of k.at to.at) from_own ∙ ap (λ (k : Bench). way_of (machine_in ws).bench.at k.at) to_own
          ∙ sym (leads_way (ticking_leads n (machine_in ws) (told_sound ws t)))

      pub ahead_told_lem : tells_ahead (pos 0) (ticks_of n ws) (sum_words (way_of from.at to.at)) ≡ told_ahead_of ws n
      unfolding told_ahead_of
      ahead_told_lem =
          let e = told_sound ws t in
          ap (λ (sums : Sums). tells_ahead (pos 0) (ticks_of n ws) (sum_words sums)) way_is
          ∙ rw (t, looks (machine_in ws) n e most, le-leb n most_ticks most) refl
