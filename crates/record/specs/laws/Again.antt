-- The words of a sound record tell it again, so a caller may hand them to the next call. The places that no block waits in are blank in
-- what words tell, and they stay so.
use Rattle.std.specs.Prelude.{◌≡◌, refl, Bool, true, false, cond, List, [], ◌∷◌, ◌++◌, ℕ, zero, suc, ◌+◌, ◌-◌, ◌≤◌, ◌<◌, min, ℤ, length}
use Rattle.std.specs.Prelude.{drop, replicate}
use Rattle.std.proofs.Common.{sym, ap, subst, ◌∙◌, arith, drop_at, drop-drop, drop-set-lt}
use Rattle.std.proofs.lemmas.List.{replicate-append-replicate, drop-append-le}
use Rattle.std.proofs.Math.Seq.{drop-append_seam}
use Rattle.whole.specs.laws.Test.{joined}
use Rattle.plane.specs.declared.point.Point.{Point}
use Rattle.plane.specs.declared.travel.Travel.{Travel}
use Rattle.plane.specs.Travel.{inside_of}
use Rattle.plane.specs.computed.Travel.{Wide}
use Rattle.circle.proofs.laws.Count.{quarter_bound}
use Rattle.arc.specs.Centre.{seen_from}
use Rattle.block.specs.declared.Block.{Block}
use Rattle.block.specs.computed.Chain.{chain_accepted, Accepted}
use Rattle.block.specs.Chain.{root_of}
use Rattle.block.proofs.laws.Accepted.{yes}
use Rattle.block.proofs.laws.Chain.{accepted_first, first_accepted}
use Rattle.queue.specs.declared.Queue.{Queue}
use Rattle.queue.specs.declared.Waiting.{Waiting}
use Rattle.queue.specs.Queue.{places, blocks_of, blank, pushed_of, popped_of}
use Rattle.queue.specs.computed.Queue.{roots_right}
use Rattle.queue.specs.laws.Sound.{roots_first}
use Rattle.work.specs.declared.Work.{Work}
use Rattle.work.specs.Work.{is_nothing, begun_of, end_of}
use Rattle.work.specs.computed.Rest.{Countable}
use Rattle.work.specs.Work.{root_in}
use Rattle.work.specs.laws.Left.{begun_countable, begun_root}
use Rattle.settings.specs.Settings.{capacity_of}
use Rattle.settings.specs.laws.Right.{settings_right}
use Rattle.bench.specs.declared.Bench.{Bench}
use Rattle.bench.specs.laws.Sound.{sound as bench_parts}
use Rattle.machine.specs.declared.Machine.{Machine}
use Rattle.machine.specs.computed.Machine.{sound_of}
use Rattle.machine.specs.Machine.{machine_of}
use Rattle.machine.specs.Calls.{first_in, next_of}
use Rattle.machine.specs.laws.Right.{sound}
use Rattle.machine.specs.laws.Onward.{wide, work_countable, work_end_inside}
use Rattle.machine.specs.laws.Load.{left_bound}
use Rattle.encoding.specs.laws.Record.{small}
use Rattle.record.specs.Words.{encode_of, over}
use Rattle.record.specs.computed.Words.{places_in, len_in, machine_in, sound_words}
use Rattle.record.specs.laws.Places.{AllSmall, places_length}
use Rattle.record.specs.laws.Record.{words_record, MachineSmall, machine_back}
use Rattle.record.specs.laws.Write.{told_sound}

-- ---- places that none waits in

abbrev pub Blanks : Queue → Type 0
Blanks q = drop q.len q.blocks ≡ replicate (16 - q.len) blank

pub told_blanks : (ws : List ℤ) → sound_words ws ≡ true → Blanks (machine_in ws).queue
unfolding machine_in
told_blanks ws t =
    let most : len_in ws ≤ 16 = (sound (machine_in ws) (told_sound ws t)).right.queue.most in
    drop_at (places_in ws 0 (min (len_in ws) 16)) (replicate (16 - len_in ws) blank) (len_in ws)
    (places_length ws 0 (min (len_in ws) 16) ∙ omega (arith, most))

pop_blanks : (q : Queue) → length q.blocks ≡ 16 → 1 ≤ q.len → q.len ≤ 16 → Blanks q → Blanks (popped_of q)
unfolding popped_of
pop_blanks q sixteen some most rest = by q.blocks q.len sixteen some most rest
  where
    by : (l : List Waiting) (n : ℕ) → length l ≡ 16 → 1 ≤ n → n ≤ 16 → drop n l ≡ replicate (16 - n) blank
        → drop (n - 1) (drop 1 l ++ (blank ∷ [])) ≡ replicate (16 - (n - 1)) blank
    by [] n long some most e = absurd (omega arith)
    by (x ∷ l) zero long some most e = absurd (omega arith)
    by (x ∷ l) (suc n) long some most e =
        let one : suc n - 1 ≡ n = omega arith in
        let more : 16 - suc n + 1 ≡ 16 - n = omega arith in
        rw one
        (drop-append-le n l (blank ∷ []) (omega arith)
        ∙ ap (λ (r : List Waiting). r ++ (blank ∷ [])) e
        ∙ replicate-append-replicate (16 - suc n) 1 blank
        ∙ ap (λ (k : ℕ). replicate k blank) more)

-- after ticks
pub next_blanks : (k : Bench) (q : Queue) → length q.blocks ≡ 16 → q.len ≤ 16 → Blanks q → Blanks (next_of k q).queue
unfolding next_of machine_of
next_blanks k q sixteen most rest = by (is_nothing k.work) q.len refl
  where
    by : (idle : Bool) (n : ℕ) → q.len ≡ n → Blanks (cond idle (first_in k q n) (machine_of k q)).queue
    by true zero e = rest
    by true (suc n) e = pop_blanks q sixteen (omega (arith, e)) most rest
    by false n e = rest

-- after a load that waits
pub push_blanks : (q : Queue) (w : Waiting) → q.len < 16 → Blanks q → Blanks (pushed_of q w)
unfolding pushed_of
push_blanks q w room rest =
    drop-set-lt (q.len + 1) q.blocks q.len w (omega arith)
    ∙ sym (drop-drop 1 q.len q.blocks)
    ∙ ap (drop 1) rest
    ∙ by (16 - q.len) (16 - (q.len + 1)) (omega arith)
  where
    by : (k j : ℕ) → k ≡ suc j → drop 1 (replicate k blank) ≡ replicate j blank
    by k j e = rw e refl

-- ---- counts that are words

root_most : (at : Point) (w : Work) → Countable at w → root_in w ≤ 8000000
root_most at Work.Nothing c = omega arith
root_most at (Work.Line l) c = c.1
root_most at (Work.Arc a) c = omega (arith, quarter_bound a.square (seen_from a.centre at) c.on)

block_root : (start : Point) (b : Block) → Accepted start b → root_of start b ≤ 8000000
block_root start b a = omega (arith, begun_root start b, root_most start (begun_of start b).work (begun_countable a))

places_small : (q0 : ℕ) (t : Travel) → q0 ≤ 1200000000 → Wide t → (from : Point) (l : List Waiting) → inside_of t from ≡ true
    → chain_accepted q0 t from (blocks_of l) ≡ true → roots_right from l ≡ true → AllSmall l
places_small q0 t most w from [] i a r = tt
places_small q0 t most w from (x ∷ l) i a r =
    let first = accepted_first q0 t from x.block (blocks_of l) a in
    let y = yes q0 t true from x.block first.0 in
    let own = roots_first from x l r in
    let root = block_root from x.block (first_accepted q0 t from x.block (blocks_of l) w i a) in (
      record { feed = omega (arith, y.most); root = omega (arith, own.0, root) },
      places_small q0 t most w x.block.end l y.end_in_lem first.1 own.1,
    )

module _ (m : Machine) (e : sound_of m ≡ true) (rest : Blanks m.queue) where
  machine_small : MachineSmall m
  machine_small =
      let k = m.bench in
      let i = sound m e in
      let s = bench_parts i.bench in
      let r = settings_right k.settings s.settings in
      let q = i.right.queue in
      record {
        scale = omega (arith, r.scale_most);
        clock = omega (arith, r.clock_most);
        remainder = omega (arith, s.below, r.clock_most);
        work = small k.settings.travel k.at k.work (omega (arith, r.clock_most)) s.work;
        root = omega (arith, i.right.root_is, root_most k.at k.work (work_countable k i.bench));
        left = omega (arith, left_bound m i);
        sixteen = q.sixteen;
        most = q.most;
        waiting = places_small (capacity_of k.settings) k.settings.travel (omega (arith, r.clock_most)) (wide k i.bench)
            (end_of k.at k.work) (places m.queue) (work_end_inside k i.bench) q.accepted q.roots;
        blanks = rest;
      }

  -- ---- words over which its own were laid

  module _ (ws : List ℤ) where
    pub told_again : machine_in (over (encode_of m) ws) ≡ m
    told_again = machine_back m machine_small ws

    laid_again : over (encode_of m) (over (encode_of m) ws) ≡ over (encode_of m) ws
    laid_again = ap (λ (l : List ℤ). encode_of m ++ l) (drop-append_seam (encode_of m) (drop (length (encode_of m)) ws))

    pub sound_again : sound_words (over (encode_of m) ws) ≡ true
    unfolding sound_words
    sound_again =
        joined
        (words_record (over (encode_of m) ws) (ap (λ (n : Machine). over (encode_of n) (over (encode_of m) ws)) told_again ∙ laid_again))
        (subst (λ (n : Machine). sound_of n ≡ true) (sym told_again) e)
