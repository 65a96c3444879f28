-- What each step of a queue does to the blocks that wait; and the queue that holds just a list of them.
use Rattle.std.specs.Prelude.{◌≡◌, refl, List, [], ◌∷◌, ◌++◌, ℕ, zero, suc, ◌+◌, ◌-◌, ◌≤◌, ◌<◌, length, take, drop, set, get_or, replicate}
use Rattle.std.proofs.Common.{sym, ap, ◌∙◌, append_assoc, not-suc-le-zero, le_of_suc-le-suc, add-one, arith, length-append, take-suc-set}
use Rattle.std.proofs.Common.{length-take-le}
use Rattle.std.proofs.lemmas.List.{replicate-append-replicate, take-append-le}
use Rattle.std.proofs.Math.Seq.{take-append_seam, set-append_seam}
use Rattle.plane.specs.declared.point.Point.{Point}
use Rattle.block.specs.declared.Block.{Block}
use Rattle.block.specs.Chain.{end_after, chain_end}
use Rattle.queue.specs.declared.Waiting.{Waiting}
use Rattle.queue.specs.declared.Queue.{Queue}
use Rattle.queue.specs.Queue.{places, blocks_of, waiting, blank, empty_queue, pushed_of, first_of, popped_of, waiting_at, rooted, queue_of}

-- ---- any queue

pub none_waiting : waiting empty_queue ≡ []
unfolding empty_queue
none_waiting = refl

pub none_waits : (q : Queue) → q.len ≡ 0 → waiting q ≡ []
none_waits q none = ap (λ (n : ℕ). blocks_of (take n q.blocks)) none

pub blocks_append : (l k : List Waiting) → blocks_of (l ++ k) ≡ blocks_of l ++ blocks_of k
blocks_append [] k = refl
blocks_append (w ∷ l) k = ap (λ r. w.block ∷ r) (blocks_append l k)

pub blocks_length : (l : List Waiting) → length (blocks_of l) ≡ length l
blocks_length [] = refl
blocks_length (w ∷ l) = ap suc (blocks_length l)

pub waiting_length : (q : Queue) → q.len ≤ length q.blocks → length (waiting q) ≡ q.len
waiting_length q fits = blocks_length (places q) ∙ length-take-le q.len q.blocks fits

pub push_places : (q : Queue) (w : Waiting) → q.len < length q.blocks → places (pushed_of q w) ≡ places q ++ (w ∷ [])
unfolding pushed_of
push_places q w h = rw add-one (take-suc-set q.blocks q.len w h)

pub push_waiting : (q : Queue) (w : Waiting) → q.len < length q.blocks → waiting (pushed_of q w) ≡ waiting q ++ (w.block ∷ [])
push_waiting q w h = ap blocks_of (push_places q w h) ∙ blocks_append (places q) (w ∷ [])

-- "first come first cut": the first one, and then those that wait after it has gone
pub pop_places : (q : Queue) → 1 ≤ q.len → q.len ≤ length q.blocks → places q ≡ first_of q ∷ places (popped_of q)
unfolding popped_of
pop_places q some fits = by q.blocks q.len some fits
  where
    by : (l : List Waiting) (n : ℕ) → 1 ≤ n → n ≤ length l → take n l ≡ get_or l 0 blank ∷ take (n - 1) (drop 1 l ++ (blank ∷ []))
    by l zero s f = absurd (not-suc-le-zero s)
    by [] (suc n) s f = absurd (not-suc-le-zero f)
    by (x ∷ l) (suc n) s f = ap (λ (r : List Waiting). x ∷ r) (sym (rw one (take-append-le n l (blank ∷ []) (omega arith))))
      where
        one : suc n - 1 ≡ n
        one = omega arith

pub pop_waiting : (q : Queue) → 1 ≤ q.len → q.len ≤ length q.blocks → waiting q ≡ (first_of q).block ∷ waiting (popped_of q)
pop_waiting q some fits = ap blocks_of (pop_places q some fits)

last : (from : Point) (l : List Waiting) (n : ℕ) → suc n ≤ length l
    → (get_or l n blank).block.end ≡ chain_end from (blocks_of (take (suc n) l))
unfolding chain_end
last from [] n h = absurd (not-suc-le-zero h)
last from (x ∷ l) zero h = refl
last from (x ∷ l) (suc n) h = last (end_after from x.block) l n (le_of_suc-le-suc h)

-- the last place's end, where some wait
pub end_last : (from : Point) (l : List Waiting) (n : ℕ) → 1 ≤ n → n ≤ length l
    → (get_or l (n - 1) blank).block.end ≡ chain_end from (blocks_of (take n l))
end_last from l zero s h = absurd (not-suc-le-zero s)
end_last from l (suc n) s h = rw one (last from l n h)
  where
    one : suc n - 1 ≡ n
    one = omega arith

-- ---- the queue that holds just a list

pub rooted_blocks : (start : Point) (l : List Block) → blocks_of (rooted start l) ≡ l
unfolding rooted
rooted_blocks start [] = refl
rooted_blocks start (b ∷ l) = ap (λ r. b ∷ r) (rooted_blocks (end_after start b) l)

pub rooted_length : (start : Point) (l : List Block) → length (rooted start l) ≡ length l
rooted_length start l = sym (blocks_length (rooted start l)) ∙ ap length (rooted_blocks start l)

rooted_push : (start : Point) (l : List Block) (b : Block)
    → rooted start (l ++ (b ∷ [])) ≡ rooted start l ++ (waiting_at (chain_end start l) b ∷ [])
unfolding rooted chain_end
rooted_push start [] b = refl
rooted_push start (x ∷ l) b = ap (λ r. waiting_at start x ∷ r) (rooted_push (end_after start x) l b)

pub empty_queue_lem : (from : Point) → empty_queue ≡ queue_of from []
unfolding empty_queue queue_of rooted
empty_queue_lem from = refl

pub queue_places : (from : Point) (l : List Block) → places (queue_of from l) ≡ rooted from l
unfolding queue_of
queue_places from l =
    rw (sym (rooted_length from l)) (take-append_seam (rooted from l) (replicate (16 - length (rooted from l)) blank))

pub queue_waiting : (from : Point) (l : List Block) → waiting (queue_of from l) ≡ l
queue_waiting from l = ap blocks_of (queue_places from l) ∙ rooted_blocks from l

pub push_queue : (from : Point) (l : List Block) (b : Block) → length l < 16
    → pushed_of (queue_of from l) (waiting_at (chain_end from l) b) ≡ queue_of from (l ++ (b ∷ []))
unfolding pushed_of queue_of
push_queue from l b h =
    rw (rooted_push from l b)
    (by (rooted from l) (waiting_at (chain_end from l) b) (rooted_length from l) (16 - length l) (16 - length (l ++ (b ∷ [])))
    (omega (arith, more)))
  where
    more : length (l ++ (b ∷ [])) ≡ length l + 1
    more = length-append l (b ∷ [])

    by : (r : List Waiting) (w : Waiting) → length r ≡ length l → (k j : ℕ) → k ≡ suc j
        → ◌≡◌ {A = Queue} (record { blocks = set (r ++ replicate k blank) (length l) w; len = length l + 1 })
        (record { blocks = (r ++ (w ∷ [])) ++ replicate j blank; len = length (l ++ (b ∷ [])) })
    by r w n k j e =
        rw (e, more, sym n, set-append_seam r blank (replicate j blank) w, append_assoc r (w ∷ []) (replicate j blank))

pub pop_queue : (from : Point) (b : Block) (l : List Block) → length l < 16
    → popped_of (queue_of from (b ∷ l)) ≡ queue_of (end_after from b) l
unfolding popped_of queue_of rooted
pop_queue from b l h = by (rooted (end_after from b) l) (16 - suc (length l)) (16 - length l) (suc (length l) - 1) (omega arith)
    (omega arith)
  where
    by : (r : List Waiting) (j k n : ℕ) → k ≡ j + 1 → n ≡ length l
        → ◌≡◌ {A = Queue} (record { blocks = (r ++ replicate j blank) ++ (blank ∷ []); len = n })
        (record { blocks = r ++ replicate k blank; len = length l })
    by r j k n e f = rw (e, f, append_assoc r (replicate j blank) (blank ∷ []), replicate-append-replicate j 1 blank)
