-- The places of an array: its length, and each moved a place on.
use Rattle.std.specs.Prelude.{◌≡◌, refl, List, [], ◌∷◌, ◌++◌, map, ℕ, zero, suc, ◌+◌, ◌-◌, ◌≤◌, ◌<◌, length, take, drop, set, get_or}
use Rattle.std.proofs.Common.{sym, ap, ◌∙◌, not-suc-le-zero, le_of_suc-le-suc, add-one, arith, drop-cons, get_or-take, length-take-le}
use Rattle.std.proofs.lemmas.List.{length-map, take_all}
use Rattle.std.proofs.Math.ListN.{drop_of_length-le}
use Rattle.std.proofs.Math.Seq.{drop-nil, set-append_seam}
use Rattle.std.specs.List.{copy_within}
use Rattle.queue.specs.declared.Waiting.{Waiting}
use Rattle.queue.specs.declared.Queue.{Queue}
use Rattle.queue.specs.Queue.{blank, popped_of}

-- an array's length, from what the checker knows of a parameter: `search (unmap, needs)`
pub unmap : (X Y : Type 0) (f : X → Y) (l : List X) (n : ℕ) → length (map f l) ≡ n → length l ≡ n
unmap X Y f l n e = sym (length-map l f) ∙ e

-- the first j places hold what stood one place on
unfoldable pub shifted : {A : Type 0} → ℕ → List A → List A
shifted zero l = l
shifted (suc j) [] = []
shifted (suc j) (x ∷ []) = x ∷ []
shifted (suc j) (x ∷ y ∷ l) = y ∷ shifted j (y ∷ l)

shift_step : {A : Type 0} (l : List A) (j : ℕ) (d : A) → suc j < length l
    → set (shifted j l) j (get_or (shifted j l) (suc j) d) ≡ shifted (suc j) l
unfolding shifted
shift_step [] j d h = absurd (not-suc-le-zero h)
shift_step (x ∷ []) j d h = absurd (not-suc-le-zero (le_of_suc-le-suc h))
shift_step (x ∷ y ∷ l) zero d h = refl
shift_step (x ∷ y ∷ l) (suc j) d h = ap (λ r. y ∷ r) (shift_step (y ∷ l) j d (le_of_suc-le-suc h))

-- all of them moved, and the last place made d
shift_end : {A : Type 0} (l : List A) (j : ℕ) (d : A) → length l ≡ suc j → set (shifted j l) j d ≡ drop 1 l ++ (d ∷ [])
unfolding shifted
shift_end [] j d e = absurd (omega arith)
shift_end (x ∷ []) zero d e = refl
shift_end (x ∷ []) (suc j) d e = absurd (omega arith)
shift_end (x ∷ y ∷ l) zero d e = absurd (omega arith)
shift_end (x ∷ y ∷ l) (suc j) d e = ap (λ r. y ∷ r) (shift_end (y ∷ l) j d (omega arith))

-- ---- a queue whose first i places have moved

abbrev pub partly : ℕ → Queue → Queue
partly i q = record { blocks = shifted i q.blocks; len = q.len }

pub pop_step : (q₀ q : Queue) (i : ℕ) → i < 15 → length q₀.blocks ≡ 16 → q ≡ partly i q₀
    → ◌≡◌ {A = Queue} (record { blocks = set q.blocks i (get_or q.blocks (i + 1) blank); len = q.len }) (partly (i + 1) q₀)
pop_step q₀ q i h l e =
    rw (e, add-one)
    (ap (λ (bs : List Waiting). record { blocks = bs; len = q₀.len }) (shift_step q₀.blocks i blank (omega (arith, l))))

pub pop_end : (q₀ q : Queue) (w : Waiting) → w ≡ blank → length q₀.blocks ≡ 16 → q ≡ partly 15 q₀
    → ◌≡◌ {A = Queue} (record { blocks = set q.blocks 15 w; len = q.len - 1 }) (popped_of q₀)
unfolding popped_of
pop_end q₀ q w blanked l e =
    rw (e, blanked) (ap (λ (bs : List Waiting). record { blocks = bs; len = q₀.len - 1 }) (shift_end q₀.blocks 15 blank l))

-- the places copied down by one, and the last one made blank
pub moved_up : (q : Queue) (bs : List Waiting) (w : Waiting) → length q.blocks ≡ 16 → bs ≡ copy_within q.blocks 1 (length q.blocks) 0
    → w ≡ blank → ◌≡◌ {A = Queue} (record { blocks = set bs 15 w; len = q.len - 1 }) (popped_of q)
unfolding popped_of
moved_up q bs w l e blanked = rw (e, blanked, l) (by q.blocks l)
  where
    by : (bs : List Waiting) → length bs ≡ 16
        → ◌≡◌ {A = Queue} (record { blocks = set (take 15 (drop 1 bs) ++ drop 15 bs) 15 blank; len = q.len - 1 })
        (record { blocks = drop 1 bs ++ (blank ∷ []); len = q.len - 1 })
    by [] e = absurd (omega arith)
    by (x ∷ bs) e =
        let n : length bs ≡ 15 = omega arith in
        rw (take_all 15 bs (omega (arith, n)), drop-cons bs 14 blank (omega (arith, n)), drop_of_length-le bs {i = 15} (omega (arith, n)))
        (ap (λ (l : List Waiting). record { blocks = l; len = q.len - 1 })
        (ap (λ (k : ℕ). set (bs ++ (get_or bs 14 blank ∷ [])) k blank) (sym n) ∙ set-append_seam bs (get_or bs 14 blank) [] blank))

-- ---- the places of those that wait, from i on

pub from_place : (l : List Waiting) (i n : ℕ) → i < n → n ≤ length l
    → drop i (take n l) ≡ get_or l i blank ∷ drop (i + 1) (take n l)
from_place l i n h k = drop-cons (take n l) i blank (omega (arith, length-take-le n l k)) ∙ e
  where
    e : ◌≡◌ {A = List Waiting} (get_or (take n l) i blank ∷ drop (suc i) (take n l)) (get_or l i blank ∷ drop (i + 1) (take n l))
    e = rw (get_or-take n l i blank h, add-one) refl

drop_all : {A : Type 0} (i : ℕ) (l : List A) → length l ≤ i → drop i l ≡ []
drop_all i [] h = drop-nil i
drop_all zero (x ∷ l) h = absurd (not-suc-le-zero h)
drop_all (suc i) (x ∷ l) h = drop_all i l (le_of_suc-le-suc h)

pub no_place : (l : List Waiting) (i n : ℕ) → n ≤ i → n ≤ length l → drop i (take n l) ≡ []
no_place l i n h k = drop_all i (take n l) (omega (arith, h, length-take-le n l k))
