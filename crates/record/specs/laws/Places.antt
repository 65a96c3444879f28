-- Where the words of the blocks that wait stand, and the places that they tell.
use Rattle.std.specs.Prelude.{◌≡◌, refl, List, [], ◌∷◌, ◌++◌, ℕ, zero, suc, ◌+◌, ◌-◌, ◌*◌, ◌^◌, ◌≤◌, ◌<◌, min, ℤ, pos, length, take, drop}
use Rattle.std.specs.Prelude.{get_or, replicate}
use Rattle.std.proofs.Math.Path.{sym}
use Rattle.std.proofs.Common.{ap, ◌∙◌, append-nil, arith, length-append, drop-cons, drop-drop, get_or-drop, take_at, take_all}
use Rattle.std.proofs.lemmas.List.{length-replicate}
use Rattle.std.proofs.Math.ListN.{get_or-append}
use Rattle.circle.specs.declared.plane.Turn.{Turn}
use Rattle.plane.specs.declared.point.Point.{Point}
use Rattle.block.specs.declared.Path.{Path}
use Rattle.block.specs.Chain.{chain_end}
use Rattle.queue.specs.declared.Waiting.{Waiting}
use Rattle.queue.specs.Queue.{places, waiting, blank}
use Rattle.queue.specs.laws.Waiting.{none_waits, end_last}
use Rattle.encoding.specs.Words.{at}
use Rattle.encoding.specs.laws.Record.{count_word}
use Rattle.record.specs.declared.read.BlockWords.{BlockWords}
use Rattle.record.specs.Words.{block_words, block_words_along, block_words_of, seven_of, queue_words}
use Rattle.record.specs.computed.Words.{waiting_of, block_words_in, waiting_in}
use Rattle.record.specs.computed.Words.{places_in, queue_in, len_in}

-- ---- how many words

pub queue_length : (l : List Waiting) → length (queue_words l) ≡ 7 * length l
unfolding queue_words
queue_length [] = refl
queue_length (w ∷ l) = omega (arith, queue_length l)

pub places_length : (ws : List ℤ) (i n : ℕ) → length (places_in ws i n) ≡ n
unfolding places_in
places_length ws i zero = refl
places_length ws i (suc n) = ap suc (places_length ws (i + 1) n)

-- ---- the seven words of a place

step : (ws : List ℤ) (n m : ℕ) → n < length ws → m ≡ suc n → drop n ws ≡ at ws n ∷ drop m ws
step ws n m h e = rw e (drop-cons ws n (pos 0) h)

pub seven : (ws : List ℤ) (i : ℕ) → 29 + 7 * i ≤ length ws
    → drop (22 + 7 * i) ws ≡ seven_of (block_words_in ws i) (drop (22 + 7 * (i + 1)) ws)
seven ws i h =
    let n = 22 + 7 * i in
    step ws n (n + 1) (omega arith) (omega arith)
    ∙ ap (λ (l : List ℤ). at ws n ∷ l) (step ws (n + 1) (n + 2) (omega arith) (omega arith)
    ∙ ap (λ (l : List ℤ). at ws (n + 1) ∷ l) (step ws (n + 2) (n + 3) (omega arith) (omega arith)
    ∙ ap (λ (l : List ℤ). at ws (n + 2) ∷ l) (step ws (n + 3) (n + 4) (omega arith) (omega arith)
    ∙ ap (λ (l : List ℤ). at ws (n + 3) ∷ l) (step ws (n + 4) (n + 5) (omega arith) (omega arith)
    ∙ ap (λ (l : List ℤ). at ws (n + 4) ∷ l) (step ws (n + 5) (n + 6) (omega arith) (omega arith)
    ∙ ap (λ (l : List ℤ). at ws (n + 5) ∷ l) (step ws (n + 6) (22 + 7 * (i + 1)) (omega arith) (omega arith)))))))

-- the first seven words of a list
abbrev pub block_at : List ℤ → BlockWords
block_at l = block_words (at l 0) (at l 1) (at l 2) (at l 3) (at l 4) (at l 5) (at l 6)

block_at_lem : (ws : List ℤ) (i : ℕ) → block_at (drop (22 + 7 * i) ws) ≡ block_words_in ws i
block_at_lem ws i =
    let n = 22 + 7 * i in
    let first : at (drop n ws) 0 ≡ at ws n = get_or-drop n ws 0 (pos 0) ∙ ap (at ws) (omega arith) in
    rw (
      first,
      get_or-drop n ws 1 (pos 0),
      get_or-drop n ws 2 (pos 0),
      get_or-drop n ws 3 (pos 0),
      get_or-drop n ws 4 (pos 0),
      get_or-drop n ws 5 (pos 0),
      get_or-drop n ws 6 (pos 0),
    )

-- ---- a block and back

pub record WaitingSmall (w : Waiting) : Type 0 where
  pub feed : w.block.feed < 2 ^ 63
  pub root : w.root < 2 ^ 63

pub waiting_back : (w : Waiting) → WaitingSmall w → waiting_of (block_words_of w) ≡ w
unfolding waiting_of
waiting_back w s = by w.block.path
  where
    by : (p : Path) → waiting_of (block_words_along w p) ≡ record
        { block = record { path = p; end = w.block.end; feed = w.block.feed }; root = w.root }
    by Path.Line = rw (count_word s.feed, count_word s.root)
    by (Path.Arc Turn.Clockwise centre) = rw (count_word s.feed, count_word s.root)
    by (Path.Arc Turn.Counterclockwise centre) = rw (count_word s.feed, count_word s.root)

-- ---- the places that stand so and so in the words

abbrev pub AllSmall : List Waiting → Type 0
AllSmall [] = Unit {0}
AllSmall (w ∷ l) = WaitingSmall w × AllSmall l

pub places_back : (l : List Waiting) → AllSmall l → (ws : List ℤ) (i : ℕ) (rest : List ℤ) → drop (22 + 7 * i) ws ≡ queue_words l ++ rest
    → places_in ws i (length l) ≡ l
unfolding places_in queue_words
places_back [] s ws i rest e = refl
places_back (w ∷ l) s ws i rest e = ap (λ (v : Waiting). v ∷ places_in ws (i + 1) (length l)) here ∙ ap (λ (k : List Waiting). w ∷ k)
    (places_back l s.1 ws (i + 1) rest next)
  where
    here : waiting_of (block_words_in ws i) ≡ w
    here = ap waiting_of (sym (block_at_lem ws i) ∙ ap block_at e) ∙ waiting_back w s.0

    on : 22 + 7 * (i + 1) ≡ 22 + 7 * i + 7
    on = omega arith

    next : drop (22 + 7 * (i + 1)) ws ≡ queue_words l ++ rest
    next = ap (λ (n : ℕ). drop n ws) on ∙ sym (drop-drop 7 (22 + 7 * i) ws) ∙ ap (drop 7) e

-- ---- the queue that the words tell

module _ (ws : List ℤ) (len : ℕ) where
  pub queue_sixteen : length (queue_in ws len).blocks ≡ 16
  queue_sixteen =
      length-append (places_in ws 0 (min len 16)) (replicate (16 - len) blank)
      ∙ omega (arith, places_length ws 0 (min len 16), length-replicate (16 - len) blank)

  pub queue_places : places (queue_in ws len) ≡ places_in ws 0 (min len 16)
  queue_places = by (min len 16) (16 - len) refl refl
    where
      by : (n k : ℕ) → min len 16 ≡ n → 16 - len ≡ k → take len (places_in ws 0 n ++ replicate k blank) ≡ places_in ws 0 n
      by n zero e f =
          rw (append-nil (places_in ws 0 n)) (take_all len (places_in ws 0 n) (omega (arith, places_length ws 0 n)))
      by n (suc k) e f =
          take_at (places_in ws 0 n) (replicate (suc k) blank) len (places_length ws 0 n ∙ omega arith)

-- ---- the last that waits

place_at_lem : (ws : List ℤ) (i n k : ℕ) → k < n → get_or (places_in ws i n) k blank ≡ waiting_in ws (i + k)
unfolding places_in
place_at_lem ws i zero k h = absurd (omega arith)
place_at_lem ws i (suc n) zero h = ap (waiting_in ws) (by i)
  where
    by : (i : ℕ) → i ≡ i + 0
    by i = omega arith
place_at_lem ws i (suc n) (suc k) h = place_at_lem ws (i + 1) n k (omega arith) ∙ ap (waiting_in ws) (by i k)
  where
    by : (i k : ℕ) → i + 1 + k ≡ i + suc k
    by i k = omega arith

module _ (ws : List ℤ) (from : Point) {n : ℕ} (is : n ≡ len_in ws) where
  pub none_end : n ≡ 0 → from ≡ chain_end from (waiting (queue_in ws (len_in ws)))
  unfolding chain_end
  none_end none = sym (ap (chain_end from) (none_waits (queue_in ws (len_in ws)) (sym is ∙ none)))

  pub last_end : (n ≡ 0 → ⊥) → n ≤ 16 → (waiting_in ws (n - 1)).block.end ≡ chain_end from (waiting (queue_in ws (len_in ws)))
  last_end some most =
      ap (λ (w : Waiting). w.block.end)
      (sym (front ∙ place_at_lem ws 0 (min n 16) (n - 1) (omega (arith, waits)) ∙ ap (waiting_in ws) first))
      ∙ end_last from (queue_in ws n).blocks n waits (omega (arith, queue_sixteen ws n))
      ∙ ap (λ (k : ℕ). chain_end from (waiting (queue_in ws k))) is
    where
      waits : 1 ≤ n
      waits = by n some
        where
          by : (n : ℕ) → (n ≡ 0 → ⊥) → 1 ≤ n
          by zero some = absurd (some refl)
          by (suc n) some = omega arith

      first : 0 + (n - 1) ≡ n - 1
      first = omega arith

      front : get_or (queue_in ws n).blocks (n - 1) blank ≡ get_or (places_in ws 0 (min n 16)) (n - 1) blank
      front = get_or-append (places_in ws 0 (min n 16)) (replicate (16 - n) blank) blank (n - 1)
          (omega (arith, waits, places_length ws 0 (min n 16)))
