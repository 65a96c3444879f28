-- The code's tests pass exactly where the words are those of a sound record.
use Rattle.std.specs.Prelude.{◌≡◌, Bool, Some, None, ◌&&◌, eqb, ℤ, pos, take}
use Rattle.std.proofs.Math.Path.{refl, sym, ap}
use Rattle.std.proofs.Common.{◌∙◌, drop-cons, SFits}
use Rattle.std.proofs.Math.Bool.{true, false, cond}
use mathlib.Core.List.{List, [], ◌∷◌, ◌++◌}
use Prim.Native.Nat.{ℕ, zero, suc, ◌+◌, ◌-◌, ◌*◌, ◌≤◌, ◌<◌, min}
use native.Mathlib.Omega.{arith}
use Rattle.std.proofs.Math.ListN.{length, drop}
use Rattle.std.specs.Int.{w64}
use Rattle.whole.specs.Equal.{equal_z}
use Rattle.whole.specs.laws.Test.{both, joined, same_test, equal_true}
use Rattle.plane.specs.declared.point.Point.{Point}
use Rattle.plane.specs.declared.travel.Travel.{Travel}
use Rattle.block.specs.declared.Path.{Path}
use Rattle.circle.specs.declared.plane.Turn.{Turn}
use Rattle.block.specs.Block.{block_cycles}
use Rattle.queue.specs.declared.Waiting.{Waiting}
use Rattle.queue.specs.computed.Test.{fits, taken_off, chain_holds}
use Rattle.queue.specs.laws.Test.{sound_with, too_long_lem, tested, off_none, off_some}
use Rattle.encoding.specs.declared.encode.Head.{Head}
use Rattle.encoding.specs.declared.encode.WorkWords.{WorkWords}
use Rattle.encoding.specs.Words.{abi, at, word_of, count_of, head_of, work_words_of}
use Rattle.encoding.specs.computed.Words.{head_in, work_words_in, work_read}
use Rattle.encoding.specs.computed.Right.{parts_right, words_right, head_right, work_right}
use Rattle.encoding.specs.laws.Same.{same_true, same_words_lem}
use Rattle.encoding.specs.laws.Right.{count_again, count_right, zero_right, head_again, head_right_lem, WorkFits, work_again}
use Rattle.encoding.specs.laws.Right.{work_right_lem}
use Rattle.encoding.specs.laws.Right.{words_at}
use Rattle.record.specs.declared.read.BlockWords.{BlockWords}
use Rattle.record.specs.Words.{figures_of, front_of, block_words, block_words_along, block_words_of, seven_of, queue_words, encode_of}
use Rattle.record.specs.Words.{over}
use Rattle.record.specs.computed.Words.{waiting_of, path_read, block_words_in, waiting_in, places_in, queue_in, figures_in, len_in}
use Rattle.record.specs.computed.Words.{bench_in}
use Rattle.record.specs.computed.Words.{machine_in}
use Rattle.record.specs.computed.Words.{is_record}
use Rattle.record.specs.computed.Right.{figures_right, is_front, front_right, block_row_right, kind_right, block_right, are_blocks}
use Rattle.record.specs.computed.Right.{row_right}
use Rattle.record.specs.laws.Places.{queue_length, seven, block_at, queue_sixteen, queue_places, places_length}
use Rattle.record.specs.laws.Record.{record_words, words_record}

-- ---- the words in front

-- the words that a count may stand in are numbers of 64 bits
pub record FrontFits (ws : List ℤ) : Type 0 where
  pub p : SFits w64 (at ws 1)
  pub w : SFits w64 (at ws 2)
  pub remainder : SFits w64 (at ws 10)
  pub work : WorkFits (work_words_in ws)
  pub root : SFits w64 (at ws 19)
  pub left : SFits w64 (at ws 20)
  pub len : SFits w64 (at ws 21)

module _ (ws : List ℤ) where
  -- the words as they stand in front, and those of what they tell
  abbrev standing : List ℤ → List ℤ
  standing rest = front_of (at ws 0) (head_in ws) (work_words_in ws) (figures_in ws) rest

  abbrev told : List ℤ → List ℤ
  told rest =
      front_of abi (head_of (bench_in ws)) (work_words_of (bench_in ws).work)
      (figures_of (count_of (at ws 19)) (count_of (at ws 20)) (len_in ws)) rest

  front_again : FrontFits ws → front_right ws ≡ true → (rest : List ℤ) → standing rest ≡ told rest
  unfolding front_right figures_right bench_in
  front_again f t rest =
      let a = both t in
      let b = both a.1 in
      let c = both b.1 in
      let d = both c.1 in
      let e = both d.1 in
      let h = head_again (head_in ws) (work_read (work_words_in ws)) f.p f.w f.remainder b.0 in
      let w = work_again (work_words_in ws) f.work c.0 in
      let root = count_again (at ws 19) f.root d.0 in
      let left = count_again (at ws 20) f.left e.0 in
      let len = count_again (at ws 21) f.len e.1 in
      ap (λ (first : ℤ). front_of first (head_in ws) (work_words_in ws) (figures_in ws) rest) (equal_true (at ws 0) abi a.0)
      ∙ ap (λ (g : Head). front_of abi g (work_words_in ws) (figures_in ws) rest) (sym h)
      ∙ ap (λ (v : WorkWords). front_of abi (head_of (bench_in ws)) v (figures_in ws) rest) (sym w)
      ∙ ap (λ (n : ℤ). front_of abi (head_of (bench_in ws)) (work_words_of (bench_in ws).work)
      (record { root = n; left = at ws 20; len = at ws 21 }) rest) (sym root)
      ∙ ap (λ (n : ℤ). front_of abi (head_of (bench_in ws)) (work_words_of (bench_in ws).work)
      (record { root = word_of (count_of (at ws 19)); left = n; len = at ws 21 }) rest) (sym left)
      ∙ ap (λ (n : ℤ). front_of abi (head_of (bench_in ws)) (work_words_of (bench_in ws).work)
      (record { root = word_of (count_of (at ws 19)); left = word_of (count_of (at ws 20)); len = n }) rest) (sym len)

  front_right_lem : (rest rest' : List ℤ) → standing rest ≡ told rest' → front_right ws ≡ true
  unfolding front_right figures_right bench_in
  front_right_lem rest rest' e =
      let first : equal_z (at ws 0) abi ≡ true = rw (ap (λ (l : List ℤ). at l 0) e) in
      joined first
      (joined (head_right_lem (head_in ws) (work_read (work_words_in ws)) (sym (ap head_in e)))
      (joined (work_right_lem (work_words_in ws) (sym (ap work_words_in e)))
      (joined (count_right (at ws 19) (sym (ap (λ (l : List ℤ). at l 19) e)))
      (joined (count_right (at ws 20) (sym (ap (λ (l : List ℤ). at l 20) e)))
      (count_right (at ws 21) (sym (ap (λ (l : List ℤ). at l 21) e)))))))

  pub front_same : FrontFits ws → front_right ws ≡ is_front ws
  unfolding is_front
  front_same f =
      same_test (λ t. sym (same_words_lem (front_again f t []))) (λ t. front_right_lem [] [] (same_true (standing []) (told []) t))

-- the test of the parts, and that of the figures behind them
pub front_parts : (ws : List ℤ) → (words_right ws && figures_right (figures_in ws)) ≡ front_right ws
unfolding words_right parts_right front_right
front_parts ws = by (equal_z (at ws 0) abi) (head_right (head_in ws)) (work_right (work_words_in ws)) (figures_right (figures_in ws))
  where
    by : (a b c d : Bool) → ((a && (b && c)) && d) ≡ (a && (b && (c && d)))
    by true true c d = refl
    by true false c d = refl
    by false b c d = refl

-- ---- the words of a block

pub record BlockFits (b : BlockWords) : Type 0 where
  pub feed : SFits w64 b.feed
  pub root : SFits w64 b.root

module _ (b : BlockWords) where
  abbrev of_kind : ℤ → BlockWords
  of_kind k = block_words k b.x b.y b.feed b.i b.j b.root

  abbrev own : BlockWords
  own = block_words_of (waiting_of b)

  block_again : BlockFits b → block_right b ≡ true → own ≡ b
  unfolding block_right waiting_of
  block_again f t =
      let a = both t in
      let c = both a.1 in
      by (equal_z b.kind (pos 1)) refl (equal_z b.kind (pos 2)) refl (count_again b.feed f.feed a.0)
      (count_again b.root f.root c.0) c.1
    where
      by : (k1 : Bool) → equal_z b.kind (pos 1) ≡ k1 → (k2 : Bool) → equal_z b.kind (pos 2) ≡ k2
          → word_of (count_of b.feed) ≡ b.feed → word_of (count_of b.root) ≡ b.root
          → cond k1 (equal_z b.i (pos 0) && equal_z b.j (pos 0)) (cond k2 true (equal_z b.kind (pos 3))) ≡ true
          → own ≡ of_kind b.kind
      by true e k2 e2 feed root t =
          let z = both t in
          rw (equal_true b.kind (pos 1) e, feed, root, equal_true b.i (pos 0) z.0, equal_true b.j (pos 0) z.1)
      by false e true e2 feed root t = rw (equal_true b.kind (pos 2) e2, feed, root)
      by false e false e2 feed root t = rw (equal_true b.kind (pos 3) t, feed, root)

  block_right_lem : own ≡ b → block_right b ≡ true
  unfolding block_right waiting_of
  block_right_lem e =
      joined (count_right b.feed (feed (path_read b) ∙ ap (λ (v : BlockWords). v.feed) e))
      (joined (count_right b.root (root (path_read b) ∙ ap (λ (v : BlockWords). v.root) e))
      (by (eqb (count_of b.kind) 2) (eqb (count_of b.kind) 3) e))
    where
      feed : (p : Path) → word_of (count_of b.feed) ≡ (block_words_along (waiting_of b) p).feed
      feed Path.Line = refl
      feed (Path.Arc turn centre) = refl

      root : (p : Path) → word_of (count_of b.root) ≡ (block_words_along (waiting_of b) p).root
      root Path.Line = refl
      root (Path.Arc turn centre) = refl

      by : (k2 k3 : Bool)
          → block_words_along (waiting_of b)
          (cond k2 (Path.Arc Turn.Clockwise (record { x = b.i; y = b.j }))
          (cond k3 (Path.Arc Turn.Counterclockwise (record { x = b.i; y = b.j })) Path.Line)) ≡ b
          → kind_right b ≡ true
      by true k3 e = rw (sym (ap (λ (v : BlockWords). v.kind) e))
      by false true e = rw (sym (ap (λ (v : BlockWords). v.kind) e))
      by false false e =
          rw (sym (ap (λ (v : BlockWords). v.kind) e))
          (joined (zero_right (ap (λ (v : BlockWords). v.i) e)) (zero_right (ap (λ (v : BlockWords). v.j) e)))

  is_block_lem : block_row_right b ≡ true → own ≡ b
  unfolding block_row_right
  is_block_lem t = sym (ap block_at (same_true (seven_of b []) (seven_of own []) t))

  block_is : own ≡ b → block_row_right b ≡ true
  unfolding block_row_right
  block_is e = sym (same_words_lem (ap (λ (v : BlockWords). seven_of v []) (sym e)))

  pub block_same : BlockFits b → block_right b ≡ block_row_right b
  block_same f = same_test (λ t. block_is (block_again f t)) (λ t. block_right_lem (is_block_lem t))

-- ---- the words of all blocks

module _ (ws : List ℤ) where
  -- the words from a place on are those of so many blocks that they tell, and then those behind them
  abbrev Stand : (i n : ℕ) → Type 0
  Stand i n = drop (22 + 7 * i) ws ≡ queue_words (places_in ws i n) ++ drop (22 + 7 * (i + n)) ws

  blocks_stand : (i n : ℕ) → 22 + 7 * (i + n) ≤ length ws → are_blocks ws i n ≡ true → Stand i n
  unfolding are_blocks places_in queue_words
  blocks_stand i zero h t = ap (λ (k : ℕ). drop k ws) (by i)
    where
      by : (i : ℕ) → 22 + 7 * i ≡ 22 + 7 * (i + 0)
      by i = omega arith
  blocks_stand i (suc n) h t =
      let a = both t in
      seven ws i (omega arith)
      ∙ ap (λ (b : BlockWords). seven_of b (drop (22 + 7 * (i + 1)) ws)) (sym (is_block_lem (block_words_in ws i) a.0))
      ∙ ap (seven_of (block_words_of (waiting_in ws i)))
      (blocks_stand (i + 1) n (omega arith) a.1 ∙ ap (λ (k : ℕ). queue_words (places_in ws (i + 1) n) ++ drop k ws) (by i n))
    where
      by : (i n : ℕ) → 22 + 7 * (i + 1 + n) ≡ 22 + 7 * (i + suc n)
      by i n = omega arith

  stand_blocks : (i n : ℕ) → 22 + 7 * (i + n) ≤ length ws → Stand i n → are_blocks ws i n ≡ true
  unfolding are_blocks places_in queue_words
  stand_blocks i zero h e = refl
  stand_blocks i (suc n) h e =
      let s = sym (seven ws i (omega arith)) ∙ e in
      joined (block_is (block_words_in ws i) (sym (ap block_at s)))
      (stand_blocks (i + 1) n (omega arith) (ap (drop 7) s ∙ ap (λ (k : ℕ). queue_words (places_in ws (i + 1) n) ++ drop k ws) (by i n)))
    where
      by : (i n : ℕ) → 22 + 7 * (i + suc n) ≡ 22 + 7 * (i + 1 + n)
      by i n = omega arith

-- ---- a record

-- the words one by one, and then those behind them
spread : (n i : ℕ) (ws : List ℤ) → i + n ≤ length ws → drop i ws ≡ words_at i n ws ++ drop (i + n) ws
spread zero i ws h = ap (λ (k : ℕ). drop k ws) (by i)
  where
    by : (i : ℕ) → i ≡ i + 0
    by i = omega arith
spread (suc n) i ws h =
    drop-cons ws i (pos 0) (omega arith)
    ∙ ap (λ (l : List ℤ). at ws i ∷ l) (spread n (suc i) ws (omega arith) ∙ ap (λ (k : ℕ). words_at (suc i) n ws ++ drop k ws) (by i n))
  where
    by : (i n : ℕ) → suc i + n ≡ i + suc n
    by i n = omega arith

module _ (ws : List ℤ) (long : length ws ≡ 134) where
  abbrev many : ℕ
  many = min (len_in ws) 16

  -- what stands in front, and behind it
  split : ws ≡ standing ws (drop 22 ws)
  split = spread 22 0 ws (omega (arith, long))

  -- the words of the machine, and what stands behind them
  told_all : over (encode_of (machine_in ws)) ws ≡ told ws (queue_words (places_in ws 0 many) ++ drop (22 + 7 * (0 + many)) ws)
  unfolding encode_of machine_in
  told_all =
      ap (λ (l : List Waiting). told ws (queue_words l ++ drop (length (told ws (queue_words l))) ws)) (queue_places ws (len_in ws))
      ∙ ap (λ (k : ℕ). told ws (queue_words (places_in ws 0 many) ++ drop k ws)) long_as
    where
      long_as : length (told ws (queue_words (places_in ws 0 many))) ≡ 22 + 7 * (0 + many)
      long_as = omega (arith, queue_length (places_in ws 0 many), places_length ws 0 many)

  enough : 22 + 7 * (0 + many) ≤ length ws
  enough = omega (arith, long)

  front_is : is_front ws ≡ true → (rest : List ℤ) → standing ws rest ≡ told ws rest
  unfolding is_front
  front_is t rest = ap (λ (l : List ℤ). l ++ rest) (same_true (standing ws []) (told ws []) t)

  is_front_lem : (rest rest' : List ℤ) → standing ws rest ≡ told ws rest' → is_front ws ≡ true
  unfolding is_front
  is_front_lem rest rest' e = sym (same_words_lem (ap (take 22) e))

  pub record_is : is_record ws ≡ (is_front ws && are_blocks ws 0 many)
  record_is = same_test to from
    where
      to : is_record ws ≡ true → (is_front ws && are_blocks ws 0 many) ≡ true
      to t =
          let e = sym split ∙ sym (record_words ws t) ∙ told_all in
          joined (is_front_lem _ _ e) (stand_blocks ws 0 many enough (ap (drop 22) e))

      from : (is_front ws && are_blocks ws 0 many) ≡ true → is_record ws ≡ true
      from t =
          let a = both {a = is_front ws} t in
          words_record ws
          (told_all ∙ ap (told ws) (sym (blocks_stand ws 0 many enough a.1)) ∙ sym (front_is a.0 (drop 22 ws)) ∙ sym split)

-- ---- from block to block

regroup : (a b c d : Bool) → ((a && b) && (c && d)) ≡ ((a && c) && (b && d))
regroup true true c d = refl
regroup true false true d = refl
regroup true false false d = refl
regroup false b c d = refl

pub none : (a : Bool) → (a && false) ≡ false
none true = refl
none false = refl

module _ (q0 : ℕ) (t : Travel) (ws : List ℤ) where
  row_is : (start : Point) (count i n : ℕ) → row_right q0 t ws start count i n ≡
      (are_blocks ws i n && chain_holds q0 t start count (places_in ws i n))
  unfolding row_right are_blocks places_in chain_holds
  row_is start count i zero = refl
  row_is start count i (suc n) =
      let w = waiting_in ws i in
      let rest = count - block_cycles start w.block in
      rw (row_is w.block.end rest (i + 1) n)
      (regroup (block_row_right (block_words_in ws i)) (fits q0 t start w count) (are_blocks ws (i + 1) n)
      (chain_holds q0 t w.block.end rest (places_in ws (i + 1) n)))

  -- the whole row as the loop has found it
  pub row_tested : (from : Point) (cycles n : ℕ) {r : Bool} → n ≤ 16 → row_right q0 t ws from cycles 0 (n - 0) ≡ r
      → r ≡ (are_blocks ws 0 (min n 16) && sound_with q0 t from cycles (queue_in ws n))
  row_tested from cycles n h e =
      sym e ∙ ap (row_right q0 t ws from cycles 0) from_first ∙ row_is from cycles 0 n
      ∙ ap (λ (k : ℕ). are_blocks ws 0 k && chain_holds q0 t from cycles (places_in ws 0 k)) (sym all)
      ∙ ap (λ (b : Bool). are_blocks ws 0 (min n 16) && b)
      (tested q0 t from cycles (queue_in ws n) (queue_sixteen ws n) h (ap (chain_holds q0 t from cycles) (queue_places ws n)))
    where
      from_first : n - 0 ≡ n
      from_first = omega arith

      all : min n 16 ≡ n
      all = omega arith

  pub row_long : (from : Point) (cycles n : ℕ) → 16 < n
      → (are_blocks ws 0 (min n 16) && sound_with q0 t from cycles (queue_in ws n)) ≡ false
  row_long from cycles n h =
      ap (λ (b : Bool). are_blocks ws 0 (min n 16) && b) (too_long_lem q0 t from cycles (queue_in ws n) h)
      ∙ none (are_blocks ws 0 (min n 16))

  pub row_end : (start : Point) (count i n : ℕ) → n ≤ i → row_right q0 t ws start count i (n - i) ≡ eqb count 0
  unfolding row_right
  row_end start count i n h = ap (row_right q0 t ws start count i) past
    where
      past : n - i ≡ 0
      past = omega arith

  -- what the code has found out of the i-th
  module _ (start : Point) (count i n : ℕ) (h : i < n) {b : BlockWords} (b_is : b ≡ block_words_in ws i) {yes : Bool}
      (yes_is : yes ≡ block_row_right b) where
    step : row_right q0 t ws start count i (n - i)
        ≡ ((block_row_right (block_words_in ws i) && fits q0 t start (waiting_in ws i) count)
        && row_right q0 t ws (waiting_in ws i).block.end (count - block_cycles start (waiting_in ws i).block) (i + 1) (n - (i + 1)))
    unfolding row_right
    step = ap (row_right q0 t ws start count i) less
      where
        less : n - i ≡ suc (n - (i + 1))
        less = omega arith

    pub wrong_words : yes ≡ false → row_right q0 t ws start count i (n - i) ≡ false
    wrong_words other = step ∙ rw (sym (ap block_row_right b_is) ∙ sym yes_is ∙ other)

    module _ (own : yes ≡ true) {w : Waiting} (w_is : w ≡ waiting_of b) where
      same : w ≡ waiting_in ws i
      same = w_is ∙ ap waiting_of b_is

      off : taken_off q0 t start w count ≡ taken_off q0 t start (waiting_in ws i) count
      off = ap (λ (v : Waiting). taken_off q0 t start v count) same

      pub wrong_block : None ≡ taken_off q0 t start w count → row_right q0 t ws start count i (n - i) ≡ false
      wrong_block e =
          step ∙ rw (off_none q0 t start (waiting_in ws i) count (e ∙ off), none (block_row_right (block_words_in ws i)))

      module _ {rest : ℕ} (e : Some rest ≡ taken_off q0 t start w count) where
        pub fitting : fits q0 t start w count ≡ true
        fitting = (off_some q0 t start w count e).0

        pub counted : row_right q0 t ws start count i (n - i) ≡ row_right q0 t ws w.block.end rest (i + 1) (n - (i + 1))
        counted =
            let o = off_some q0 t start (waiting_in ws i) count (e ∙ off) in
            step ∙ rw (sym (ap block_row_right b_is) ∙ sym yes_is ∙ own, o.0, o.1, same)
