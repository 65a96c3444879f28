-- What a load stores are the words of the record after it.
use Rattle.std.specs.Prelude.{◌≡◌, refl, true, ℕ, zero, suc, ◌+◌, ◌*◌, ◌≤◌, ◌<◌, ℤ}
use Rattle.std.proofs.Common.{sym, ◌∙◌, arith, length-append, drop-drop, length-take-le}
use Rattle.std.proofs.Math.Path.{ap}
use mathlib.Core.List.{List, [], ◌∷◌, ◌++◌, append_assoc}
use Rattle.std.proofs.Math.ListN.{length, drop, set, length-drop}
use Rattle.queue.specs.declared.Queue.{Queue}
use Rattle.queue.specs.declared.Waiting.{Waiting}
use Rattle.queue.specs.Queue.{places, pushed_of}
use Rattle.queue.specs.laws.Waiting.{push_places}
use Rattle.work.specs.declared.Work.{Work}
use Rattle.bench.specs.Bench.{moved_of}
use Rattle.machine.specs.declared.Machine.{Machine}
use Rattle.machine.specs.laws.Right.{sound}
use Rattle.encoding.specs.Words.{word_of, work_words_of}
use Rattle.record.specs.declared.read.BlockWords.{BlockWords}
use Rattle.record.specs.Words.{block_words_of, seven_of, queue_words, encode_of, over}
use Rattle.record.specs.computed.Words.{machine_in, sound_words}
use Rattle.record.specs.computed.Write.{set_work, set_block, working_of, waits_of}
use Rattle.record.specs.laws.Places.{queue_length}
use Rattle.record.specs.laws.Write.{whole, told_sound, words_are}

-- a word behind others
set_behind : (l rest : List ℤ) (k j : ℕ) (v : ℤ) → j ≡ length l + k → set (l ++ rest) j v ≡ l ++ set rest k v
set_behind [] rest k j v e = ap (λ (n : ℕ). set rest n v) (e ∙ by k)
  where
    by : (k : ℕ) → 0 + k ≡ k
    by k = omega arith
set_behind (x ∷ l) rest k zero v e = absurd (omega arith)
set_behind (x ∷ l) rest k (suc j) v e = ap (λ (r : List ℤ). x ∷ r) (set_behind l rest k j v (omega arith))

-- seven words behind others
set_seven : (l rest : List ℤ) (n : ℕ) (b : BlockWords) → n ≡ length l → 7 ≤ length rest → set_block (l ++ rest) n b ≡ l ++ seven_of b
    (drop 7 rest)
set_seven l [] n b e h = absurd (omega arith)
set_seven l (p ∷ []) n b e h = absurd (omega arith)
set_seven l (p ∷ q ∷ []) n b e h = absurd (omega arith)
set_seven l (p ∷ q ∷ r ∷ []) n b e h = absurd (omega arith)
set_seven l (p ∷ q ∷ r ∷ s ∷ []) n b e h = absurd (omega arith)
set_seven l (p ∷ q ∷ r ∷ s ∷ t ∷ []) n b e h = absurd (omega arith)
set_seven l (p ∷ q ∷ r ∷ s ∷ t ∷ u ∷ []) n b e h = absurd (omega arith)
set_seven l (p ∷ q ∷ r ∷ s ∷ t ∷ u ∷ v ∷ rest) n b e h =
    rw (
      set_behind l (p ∷ q ∷ r ∷ s ∷ t ∷ u ∷ v ∷ rest) 0 n b.kind (omega arith),
      set_behind l (b.kind ∷ q ∷ r ∷ s ∷ t ∷ u ∷ v ∷ rest) 1 (n + 1) b.x (omega arith),
      set_behind l (b.kind ∷ b.x ∷ r ∷ s ∷ t ∷ u ∷ v ∷ rest) 2 (n + 2) b.y (omega arith),
      set_behind l (b.kind ∷ b.x ∷ b.y ∷ s ∷ t ∷ u ∷ v ∷ rest) 3 (n + 3) b.feed (omega arith),
      set_behind l (b.kind ∷ b.x ∷ b.y ∷ b.feed ∷ t ∷ u ∷ v ∷ rest) 4 (n + 4) b.i (omega arith),
      set_behind l (b.kind ∷ b.x ∷ b.y ∷ b.feed ∷ b.i ∷ u ∷ v ∷ rest) 5 (n + 5) b.j (omega arith),
      set_behind l (b.kind ∷ b.x ∷ b.y ∷ b.feed ∷ b.i ∷ b.j ∷ v ∷ rest) 6 (n + 6) b.root (omega arith),
    )

more_words : (l : List Waiting) (w : Waiting) → queue_words (l ++ (w ∷ [])) ≡ queue_words l ++ seven_of (block_words_of w) []
unfolding queue_words
more_words [] w = refl
more_words (v ∷ l) w = ap (seven_of (block_words_of v)) (more_words l w)

module _ (ws : List ℤ) (t : sound_words ws ≡ true) where
  abbrev m : Machine
  m = machine_in ws

  abbrev q : Queue
  q = m.queue

  pub works : (w : Work) (root left : ℕ)
      → set (set (set_work ws (work_words_of w)) 19 (word_of root)) 20 (word_of left) ≡ over (encode_of (working_of m w root left)) ws
  unfolding encode_of moved_of
  works w root left = ap (λ (l : List ℤ). set (set (set_work l (work_words_of w)) 19 (word_of root)) 20 (word_of left)) (words_are ws t)

  module _ (long : length ws ≡ 134) (w : Waiting) (left : ℕ) (room : q.len < 16) where
    abbrev front : List ℤ → List ℤ
    front l = whole m.bench m.root left (q.len + 1) l

    abbrev rest : List ℤ
    rest = drop (length (encode_of m)) ws

    sixteen : length q.blocks ≡ 16
    sixteen = (sound m (told_sound ws t)).right.queue.sixteen

    held : length (places q) ≡ q.len
    held = length-take-le q.len q.blocks (omega (arith, sixteen, room))

    own : length (encode_of m) ≡ 22 + 7 * q.len
    unfolding encode_of
    own = omega (arith, queue_length (places q), held)

    pub pushes : set_block (set (set ws 20 (word_of left)) 21 (word_of (q.len + 1))) (22 + 7 * q.len) (block_words_of w)
        ≡ over (encode_of (waits_of m w left)) ws
    unfolding encode_of pushed_of
    pushes =
        ap (λ (l : List ℤ). set_block (set (set l 20 (word_of left)) 21 (word_of (q.len + 1))) (22 + 7 * q.len) (block_words_of w))
        (words_are ws t)
        ∙ set_seven (front (queue_words (places q))) rest (22 + 7 * q.len) (block_words_of w) many
        (omega (arith, length-drop (length (encode_of m)) ws, own, long, room))
        ∙ ap (λ (l : List ℤ). front (queue_words (places q) ++ seven_of (block_words_of w) l))
        (drop-drop 7 (length (encode_of m)) ws ∙ ap (λ (n : ℕ). drop n ws) behind_it)
        ∙ ap (λ (l : List ℤ). front l) (sym (append_assoc (queue_words (places q)) (seven_of (block_words_of w) [])
        (drop (length (front (queue_words (places q) ++ seven_of (block_words_of w) []))) ws)))
        ∙ ap (λ (l : List ℤ). front (l ++ drop (length (front l)) ws))
        (sym (ap queue_words (push_places q w (omega (arith, sixteen, room))) ∙ more_words (places q) w))
      where
        many : 22 + 7 * q.len ≡ length (front (queue_words (places q)))
        many = omega (arith, queue_length (places q), held)

        behind_it : length (encode_of m) + 7 ≡ length (front (queue_words (places q) ++ seven_of (block_words_of w) []))
        behind_it =
            omega (arith, own, queue_length (places q), held, length-append (queue_words (places q)) (seven_of (block_words_of w) []))
