-- What a call stores are the words of the record after it.
use Rattle.std.specs.Prelude.{◌≡◌, Bool, true, false, ℕ, zero, suc, ◌+◌, ◌-◌, ◌*◌, ◌≤◌, ◌<◌, min, pos, length, get_or, replicate}
use Rattle.std.proofs.Math.Path.{refl, sym, ap}
use Rattle.std.proofs.Common.{subst, ◌∙◌, add-one, arith, length-drop, get_or-drop, drop-drop, take_at, length-take-le}
use mathlib.Core.List.{List, ◌∷◌, ◌++◌}
use Rattle.std.proofs.Math.Dec.{T}
use Rattle.std.proofs.Math.IntN.{ℤ}
use Rattle.std.proofs.Math.ListN.{drop, set}
use Rattle.std.proofs.Math.Seq.{paste, paste-suc}
use Rattle.std.proofs.lemmas.List.Edits.{drop-paste}
use Rattle.whole.specs.laws.Test.{both}
use Rattle.queue.specs.Queue.{places, blank, empty_queue, first_of, popped_of}
use Rattle.plane.specs.declared.point.Point.{Point}
use Rattle.queue.specs.declared.Queue.{Queue}
use Rattle.queue.specs.declared.Waiting.{Waiting}
use Rattle.queue.specs.laws.Waiting.{pop_places}
use Rattle.line.specs.declared.line.Line.{Line}
use Rattle.arc.specs.declared.arc.Arc.{Arc}
use Rattle.work.specs.declared.Work.{Work}
use Rattle.work.specs.Work.{is_nothing, begun_of}
use Rattle.work.specs.computed.Asked.{Loadable}
use Rattle.work.specs.laws.Left.{nothing_is, accepted_loadable}
use Rattle.bench.specs.declared.Bench.{Bench}
use Rattle.bench.specs.Bench.{moved_of}
use Rattle.block.specs.Chain.{chain_cycles}
use Rattle.machine.specs.declared.Machine.{Machine}
use Rattle.machine.specs.computed.Machine.{sound_of}
use Rattle.machine.specs.Machine.{machine_of, to_do}
use Rattle.machine.specs.Calls.{mark_of, beginning, next_of}
use Rattle.machine.specs.laws.Right.{sound, marked_record}
use Rattle.machine.specs.laws.Next.{next_busy, next_none, first_accepted, next_first}
use Rattle.encoding.specs.Words.{abi, word_of, mark_word, head_of, work_words_of}
use Rattle.record.specs.Words.{figures_of, front_of, queue_words, encode_of, over}
use Rattle.record.specs.computed.Words.{waiting_in, places_in, queue_in, len_in, bench_in}
use Rattle.record.specs.computed.Words.{machine_in, is_record, sound_words}
use Rattle.record.specs.computed.Write.{Bringing, SameWork, Later, set_place, set_work, shifted, emptied, brought_of, ticked_words}
use Rattle.record.specs.computed.Write.{idle_of}
use Rattle.encoding.specs.laws.Record.{count_word}
use Rattle.record.specs.laws.Places.{queue_length}
use Rattle.record.specs.laws.Record.{record_words}

-- a record's words in front, and what stands behind them
abbrev pub whole : Bench → (root left len : ℕ) → List ℤ → List ℤ
whole k root left len rest = front_of abi (head_of k) (work_words_of k.work) (figures_of root left len) rest

module _ (ws : List ℤ) (t : sound_words ws ≡ true) where
  abbrev m : Machine
  m = machine_in ws

  abbrev pub behind : List ℤ
  behind = queue_words (places m.queue) ++ drop (length (encode_of m)) ws

  pub told_sound : sound_of m ≡ true
  unfolding sound_words
  told_sound = (both {a = is_record ws} t).1

  pub words_are : ws ≡ whole m.bench m.root m.left m.queue.len behind
  unfolding sound_words encode_of
  words_are = sym (record_words ws (both {a = is_record ws} t).0)

  pub marked : (held : Bool) → set ws 9 (mark_word held) ≡ over (encode_of (mark_of m held)) ws
  unfolding encode_of
  marked held =
      ap (λ (l : List ℤ). set l 9 (mark_word held)) words_are
      ∙ ap (λ (n : Machine). over (encode_of n) ws) (marked_record m held (sound m told_sound))

  none_left : len_in (emptied ws) ≡ 0
  none_left = ap (λ (l : List ℤ). len_in (emptied l)) words_are

  -- nothing comes into work where none waits
  pub stop_brings : (p : Point) → Bringing (emptied ws) p
  stop_brings p = record { most = omega (arith, none_left); begins = λ some. absurd (omega (arith, none_left)) }

  pub stops : (p : Point) → brought_of (emptied ws) p (len_in (emptied ws)) ≡ over (encode_of (idle_of m)) ws
  unfolding encode_of machine_in machine_of moved_of empty_queue to_do chain_cycles queue_words word_of
  stops p =
      ap (brought_of (emptied ws) p) none_left
      ∙ ap (λ (l : List ℤ). brought_of (emptied l) p 0) words_are
      ∙ ap (whole (moved_of (bench_in ws) (bench_in ws).at 0 Work.Nothing) 0 0 0) (sym (ap (drop 22) words_are))

-- ---- after ticks

-- the first block's words go, and those of the others move seven words on
moved_on : (k : Bench) (root left n : ℕ) (w : Waiting) (l : List Waiting) (rest : List ℤ) → length l ≡ n
    → shifted (whole k root left n (queue_words (w ∷ l) ++ rest)) n ≡ whole k root left n
    (queue_words l ++ drop (7 * n) (queue_words (w ∷ l) ++ rest))
unfolding queue_words
moved_on k root left n w l rest e =
    let all = whole k root left n (queue_words (w ∷ l) ++ rest) in
    ap (λ (front : List ℤ). whole k root left n (front ++ drop (22 + 7 * n) all))
    (take_at (queue_words l) rest (7 * n) (queue_length l ∙ ap (λ (j : ℕ). 7 * j) e))
    ∙ ap (λ (back : List ℤ). whole k root left n (queue_words l ++ back)) (sym (drop-drop (7 * n) 22 all))

-- the first block that waits stands in the first place
first_in_lem : (ws : List ℤ) (len : ℕ) → 1 ≤ len → waiting_in ws 0 ≡ first_of (queue_in ws len)
unfolding places_in
first_in_lem ws len some = by (min len 16) (omega arith)
  where
    by : (n : ℕ) → 1 ≤ n → waiting_in ws 0 ≡ get_or (places_in ws 0 n ++ replicate (16 - len) blank) 0 blank
    by zero h = absurd (omega arith)
    by (suc n) h = refl

-- the words before a block comes into work, or those of one that goes on
module _ (k : Bench) (root left len : ℕ) (rest : List ℤ) (p : Point) (r next : ℕ) where
  gone_on : (v w : Work) → k.work ≡ v → SameWork v w → is_nothing w ≡ false
      → ticked_words (whole k root left len rest) p r next w ≡ whole (moved_of k p r w) root next len rest
  unfolding moved_of
  gone_on v Work.Nothing e f busy = absurd (subst T busy tt)
  gone_on Work.Nothing (Work.Line l) e f busy = absurd f
  gone_on (Work.Line j) (Work.Line l) e f busy = rw (e, f.0, f.1, f.2, f.3)
  gone_on (Work.Arc a) (Work.Line l) e f busy = absurd f
  gone_on Work.Nothing (Work.Arc b) e f busy = absurd f
  gone_on (Work.Line l) (Work.Arc b) e f busy = absurd f
  gone_on (Work.Arc a) (Work.Arc b) e f busy = rw (e, f)

module _ (ws : List ℤ) (k : Bench) (left : ℕ) (i : Later ws k left) where
  abbrev q : Queue
  q = (machine_in ws).queue

  abbrev after : (root next : ℕ) → Bench → Queue → List ℤ
  after root next k q = over (encode_of (record { bench = k; root = root; left = next; queue = q })) ws

  are : ws ≡ whole (machine_in ws).bench (machine_in ws).root (machine_in ws).left q.len (behind ws i.sound)
  are = words_are ws i.sound

  busy_words : is_nothing k.work ≡ false → ticked_words ws k.at k.remainder left k.work ≡ over (encode_of (next_of k q)) ws
  unfolding encode_of machine_in
  busy_words busy =
      ap (λ (l : List ℤ). ticked_words l k.at k.remainder left k.work) are
      ∙ gone_on (bench_in ws) (machine_in ws).root (machine_in ws).left q.len (behind ws i.sound) k.at k.remainder left
      (bench_in ws).work k.work refl i.follows busy
      ∙ ap (λ (b : Bench). after (machine_in ws).root left b q) (sym i.same)
      ∙ ap (λ (n : Machine). over (encode_of n) ws) (next_busy i.coming busy)

  pub line_words : (l : Line) → k.work ≡ Work.Line l
      → set (set (set_place ws k.at k.remainder) 20 (word_of left)) 18 (word_of l.done) ≡ over (encode_of (next_of k q)) ws
  line_words l e = ap (ticked_words ws k.at k.remainder left) (sym e) ∙ busy_words (ap is_nothing e)

  pub arc_words : (a : Arc) → k.work ≡ Work.Arc a → set (set_place ws k.at k.remainder) 20 (word_of left) ≡ over
      (encode_of (next_of k q)) ws
  arc_words a e = ap (ticked_words ws k.at k.remainder left) (sym e) ∙ busy_words (ap is_nothing e)

  -- ---- nothing is in work any more

  module _ (idle : is_nothing k.work ≡ true) where
    abbrev here : Point
    here = k.at

    abbrev first : Waiting
    first = first_of q

    -- the words once point, remainder and figure are stored
    abbrev placed : List ℤ
    placed = set (set_place ws here k.remainder) 20 (word_of left)

    placed_are : placed ≡ whole (moved_of (bench_in ws) here k.remainder (bench_in ws).work) (machine_in ws).root left q.len
        (behind ws i.sound)
    unfolding machine_in moved_of
    placed_are = ap (λ (l : List ℤ). set (set_place l here k.remainder) 20 (word_of left)) are

    bench_is : k ≡ moved_of (bench_in ws) here k.remainder Work.Nothing
    bench_is = i.same ∙ ap (moved_of (bench_in ws) here k.remainder) (nothing_is k.work idle)

    most : q.len ≤ 16
    most = (sound (machine_in ws) (told_sound ws i.sound)).right.queue.most

    sixteen : length q.blocks ≡ 16
    sixteen = (sound (machine_in ws) (told_sound ws i.sound)).right.queue.sixteen

    len_is : len_in placed ≡ q.len
    len_is = ap len_in placed_are ∙ count_word (omega (arith, most))

    -- the first that waits is that of the words
    first_is : 1 ≤ q.len → waiting_in placed 0 ≡ first_of q
    unfolding machine_in
    first_is some = ap (λ (l : List ℤ). waiting_in l 0) placed_are ∙ sym (ap (λ (l : List ℤ). waiting_in l 0) are) ∙ first_in_lem ws
        (len_in ws) some

    pub bringing : Bringing placed here
    bringing =
        record {
          most = rw len_is most;
          begins = λ some.
              let waits : 1 ≤ q.len = rw len_is at some in
              subst (λ (w : Waiting). Loadable here w.block w.block.path) (sym (first_is waits))
              (accepted_loadable (first_accepted i.coming idle waits));
        }

    -- the words of the others, moved on, are those of the queue without its first block
    pops : 1 ≤ q.len → places q ≡ first ∷ places (popped_of q)
    pops some = pop_places q some (omega (arith, most, sixteen))

    shift_words : (b : Bench) (root n : ℕ) → q.len ≡ suc n → shifted (whole b root left n (behind ws i.sound)) n ≡ after root left b
        (popped_of q)
    unfolding encode_of popped_of
    shift_words b root n some =
        ap (λ (l : List Waiting). shifted (whole b root left n (queue_words l ++ rest)) n) (pops waits)
        ∙ moved_on b root left n first (places (popped_of q)) rest others
        ∙ ap (λ (l : List ℤ). whole b root left n (queue_words (places (popped_of q)) ++ drop (7 * n) l))
        (ap (λ (l : List Waiting). queue_words l ++ rest) (sym (pops waits)) ∙ sym (ap (drop 22) are))
        ∙ ap (λ (l : List ℤ). whole b root left n (queue_words (places (popped_of q)) ++ l))
        (drop-drop (7 * n) 22 ws ∙ ap (λ (j : ℕ). drop j ws) many)
        ∙ ap (λ (j : ℕ). whole b root left j (queue_words (places (popped_of q)) ++ drop
        (length (whole b root left n (queue_words (places (popped_of q))))) ws)) fewer
      where
        rest : List ℤ
        rest = drop (length (encode_of (machine_in ws))) ws

        waits : 1 ≤ q.len
        waits = omega arith

        others : length (places (popped_of q)) ≡ n
        others = omega (arith, ap length (pops waits), length-take-le q.len q.blocks (omega (arith, most, sixteen)))

        many : 22 + 7 * n ≡ length (whole b root left n (queue_words (places (popped_of q))))
        many = omega (arith, queue_length (places (popped_of q)), others)

        fewer : n ≡ q.len - 1
        fewer = omega arith

    none_words : q.len ≡ 0 → brought_of placed here 0 ≡ over (encode_of (next_of k q)) ws
    unfolding encode_of moved_of word_of
    none_words none =
        ap (λ (l : List ℤ). brought_of l here 0) placed_are
        ∙ ap (λ (b : Bench). after 0 left b q) (sym bench_is)
        ∙ ap (λ (n : Machine). over (encode_of n) ws) (next_none i.coming idle none)

    first_words_lem : (n : ℕ) → q.len ≡ suc n → brought_of placed here (suc n) ≡ over (encode_of (next_of k q)) ws
    unfolding moved_of
    first_words_lem n some =
        ap (λ (w : Waiting). shifted (set (set (set_work placed (work_words_of (begun_of here w.block).work)) 19 (word_of w.root)) 21
        (word_of n)) n) (first_is (omega arith))
        ∙ ap (λ (l : List ℤ). shifted (set (set (set_work l (work_words_of (begun_of here first.block).work)) 19 (word_of first.root)) 21
        (word_of n)) n) placed_are
        ∙ shift_words (beginning (moved_of (bench_in ws) here k.remainder Work.Nothing) (begun_of here first.block).work)
        first.root n some
        ∙ ap (λ (b : Bench). after first.root left (beginning b (begun_of here first.block).work) (popped_of q)) (sym bench_is)
        ∙ ap (λ (n : Machine). over (encode_of n) ws) (next_first i.coming idle (omega arith))

    pub idle_words : brought_of placed here (len_in placed) ≡ over (encode_of (next_of k q)) ws
    idle_words = ap (brought_of placed here) len_is ∙ by q.len refl
      where
        by : (n : ℕ) → q.len ≡ n → brought_of placed here n ≡ over (encode_of (next_of k q)) ws
        by zero e = none_words e
        by (suc n) e = first_words_lem n e

-- ---- by how many wait, as the code reads it

module _ (ws : List ℤ) (p : Point) {n : ℕ} (is : n ≡ len_in ws) where
  pub brought_none : n ≡ 0 → set (set_work ws (work_words_of Work.Nothing)) 19 (pos 0) ≡ brought_of ws p (len_in ws)
  brought_none none = ap (brought_of ws p) (sym none ∙ is)

  pub brought_first : (n ≡ 0 → ⊥)
      → shifted (set (set (set_work ws (work_words_of (begun_of p (waiting_in ws 0).block).work)) 19 (word_of (waiting_in ws 0).root)) 21
      (word_of (n - 1))) (n - 1)
      ≡ brought_of ws p (len_in ws)
  brought_first some = by n some ∙ ap (brought_of ws p) is
    where
      by : (n : ℕ) → (n ≡ 0 → ⊥)
          → shifted (set (set (set_work ws (work_words_of (begun_of p (waiting_in ws 0).block).work)) 19 (word_of (waiting_in ws 0).root))
          21
          (word_of (n - 1))) (n - 1)
          ≡ brought_of ws p n
      by zero some = absurd (some refl)
      by (suc j) some = rw one
        where
          one : suc j - 1 ≡ j
          one = omega arith

-- ---- the words of the others move

module _ (ws₀ : List ℤ) (long : length ws₀ ≡ 134) (i : ℕ) (h : i < 105) where
  -- the word that is read stands as it was
  unmoved : get_or (paste ws₀ 22 (drop 29 ws₀) i) (29 + i) (pos 0) ≡ get_or (drop 29 ws₀) i (pos 0)
  unmoved =
      ap (λ (n : ℕ). get_or (paste ws₀ 22 (drop 29 ws₀) i) n (pos 0)) on
      ∙ sym (get_or-drop (22 + i) (paste ws₀ 22 (drop 29 ws₀) i) 7 (pos 0))
      ∙ ap (λ (l : List ℤ). get_or l 7 (pos 0)) (drop-paste ws₀ 22 (drop 29 ws₀) i (omega arith) (omega (arith, length-drop 29 ws₀)))
      ∙ get_or-drop (22 + i) ws₀ 7 (pos 0)
      ∙ ap (λ (n : ℕ). get_or ws₀ n (pos 0)) (sym on)
      ∙ sym (get_or-drop 29 ws₀ i (pos 0))
    where
      on : 29 + i ≡ 22 + i + 7
      on = omega arith

  pub shift_step : {ws : List ℤ} → ws ≡ paste ws₀ 22 (drop 29 ws₀) i
      → set ws (22 + i) (get_or ws (29 + i) (pos 0)) ≡ paste ws₀ 22 (drop 29 ws₀) (i + 1)
  shift_step {ws} e =
      rw (e, unmoved, add-one)
      (paste-suc ws₀ 22 (drop 29 ws₀) i (pos 0) (omega arith) (omega (arith, length-drop 29 ws₀)))
