-- 02 §4: "Jobs whose F words have no point must, from a fresh machine, give the same pulses on the same ticks as before." By any unit u
-- such a text has the blocks that it has by 01's, their feed numbers u times as much, the same end, and the same listing in every byte.
use Rattle.std.specs.Prelude.{◌≡◌, Bool, true, false, cond, ℕ, zero, suc, ◌+◌, ◌*◌, ◌≤◌, leb, length}
use Rattle.std.proofs.Math.Path.{refl, ap}
use Rattle.std.proofs.Common.{◌∙◌, arith}
use mathlib.Core.List.{List, [], ◌∷◌}
use Rattle.std.proofs.Math.IntN.{pos}
use Rattle.plane.specs.declared.point.Point.{Point}
use Rattle.block.specs.declared.Block.{Block}
use Rattle.block.specs.Feed.{finer}
use Rattle.block.specs.Questions.{load_no}
use Rattle.block.proofs.laws.Feed.{cycles_at_feed, width_at_feed}
use Rattle.book.proofs.laws.Unit.{load_finer, ticks_finer, leaves_finer}
use Rattle.settings.specs.declared.Settings.{Settings}
use Rattle.settings.specs.Settings.{capacity_at}
use Rattle.letters.specs.declared.word.Words.{Words}
use Rattle.words.specs.Whole.{NoPoint}
use Rattle.words.specs.computed.Meaning.{meaning_of}
use Rattle.words.specs.laws.Whole.{line_thousands}
use Rattle.reader.specs.declared.Reader.{Reader}
use Rattle.reader.specs.computed.Reader.{longest_text, line_no}
use Rattle.reader.specs.Reader.{WholeKnown, unknown, reader_after, moving, goes_nowhere, block_at}
use Rattle.reader.specs.laws.Feed.{reader_whole, block_finer}
use Rattle.job.specs.Text.{lines_of}
use Rattle.job.specs.Job.{Made, End, Job}
use Rattle.job.specs.Listing.{made_line, rows, all_cycles, made_ticks, made_leaves, all_ticks, last_line, job_listing}
use Rattle.job.specs.Unit.{AllWhole, WholeText, finer_made, finer_blocks}
use Rattle.job.specs.computed.Job.{Asks, load_asks, block_asks, words_ask, line_asks, read_on, job_from_at, job_at}
use Rattle.job.specs.computed.Listing.{listing_at}
use Rattle.job.specs.computed.Check.{totals}
use Rattle.job.specs.laws.Rows.{last_same}

abbrev finer_asks : (u : ℕ) → Asks → Asks
finer_asks u (Asks.nothing k) = Asks.nothing k
finer_asks u (Asks.makes k b) = Asks.makes k (finer u b)
finer_asks u (Asks.refuses n) = Asks.refuses n

abbrev finer_job : (u : ℕ) → Job → Job
finer_job u j = record { blocks = finer_blocks u j.blocks; end = j.end }

-- ---- the blocks

-- F stays in whole millimetres from line to line
abbrev WholeAfter : Asks → Type 0
WholeAfter (Asks.nothing k) = WholeKnown k.feed
WholeAfter (Asks.makes k b) = WholeKnown k.feed
WholeAfter (Asks.refuses n) = Unit {0}

pub capacity_times : (u : ℕ) (s : Settings) → capacity_at u s ≡ u * capacity_at 1 s
capacity_times u s = omega arith

module _ (u : ℕ) (some : 1 ≤ u) (s : Settings) where
  load_asks_lem : (k : Reader) (b : Block) (number : ℕ) → load_asks k (finer u b) number ≡ finer_asks u (load_asks k b number)
  load_asks_lem k b zero = refl
  load_asks_lem k b (suc n) = refl

  block_asks_lem : (at : Point) (k : Reader) (b : Block) → block_asks u s at k (finer u b) ≡ finer_asks u (block_asks 1 s at k b)
  block_asks_lem at k b =
      rw (capacity_times u s, load_finer u some (capacity_at 1 s) s.travel true at b)
      (by (goes_nowhere b.end at b.path) (load_no (capacity_at 1 s) s.travel true at b))
    where
      by : (stays : Bool) (number : ℕ)
          → cond stays (Asks.nothing k) (load_asks k (finer u b) number) ≡ finer_asks u (cond stays (Asks.nothing k) (load_asks k b number))
      by true number = refl
      by false number = load_asks_lem k b number

  words_ask_lem : (at : Point) (k : Reader) (ws : Words) (number : ℕ) → WholeKnown k.feed
      → words_ask u s at k ws number ≡ finer_asks u (words_ask 1 s at k ws number)
  words_ask_lem at k ws zero whole = by (moving ws)
    where
      by : (moves : Bool)
          → cond moves (block_asks u s at k (block_at u s.scale k ws at)) (Asks.nothing k)
          ≡ finer_asks u (cond moves (block_asks 1 s at k (block_at 1 s.scale k ws at)) (Asks.nothing k))
      by true = rw (block_finer u s.scale k ws at whole) (block_asks_lem at k (block_at 1 s.scale k ws at))
      by false = refl
  words_ask_lem at k ws (suc n) whole = refl

  line_asks_lem : (at : Point) (k : Reader) (line : List ℕ) → WholeKnown k.feed → NoPoint line
      → line_asks u s at k line ≡ finer_asks u (line_asks 1 s at k line)
  unfolding line_asks
  line_asks_lem at k line known whole =
      let l = meaning_of line in
      let k' = reader_after k l.words in
      words_ask_lem at k' l.words (line_no s.scale k' (length line) l) (reader_whole k l.words known (line_thousands line whole))

  -- the F known after a line
  load_known : (k : Reader) (b : Block) (number : ℕ) → WholeKnown k.feed → WholeAfter (load_asks k b number)
  load_known k b zero known = known
  load_known k b (suc n) known = tt

  words_known : (at : Point) (k : Reader) (ws : Words) (number : ℕ) → WholeKnown k.feed → WholeAfter (words_ask 1 s at k ws number)
  words_known at k ws zero known = by (moving ws) (goes_nowhere b.end at b.path)
    where
      b : Block
      b = block_at 1 s.scale k ws at

      number : ℕ
      number = load_no (capacity_at 1 s) s.travel true at b

      by : (moves stays : Bool) → WholeAfter (cond moves (cond stays (Asks.nothing k) (load_asks k b number)) (Asks.nothing k))
      by true true = known
      by true false = load_known k b number known
      by false stays = known
  words_known at k ws (suc n) known = tt

  line_known : (at : Point) (k : Reader) (line : List ℕ) → WholeKnown k.feed → NoPoint line → WholeAfter (line_asks 1 s at k line)
  unfolding line_asks
  line_known at k line known whole =
      let l = meaning_of line in
      let k' = reader_after k l.words in
      words_known at k' l.words (line_no s.scale k' (length line) l) (reader_whole k l.words known (line_thousands line whole))

  -- line by line
  abbrev Finer : (n : ℕ) (lines : List (List ℕ)) → Type 0
  Finer n ls = (at : Point) (k : Reader) → WholeKnown k.feed → job_from_at u s n at k ls ≡ finer_job u (job_from_at 1 s n at k ls)

  read_on_lem : (n : ℕ) (at : Point) (ls : List (List ℕ)) → Finer (n + 1) ls → (a : Asks) → WholeAfter a
      → read_on n at (finer_asks u a) (λ at' k'. job_from_at u s (n + 1) at' k' ls)
      ≡ finer_job u (read_on n at a (λ at' k'. job_from_at 1 s (n + 1) at' k' ls))
  read_on_lem n at ls rest (Asks.nothing k) known = rest at k known
  read_on_lem n at ls rest (Asks.makes k b) known = rw (rest b.end k known)
  read_on_lem n at ls rest (Asks.refuses number) known = refl

  lines_finer : (ls : List (List ℕ)) → AllWhole ls → (n : ℕ) → Finer n ls
  unfolding job_from_at
  lines_finer [] whole n at k known = refl
  lines_finer (l ∷ ls) whole n at k known =
      rw (line_asks_lem at k l known whole.0)
      (read_on_lem n at ls (lines_finer ls whole.1 (n + 1)) (line_asks 1 s at k l) (line_known at k l known whole.0))

  pub job_finer : (text : List ℕ) → WholeText text → job_at u s text ≡ finer_job u (job_at 1 s text)
  unfolding job_at
  job_finer text whole = by (leb (length text) longest_text)
    where
      origin : Point
      origin = record { x = pos 0; y = pos 0 }

      long : Job
      long = record { blocks = []; end = End.refused 1 30 }

      by : (short : Bool)
          → cond short (job_from_at u s 1 origin unknown (lines_of text)) long
          ≡ finer_job u (cond short (job_from_at 1 s 1 origin unknown (lines_of text)) long)
      by true = lines_finer (lines_of text) whole 1 origin unknown tt
      by false = refl

-- ---- the listing

module _ (u : ℕ) (some : 1 ≤ u) where
  line_finer : (n : ℕ) (m : Made) → made_line n (finer_made u m) ≡ made_line n m
  line_finer n m =
      let f = u * m.block.feed in
      rw (cycles_at_feed f m.start m.block, width_at_feed f m.start m.block)

  rows_finer : (n : ℕ) (ms : List Made) → rows n (finer_blocks u ms) ≡ rows n ms
  unfolding rows
  rows_finer n [] = refl
  rows_finer n (m ∷ ms) = rw (line_finer n m, rows_finer (n + 1) ms)

  many_finer : (ms : List Made) → length (finer_blocks u ms) ≡ length ms
  many_finer [] = refl
  many_finer (m ∷ ms) = ap suc (many_finer ms)

  cycles_finer : (ms : List Made) → all_cycles (finer_blocks u ms) ≡ all_cycles ms
  unfolding all_cycles
  cycles_finer [] = refl
  cycles_finer (m ∷ ms) = rw (cycles_at_feed (u * m.block.feed) m.start m.block, cycles_finer ms)

  all_ticks_lem : (q0 r : ℕ) (ms : List Made) → all_ticks (u * q0) (u * r) (finer_blocks u ms) ≡ all_ticks q0 r ms
  unfolding all_ticks
  all_ticks_lem q0 r [] = refl
  all_ticks_lem q0 r (m ∷ ms) =
      let left = made_leaves (u * q0) (u * r) (finer_made u m) in
      ap (λ (t : ℕ). t + all_ticks (u * q0) left (finer_blocks u ms)) (ticks_finer u some q0 r m.start m.block)
      ∙ ap (λ (l : ℕ). made_ticks q0 r m + all_ticks (u * q0) l (finer_blocks u ms)) (leaves_finer u some q0 r m.start m.block)
      ∙ ap (λ (n : ℕ). made_ticks q0 r m + n) (all_ticks_lem q0 (made_leaves q0 r m) ms)

  none : 0 ≡ u * 0
  none = omega arith

  last_finer : (q0 : ℕ) (ms : List Made) (e : End) → last_line (u * q0) (finer_blocks u ms) e ≡ last_line q0 ms e
  last_finer q0 ms End.complete =
      last_same totals {n = 0} refl (many_finer ms) (cycles_finer ms)
      (ap (λ (r : ℕ). all_ticks (u * q0) r (finer_blocks u ms)) none ∙ all_ticks_lem q0 0 ms)
  last_finer q0 ms (End.refused n number) = refl

  listing_of_lem : (q0 : ℕ) (j : Job) → job_listing (u * q0) (finer_job u j) ≡ job_listing q0 j
  listing_of_lem q0 j = rw (rows_finer 1 j.blocks, last_finer q0 j.blocks j.end)

  pub listing_finer : (s : Settings) (text : List ℕ) → WholeText text → listing_at u s text ≡ listing_at 1 s text
  unfolding listing_at
  listing_finer s text whole =
      rw (job_finer u some s text whole, capacity_times u s) (listing_of_lem (capacity_at 1 s) (job_at 1 s text))
