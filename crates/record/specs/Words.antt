-- The record as words, signed numbers of 64 bits: 0 to 18 the number of the layout and the bench, 19 the root of the block in work, 20 the
-- cycles still to do, 21 how many blocks wait, and from 22 on seven words for each of these, the first to be cut first.
use Rattle.std.specs.Prelude.{List, [], ◌∷◌, ◌++◌, ℕ, ℤ, pos, length, drop}
use Rattle.block.specs.declared.Path.{Path}
use Rattle.queue.specs.declared.Waiting.{Waiting}
use Rattle.queue.specs.Queue.{places}
use Rattle.machine.specs.declared.Machine.{Machine}
use Rattle.encoding.specs.declared.encode.Head.{Head}
use Rattle.encoding.specs.declared.encode.WorkWords.{WorkWords}
use Rattle.encoding.specs.Words.{abi, word_of, turn_word, work_words_of, head_of}
use Rattle.record.specs.declared.read.Figures.{Figures}
use Rattle.record.specs.declared.read.BlockWords.{BlockWords}

abbrev pub block_words : (kind x y feed i j root : ℤ) → BlockWords
block_words k x y f i j r = record { kind = k; x = x; y = y; feed = f; i = i; j = j; root = r }

-- a block that waits: 1 a line, 2 an arc clockwise, 3 an arc counterclockwise; its end, its feed number, the centre seen from its start,
-- which is 0 of a line; and its root
abbrev pub block_words_along : Waiting → Path → BlockWords
block_words_along w Path.Line =
    block_words (pos 1) w.block.end.x w.block.end.y (word_of w.block.feed) (pos 0) (pos 0) (word_of w.root)
block_words_along w (Path.Arc turn centre) =
    block_words (turn_word turn) w.block.end.x w.block.end.y (word_of w.block.feed) centre.x centre.y (word_of w.root)

abbrev pub block_words_of : Waiting → BlockWords
block_words_of w = block_words_along w w.block.path

-- the order of a block's words, and what stands behind them
abbrev pub seven_of : BlockWords → List ℤ → List ℤ
seven_of b rest = b.kind ∷ b.x ∷ b.y ∷ b.feed ∷ b.i ∷ b.j ∷ b.root ∷ rest

unfoldable pub queue_words : List Waiting → List ℤ
queue_words [] = []
queue_words (w ∷ l) = seven_of (block_words_of w) (queue_words l)

-- the root of the block in work, the cycles still to do, and how many blocks wait
abbrev pub figures_of : (root left len : ℕ) → Figures
figures_of root left len = record { root = word_of root; left = word_of left; len = word_of len }

-- the order of the words in front, and what stands behind them
abbrev pub front_of : (first : ℤ) → Head → WorkWords → Figures → List ℤ → List ℤ
front_of first h w f rest =
    first ∷ h.p ∷ h.w ∷ h.xlo ∷ h.xhi ∷ h.ylo ∷ h.yhi ∷ h.x ∷ h.y ∷ h.mark ∷ h.remainder
    ∷ w.kind ∷ w.a ∷ w.b ∷ w.c ∷ w.d ∷ w.e ∷ w.f ∷ w.g ∷ f.root ∷ f.left ∷ f.len ∷ rest

-- 22 words, and seven for each block that waits
unfoldable pub encode_of : Machine → List ℤ
encode_of m =
    front_of abi (head_of m.bench) (work_words_of m.bench.work) (figures_of m.root m.left m.queue.len)
    (queue_words (places m.queue))

-- what a caller's array becomes: the words behind those of the record are no part of it, and stay
abbrev pub over : (front : List ℤ) → List ℤ → List ℤ
over front ws = front ++ drop (length front) ws
