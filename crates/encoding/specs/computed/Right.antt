-- The tests by which the code knows a record's words: each word that is no position has a value that `encode_of` gives.
use Rattle.std.specs.Prelude.{Bool, true, false, cond, ◌&&◌, List, ℤ, pos, negsuc}
use Rattle.whole.specs.Equal.{equal_z}
use Rattle.encoding.specs.declared.encode.Head.{Head}
use Rattle.encoding.specs.declared.encode.WorkWords.{WorkWords}
use Rattle.encoding.specs.Words.{abi, at}
use Rattle.encoding.specs.computed.Words.{head_in, work_words_in}

-- a word that tells a count
abbrev pub is_count : ℤ → Bool
is_count (pos n) = true
is_count (negsuc n) = false

abbrev pub is_mark : ℤ → Bool
is_mark z = cond (equal_z z (pos 0)) true (equal_z z (pos 1))

unfoldable pub head_right : Head → Bool
head_right h = is_count h.p && (is_count h.w && (is_mark h.mark && is_count h.remainder))

abbrev pub nothing_right : WorkWords → Bool
nothing_right w =
    equal_z w.a (pos 0) && (equal_z w.b (pos 0) && (equal_z w.c (pos 0) && (equal_z w.d (pos 0)
    && (equal_z w.e (pos 0) && (equal_z w.f (pos 0) && equal_z w.g (pos 0))))))

abbrev pub line_right : WorkWords → Bool
line_right w = is_count w.e && (is_count w.f && is_count w.g)

abbrev pub arc_right : WorkWords → Bool
arc_right w = is_count w.c && (is_count w.f && equal_z w.g (pos 0))

unfoldable pub work_right : WorkWords → Bool
work_right w =
    cond (equal_z w.kind (pos 0)) (nothing_right w)
    (cond (equal_z w.kind (pos 1)) (line_right w)
    (cond (equal_z w.kind (pos 2)) (arc_right w)
    (cond (equal_z w.kind (pos 3)) (arc_right w) false)))

-- the first word, and the others in their two parts
unfoldable pub parts_right : ℤ → Head → WorkWords → Bool
parts_right first h w = equal_z first abi && (head_right h && work_right w)

unfoldable pub words_right : List ℤ → Bool
words_right ws = parts_right (at ws 0) (head_in ws) (work_words_in ws)
