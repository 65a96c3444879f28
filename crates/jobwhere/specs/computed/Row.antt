-- Where a job stands, as a row of 16 signed numbers of 64 bits.
use Rattle.std.specs.Prelude.{List, [], ◌∷◌, ℤ, pos}
use Rattle.encoding.specs.Words.{word_of, refusal_of, work_words_of}
use Rattle.seek.specs.declared.Found.{Found}
use Rattle.seek.specs.declared.Sought.{Sought}

-- 1 a block is in work, 0 the job is over; a refusal is minus the number of the question, as the calls from C have it
abbrev pub found_word : Found → ℤ
found_word Found.InWork = pos 1
found_word Found.Over = pos 0
found_word (Found.Refused number) = refusal_of number

-- what is found; block, text line, ticks and cycles left; the point and the remainder; what is in work, in the eight words of a record
abbrev pub row_of : Sought → List ℤ
row_of a =
    let m = a.bench in
    let w = work_words_of m.work in
    found_word a.found ∷ word_of a.block ∷ word_of a.line ∷ word_of a.ticks ∷ word_of a.left
    ∷ m.at.x ∷ m.at.y ∷ word_of m.remainder
    ∷ w.kind ∷ w.a ∷ w.b ∷ w.c ∷ w.d ∷ w.e ∷ w.f ∷ w.g ∷ []
