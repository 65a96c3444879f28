-- The G and F that are known of a job text, as 2 words, signed numbers of 64 bits: the G, 0 where none is known; the F, -1 where none is.
use Rattle.std.specs.Prelude.{cond, List, [], ◌∷◌, ◌+◌, ◌*◌, ◌/◌, ◌%◌, ◌^◌, ltb, ℤ, pos, negsuc, Option, Some, None}
use Rattle.reader.specs.declared.Motion.{Motion}
use Rattle.reader.specs.declared.Feed.{Feed}
use Rattle.reader.specs.declared.Reader.{Reader}
use Rattle.reader.specs.Reader.{motion_of, feed_of}
use Rattle.encoding.specs.Words.{count_of, turn_word}
use Rattle.progress.specs.declared.known.Known.{Known}

-- ---- what is known as words

abbrev pub motion_word : Option Motion → ℤ
motion_word None = pos 0
motion_word (Some Motion.Line) = pos 1
motion_word (Some (Motion.Arc turn)) = turn_word turn

-- thousandths of a millimetre per minute
abbrev pub feed_word : Option Feed → ℤ
feed_word None = negsuc 0
feed_word (Some f) = pos (f.millimetres * 1000 + f.thousandths)

abbrev pub known_of : Reader → Known
known_of k = record { motion = motion_word k.motion; feed = feed_word k.feed }

unfoldable pub encode_known : Reader → List ℤ
encode_known k = (known_of k).motion ∷ (known_of k).feed ∷ []

-- ---- and back: what the words tell, whatever they are

-- a feed that a text can write: seven digits and three decimals
abbrev pub feed_read : ℤ → Option Feed
feed_read (pos f) = cond (ltb f (10 ^ 10)) (feed_of (f / 1000) (f % 1000)) None
feed_read (negsuc n) = None

abbrev pub reader_of : Known → Reader
reader_of k = record { motion = motion_of (count_of k.motion); feed = feed_read k.feed }
