-- The G and F known, read from their words.
use Rattle.std.specs.Prelude.{Bool, Option, Some, None, cond, List, ℤ}
use Rattle.encoding.specs.Words.{at}
use Rattle.encoding.specs.computed.Words.{same_words}
use Rattle.reader.specs.declared.Reader.{Reader}
use Rattle.progress.specs.declared.known.Known.{Known}
use Rattle.progress.specs.Known.{encode_known, reader_of}

abbrev pub known_in : List ℤ → Known
known_in ws = record { motion = at ws 0; feed = at ws 1 }

-- whether words tell what is known, and what they tell, whatever they are
pub record DecodedKnown : Type 0 where
  pub ok : Bool
  pub reader : Reader

-- Words tell what is known if they are those of what they tell. So a G above 3 and an F that is neither -1 nor one of 0 to 10^10 - 1 tell
-- nothing.
unfoldable pub decode_known : List ℤ → DecodedKnown
decode_known ws = let k = reader_of (known_in ws) in record { ok = same_words ws (encode_known k); reader = k }

-- what is known, where the words tell it
abbrev pub reader_told : List ℤ → Option Reader
reader_told ws = cond (decode_known ws).ok (Some (decode_known ws).reader) None
