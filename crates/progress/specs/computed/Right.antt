-- The tests by which the code knows the words: each has a value that encoding gives.
use Rattle.std.specs.Prelude.{Bool, ◌&&◌, pos, negsuc}
use Rattle.plane.specs.declared.travel.Range.{Range}
use Rattle.plane.specs.Travel.{within_of}
use Rattle.encoding.specs.computed.Right.{is_count}
use Rattle.progress.specs.declared.known.Known.{Known}
use Rattle.progress.specs.declared.long.LongWords.{LongWords}
use Rattle.progress.specs.declared.progress.Progress.{Progress}

abbrev pub stages : Range
stages = record { lower = pos 0; upper = pos 2 }

abbrev pub motions : Range
motions = record { lower = pos 0; upper = pos 3 }

abbrev pub feeds : Range
feeds = record { lower = negsuc 0; upper = pos 9999999999 }

abbrev pub highs : Range
highs = record { lower = pos 0; upper = pos 4294967295 }

unfoldable pub known_right : Known → Bool
known_right k = within_of motions k.motion && within_of feeds k.feed

unfoldable pub long_right : LongWords → Bool
long_right w = is_count w.low && within_of highs w.high

unfoldable pub count_words_right : Progress → Bool
count_words_right p = is_count p.at && (is_count p.lines && (is_count p.blocks && (is_count p.cycles && long_right p.ticks)))

unfoldable pub progress_right : Progress → Bool
progress_right p = within_of stages p.stage && (known_right p.known && count_words_right p)
