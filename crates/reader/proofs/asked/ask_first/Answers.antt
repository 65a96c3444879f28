-- `ask_first` is right because its words are those of the text's first line.
use Rattle.reader.specs.laws.Small.{line_writable}
use Rattle.reader.proofs.asked.ask_first.Goals as goal

pub ask_words-requires : goal.ask_words-requires
ask_words-requires c = (c.requires, rw c.read_first-first.ensures.line_value (line_writable _))
