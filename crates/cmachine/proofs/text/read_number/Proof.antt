-- `read_number` is right because each answer has its own number.
use borrow.Author.Rules.{rules}
use mathlib.Core.Path.{◌∙◌}
use Rattle.encoding.specs.laws.Number.{word_fits, refusal_fits, through}
use Rattle.cmachine.proofs.text.read_number.Statement.{statement}
use Rattle.cmachine.proofs.text.read_number.Tie as tie

enum_told-1 : tie.Need-enum_told-1
enum_told-1 c = search rules

enum_known-read : tie.Need-enum_known-read
enum_known-read c = search rules

word-requires : tie.Need-word-requires
word-requires c κs = search rules

enum_known-read-in-Refused-1 : tie.Need-enum_known-read-in-Refused-1
enum_known-read-in-Refused-1 c = search rules

refusal-requires : tie.Need-refusal-requires
refusal-requires c κs = search rules

returns-in-Nothing : tie.Need-returns-in-Nothing
returns-in-Nothing c = cc

returns-in-Loaded : tie.Need-returns-in-Loaded
returns-in-Loaded c = through (word_fits _) c.word.ensures ∙ simp c.in-Loaded.is

returns-in-Refused : tie.Need-returns-in-Refused
returns-in-Refused c = through (refusal_fits _) c.refusal.ensures ∙ simp c.in-Refused.is

pub read_number_spec : {M : Type 1} → statement M
read_number_spec = tie.close (tie.spec enum_told-1 enum_known-read word-requires enum_known-read-in-Refused-1 refusal-requires
    returns-in-Nothing returns-in-Loaded returns-in-Refused)
