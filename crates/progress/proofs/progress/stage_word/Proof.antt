-- `stage_word` is right by the three stages.
use borrow.Author.Rules.{rules}
use Rattle.progress.proofs.progress.stage_word.Statement.{statement}
use Rattle.progress.proofs.progress.stage_word.Tie as tie

enum_told-1 : tie.Need-enum_told-1
enum_told-1 c = search rules

enum_told-in-Lines : tie.Need-enum_told-in-Lines
enum_told-in-Lines c = search rules

enum_told-in-Over : tie.Need-enum_told-in-Over
enum_told-in-Over c = search rules

returns-in-Header : tie.Need-returns-in-Header
returns-in-Header c = cc

returns-in-Lines : tie.Need-returns-in-Lines
returns-in-Lines c = cc

returns-in-Over : tie.Need-returns-in-Over
returns-in-Over c = cc

pub stage_word_spec : {M : Type 1} → statement M
stage_word_spec = tie.close (tie.spec enum_told-1 enum_told-in-Lines enum_told-in-Over returns-in-Header returns-in-Lines returns-in-Over)
