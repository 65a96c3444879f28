-- `told_number` is right by the three answers.
use borrow.Author.Rules.{rules}
use Rattle.cpanel.proofs.encode.told_number.Statement.{statement}
use Rattle.cpanel.proofs.encode.told_number.Tie as tie

enum_told-1 : tie.Need-enum_told-1
enum_told-1 c = search rules

enum_told-in-Over : tie.Need-enum_told-in-Over
enum_told-in-Over c = search rules

enum_told-in-Short : tie.Need-enum_told-in-Short
enum_told-in-Short c = search rules

returns-in-More : tie.Need-returns-in-More
returns-in-More c = cc

returns-in-Over : tie.Need-returns-in-Over
returns-in-Over c = cc

returns-in-Short : tie.Need-returns-in-Short
returns-in-Short c = cc

pub told_number_spec : {M : Type 1} → statement M
told_number_spec = tie.close (tie.spec enum_told-1 enum_told-in-Over enum_told-in-Short returns-in-More returns-in-Over returns-in-Short)
