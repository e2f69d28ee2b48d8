use Rattle.pllaws.proofs.Terms.{apart_read, listed_read}
use Rattle.pllaws.proofs.spaces.written_is_clause.Goals as goal

pub returns-clause-apart : goal.returns-clause-apart
returns-clause-apart c = apart_read

pub returns-clause-listed : goal.returns-clause-listed
returns-clause-listed c = listed_read
