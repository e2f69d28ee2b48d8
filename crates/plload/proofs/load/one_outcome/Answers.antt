use Rattle.std.proofs.Common.{[]}
use Rattle.plload.specs.Draft.{empty_draft, with_term, program_of}
use Rattle.plload.specs.Listing.{with_line, whole_listing}
use Rattle.plload.proofs.Once.{one_outcome}
use Rattle.plload.proofs.load.one_outcome.Goals as goal

pub returns-clause-program : goal.returns-clause-program
returns-clause-program c = λ text a b h k. one_outcome with_term empty_draft program_of text a b h k

pub returns-clause-listing : goal.returns-clause-listing
returns-clause-listing c = λ text a b h k. one_outcome with_line [] whole_listing text a b h k
