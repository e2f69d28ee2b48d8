use Rattle.std.specs.Prelude.{[]}
use Rattle.plload.specs.Draft.{empty_draft, with_term, program_of}
use Rattle.plload.specs.Listing.{with_line, whole_listing}
use Rattle.pllaws.proofs.ListedAgain.{listed_alike, all_told}
use Rattle.pllaws.proofs.Deep.{listed_too_deep}
use Rattle.pllaws.proofs.listing.listing_is_loaded.Goals as goal

pub returns-clause-listed : goal.returns-clause-listed
returns-clause-listed c = all_told

pub returns-clause-program : goal.returns-clause-program
returns-clause-program c = λ text lines program most size loads lists needs few. listed_alike with_term empty_draft program_of text lines program most size loads lists needs few

pub returns-clause-listing : goal.returns-clause-listing
returns-clause-listing c = λ text lines most size lists needs few. listed_alike with_line [] whole_listing text lines lines most size lists lists needs few

pub returns-clause-refused : goal.returns-clause-refused
returns-clause-refused c = λ text lines most size lists needs more. listed_too_deep text lines most size lists needs more
