use Rattle.std.proofs.Common.{◌∙◌, sym}
use Rattle.plterm.proofs.Spellings.{added_new}
use Rattle.plorder.proofs.Occurring.{found-more}
use Rattle.plorder.proofs.occurrences.note.Goals as goal

pub returns-in_ok-push-clause-found : goal.returns-in_ok-push-clause-found
returns-in_ok-push-clause-found c =
    found-more c.args.heap.now c.args.found.now _ c.args.number c.args.v c.requires.found c.requires.fits c.requires.variable c.in_ok-push.ensures.items
    (c.in_ok-place_of.ensures.ok ∙ added_new c.args.number c.args.found.now.numbers (sym c.in_ok-place_of.ensures.place ∙ c.if-branch-count.true ∙ c.count-count.ensures))
