use Rattle.std.proofs.Common.{◌≡◌, true, false, ap, ap₂, sym, ◌∙◌, refl, rules, w64, FitsSigned}
use Rattle.std.proofs.lemmas.Int.{to_z-of_z}
use Rattle.plclause.specs.Indicators.{indicator}
use Rattle.plbuiltin.specs.Arithmetic.{compared as compared_of, compares as compares_of}
use Rattle.plbuiltin.specs.Solution.{decides}
use Rattle.plsearch.specs.Rows.{offer}
use Rattle.plstack.specs.State.{goals_of}
use Rattle.plmachine.specs.declared.machine.Outcome.TheVariants as outcomes
use Rattle.plmachine.specs.Machine.{local_of}
use Rattle.plmachine.proofs.Lists.{holds-list, lengthened-grown, lengthened-same}
use Rattle.plmachine.proofs.Moves.{gave, moved-as, went}
use Rattle.plmachine.proofs.Offers.{offer-fails, offer-succeeds}
use Rattle.plmachine.proofs.machine.Machine.compare.Goals as goal

pub returns-then-compares-clause-ok : goal.returns-then-compares-clause-ok
returns-then-compares-clause-ok c = λ P b t k.
    let s = c.args.self.now in
    let n = s.stack.env.count in
    let p = indicator t in
    let es = goals_of s.stack c.args.rest in
    let left = sym c.in-Ok.is ∙ c.in_ok-x.ensures k.left k.left_there in
    let right = sym c.in-Ok-2.is ∙ c.in_ok-y.ensures k.right k.right_there in
    let fits_left : FitsSigned w64 c.in-Ok.x = search rules in
    let fits_right : FitsSigned w64 c.in-Ok-2.y = search rules in
    let holds : true ≡ compares_of c.args.c c.in-Ok.x c.in-Ok-2.y = sym c.if-compares.true ∙ rw (to_z-of_z w64 c.in-Ok.x fits_left, to_z-of_z w64 c.in-Ok-2.y fits_right) at c.compares.ensures in
    let is = ap (λ b. decides b s.settings) holds ∙ ap₂ (λ x y. compared_of c.args.c x y s.settings) left right in
    moved-as P s c.go_on.new.self _ _ (offer-succeeds s.settings p es n (local_of s) refl ∙ ap (λ x. offer x p es n (local_of s)) is)
    (went P s c.go_on.new.self s.stack c.args.rest es (lengthened-grown s.stack s.stack (lengthened-same s.stack)) (holds-list s.stack c.args.rest c.requires.rest) c.go_on.ensures.is)

pub returns-else-compares-clause-ok : goal.returns-else-compares-clause-ok
returns-else-compares-clause-ok c = λ P b t k.
    let s = c.args.self.now in
    let n = s.stack.env.count in
    let p = indicator t in
    let es = goals_of s.stack c.args.rest in
    let left = sym c.in-Ok.is ∙ c.in_ok-x.ensures k.left k.left_there in
    let right = sym c.in-Ok-2.is ∙ c.in_ok-y.ensures k.right k.right_there in
    let fits_left : FitsSigned w64 c.in-Ok.x = search rules in
    let fits_right : FitsSigned w64 c.in-Ok-2.y = search rules in
    let holds : false ≡ compares_of c.args.c c.in-Ok.x c.in-Ok-2.y = sym c.if-compares.false ∙ rw (to_z-of_z w64 c.in-Ok.x fits_left, to_z-of_z w64 c.in-Ok-2.y fits_right) at c.compares.ensures in
    let is = ap (λ b. decides b s.settings) holds ∙ ap₂ (λ x y. compared_of c.args.c x y s.settings) left right in
    moved-as P s c.give.new.self _ _ (offer-fails s.settings p es n (local_of s) refl ∙ ap (λ x. offer x p es n (local_of s)) is) (gave P s c.give.new.self outcomes.Fail tt c.give.ensures)
