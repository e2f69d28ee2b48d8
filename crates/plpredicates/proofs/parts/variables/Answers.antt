use Rattle.std.proofs.Common.{◌≡◌, map, sym, ap, ◌∙◌, subst}
use Rattle.plterm.specs.Tree.{var}
use Rattle.plterm.specs.Variables.{variables}
use Rattle.plcells.specs.Store.{value, AreValues}
use Rattle.plbuiltin.specs.Solution.{unifies}
use Rattle.planswers.proofs.Forwarding.{forwarded}
use Rattle.plread.specs.Texts.{listed}
use Rattle.plbuiltin.specs.Parts.{term_variables}
use Rattle.plpredicates.proofs.parts.variables.Goals as goal

pub returns-clause-is : goal.returns-clause-is
returns-clause-is c =
    let h = c.args.heap.now in
    let l = value h c.args.list in
    let items : map (value h) c.deref.result.now ≡ map var (variables (value h c.args.term)) = ap (map (value h)) c.deref.ensures.value ∙ c.in_ok-items.ensures.is in
    forwarded c.is_list_of.result h (λ s n. unifies l (listed (map (value h) c.deref.result.now)) s) (λ s n. term_variables (value h c.args.term) l s) (c.is_list_of.ensures.is h)
    (λ s n. ap (λ ts. unifies l (listed ts) s) items)

pub returns-clause-there : goal.returns-clause-there
returns-clause-there c =
    let h = c.args.heap.now in
    c.is_list_of.ensures.there h c.requires.list (subst (AreValues h) (sym c.deref.ensures.value) c.in_ok-items.ensures.values)
