use Rattle.std.proofs.Common.{◌≡◌, suc, [], ◌∷◌, map, sym, ap, ◌∙◌, subst}
use Rattle.plterm.specs.Tree.{atom}
use Rattle.plcells.specs.Store.{value, terms, AreValues}
use Rattle.plbuiltin.specs.Solution.{unifies}
use Rattle.planswers.proofs.Forwarding.{forwarded}
use Rattle.platoms.specs.Names.{functor_name}
use Rattle.plread.specs.Texts.{listed}
use Rattle.plbuiltin.specs.Parts.{univ}
use Rattle.plpredicates.proofs.Structures.{univ-atomic, univ-compound}
use Rattle.plpredicates.proofs.parts.univ.Goals as goal

pub returns-in_ok-items-in-Compound-clause-is : goal.returns-in_ok-items-in-Compound-clause-is
returns-in_ok-items-in-Compound-clause-is c =
    let h = c.args.heap.now in
    let l = value h c.args.list in
    let b = c.in-Compound.block in
    let is = c.in-Compound.ensures in
    let items : map (value h) c.deref.result.now ≡ atom (functor_name h.names b.functor) ∷ terms h (suc b.place) b.arity = ap (map (value h)) c.deref.ensures.value ∙ c.in_ok-items-in-Compound.ensures.are in
    forwarded c.is_list_of.result h (λ s n. unifies l (listed (map (value h) c.deref.result.now)) s) (λ s n. univ (value h c.args.term) l s) (c.is_list_of.ensures.is h)
    (λ s n. ap (λ ts. unifies l (listed ts) s) items ∙ sym (univ-compound h b.place b.functor b.arity is.1 (value h c.args.term) is.2 s l))

pub returns-in_ok-items-in-Compound-clause-there : goal.returns-in_ok-items-in-Compound-clause-there
returns-in_ok-items-in-Compound-clause-there c =
    let h = c.args.heap.now in
    c.is_list_of.ensures.there h c.requires.list (subst (AreValues h) (sym c.deref.ensures.value) c.in_ok-items-in-Compound.ensures.there)

pub returns-in_default-clause-is : goal.returns-in_default-clause-is
returns-in_default-clause-is c =
    let h = c.args.heap.now in
    let t = value h c.args.term in
    let l = value h c.args.list in
    forwarded c.is_list_of-in_default.result h (λ s n. unifies l (listed (t ∷ [])) s) (λ s n. univ t l s) (c.is_list_of-in_default.ensures.is h)
    (λ s n. sym (univ-atomic h t t t s n l c.shape_of.result c.shape_of.ensures c.in_default.not-Variable c.in_default.not-Compound))

pub returns-in_default-clause-there : goal.returns-in_default-clause-there
returns-in_default-clause-there c = c.is_list_of-in_default.ensures.there c.args.heap.now c.requires.list (c.requires.term, tt)
