use Rattle.std.proofs.lemmas.Int.{to_z-of_z}
use Rattle.std.proofs.lemmas.List.{get_or_default}
use Rattle.std.proofs.Common.{◌≡◌, ◌∙◌, ◌<◌, w64, ◌∷◌, ◌++◌, [], length, reverse, refl, sym, subst, ap}
use Rattle.plterm.specs.Tree.{int, atom}
use Rattle.plterm.specs.declared.node.Node.TheVariants.{Var, Int, Atom, Compound}
use Rattle.plterm.specs.Reading.{Fits as FitsNode}
use Rattle.plcells.specs.declared.cell.Cell.TheVariants.{Atom as AtomCell}
use Rattle.plcells.specs.declared.cell.Argument.TheVariants.{Value}
use Rattle.plcells.specs.Store.{Keeps, value, at}
use Rattle.plcells.specs.Putting.{HasValue, PutsNode}
use Rattle.plcells.proofs.Kept.{Keeps-refl, Keeps-trans}
use Rattle.plcells.proofs.Given.{given-stay, value-in}
use Rattle.plcells.proofs.Putting.{adds-none, adds-renamed, adds-value, puts-leaf, puts-renamed}
use Rattle.plcells.proofs.heap.Heap.put_node.Goals as goal

pub returns-in_err-push-in-Var-clause-keeps : goal.returns-in_err-push-in-Var-clause-keeps
returns-in_err-push-in-Var-clause-keeps c = Keeps-refl c.args.self.now

pub returns-in_ok-push-in-Var-clause-keeps : goal.returns-in_ok-push-in-Var-clause-keeps
returns-in_ok-push-in-Var-clause-keeps c = Keeps-refl c.args.self.now

pub returns-in_err-v-in-Int-clause-keeps : goal.returns-in_err-v-in-Int-clause-keeps
returns-in_err-v-in-Int-clause-keeps c = subst (Keeps c.args.self.now) (sym c.in_err-v-in-Int.ensures.err) (Keeps-refl c.args.self.now)

pub put_compound-requires-clause-given : goal.put_compound-requires-clause-given
put_compound-requires-clause-given c = (given-stay c.args.self.now c.functor_named.new.self (reverse c.args.stack.now.items) c.in_ok-f-in-Compound.ensures.preserves c.requires.given).0

pub returns-in_err-put_compound-in-Compound-clause-keeps : goal.returns-in_err-put_compound-in-Compound-clause-keeps
returns-in_err-put_compound-in-Compound-clause-keeps c =
    Keeps-trans c.args.self.now c.functor_named.new.self c.put_compound.new.self c.in_ok-f-in-Compound.ensures.preserves.keeps c.in_err-put_compound-in-Compound.ensures.keeps

pub returns-in_ok-push-in-Var-clause-ok : goal.returns-in_ok-push-in-Var-clause-ok
returns-in_ok-push-in-Var-clause-ok c =
    let h = c.args.self.now in
    let x = c.in-Var.x in
    let vs = c.args.values.now in
    let before = c.args.stack.now.items in
    let lt : x < length vs = subst (HasValue vs) c.in-Var.is c.requires.value in
    let v = at vs x in
    let push : c.push.new.self.items ≡ before ++ Value v ∷ [] = c.in_ok-push-in-Var.ensures.items ∙ ap (λ w. before ++ Value w ∷ []) (c.index-values-x.is ∙ get_or_default vs x _ _ lt) in
    rw (push, c.in-Var.is) (puts-leaf h h vs (Var x) before v (adds-none h) c.requires.given (value-in h vs x _ v c.requires.values lt refl) (λ ts. refl))

pub returns-in_ok-push-in-Int-clause-ok : goal.returns-in_ok-push-in-Int-clause-ok
returns-in_ok-push-in-Int-clause-ok c =
    let old = c.args.self.now in
    let new = c.integer.new.self in
    let v = c.in_ok-v-in-Int.v in
    let i = c.in-Int.number in
    let a = c.in_ok-v-in-Int.ensures.ok in
    let fits : FitsNode (Int i) = subst FitsNode c.in-Int.is c.requires.fits in
    let is : value new v ≡ int i = a.is ∙ ap int (to_z-of_z w64 i fits) in
    rw (c.in_ok-push-in-Int.ensures.items, c.in-Int.is) (puts-leaf old new c.args.values.now (Int i) c.args.stack.now.items v (adds-value old new v _ a) c.requires.given a.fits (λ ts. ap (λ t. t ∷ ts) (sym is)))

pub returns-in_ok-push-in-Atom-clause-ok : goal.returns-in_ok-push-in-Atom-clause-ok
returns-in_ok-push-in-Atom-clause-ok c =
    let old = c.args.self.now in
    let new = c.atom.new.self in
    let a = c.in_ok-a-in-Atom.a in
    let has = c.in_ok-a-in-Atom.ensures.is in
    let is = ap atom has.is in
    rw (c.in_ok-push-in-Atom.ensures.items, c.in-Atom.is)
    (puts-leaf old new c.args.values.now (Atom c.in-Atom.name) c.args.stack.now.items (AtomCell a) (adds-renamed old new c.in_ok-a-in-Atom.ensures.same c.in_ok-a-in-Atom.ensures.preserves) c.requires.given has.within (λ ts. ap (λ t. t ∷ ts) (sym is)))

pub returns-in_ok-put_compound-in-Compound-clause-keeps : goal.returns-in_ok-put_compound-in-Compound-clause-keeps
returns-in_ok-put_compound-in-Compound-clause-keeps c =
    Keeps-trans c.args.self.now c.functor_named.new.self c.put_compound.new.self c.in_ok-f-in-Compound.ensures.preserves.keeps c.in_ok-put_compound-in-Compound.ensures.keeps

pub returns-in_ok-put_compound-in-Compound-clause-ok : goal.returns-in_ok-put_compound-in-Compound-clause-ok
returns-in_ok-put_compound-in-Compound-clause-ok c =
    let old = c.args.self.now in
    let mid = c.functor_named.new.self in
    let new = c.put_compound.new.self in
    let before = c.args.stack.now.items in
    let after = c.put_compound.new.stack.items in
    let e = c.in_ok-f-in-Compound.ensures in
    let puts = subst (λ s. PutsNode mid new [] (Compound s c.in-Compound.count) before after) e.is.name c.in_ok-put_compound-in-Compound.ensures.ok in
    rw c.in-Compound.is (puts-renamed old mid new c.args.values.now c.in-Compound.name c.in-Compound.count before after (adds-renamed old mid e.same e.preserves) c.requires.given puts)
