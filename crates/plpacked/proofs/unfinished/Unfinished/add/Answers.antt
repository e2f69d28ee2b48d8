use Rattle.std.proofs.Common.{◌≡◌, ◌∙◌, ◌+◌, ◌∷◌, length, refl, sym, ap, subst, arith, w64}
use Rattle.std.proofs.lemmas.Int.{to_z-of_z}
use Rattle.plterm.specs.declared.node.Node.TheVariants.{Var, Int, Atom, Compound}
use Rattle.plterm.specs.Tree.{int, atom}
use Rattle.plterm.specs.Reading.{Fits as FitsNode}
use Rattle.plcells.specs.declared.cell.Cell.TheVariants.{Atom as AtomCell}
use Rattle.plcells.specs.Store.{Keeps}
use Rattle.plcells.proofs.Kept.{Keeps-refl}
use Rattle.plcells.proofs.Putting.{adds-value, adds-renamed}
use Rattle.plpacked.proofs.Adding.{adds-old, adds-leaf, adds-open}
use Rattle.plpacked.proofs.unfinished.Unfinished.add.Goals as goal

pub returns-in_err-v-in-Int-clause-keeps : goal.returns-in_err-v-in-Int-clause-keeps
returns-in_err-v-in-Int-clause-keeps c = subst (Keeps c.args.heap.now) (sym c.in_err-v-in-Int.ensures.err) (Keeps-refl c.args.heap.now)

pub returns-in_ok-push-in-Var-clause-ok : goal.returns-in_ok-push-in-Var-clause-ok
returns-in_ok-push-in-Var-clause-ok c =
    let puts = c.in_ok-v-in-Var.ensures.ok in
    rw c.in-Var.is (adds-leaf c.args.heap.now c.variable_value.new.heap c.args.self.now _ c.boundary.ensures.heap.names c.requires.unfinished c.requires.waiting puts.adds refl
    (Var c.in-Var.x) c.in_ok-v-in-Var.v puts.fits refl (λ ts. ap (λ t. t ∷ ts) (sym puts.is)) c.in_ok-push-in-Var.ensures.items refl puts.seen)

pub returns-in_ok-push-in-Int-clause-ok : goal.returns-in_ok-push-in-Int-clause-ok
returns-in_ok-push-in-Int-clause-ok c =
    let old = c.args.heap.now in
    let new = c.integer.new.self in
    let w = c.args.self.now in
    let a = c.in_ok-v-in-Int.ensures.ok in
    let fits : FitsNode (Int c.in-Int.number) = subst FitsNode c.in-Int.is c.requires.fits in
    let is = a.is ∙ ap int (to_z-of_z w64 c.in-Int.number fits) in
    let none = adds-old old new w.number w.variables.items c.requires.unfinished.variables (adds-value old new c.in_ok-v-in-Int.v _ a) in
    rw c.in-Int.is (adds-leaf old new w _ c.boundary.ensures.heap.names c.requires.unfinished c.requires.waiting none refl
    (Int c.in-Int.number) c.in_ok-v-in-Int.v a.fits refl (λ ts. ap (λ t. t ∷ ts) (sym is)) c.in_ok-push-in-Int.ensures.items refl refl)

pub returns-in_ok-push-in-Atom-clause-ok : goal.returns-in_ok-push-in-Atom-clause-ok
returns-in_ok-push-in-Atom-clause-ok c =
    let old = c.args.heap.now in
    let new = c.atom.new.self in
    let w = c.args.self.now in
    let e = c.in_ok-a-in-Atom.ensures in
    let none = adds-old old new w.number w.variables.items c.requires.unfinished.variables (adds-renamed old new e.same e.preserves) in
    rw c.in-Atom.is (adds-leaf old new w _ c.boundary.ensures.heap.names c.requires.unfinished c.requires.waiting none refl
    (Atom c.in-Atom.name) (AtomCell c.in_ok-a-in-Atom.a) e.is.within refl (λ ts. ap (λ t. t ∷ ts) (sym (ap atom e.is.is))) c.in_ok-push-in-Atom.ensures.items refl refl)

pub returns-in_ok-push-in-Compound-clause-ok : goal.returns-in_ok-push-in-Compound-clause-ok
returns-in_ok-push-in-Compound-clause-ok c =
    let old = c.args.heap.now in
    let new = c.functor_named.new.self in
    let w = c.args.self.now in
    let e = c.in_ok-functor-in-Compound.ensures in
    let fits : FitsNode (Compound c.in-Compound.name c.in-Compound.count) = subst FitsNode c.in-Compound.is c.requires.fits in
    let none = adds-old old new w.number w.variables.items c.requires.unfinished.variables (adds-renamed old new e.same e.preserves) in
    let first : c.len-first.result ≡ length w.values.items = omega (arith, c.len-first.ensures, w.values.ok.0) in
    rw c.in-Compound.is (adds-open old new w _ c.boundary.ensures.heap.names c.requires.unfinished c.requires.waiting none refl
    c.in-Compound.name c.in-Compound.count _ e.is fits.1 first (ap (λ n. n + c.in-Compound.count) first) refl c.in_ok-push-in-Compound.ensures.items refl)
