use Rattle.std.proofs.Common.{sym, ap, ◌∙◌, subst, inl, inr, nat_eq, of_z, w64}
use Rattle.std.proofs.lemmas.Bool.{eq-eqb}
use Rattle.plterm.specs.Tree.{int, trees}
use Rattle.plterm.specs.Shown.{shown}
use Rattle.plbind.specs.Apart.{AreApart}
use Rattle.plbind.proofs.Clashing.{ints-apart, int-atom, int-compound, unless-true}
use Rattle.plbind.proofs.apart.is_integer_apart.Goals as goal

pub returns-in-Int : goal.returns-in-Int
returns-in-Int c h =
    let i = c.args.number in
    let j = c.in-Int.other in
    subst (AreApart (int i)) (ap shown (sym c.in-Int.is) ∙ c.shape.ensures.shown)
    (ints-apart i j (λ e. unless-true (nat_eq (of_z w64 i) (of_z w64 j)) h (eq-eqb (of_z w64 i) (of_z w64 j) (ap (of_z w64) e))))

pub returns-in-Atom : goal.returns-in-Atom
returns-in-Atom c h =
    let i = c.args.number in
    elim c.in-Atom.is [
      | inl p ↦ subst (AreApart (int i)) (ap shown (sym p.1) ∙ c.shape.ensures.shown) (int-atom i p.0.now)
      | inr p ↦ subst (AreApart (int i)) (ap shown (sym p.2) ∙ c.shape.ensures.shown) (int-compound i p.0.now (trees p.1))
    ]
