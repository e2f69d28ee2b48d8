use Rattle.std.proofs.Common.{sym, ap, ◌∙◌, subst, inl, inr}
use Rattle.plterm.specs.Tree.{atom, trees}
use Rattle.plterm.specs.Shown.{shown}
use Rattle.plbind.specs.Apart.{AreApart}
use Rattle.plbind.proofs.Clashing.{atoms-apart, atom-int, atom-compound, unless-same}
use Rattle.plbind.proofs.apart.is_atom_apart.Goals as goal

pub returns-in-Atom : goal.returns-in-Atom
returns-in-Atom c h =
    subst (AreApart (atom c.args.name.now)) (ap shown (sym c.in-Atom.is) ∙ c.shape.ensures.shown)
    (atoms-apart c.args.name.now c.in-Atom.other.now (λ e. unless-same c.is_same.result h (c.is_same.ensures.1 e)))

pub returns-in-Int : goal.returns-in-Int
returns-in-Int c h =
    let s = c.args.name.now in
    elim c.in-Int.is [
      | inl p ↦ subst (AreApart (atom s)) (ap shown (sym p.1) ∙ c.shape.ensures.shown) (atom-int s p.0)
      | inr p ↦ subst (AreApart (atom s)) (ap shown (sym p.2) ∙ c.shape.ensures.shown) (atom-compound s p.0.now (trees p.1))
    ]
