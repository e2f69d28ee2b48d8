-- A packed term that is put.
use Rattle.std.proofs.Common.{◌≡◌, ℕ, List, length, ap, ◌∙◌}
use Rattle.plterm.specs.Tree.{Tree}
use Rattle.plterm.specs.Variables.{copied, variables}
use Rattle.plsubst.specs.Subst.{shift}
use Rattle.plpack.specs.Packing.{packed}
use Rattle.plpack.specs.Shared.{IsCanonical}
use Rattle.plpack.proofs.Holding.{unpacked-is}
use Rattle.plcells.specs.Store.{Store, value}
use Rattle.plpacked.specs.declared.putting.Put.{Put}
use Rattle.plpacked.specs.Putting.{PutsPacked, PutsWhole}
use Rattle.plpacked.proofs.Shifting.{copied-shifted}

module _ (old new : Store) (t : Tree) (bytes : List ℕ) (n : ℕ) (put : Put) (h : IsCanonical t) (is : bytes ≡ packed t) (p : PutsPacked old new bytes n put) where
  same : p.term ≡ t
  same = unpacked-is t p.term bytes put.size h is (record { limits = p.limits; same = p.numbered }) p.own

  pub whole-put : PutsWhole old new t n put
  whole-put = record {
    count = p.count ∙ ap (λ (u : Tree). length (variables u)) same;
    fits = p.fits;
    is = p.is ∙ ap (shift n) same;
    preserves = p.preserves;
    fresh = p.fresh;
    frees = p.frees;
  }

  pub whole-again : copied 0 (value new put.value) ≡ t
  whole-again = ap (copied 0) p.is ∙ copied-shifted n p.term ∙ ap (copied 0) same ∙ h.same
