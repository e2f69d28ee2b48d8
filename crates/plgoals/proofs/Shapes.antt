-- What a term is as a goal.
use Rattle.std.proofs.Common.{◌≡◌, ℕ, suc, ◌<◌, true, false, List, length, sym, ap, ◌∙◌, subst, arith, Some}
use Rattle.plterm.specs.Tree.{var, compound, trees}
use Rattle.plterm.specs.Reading.{IsName}
use Rattle.plclause.specs.Conversion.{converted, is_control}
use Rattle.platoms.specs.Names.{functor_at, functor_name}
use Rattle.plcells.specs.declared.cell.Cell.TheVariants.{Ref}
use Rattle.plcells.specs.Store.{Store, at, number_at, term, terms, shown, IsHead, IsHeap, IsBlock, IsEnd}
use Rattle.plcells.proofs.Terms.{term-at}
use Rattle.plcells.proofs.Values.{variable-place, variable-within}
use Rattle.plgoals.specs.Goals.{IsConstruct}
use Rattle.plgoals.proofs.Converting.{converted-other, terms-length, control-two}

pub end-variable : (h : Store) (j : ℕ) → IsHeap h → IsEnd h (Ref j) → (n : ℕ) × (term h j ≡ var n)
end-variable h j is end =
    let p = variable-place (at h.cells j) end in
    (number_at h p.0, term-at h j is (variable-within h.cells j end) ∙ ap (shown h j) p.1)

module _ (h : Store) (p f k : ℕ) (s : List ℕ) (is : IsHeap h) (block : IsBlock h p f k) (named : s ≡ functor_name h.names f) where
  shows : term h p ≡ compound s (trees (terms h (suc p) k))
  shows = block.is ∙ ap (λ n. compound n (trees (terms h (suc p) k))) (sym named)

  pub construct-is : IsHead (at h.cells p) → p < length h.cells → is_control s k ≡ true → IsConstruct h p
  construct-is head lt control =
      let two : k ≡ 2 = control-two s k control in
      record {
        name = s;
        is = shows ∙ ap (λ j. compound s (trees (terms h (suc p) j))) two;
        control = ap (is_control s) (sym two) ∙ control;
        named = subst IsName (sym named) (is.names.atoms ((functor_at h.names f).name) (is.names.functors f block.functor).name);
        fits = (lt, head);
        within = omega (arith, block.within, two);
        plain = λ d lo hi. block.plain d lo (omega (arith, hi, two));
        few = block.few;
      }

  pub other-is : is_control s k ≡ false → converted (term h p) ≡ Some (term h p)
  other-is other = ap converted shows ∙ converted-other s (trees (terms h (suc p) k)) k (terms-length h (suc p) k) other ∙ ap Some (sym shows)
