-- Keys that are put one by one into a set with none.
use Rattle.std.proofs.Common.{◌≡◌, ℕ, ◌+◌, ◌<◌, ◌≤◌, Bool, List, [], length, take, get_or, refl, sym, ap, ◌∙◌}
use Rattle.std.specs.Bool.{Decides}
use Rattle.std.specs.Cmp.{IsEquivalence}
use Rattle.std.specs.List.{IsDistinct}
use Rattle.std.proofs.lemmas.Bool.Decides.{same_from_decides}
use Rattle.std.proofs.lemmas.List.{take_all, take_more}
use Rattle.indexmap.specs.IndexSet.{insert_key, insert_all}
use Rattle.indexmap.proofs.SetLemmas.{set_all_distinct, set_all_push}

module _ {X : Type 0} (eq : X → X → Bool) (decides : (x y : X) → Decides (eq x y) (x ≡ y)) where
  equivalence : IsEquivalence eq
  equivalence = record {
    refl = λ x. (decides x x).1 refl;
    symm = λ x y. same_from_decides (eq x y) (eq y x) (decides x y) (λ e. sym ((decides y x).0 e), λ e. (decides y x).1 (sym e));
    congr = λ x y z e. ap (λ w. eq w z) ((decides x y).0 e);
  }

  -- one key more
  pub put_more : (xs ys : List X) (i : ℕ) (d x : X) → i < length xs → x ≡ get_or xs i d → ys ≡ insert_all eq [] (take i xs)
      → insert_key eq ys x ≡ insert_all eq [] (take (i + 1) xs)
  put_more xs ys i d x lt is h =
      ap (λ v. insert_key eq v x) h
      ∙ ap (insert_key eq (insert_all eq [] (take i xs))) is
      ∙ sym (set_all_push eq [] (take i xs) (get_or xs i d))
      ∙ ap (insert_all eq []) (sym (take_more xs i d lt))

  -- all of them: none is there twice
  pub put_all : (xs ys : List X) (i : ℕ) → length xs ≤ i → IsDistinct eq xs → ys ≡ insert_all eq [] (take i xs) → ys ≡ xs
  put_all xs ys i le distinct h = h ∙ ap (insert_all eq []) (take_all i xs le) ∙ set_all_distinct equivalence [] xs distinct
