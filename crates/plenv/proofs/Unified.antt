-- A unification of values, in slots too.
use Rattle.std.proofs.Common.{◌≡◌, Bool, true, false, None, Ok, Err, Result, refl, sym, subst}
use Rattle.std.specs.Prelude.{IfOk, OnErr}
use Rattle.plterm.specs.Tree.{Tree}
use Rattle.plsubst.specs.Unify.{unify}
use Rattle.plcells.specs.Store.{Store}
use Rattle.plbind.specs.Unifying.{Unified, KeepsAll}
use Rattle.plenv.specs.Env.{Env, AreSlots}
use Rattle.plenv.specs.Changes.{Unifies}
use Rattle.plenv.proofs.Keeping.{over_heap, keeps-both, same-slots}
use Rattle.plenv.proofs.Changing.{slots-over, variable-put}

module _ (e : Env) (h : Store) (is : AreSlots e) where
  pub slots-unified : KeepsAll e.heap h → AreSlots (over_heap e h e.count)
  slots-unified k = slots-over e h k.values k.fresh is

  pub unifies : (s t : Tree) → Unified e.heap h s t → Unifies e (over_heap e h e.count) s t
  unifies s t u = record {
    unifier = u.unifier;
    is = u.is;
    made = record {
      values = u.made.values;
      slots = refl;
      variables = variable-put e h u.unifier (λ v f. (u.made.values v f).1) u.made.apart is;
      count = refl;
      keeps = keeps-both e (over_heap e h e.count) u.made.keeps (same-slots e h e.count);
    };
  }

  pub unifies-where : {E : Type 0} (r : Result Bool E) (s t : Tree) → IfOk r (λ b. b ≡ true → Unified e.heap h s t) → IfOk r (λ b. b ≡ true → Unifies e (over_heap e h e.count) s t)
  unifies-where (Ok b) s t fits = λ q. unifies s t (fits q)
  unifies-where (Err x) s t fits = tt

  pub slots-where : {E : Type 0} (r : Result Bool E) (s t : Tree) → IfOk r (λ b. b ≡ true → Unified e.heap h s t) → IfOk r (λ b. b ≡ false → (unify s t ≡ None) × (h ≡ e.heap)) → OnErr r (h ≡ e.heap)
      → AreSlots (over_heap e h e.count)
  slots-where (Ok true) s t fits none err = let u = fits refl in slots-over e h (λ v f. (u.made.values v f).0) u.made.fresh is
  slots-where (Ok false) s t fits none err = subst (λ x. AreSlots (over_heap e x e.count)) (sym (none refl).1) is
  slots-where (Err x) s t fits none err = subst (λ x. AreSlots (over_heap e x e.count)) (sym err) is
