-- A table that grows by a name or by a functor.
use Rattle.std.proofs.Common.{◌≡◌, ℕ, ◌+◌, false, List, [], ◌∷◌, ◌++◌, length, length-append, Option, refl, sym, ap, ap₂, ◌∙◌, arith, inl, inr, bytes_eq}
use Rattle.std.specs.List.{list_any}
use Rattle.std.proofs.lemmas.Bool.{cases_lt}
use Rattle.std.proofs.lemmas.List.{get_or_append_left, get_or_push}
use Rattle.std.proofs.lemmas.Slice.Eq.{bytes_eq-Decides}
use Rattle.indexmap.specs.IndexSet.{insert_key}
use Rattle.plterm.specs.Reading.{IsName}
use Rattle.platoms.specs.declared.evaluable.Operation.{Operation}
use Rattle.platoms.specs.declared.names.Functor.{Functor}
use Rattle.platoms.specs.Evaluable.{operation_of}
use Rattle.platoms.specs.declared.names.Entry.{Entry}
use Rattle.platoms.specs.Names.{Table, IsTable, IsFunctor, Lists, atom_at, functor_at, functor_arity, no_entry, no_functor, operation_at, same_functor}
use Rattle.platoms.proofs.Tables.{absent, all-push, once-push, insert_once, insert_all_fit, insert_longer, insert_keeps, same_functor-Decides}

abbrev pub with_atom : Table → List ℕ → Table
with_atom t x = record { atoms = insert_key bytes_eq t.atoms x; functors = t.functors }

abbrev pub with_functor : Table → Functor → Table
with_functor t k = record { atoms = t.atoms; functors = t.functors ++ k ∷ [] }

pub table-with_atom : (t : Table) (x : List ℕ) → IsTable t → IsName x → IsTable (with_atom t x)
table-with_atom t x is name = record {
  atoms = insert_all_fit bytes_eq bytes_eq-Decides [] IsName t.atoms x is.atoms name;
  functors = λ f lt. let k = is.functors f lt in record { name = omega (arith, k.name, insert_longer bytes_eq bytes_eq-Decides [] t.atoms x); some = k.some; most = k.most };
  atom_once = insert_once bytes_eq bytes_eq-Decides [] t.atoms x is.atom_once;
  functor_once = is.functor_once;
}

pub table-with_functor : (t : Table) (k : Functor) → IsTable t → IsFunctor t k → list_any (same_functor k) t.functors ≡ false → IsTable (with_functor t k)
table-with_functor t k is fits new = record {
  atoms = is.atoms;
  functors = λ f lt.
      let r = all-push same_functor same_functor-Decides no_functor (IsFunctor t) t.functors k is.functors fits f lt in
      record { name = r.name; some = r.some; most = r.most };
  atom_once = is.atom_once;
  functor_once = once-push same_functor same_functor-Decides no_functor t.functors k is.functor_once (absent same_functor same_functor-Decides no_functor t.functors k new);
}

-- a functor with the same name does the same
pub same_operation : (t u : Table) (f : ℕ) → functor_at u f ≡ functor_at t f → atom_at u ((functor_at t f).name) ≡ atom_at t ((functor_at t f).name) → operation_at u f ≡ operation_at t f
same_operation t u f functor name = ap (λ k. operation_of (atom_at u k.name) k.arity) functor ∙ ap (λ n. operation_of n (functor_arity t f)) name

-- what an entry of a functor and an operation is, where both are known
pub same_entry : (k j : Functor) (o p : Option Operation) → k ≡ j → o ≡ p → (let e : Entry = record { functor = k; operation = o } in e) ≡ record { functor = j; operation = p }
same_entry k j o p e f = ap₂ (λ x y. let e : Entry = record { functor = x; operation = y } in e) e f

module _ (t : Table) (entries : List Entry) (there : Lists t entries) where
  pub lists-with_atom : (x : List ℕ) → IsTable t → Lists (with_atom t x) entries
  lists-with_atom x is = record {
    count = there.count;
    each = λ f lt. there.each f lt ∙ sym (same_entry (functor_at t f) (functor_at t f) _ _ refl (same_operation t (with_atom t x) f refl (insert_keeps bytes_eq bytes_eq-Decides [] t.atoms x ((functor_at t f).name) ((is.functors f lt).name))));
  }

  pub lists-behind : (k : Functor) (o : Option Operation) → o ≡ operation_of (atom_at t k.name) k.arity → Lists (with_functor t k) (entries ++ record { functor = k; operation = o } ∷ [])
  lists-behind k o is = record {
    count = length-append entries (new ∷ []) ∙ ap (λ n. n + 1) there.count ∙ sym (length-append t.functors (k ∷ []));
    each = λ f lt. elim (cases_lt f (length t.functors)) [
      | inl old ↦
          get_or_append_left entries (new ∷ []) no_entry f (omega (arith, old, there.count))
          ∙ there.each f old
          ∙ sym (same_entry (functor_at u f) (functor_at t f) _ _ (get_or_append_left t.functors (k ∷ []) no_functor f old) (same_operation t u f (get_or_append_left t.functors (k ∷ []) no_functor f old) refl))
      | inr at ↦
          let last : f ≡ length t.functors = omega (arith, lt, at, length-append t.functors (k ∷ [])) in
          let here : functor_at u f ≡ k = get_or_push t.functors k no_functor f (sym last) in
          get_or_push entries new no_entry f (there.count ∙ sym last)
          ∙ sym (same_entry (functor_at u f) k _ _ here (ap (λ j. operation_of (atom_at t j.name) j.arity) here ∙ sym is))
    ];
  }
    where
      u : Table
      u = with_functor t k

      new : Entry
      new = record { functor = k; operation = o }
