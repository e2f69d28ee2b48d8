-- The code of no clauses: the sequence of fail/0.
use Rattle.std.proofs.Common.{◌≡◌, ℕ, zero, suc, ◌<◌, List, [], ◌∷◌, refl, subst, ap, ◌∙◌, sym, arith, codes}
use Rattle.plterm.specs.Tree.{Tree, atom}
use Rattle.plterm.specs.Reading.{first}
use Rattle.platoms.specs.Names.{Table, IsTable, HasAtom}
use Rattle.plcode.specs.declared.node.Node.TheVariants.{Atom}
use Rattle.plcode.specs.declared.op.Op.TheVariants as ops
use Rattle.plcode.specs.Laying.{IsLaid, IsRow}
use Rattle.plcode.specs.Steps.{Text, meanings, step_at, goals_from, Meets}
use Rattle.plcode.specs.Bodies.{IsCode}
use Rattle.plcode.proofs.Placing.{leaf_laid, leaf_there}

-- no nodes
laid_none : (t : Table) → IsTable t → IsLaid t []
laid_none t table = record { table = table; sound = record { named = tt; rest = tt }; packed = λ i from root lt e. absurd (omega (arith, lt)); few = omega arith }

module _ (t : Table) (a : ℕ) (table : IsTable t) (has : HasAtom t a (codes "fail")) where
  abbrev pub failing : Text
  failing = record {
    names = t;
    nodes = Atom a ∷ [];
    steps = record { op = ops.Proceed; conjunctions = 0; goal = 0 } ∷ record { op = ops.Goal; conjunctions = 0; goal = 0 } ∷ [];
  }

  node : IsRow t (Atom a ∷ []) 0 1 (atom (codes "fail") ∷ [])
  node =
      let P : List ℕ → Type 0 = λ s. IsRow t (Atom a ∷ []) 0 1 (atom s ∷ []) in
      subst P has.is (leaf_there t [] (Atom a) (laid_none t table) has.within tt)

  at_end : goals_from failing 0 0 ≡ []
  unfolding goals_from
  at_end = refl

  at_fail : goals_from failing 1 0 ≡ atom (codes "fail") ∷ []
  unfolding goals_from meanings
  at_fail = let n = node in ap (λ (ts : List Tree). first ts ∷ []) n.terms

  meets : (p : ℕ) → p < 2 → Meets failing p (step_at failing p)
  meets zero lt = record { none = λ e. at_end; runs = λ e. absurd (cc) }
  meets (suc zero) lt = record {
    none = λ e. absurd (cc);
    runs = λ e. record {
      some = omega arith;
      selects = λ owed more. absurd (omega (arith, more));
      goal = atom (codes "fail");
      goals = at_fail ∙ ap (λ (gs : List Tree). atom (codes "fail") ∷ gs) (sym at_end);
      is = node;
    };
  }
  meets (suc (suc p)) lt = absurd (omega arith)

  pub first_code : IsCode failing
  first_code = record {
    laid = leaf_laid t [] (Atom a) (laid_none t table) has.within tt (omega arith);
    fails = record { within = omega arith; goals = at_fail };
    steps = meets;
  }
