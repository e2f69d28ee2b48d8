-- Groups of terms without variables.
use Rattle.std.proofs.Common.{◌≡◌, true, ◌≤◌, List, [], ◌∷◌, length, map, Option, None, Result, IfOk, ℕ, refl, sym, ap, ap₂, ◌∙◌, arith}
use Rattle.std.proofs.lemmas.Result.{IfOk-weaker}
use Rattle.std.specs.List.{list_all}
use Rattle.std.proofs.lemmas.Bool.{and_parts}
use Rattle.plterm.specs.Tree.{Tree, Trees, var, int, atom, compound, none, more}
use Rattle.plterm.specs.Ground.{is_ground, are_ground}
use Rattle.plterm.specs.Variables.{AllBelow, EachBelow}
use Rattle.plcells.specs.declared.cell.Cell.{Cell}
use Rattle.plcells.specs.Store.{Store, value}
use Rattle.plops.specs.declared.table.CurrentOp.{CurrentOp}
use Rattle.plprogram.specs.declared.settings.Settings.{Settings}
use Rattle.plbuiltin.specs.Current.{operator_terms, current_flags}
use Rattle.plbuiltin.specs.Solution.{Gives, are, are_one_of, against, together, unless}
use Rattle.planswers.specs.declared.answer.Answer.{Answer}
use Rattle.planswers.specs.Answers.{meant}

-- a term without variables
mutual
  unfolding is_ground

  pub below-ground : (t : Tree) → is_ground t ≡ true → AllBelow 0 t
  below-ground (var x) e = absurd (cc e)
  below-ground (int i) e = tt
  below-ground (atom s) e = tt
  below-ground (compound s ts) e = each-ground ts e

  each-ground : (ts : Trees) → are_ground ts ≡ true → EachBelow 0 ts
  each-ground none e = tt
  each-ground (more t ts) e = let both = and_parts (is_ground t) (are_ground ts) e in (below-ground t both.0, each-ground ts both.1)

-- one group after another
pub each-against : (us : List Tree) (tss : List (List Tree)) → map (against us) (map together tss) ≡ map (are us) tss
each-against us [] = refl
each-against us (ts ∷ tss) = ap (λ ss. are us ts ∷ ss) (each-against us tss)

-- operators and flags have none
pub ground-operators : (ops : List CurrentOp) → list_all is_ground (map together (map operator_terms ops)) ≡ true
unfolding is_ground
ground-operators [] = refl
ground-operators (op ∷ ops) = ground-operators ops

pub ground-flags : (s : Settings) → list_all is_ground (map together (current_flags s)) ≡ true
unfolding is_ground
ground-flags s = refl

-- the only one
pub alone : {A : Type 0} (x : A) (xs : List A) → length (x ∷ xs) ≤ 1 → xs ≡ []
alone x [] le = refl
alone x (y ∷ xs) le = absurd (omega arith)

-- a call that is one of some groups, where it has no error
pub means-one_of : {E : Type 0} (r : Result Answer E) (h : Store) (s : Settings) (vs : List Cell) (us ts : List Tree) (tss : List (List Tree)) (e : Option Tree) →
    IfOk r (λ answer. (s : Settings) (n : ℕ) → meant h s n answer ≡ Gives (map (against (map (value h) vs)) ts) [] s) →
    map (value h) vs ≡ us → ts ≡ map together tss → e ≡ None →
    IfOk r (λ answer. (n : ℕ) → meant h s n answer ≡ unless e (are_one_of us tss s))
means-one_of r h s vs us ts tss e is values groups no_error =
    IfOk-weaker r (λ answer. (s : Settings) (n : ℕ) → meant h s n answer ≡ Gives (map (against (map (value h) vs)) ts) [] s) (λ answer. (n : ℕ) → meant h s n answer ≡ unless e (are_one_of us tss s))
    (λ answer i n.
    i s n
    ∙ ap₂ (λ ws ys. Gives (map (against ws) ys) [] s) values groups
    ∙ ap (λ ss. Gives ss [] s) (each-against us tss)
    ∙ sym (ap (λ o. unless o (are_one_of us tss s)) no_error))
    is
