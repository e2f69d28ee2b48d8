-- The procedures of a program, by the places that its code has for them.
use Rattle.std.proofs.Common.{◌≡◌, ℕ, zero, suc, ◌<◌, ◌≤◌, List, [], ◌∷◌, length, get_or, ap, arith}
use Rattle.std.proofs.lemmas.List.{get_or_past}
use Rattle.plterm.specs.declared.indicator.Indicator.{Indicator}
use Rattle.plclause.specs.Clause.{Clause}
use Rattle.plprogram.specs.Program.{Program, clauses_for, AreOf, AreOwn as AreOwnOf}
use Rattle.plcode.specs.declared.clause.ClauseCode.{ClauseCode}
use Rattle.plcode.specs.Steps.{Text}
use Rattle.plcode.specs.Clauses.{AreCodeOf, AreProcedures}
use Rattle.plcode.specs.Callees.{Compiled, IsStatic, IsProgramCode}
use Rattle.plstack.specs.Fits.{AreOwn}
use Rattle.plevent.specs.declared.update.Update.{Update}
use Rattle.plstore.specs.Looking.{Views}
use Rattle.plstack.specs.StaticCalls.{statics_of, database_of, AreStatics}

abbrev nothing : Indicator × List Clause
nothing = (record { name = []; arity = 0 }, [])

module _ (c : Text) where
  own_code : (p : Indicator) (ks : List ClauseCode) (xs : List Clause) → AreCodeOf c ks xs → AreOf p xs → AreOwn c p.name ks xs
  own_code p [] [] h o = tt
  own_code p [] (x ∷ xs) h o = h
  own_code p (k ∷ ks) [] h o = h
  own_code p (k ∷ ks) (x ∷ xs) h o = (record { code = h.0; named = ap (λ q. q.name) o.0 }, own_code p ks xs h.1 o.1)

  own_at : (kss : List (List ClauseCode)) (es : List (Indicator × List Clause)) (i : ℕ) → AreProcedures c kss es → AreOwnOf es → i < length kss
      → AreOwn c (get_or es i nothing).0.name (get_or kss i []) (get_or es i nothing).1
  own_at [] es i h o lt = absurd (omega arith)
  own_at (ks ∷ kss) [] i h o lt = absurd h
  own_at (ks ∷ kss) (e ∷ es) zero h o lt = own_code e.0 ks e.1 h.0 o.0
  own_at (ks ∷ kss) (e ∷ es) (suc i) h o lt = own_at kss es i h.1 o.1 (omega arith)

  as_many : (kss : List (List ClauseCode)) (es : List (Indicator × List Clause)) → AreProcedures c kss es → length es ≤ length kss
  as_many [] [] h = omega arith
  as_many [] (e ∷ es) h = absurd h
  as_many (ks ∷ kss) [] h = absurd h
  as_many (ks ∷ kss) (e ∷ es) h = let n = as_many kss es h.1 in omega arith

-- the code of a program is that of its procedures
pub code-statics : (P : Program) (v : Views) (us : List Update) (m : Compiled) → IsProgramCode P m → AreStatics m (database_of P v us)
code-statics P v us m is = record {
  own = λ i lt. own_at m.text m.procedures P.procedures i is.procedures is.own lt;
  none = λ i le. let n = as_many m.text m.procedures P.procedures is.procedures in ap (λ e. e.1) (get_or_past P.procedures i nothing (omega arith));
}

-- the procedure that a callee names
module _ (c : Text) (kss : List (List ClauseCode)) (P : Program) (p : Indicator) (i : ℕ) (is : IsStatic c kss P p i) where
  pub static-name : (statics_of P i).name ≡ p.name
  static-name = ap (λ e. e.0.name) is.entry

  pub static-clauses : (statics_of P i).clauses ≡ clauses_for P p
  static-clauses = ap (λ e. e.1) is.entry
