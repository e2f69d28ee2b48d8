-- The code of a clause stays that when more is put behind.
use Rattle.std.proofs.Common.{List, [], ◌∷◌, ◌++◌}
use Rattle.plterm.specs.declared.indicator.Indicator.{Indicator}
use Rattle.plclause.specs.Clause.{Clause}
use Rattle.plprogram.specs.Program.{AreOf, AreOwn}
use Rattle.plsearch.specs.Forms.{arguments}
use Rattle.plcode.specs.declared.clause.ClauseCode.{ClauseCode}
use Rattle.plcode.specs.Steps.{Text, Extended}
use Rattle.plcode.specs.Bodies.{IsCode}
use Rattle.plcode.specs.Clauses.{IsCodeOf, AreCodeOf, AreProcedures}
use Rattle.plcode.proofs.Stays.{Args-more}
use Rattle.plcode.proofs.Segments.{Begins-more}
use Rattle.plcode.proofs.Keys.{IsFirstKey-more}

pub IsCodeOf-more : (c d : Text) → IsCode c → Extended c d → (k : ClauseCode) (clause : Clause) → IsCodeOf c k clause → IsCodeOf d k clause
IsCodeOf-more c d code more k clause h = record {
  sound = h.sound;
  proper = h.proper;
  head = Args-more c d code.laid more k.head (arguments clause.head) h.head;
  key = IsFirstKey-more c.names d.names code.laid.table more.names k.key (arguments clause.head) h.key;
  body = Begins-more c d k.body clause.body code more h.body;
  arity = h.arity;
  variables = h.variables;
  fact = h.fact;
}

module _ (c d : Text) (code : IsCode c) (more : Extended c d) where
  pub AreCodeOf-more : (ks : List ClauseCode) (clauses : List Clause) → AreCodeOf c ks clauses → AreCodeOf d ks clauses
  AreCodeOf-more [] [] h = h
  AreCodeOf-more [] (x ∷ xs) h = h
  AreCodeOf-more (k ∷ ks) [] h = h
  AreCodeOf-more (k ∷ ks) (x ∷ xs) h = (IsCodeOf-more c d code more k x h.0, AreCodeOf-more ks xs h.1)

  pub AreProcedures-more : (kss : List (List ClauseCode)) (es : List (Indicator × List Clause)) → AreProcedures c kss es → AreProcedures d kss es
  AreProcedures-more [] [] h = h
  AreProcedures-more [] (e ∷ es) h = h
  AreProcedures-more (ks ∷ kss) [] h = h
  AreProcedures-more (ks ∷ kss) (e ∷ es) h = (AreCodeOf-more ks e.1 h.0, AreProcedures-more kss es h.1)

module _ (c : Text) where
  pub AreCodeOf-put : (ks : List ClauseCode) (clauses : List Clause) (k : ClauseCode) (x : Clause) → AreCodeOf c ks clauses → IsCodeOf c k x → AreCodeOf c (ks ++ k ∷ []) (clauses ++ x ∷ [])
  AreCodeOf-put [] [] k x h is = (is, tt)
  AreCodeOf-put [] (y ∷ ys) k x h is = absurd h
  AreCodeOf-put (j ∷ ks) [] k x h is = absurd h
  AreCodeOf-put (j ∷ ks) (y ∷ ys) k x h is = (h.0, AreCodeOf-put ks ys k x h.1 is)

  pub AreProcedures-put : (kss : List (List ClauseCode)) (es : List (Indicator × List Clause)) (ks : List ClauseCode) (e : Indicator × List Clause)
      → AreProcedures c kss es → AreCodeOf c ks e.1 → AreProcedures c (kss ++ ks ∷ []) (es ++ e ∷ [])
  AreProcedures-put [] [] ks e h is = (is, tt)
  AreProcedures-put [] (f ∷ fs) ks e h is = absurd h
  AreProcedures-put (js ∷ kss) [] ks e h is = absurd h
  AreProcedures-put (js ∷ kss) (f ∷ fs) ks e h is = (h.0, AreProcedures-put kss fs ks e h.1 is)

pub AreOwn-put : (es : List (Indicator × List Clause)) (e : Indicator × List Clause) → AreOwn es → AreOf e.0 e.1 → AreOwn (es ++ e ∷ [])
AreOwn-put [] e h is = (is, tt)
AreOwn-put (f ∷ fs) e h is = (h.0, AreOwn-put fs e h.1 is)
