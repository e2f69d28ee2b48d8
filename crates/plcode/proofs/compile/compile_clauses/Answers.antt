use Rattle.std.proofs.Common.{◌∙◌, ◌+◌, List, [], ◌∷◌, ◌++◌, take, sym, ap, subst, arith}
use Rattle.std.proofs.lemmas.List.{take_all, take_more}
use Rattle.plcode.specs.declared.clause.ClauseCode.{ClauseCode}
use Rattle.plcode.specs.Steps.{text}
use Rattle.plcode.specs.Clauses.{AreCodeOf}
use Rattle.plcode.proofs.Stays.{Extended-refl, Extended-trans}
use Rattle.plcode.proofs.Clauses.{AreCodeOf-more, AreCodeOf-put}
use Rattle.plcode.proofs.compile.compile_clauses.Goals as goal

pub loop-clause-preserved : goal.loop-clause-preserved
loop-clause-preserved c =
    let before = text c.loop-clause.code in
    let after = text c.compile_clause.new.code in
    let invariant = c.loop-clause.invariant in
    let e = c.in_ok-compiled.ensures in
    let clauses = c.args.clauses.now in
    let i = c.loop-clause.clause-index in
    let x = c.clause-item.result in
    let made = c.loop-clause.made.items in
    let k = c.in_ok-compiled.compiled in
    let taken = take_more clauses i x c.loop-clause-test.true ∙ ap (λ y. take i clauses ++ y ∷ []) (sym c.clause-item.is) in
    let Codes : List ClauseCode → Type 0 = λ ks. AreCodeOf after ks (take (i + 1) clauses) in
    record {
      code = e.code;
      extended = Extended-trans (text c.args.code.now) before after invariant.extended e.extended;
      clauses = subst Codes (sym c.in_ok-push.ensures.items)
          (subst (AreCodeOf after (made ++ k ∷ [])) (sym taken)
          (AreCodeOf-put after made (take i clauses) k x (AreCodeOf-more before after invariant.code e.extended made (take i clauses) invariant.clauses) e.clause));
    }

pub loop-clause-init : goal.loop-clause-init
loop-clause-init c =
    let d = text c.args.code.now in
    let P : List ClauseCode → Type 0 = λ ks. AreCodeOf d ks [] in
    record { code = c.requires.code; extended = Extended-refl d; clauses = subst P (sym c.new-made.ensures.items) tt }

pub returns-clause-clauses : goal.returns-clause-clauses
returns-clause-clauses c =
    let xs = c.args.clauses.now in
    let i = c.loop-clause.clause-index in
    subst (AreCodeOf (text c.loop-clause.code) c.loop-clause.made.items) (take_all i xs (omega arith)) c.loop-clause.invariant.clauses
