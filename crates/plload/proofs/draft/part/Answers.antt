use Rattle.std.proofs.Common.{◌≡◌, ◌∙◌, ◌++◌, ◌∷◌, [], sym, ap, true, false, append_assoc}
use Rattle.std.specs.List.{list_any}
use Rattle.plterm.specs.Indicators.{same_indicator}
use Rattle.plevent.specs.declared.update.Update.TheVariants.{Last}
use Rattle.plprogram.specs.Program.{with_clause}
use Rattle.plload.specs.Draft.{is_dynamic}
use Rattle.plload.proofs.Parts.{dynamic_procedures, dynamic_first, static_procedures, static_first}
use Rattle.plload.proofs.draft.part.Goals as goal

pub loop-clause-preserved-in_ok-push : goal.loop-clause-preserved-in_ok-push
loop-clause-preserved-in_ok-push c =
    let ps = c.args.declared.now.keys in
    let is : is_dynamic ps c.in-Some.clause ≡ true = sym (c.if-contains.ensures ∙ ap (λ p. list_any (same_indicator p) ps) c.in_ok-indicator.ensures) in
    record {
      procedures = c.loop-clause.invariant.procedures ∙ sym (dynamic_procedures ps c.loop-clause.yielded c.in-Some.clause is);
      first = c.in_ok-push.ensures.items
          ∙ ap (λ us. us ++ Last c.in-Some.clause ∷ []) c.loop-clause.invariant.first
          ∙ append_assoc c.args.first.now.items _ (Last c.in-Some.clause ∷ [])
          ∙ ap (λ us. c.args.first.now.items ++ us) (sym (dynamic_first ps c.loop-clause.yielded c.in-Some.clause is));
    }

pub loop-clause-preserved : goal.loop-clause-preserved
loop-clause-preserved c =
    let ps = c.args.declared.now.keys in
    let is : is_dynamic ps c.in-Some.clause ≡ false = sym (c.if-contains.ensures ∙ ap (λ p. list_any (same_indicator p) ps) c.in_ok-indicator.ensures) in
    record {
      procedures = c.in_ok-add.ensures
          ∙ ap (λ es. with_clause es c.in-Some.clause) c.loop-clause.invariant.procedures
          ∙ sym (static_procedures ps c.loop-clause.yielded c.in-Some.clause is);
      first = c.loop-clause.invariant.first
          ∙ ap (λ us. c.args.first.now.items ++ us) (sym (static_first ps c.loop-clause.yielded c.in-Some.clause is));
    }
