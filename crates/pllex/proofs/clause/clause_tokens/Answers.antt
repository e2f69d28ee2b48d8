use Rattle.std.proofs.Common.{arith, sym, subst, ◌∙◌}
use Rattle.pllex.specs.Tokens.{TokensBetween}
use Rattle.pllex.proofs.Clauses.{run_push}
use Rattle.pllex.proofs.Names.{all_named}
use Rattle.pllex.proofs.clause.clause_tokens.Goals as goal

pub tokens-preserved : goal.tokens-preserved
tokens-preserved c = record {
  run = subst (λ l. TokensBetween c.args.text.now c.args.from l c.in-Token.token.end) (sym c.in_ok-push-in-Token.ensures.items)
      (run_push c.args.text.now c.args.from c.tokens.tokens.items c.tokens.place c.in-Token.token c.tokens.invariant.run (sym c.in-Token.ensures.value) (sym c.is_end.ensures ∙ c.if-is_end.false));
  behind = omega (arith, c.in-Token.ensures.advances);
  within = omega (arith, c.in-Token.ensures.advances);
}

pub returns-then-is_end-clause-onward : goal.returns-then-is_end-clause-onward
returns-then-is_end-clause-onward c = (omega (arith, c.in-Token.ensures.advances), c.in-Token.ensures.advances.2)

pub returns-then-is_end-clause-named : goal.returns-then-is_end-clause-named
returns-then-is_end-clause-named c =
    all_named c.args.text.now c.args.from _ c.tokens.tokens.items c.tokens.place c.in-Token.token c.tokens.invariant.run (sym c.in-Token.ensures.value) c.in_ok-push-in-Token.ensures.items
