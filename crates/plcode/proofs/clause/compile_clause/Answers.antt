use Rattle.std.proofs.Common.{rules, ◌∙◌, List, length, subst, ap, sym}
use Rattle.plterm.specs.Tree.{Tree}
use Rattle.plclause.specs.Soundness.{IsCallable}
use Rattle.plsearch.specs.Forms.{arguments}
use Rattle.plsearch.specs.Moves.{is_true}
use Rattle.plcode.specs.Steps.{text, Args}
use Rattle.plcode.specs.Bodies.{Begins}
use Rattle.plcode.specs.Keys.{IsFirstKey}
use Rattle.plcode.specs.Clauses.{IsProper}
use Rattle.plcode.proofs.Stays.{Args-more, Extended-trans}
use Rattle.plcode.proofs.Keys.{IsFirstKey-more}
use Rattle.plcode.proofs.clause.compile_clause.Goals as goal

pub lay_arguments-requires-clause-callable : goal.lay_arguments-requires-clause-callable
lay_arguments-requires-clause-callable c = subst IsCallable (sym (c.root-given.ensures ∙ c.head.ensures.value)) c.head.ensures.callable

pub returns-clause-extended : goal.returns-clause-extended
returns-clause-extended c =
    let keyed = text c.head_key.new.code in
    let laid = text c.lay_arguments.new.code in
    let compiled = text c.compile_body.new.code in
    Extended-trans (text c.args.code.now) keyed compiled c.in_ok-key.ensures.extended
    (Extended-trans keyed laid compiled c.in_ok-head.ensures.extended c.in_ok-body.ensures.extended)

pub returns-clause-clause : goal.returns-clause-clause
returns-clause-clause c =
    let keyed = text c.head_key.new.code in
    let laid = text c.lay_arguments.new.code in
    let compiled = text c.compile_body.new.code in
    let more = Extended-trans keyed laid compiled c.in_ok-head.ensures.extended c.in_ok-body.ensures.extended in
    let head = c.root-given.ensures ∙ c.head.ensures.value in
    let body = c.root-root.ensures ∙ c.body.ensures.value in
    let RowIs : List Tree → Type 0 = Args compiled c.in_ok-head.head in
    let KeyIs : List Tree → Type 0 = IsFirstKey compiled.names c.in_ok-key.key in
    record {
      sound = record {
        callable = c.head.ensures.callable;
        converted_body = c.body.ensures.goal;
        head_below = c.head.ensures.below;
        body_below = c.body.ensures.below;
        numbered = c.head.ensures.numbered;
      };
      proper = subst IsProper head c.in_ok-head.ensures.proper;
      head = subst RowIs (ap arguments head) (Args-more laid compiled c.in_ok-head.ensures.code.laid c.in_ok-body.ensures.extended c.in_ok-head.head (arguments c.root-given.result) c.in_ok-head.ensures.row);
      key = subst KeyIs (ap arguments head) (IsFirstKey-more keyed.names compiled.names c.in_ok-key.ensures.code.laid.table more.names c.in_ok-key.key (arguments c.root-given.result) c.in_ok-key.ensures.key);
      body = subst (Begins compiled c.in_ok-body.body) body c.in_ok-body.ensures.begins;
      arity = c.arity_of-arity.ensures ∙ ap (λ t. length (arguments t)) head;
      variables = search rules;
      fact = c.is_true-is_fact.ensures ∙ ap is_true body;
    }
