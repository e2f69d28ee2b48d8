use Rattle.std.proofs.lemmas.Result.{on_ok_weaker, IfOk-weaker}
use Rattle.plcode.specs.Steps.{text}
use Rattle.plcode.proofs.Stays.{Extended-trans}
use Rattle.plcode.proofs.body.compile_body.Goals as goal

pub put_body-requires-clause-spelled : goal.put_body-requires-clause-spelled
put_body-requires-clause-spelled c = (c.args.body.now, c.in_ok-pieces.ensures.leads)

pub returns-clause-extended : goal.returns-clause-extended
returns-clause-extended c =
    on_ok_weaker c.put_body.result
    (Extended-trans (text c.args.code.now) (text c.pieces_of.new.code) (text c.put_body.new.code) c.in_ok-pieces.ensures.extended) c.put_body.ensures.extended

pub returns-clause-code : goal.returns-clause-code
returns-clause-code c = c.put_body.ensures.code

pub returns-clause-begins : goal.returns-clause-begins
returns-clause-begins c = IfOk-weaker c.put_body.result _ _ (λ at begins. begins c.args.body.now c.in_ok-pieces.ensures.leads) c.put_body.ensures.begins
