use Rattle.std.proofs.Common.{◌≡◌, ◌∙◌, ap, ℕ, length}
use Rattle.std.proofs.lemmas.Result.{IfOk-weaker}
use Rattle.plterm.specs.Reading.{spelling}
use Rattle.plterm.specs.Variables.{seen_after}
use Rattle.plclause.specs.Clause.{Clause}
use Rattle.plclause.specs.Soundness.{clause_from}
use Rattle.plclause.proofs.Numbered.{clause_is_sound}
use Rattle.plclause.proofs.Seen.{clause_parts_is}
use Rattle.plclause.proofs.clause.Clause.new.Goals as goal
use Rattle.plclause.proofs.clause.Clause.new.Goals.{In_ok-body}

parts : (c : In_ok-body) (n : ℕ) → n ≡ length c.in_ok-body.seen → record { head = c.in_ok-head.head; body = c.in_ok-body.body; variables = n } ≡ clause_from c.args.head.now c.args.goal.now
parts c n count =
    clause_parts_is c.args.head.now c.args.goal.now c.in_ok-head.head c.in_ok-body.body c.in_ok-head.seen c.in_ok-body.seen n
    (c.in_ok-head.ensures.seen ∙ ap (λ vs. seen_after vs (spelling c.args.head.now)) c.new.ensures) c.in_ok-body.ensures.seen c.in_ok-head.ensures.tree c.in_ok-body.ensures.tree count

pub shared-requires : goal.shared-requires
shared-requires c = rw (parts (goal.at.shared-requires c).In_ok-body c.count.result c.count.ensures) (clause_is_sound c.args.head.now c.args.goal.now c.requires.callable c.requires.goal)

pub returns : goal.returns
returns c = IfOk-weaker c.shared.result _ (λ (x : Clause). x ≡ clause_from c.args.head.now c.args.goal.now) (λ x is. is ∙ parts (goal.at.returns c).In_ok-body c.count.result c.count.ensures) c.shared.ensures
