use Rattle.std.proofs.Common.{◌≡◌, ◌∙◌, ap, sym, codes, refl, ℕ, length, []}
use Rattle.std.proofs.lemmas.Result.{IfOk-weaker}
use Rattle.plterm.specs.Tree.{Tree, atom}
use Rattle.plterm.specs.Reading.{spelling}
use Rattle.plterm.specs.Variables.{place, renamed, seen_after}
use Rattle.plclause.specs.Clause.{Clause}
use Rattle.plclause.specs.Soundness.{clause_from}
use Rattle.plclause.proofs.Numbered.{clause_is_sound}
use Rattle.plclause.proofs.Grounded.{ground_fact}
use Rattle.plclause.proofs.Seen.{clause_parts_is}
use Rattle.plclause.proofs.clause.Clause.fact.Goals as goal
use Rattle.plclause.proofs.clause.Clause.fact.Goals.{In_ok-head}

abbrev truth : Tree
truth = atom (codes "true")

made : (head body : Tree) → body ≡ truth → record { head = head; body = truth; variables = 0 } ≡ clause_from head truth → record { head = head; body = body; variables = 0 } ≡ clause_from head truth
made head body is same = ap (λ b. let c : Clause = record { head = head; body = b; variables = 0 } in c) is ∙ same

pub of-requires : goal.of-requires
of-requires c =
    rw (made c.args.head c.in_ok-body.body (c.in_ok-body.ensures ∙ c.requires.truth) (ground_fact c.args.head (sym c.is_ground.ensures ∙ c.if-is_ground.true)))
    (clause_is_sound c.args.head truth c.requires.callable refl)

pub returns-then-is_ground : goal.returns-then-is_ground
returns-then-is_ground c =
    IfOk-weaker c.of.result _ (λ (x : Clause). x ≡ clause_from c.args.head truth)
    (λ x is. is ∙ made c.args.head c.in_ok-body.body (c.in_ok-body.ensures ∙ c.requires.truth) (ground_fact c.args.head (sym c.is_ground.ensures ∙ c.if-is_ground.true))) c.of.ensures

parts : (c : In_ok-head) (n : ℕ) → n ≡ length c.in_ok-head.seen → record { head = c.in_ok-head.head; body = c.in_ok-body.body; variables = n } ≡ clause_from c.args.head truth
parts c n count =
    clause_parts_is c.args.head truth c.in_ok-head.head c.in_ok-body.body c.in_ok-head.seen c.in_ok-head.seen n
    (c.in_ok-head.ensures.seen ∙ ap (λ vs. seen_after vs (spelling c.root.result)) c.new.ensures ∙ ap (λ t. seen_after [] (spelling t)) c.root.ensures) refl (c.in_ok-head.ensures.tree ∙ ap (renamed (λ v. place v c.in_ok-head.seen)) c.root.ensures) (c.in_ok-body.ensures ∙ c.requires.truth) count

pub of-requires-2 : goal.of-requires-2
of-requires-2 c = rw (parts (goal.at.of-requires-2 c).In_ok-head c.count.result c.count.ensures) (clause_is_sound c.args.head truth c.requires.callable refl)

pub returns : goal.returns
returns c = IfOk-weaker c.of-2.result _ (λ (x : Clause). x ≡ clause_from c.args.head truth) (λ x is. is ∙ parts (goal.at.returns c).In_ok-head c.count.result c.count.ensures) c.of-2.ensures
