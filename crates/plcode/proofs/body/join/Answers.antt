use Rattle.std.proofs.Common.{◌≡◌, ◌∙◌, ◌+◌, ◌∷◌, [], ◌++◌, ℕ, List, None, reverse, ap, sym, arith}
use Rattle.std.proofs.lemmas.List.{reverse-append}
use Rattle.plcode.specs.declared.op.Step.{Step}
use Rattle.plcode.specs.declared.body.Part.{Part}
use Rattle.plcode.specs.Bodies.{charged, merged}
use Rattle.plcode.proofs.Segments.{two_none, two_one, two_steps}
use Rattle.plcode.proofs.Rows.{popped_none}
use Rattle.plcode.proofs.body.join.Goals as goal

parts_joined : (old less left new : List Part) (p q : Part) → old ≡ less ++ p ∷ [] → less ≡ left ++ q ∷ [] → new ≡ left ++ record { len = p.len + q.len; arrow = None } ∷ []
    → reverse new ≡ merged (reverse old)
parts_joined old less left new p q one other put =
    let joined : Part = record { len = p.len + q.len; arrow = None } in
    let two : reverse old ≡ p ∷ q ∷ reverse left =
    ap reverse one ∙ reverse-append less (p ∷ []) ∙ ap (λ (ps : List Part). p ∷ reverse ps) other ∙ ap (λ (ps : List Part). p ∷ ps) (reverse-append left (q ∷ [])) in
    ap reverse put ∙ reverse-append left (joined ∷ []) ∙ sym (ap merged two)

step_charged : (old left new : List Step) (s : Step) (n : ℕ) → old ≡ left ++ s ∷ [] → new ≡ left ++ record { op = s.op; conjunctions = n; goal = s.goal } ∷ [] → n ≡ s.conjunctions + 1
    → reverse new ≡ charged 1 (reverse old)
step_charged old left new s n top put more =
    let at : ℕ → Step = λ k. record { op = s.op; conjunctions = k; goal = s.goal } in
    let one : reverse old ≡ s ∷ reverse left = ap reverse top ∙ reverse-append left (s ∷ []) in
    ap reverse put ∙ reverse-append left (at n ∷ []) ∙ ap (λ k. at k ∷ reverse left) more ∙ sym (ap (charged 1) one)

pub returns-clause-parts : goal.returns-clause-parts
returns-clause-parts c = parts_joined _ _ _ _ _ _ c.in-Some.ensures.items c.in-Some-pop.ensures.items c.in_ok-push-2.ensures.items

pub returns-clause-made : goal.returns-clause-made
returns-clause-made c = step_charged _ _ _ c.in-Some-pop-2.step _ c.in-Some-pop-2.ensures.items c.in_ok-push.ensures.items (omega (arith, c.in-Some-checked_add.ensures))

pub unreachable-requires : goal.unreachable-requires
unreachable-requires c =
    two_none c.args.parts.now.items _ c.requires (popped_none c.args.parts.now.items c.pop.new.self.items _ c.in_default.ensures.items c.in_default.ensures.rest (omega (arith, c.args.parts.now.ok.0)))

pub unreachable-requires-in_default-pop : goal.unreachable-requires-in_default-pop
unreachable-requires-in_default-pop c =
    two_one c.args.parts.now.items c.pop.new.self.items c.in-Some.first _ c.requires c.in-Some.ensures.items
    (popped_none c.pop.new.self.items c.pop-2.new.self.items _ c.in_default-pop.ensures.items c.in_default-pop.ensures.rest (omega (arith, c.pop.new.self.ok.0)))

pub unreachable-requires-in_default-pop-2 : goal.unreachable-requires-in_default-pop-2
unreachable-requires-in_default-pop-2 c =
    two_steps (reverse c.args.parts.now.items) c.args.made.now.items c.requires
    (popped_none c.args.made.now.items c.pop-3.new.self.items _ c.in_default-pop-2.ensures.items c.in_default-pop-2.ensures.rest (omega (arith, c.args.made.now.ok.0)))
