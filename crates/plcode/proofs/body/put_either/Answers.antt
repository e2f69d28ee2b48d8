use Rattle.std.proofs.Common.{◌≡◌, ◌∙◌, ◌∷◌, List, None, reverse, subst, ap, sym}
use Rattle.plterm.specs.Tree.{Tree}
use Rattle.plcode.specs.declared.body.Part.{Part}
use Rattle.plcode.specs.Steps.{text}
use Rattle.plcode.specs.Bodies.{arrow_of, Made}
use Rattle.plcode.proofs.Segments.{either_put, made_branch}
use Rattle.plcode.proofs.body.put_either.Goals as goal

pub returns-in_ok-push_part-in-None-clause-goal : goal.returns-in_ok-push_part-in-None-clause-goal
returns-in_ok-push_part-in-None-clause-goal c g rest gs holds h =
    let d = text c.put_branches.new.code in
    let P : List Tree → Type 0 = Made (text c.args.code.now) (reverse c.args.parts.now.items) (reverse c.args.made.now.items) in
    let both = subst P holds.next h in
    let none : arrow_of (reverse c.args.parts.now.items) ≡ None = sym (c.in-None.ensures ∙ ap (λ (v : List Part). arrow_of (reverse v)) c.deref.ensures.value) in
    let plain = made_branch (text c.args.code.now) (reverse c.args.parts.now.items) (reverse c.args.made.now.items) holds.first (holds.second ∷ rest) none both in
    rw (c.in_ok-push_part-in-None.ensures.parts, c.in_ok-push_part-in-None.ensures.made)
    (either_put d _ _ g holds.first holds.second rest (reverse c.put_branches.new.parts.items) (reverse c.put_branches.new.made.items) holds.is plain
    (c.in_ok-left-in-None.ensures.branches holds.first holds.second rest both))
