use Rattle.std.proofs.Common.{◌≡◌, ◌∙◌, ◌≤◌, ◌∷◌, ◌++◌, [], ℕ, List, length, take, flat_map, codes, sym, ap, arith}
use Rattle.plterm.specs.declared.node.Node.TheVariants.{Compound}
use Rattle.plterm.specs.Reading.{spelling, Fits}
use Rattle.plclause.proofs.GoalNodes.{plain_same, fewer_nodes, pushed_fits}
use Rattle.plclause.proofs.Names.{IsName-call}
use Rattle.plclause.proofs.convert.put_goal.Goals as goal

called : (name : List ℕ) → name ≡ codes "call" → Fits (Compound name 1)
called name e = rw e (IsName-call, omega arith, omega arith)

pub returns-in_ok-push-in-Var-2-clause-fits : goal.returns-in_ok-push-in-Var-2-clause-fits
returns-in_ok-push-in-Var-2-clause-fits c f h =
    pushed_fits _ _ _ c.in_ok-push-in-Var-2.ensures.items tt
    (pushed_fits _ _ _ c.in_ok-push-in-Var.ensures.items (called _ c.in_ok-call-in-Var.ensures) h)

pub returns-in_ok-push-in-Atom-clause-fits : goal.returns-in_ok-push-in-Atom-clause-fits
returns-in_ok-push-in-Atom-clause-fits c f h =
    let own = rw c.in-Atom.is at f in
    pushed_fits _ _ _ c.in_ok-push-in-Atom.ensures.items (rw c.in_ok-copied-in-Atom.ensures own) h

pub returns-else-not-holds_goals-clause-fits : goal.returns-else-not-holds_goals-clause-fits
returns-else-not-holds_goals-clause-fits c f h =
    let own = rw c.in-Compound.is at f in
    pushed_fits _ _ _ c.in_ok-push-in-Compound.ensures.items (rw c.in_ok-copied-in-Compound.ensures own) h

pub returns-in_ok-copy_nodes-in-Compound-clause-fits : goal.returns-in_ok-copy_nodes-in-Compound-clause-fits
returns-in_ok-copy_nodes-in-Compound-clause-fits c f h =
    let own = rw c.in-Compound.is at f in
    c.in_ok-copy_nodes-in-Compound.ensures.fits (pushed_fits _ _ _ c.in_ok-push-in-Compound.ensures.items (rw c.in_ok-copied-in-Compound.ensures own) h)

pub returns-in_ok-copy_nodes-in-Compound-clause-less : goal.returns-in_ok-copy_nodes-in-Compound-clause-less
returns-in_ok-copy_nodes-in-Compound-clause-less c = rw c.in_ok-copy_nodes-in-Compound.ensures.rest (fewer_nodes c.in-Compound.count c.args.goals.now)

pub returns-in_ok-copy_nodes-in-Compound-clause-same : goal.returns-in_ok-copy_nodes-in-Compound-clause-same
returns-in_ok-copy_nodes-in-Compound-clause-same c =
    let room : c.in-Compound.count ≤ length c.args.goals.now = rw c.in-Compound.is at c.requires in
    let copied : c.copy_nodes.new.made.items ≡ (c.args.nodes.now.items ++ Compound c.in-Compound.name c.in-Compound.count ∷ []) ++ flat_map spelling (take c.in-Compound.count c.args.goals.now) =
    c.in_ok-copy_nodes-in-Compound.ensures.nodes
    ∙ ap (λ ns. ns ++ flat_map spelling (take c.in-Compound.count c.args.goals.now)) (
    c.in_ok-push-in-Compound.ensures.items
    ∙ ap (λ s. c.args.nodes.now.items ++ Compound s c.in-Compound.count ∷ []) c.in_ok-copied-in-Compound.ensures
    ) in
    rw c.in-Compound.is (plain_same c.args.nodes.now.items _ c.in-Compound.name c.in-Compound.count c.args.goals.now _ room (sym c.holds_goals.ensures ∙ c.if-not-holds_goals.true) copied c.in_ok-copy_nodes-in-Compound.ensures.rest)
