use Rattle.std.proofs.Common.{◌≡◌, suc, None, refl, sym, ap, ap₂, ◌∙◌, arith, drop, [], ◌∷◌}
use Rattle.plcells.specs.Store.{value}
use Rattle.plstack.specs.StaticCalls.{database_of}
use Rattle.plmachine.proofs.Moves.{on_ok_map}
use Rattle.plsolver.proofs.Texts.{drop-at, drop-none, text-ends, text-found}
use Rattle.plsolver.proofs.Trying.{if_none_both, if_some_map, last-ends}
use Rattle.plsolver.proofs.Ending.{text-ended, text-off}
use Rattle.plsolver.proofs.progress.Progress.last_of_text.Goals as goal

pub returns-in_ok-next-in-Some-clause-some : goal.returns-in_ok-next-in-Some-clause-some
returns-in_ok-next-in-Some-clause-some c =
    let s = c.args.self.now.machine.stack in
    let w = c.args.at.now.walk in
    let k = c.args.number in
    if_some_map c.try_walk.result c.try_walk.ensures.some
    (λ e fits P v own whole.
    let left : drop k c.args.clauses.now ≡ c.in-Some.clause.now ∷ [] =
    drop-at c.args.clauses.now k _ (omega (arith, c.in-Some.ensures.lookup)) ∙ ap₂ (λ x xs. x ∷ xs) (sym c.in-Some.ensures.lookup.1) (drop-none c.args.clauses.now (suc k) (omega (arith, c.requires.last))) in
    fits c.args.at.now.point w c.requires.at (database_of P v own)
    (text-found P v own w (value s.env.heap w.goal) k c.in-Some.clause.now [] None c.in_ok-next-in-Some.next c.requires.text (ap (drop k) (sym whole) ∙ left) c.in_ok-next-in-Some.ensures refl))

pub returns-in_ok-next-in-Some-clause-none : goal.returns-in_ok-next-in-Some-clause-none
returns-in_ok-next-in-Some-clause-none c =
    let s = c.args.self.now.machine.stack in
    let w = c.args.at.now.walk in
    let k = c.args.number in
    if_none_both c.try_walk.result c.try_walk.ensures.none c.try_walk.ensures.last
    (λ same ends P v own whole.
    let left : drop k c.args.clauses.now ≡ c.in-Some.clause.now ∷ [] =
    drop-at c.args.clauses.now k _ (omega (arith, c.in-Some.ensures.lookup)) ∙ ap₂ (λ x xs. x ∷ xs) (sym c.in-Some.ensures.lookup.1) (drop-none c.args.clauses.now (suc k) (omega (arith, c.requires.last))) in
    last-ends (database_of P v own) s c.try_walk.new.self
    (same c.args.at.now.point c.args.at.now.walk c.requires.at (database_of P v own) (text-found P v own w (value s.env.heap w.goal) k c.in-Some.clause.now [] None c.in_ok-next-in-Some.next c.requires.text (ap (drop k) (sym whole) ∙ left) c.in_ok-next-in-Some.ensures refl))
    (ends refl (database_of P v own)))

pub returns-in-None-clause-none : goal.returns-in-None-clause-none
returns-in-None-clause-none c = λ P v own whole.
    let s = c.args.self.now.machine.stack in
    text-ends P v own s c.go_on_walk.new.self c.args.at.now.point c.args.at.now.walk c.args.number c.requires.at (c.go_on_walk.ensures.goes c.args.at.now.point c.args.at.now.walk c.requires.at.walking (database_of P v own)) c.requires.text
    (ap (drop c.args.number) (sym whole) ∙ drop-none c.args.clauses.now c.args.number (omega (arith, c.in-None.ensures.lookup)))

pub returns-in_ok-next-in-Some-clause-walks : goal.returns-in_ok-next-in-Some-clause-walks
returns-in_ok-next-in-Some-clause-walks c = text-ended c.args.self.now.machine.stack c.try_walk.new.self c.args.at.now.walk c.args.number c.requires.text c.try_walk.result (on_ok_map c.try_walk.result (λ moves. moves c.args.at.now.point c.args.at.now.walk c.requires.at) c.try_walk.ensures.moves) c.try_walk.ensures.err_walks

pub returns-in-None-clause-walks : goal.returns-in-None-clause-walks
returns-in-None-clause-walks c = text-off c.args.self.now.machine.stack c.go_on_walk.new.self c.args.at.now.walk c.args.number c.requires.text (c.go_on_walk.ensures.moves c.args.at.now.point c.args.at.now.walk c.requires.at.walking)
