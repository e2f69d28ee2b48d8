use Rattle.std.proofs.Common.{refl, ap, ◌∷◌, ◌++◌, [], ◌∙◌, sym, subst}
use Rattle.plsearch.specs.Types.{Choice}
use Rattle.plsearch.specs.Rows.{branch}
use Rattle.plstack.specs.State.{goals_of, kinds_in}
use Rattle.plmachine.specs.Lists.{elements_of}
use Rattle.plmachine.proofs.Lists.{fail-there, fail-is}
use Rattle.plmachine.proofs.Moves.{moved-as, go-same, on_ok_map}
use Rattle.plstack.specs.Levels.{FitsIn}
use Rattle.plmachine.proofs.machine.Machine.then.Goals as goal

pub then_else-requires-clause-other : goal.then_else-requires-clause-other
then_else-requires-clause-other c =
    let s = c.args.self.now in
    rw c.failure.ensures (fail-there s.stack c.requires.begun.1.code.fails.goals c.args.level)

pub returns-clause-ok : goal.returns-clause-ok
returns-clause-ok c P b =
    let s = c.args.self.now in
    let es = goals_of s.stack c.args.rest in
    let n = s.stack.env.count in
    let fails = ap (elements_of s.stack) c.failure.ensures ∙ fail-is s.stack b.code.fails.goals c.args.level in
    on_ok_map c.then_else.result (moved-as P s c.then_else.new.self _ _
    (go-same _ _ _ _ _ _ _ _ (ap (λ xs. Choice [] ∷ branch (xs ++ es) n ∷ []) fails) refl refl refl)) (c.then_else.ensures.ok P)

pub then_else-requires-clause-other_fits : goal.then_else-requires-clause-other_fits
then_else-requires-clause-other_fits c =
    let s = c.args.self.now in
    let es = goals_of s.stack c.args.rest in
    let fails = ap (elements_of s.stack) c.failure.ensures ∙ fail-is s.stack c.requires.begun.1.code.fails.goals c.args.level in
    subst (λ xs. FitsIn (kinds_in s.stack) (xs ++ es)) (sym fails) c.requires.level
