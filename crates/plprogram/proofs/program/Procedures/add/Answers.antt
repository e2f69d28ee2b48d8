use Rattle.std.proofs.Common.{◌≡◌, ◌∙◌, ◌∷◌, ◌++◌, [], map, sym, ap, subst}
use Rattle.indexmap.specs.IndexMap.{insert_entry}
use Rattle.plterm.specs.Indicators.{same_indicator}
use Rattle.plprogram.specs.Program.{with_clause, with_entry, AreOwn}
use Rattle.plprogram.proofs.Procedures.{shown, set_entry, set_same, insert_new, with_own}
use Rattle.plprogram.proofs.program.Procedures.add.Goals as goal

pub invariant_of-self : goal.invariant_of-self
invariant_of-self c =
    let old = c.self.inside.entries.entries in
    let h = c.get_mut.follows.holds c.push.new.self in
    subst AreOwn (sym (ap (map shown) h.0 ∙ set_same old c.in_ok-indicator.indicator c.in-Some.clauses.now c.push.new.self (sym c.in-Some.ensures.value) c.in_err-push-in-Some.ensures.items)) c.self.invariant

pub invariant_of-self-in-Some : goal.invariant_of-self-in-Some
invariant_of-self-in-Some c =
    let old = c.self.inside.entries.entries in
    let h = c.get_mut.follows.holds c.push.new.self in
    subst AreOwn
    (sym (ap (map shown) h.0 ∙ set_entry old c.in_ok-indicator.indicator c.in-Some.clauses.now c.push.new.self c.args.clause (sym c.in-Some.ensures.value) c.in_ok-push-in-Some.ensures.items))
    (with_own (map shown old) c.in_ok-indicator.indicator c.args.clause (sym c.in_ok-indicator.ensures) c.self.invariant)

pub returns-in-Some : goal.returns-in-Some
returns-in-Some c =
    let old = c.self.inside.entries.entries in
    let h = c.get_mut.follows.holds c.push.new.self in
    ap (map shown) h.0
    ∙ set_entry old c.in_ok-indicator.indicator c.in-Some.clauses.now c.push.new.self c.args.clause (sym c.in-Some.ensures.value) c.in_ok-push-in-Some.ensures.items
    ∙ ap (λ p. with_entry (map shown old) p c.args.clause) c.in_ok-indicator.ensures
    ∙ ap (λ es. with_clause es c.args.clause) c.self.view_is

pub invariant_of-self-in-Ok : goal.invariant_of-self-in-Ok
invariant_of-self-in-Ok c =
    let old = c.self.inside.entries.entries in
    let ind = c.in_ok-indicator.indicator in
    let clauses = c.push-in-None.new.self in
    let only : clauses.items ≡ c.args.clause ∷ [] = c.in_ok-push-in-None.ensures.items ∙ ap (λ cs. cs ++ c.args.clause ∷ []) c.new-clauses.ensures.items in
    subst AreOwn
    (sym (ap (map shown) c.in-Ok.ensures.entries
    ∙ ap (λ m. map shown (insert_entry same_indicator m.entries ind clauses)) c.get_mut.follows.holds-at-none
    ∙ insert_new old ind clauses c.args.clause (sym c.in-None.ensures.value) only))
    (with_own (map shown old) ind c.args.clause (sym c.in_ok-indicator.ensures) c.self.invariant)

pub returns-in-Ok : goal.returns-in-Ok
returns-in-Ok c =
    let old = c.self.inside.entries.entries in
    let ind = c.in_ok-indicator.indicator in
    let clauses = c.push-in-None.new.self in
    let only : clauses.items ≡ c.args.clause ∷ [] = c.in_ok-push-in-None.ensures.items ∙ ap (λ cs. cs ++ c.args.clause ∷ []) c.new-clauses.ensures.items in
    ap (map shown) c.in-Ok.ensures.entries
    ∙ ap (λ m. map shown (insert_entry same_indicator m.entries ind clauses)) c.get_mut.follows.holds-at-none
    ∙ insert_new old ind clauses c.args.clause (sym c.in-None.ensures.value) only
    ∙ ap (λ p. with_entry (map shown old) p c.args.clause) c.in_ok-indicator.ensures
    ∙ ap (λ es. with_clause es c.args.clause) c.self.view_is
