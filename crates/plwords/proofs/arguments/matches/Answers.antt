use Rattle.std.proofs.Common.{◌≡◌, ◌∙◌, ap, ap₂, sym, rules, subst, inl, inr}
use Rattle.clap.specs.Words.{IsAmong, fault_of, is_simple, is_simple_and_free, matches_of}
use Rattle.clap.specs.Words.{kind_of}
use Rattle.clap.specs.declared.error.kind.ErrorKind.TheVariants.{OutOfMemory}
use Rattle.plwords.proofs.App.{simple, free, taken_is, is_taken}
use Rattle.plwords.proofs.arguments.matches.Goals as goal

pub returns-in-Ok-try_get_matches_from-clause-taken : goal.returns-in-Ok-try_get_matches_from-clause-taken
returns-in-Ok-try_get_matches_from-clause-taken c =
    let is = c.in-Ok.ensures in
    taken_is _ (sym (ap₂ fault_of is (search rules)) ∙ c.in-Ok-try_get_matches_from.ensures.kinds (ap is_simple_and_free is ∙ free))

pub returns-in-Ok-try_get_matches_from-clause-rows : goal.returns-in-Ok-try_get_matches_from-clause-rows
returns-in-Ok-try_get_matches_from-clause-rows c =
    let is = c.in-Ok.ensures in
    (c.in-Ok-try_get_matches_from.ensures.matches (ap is_simple is ∙ simple)).0 ∙ ap₂ matches_of is (search rules)

pub returns-else-eq-clause-refused : goal.returns-else-eq-clause-refused
returns-else-eq-clause-refused c =
    let is = c.in-Ok.ensures in
    let e = c.in-Err-try_get_matches_from.error in
    let faults = ap₂ fault_of is (search rules) in
    let more : kind_of e ≡ OutOfMemory → ⊥ = λ m. search rules in
    λ usage taken. elim (c.in-Err-try_get_matches_from.ensures.kinds (ap is_simple_and_free is ∙ free)) [
      | inl memory ↦ more memory
      | inr among ↦ subst (IsAmong (kind_of e)) (faults ∙ is_taken _ taken) among
    ]
