use Rattle.std.proofs.Common.{◌≡◌, ◌∙◌, ◌++◌, map, filter, length, refl, ap, rules}
use Rattle.plevent.specs.declared.update.Update.TheVariants.{Last}
use Rattle.plload.specs.Draft.{Draft, is_dynamic, program_of}
use Rattle.plload.proofs.Parts.{program_is}
use Rattle.plload.proofs.draft.Draft.finish.Goals as goal

pub returns : goal.returns
returns c =
    let i = c.self.inside in
    let d : Draft = record { clauses = i.clauses.items; declared = i.declared.keys; goals = i.goals.items; directives = i.directives } in
    let count : c.len-count.result ≡ length i.clauses.items = search rules in
    c.new-2.ensures
    ∙ program_is c.args.settings d c.in_ok-procedures.procedures i.goals.items c.new.result c.len-count.result i.directives
    c.in_ok-procedures.ensures.procedures refl
    (c.new.ensures ∙ c.in_ok-procedures.ensures.first ∙ ap (λ us. us ++ map Last (filter (is_dynamic d.declared) d.clauses)) c.in_ok-first.ensures) count refl
    ∙ ap (program_of c.args.settings) c.self.view_is
