use Rattle.std.proofs.Common.{◌≡◌, ap, subst, ◌∙◌}
use Rattle.std.specs.Prelude.{unwrap_or, OnOk}
use Rattle.plops.specs.Tables.{plain}
use Rattle.plops.specs.Changes.{entry_of, changed, put}
use Rattle.plops.proofs.table.change.Goals as goal
use Rattle.plops.proofs.table.change.Goals.{in-Some+in_ok-entry-in-Some, in-None+in_ok-entry-in-None}

pub returns-clause-added : goal.returns-clause-added
returns-clause-added c =
    let t = c.args.entries.now.items in
    let n = c.args.name.now in
    let same = ap (λ l. entry_of l n) c.deref.ensures.value in
    let entry : c.match-find.entry ≡ entry_of t n =
    elim c.match-find.branch [
      | in-Some+in_ok-entry-in-Some w ↦ w.entry-is ∙ w.in_ok-entry-in-Some.ensures ∙ ap (λ o. unwrap_or o (plain n)) w.in-Some.ensures ∙ same
      | in-None+in_ok-entry-in-None w ↦ w.entry-is ∙ w.in_ok-entry-in-None.ensures ∙ ap (λ o. unwrap_or o (plain n)) w.in-None.ensures ∙ same
    ] in
    subst (λ e. OnOk c.put.result (c.put.new.entries.items ≡ put e t)) (c.changed.ensures ∙ ap (changed c.args.priority c.args.kind) entry) c.put.ensures.put
