use Rattle.std.proofs.Common.{map, sym, ap, ◌∙◌, IfOk, subst}
use Rattle.std.specs.Prelude.{nat_le}
use Rattle.std.specs.List.{All, filter}
use Rattle.plread.specs.Texts.{listed}
use Rattle.plsearch.specs.Collecting.{count_new, renumbered}
use Rattle.plenv.specs.Changes.{PutsTerm}
use Rattle.plcollect.specs.declared.collection.Held.{Held}
use Rattle.plcollect.specs.Copies.{copies_of, IsCopy}
use Rattle.plcollect.proofs.Holding.{copies-filter, copies-kept, kept-filter}
use Rattle.plcollect.proofs.collection.Collection.put_list.Goals as goal

pub put_copies-requires : goal.put_copies-requires
put_copies-requires c =
    let s = c.self.inside in
    let hs = filter (λ (h : Held). nat_le c.args.level h.level) s.held.items in
    let are = copies-filter (λ l. nat_le c.args.level l) s.nodes.items s.held.items c.self.invariant in
    let found = c.held_from.ensures ∙ ap (filter (λ (h : Held). nat_le c.args.level h.level)) c.deref-2.ensures.value in
    subst (λ ns. All (IsCopy ns) c.held_from.result.now) (sym c.deref.ensures.value) (subst (All (IsCopy s.nodes.items)) (sym found) are.each)

pub returns-clause-ok : goal.returns-clause-ok
returns-clause-ok c =
    let s = c.self.inside in
    let old = c.args.env.now in
    let new = c.put_copies.new.env in
    let found = c.held_from.ensures ∙ ap (filter (λ (h : Held). nat_le c.args.level h.level)) c.deref-2.ensures.value in
    let copies = ap (λ ns. copies_of ns c.held_from.result.now) c.deref.ensures.value ∙ ap (copies_of s.nodes.items) found ∙ sym (copies-kept s.nodes.items (filter (λ (h : Held). nat_le c.args.level h.level) s.held.items))
    ∙ ap (map (λ k. k.copy)) (kept-filter (λ l. nat_le c.args.level l) s.nodes.items s.held.items) in
    rw (← c.self.view_is) (subst (λ ts. IfOk c.put_copies.result (λ v. PutsTerm old new v (listed (renumbered old.count ts)) (count_new ts))) copies c.put_copies.ensures.ok)
