use Rattle.std.proofs.Common.{◌≡◌, ◌∙◌, sym, ap, fold, ◌++◌, ◌∷◌, [], Some, true, false}
use Rattle.std.specs.HashMap.{get}
use Rattle.plevent.specs.Alive.{change_if}
use Rattle.plrecords.specs.Kept.{keep}
use Rattle.pltx.specs.Own.{is_target, same_target}
use Rattle.pltx.proofs.Drafting.{draft-above, drafts-addition, tracked-more}
use Rattle.pltx.proofs.Fronts.{more-kept, one-more}
use Rattle.pltx.proofs.Marking.{addition-none}
use Rattle.pltx.proofs.overlay.Overlay.add.Goals as goal

pub add-requires : goal.add-requires
add-requires c = draft-above c.len-number.result c.args.self.now.updates.items c.args.self.now.draft (c.len-number.ensures ∙ c.args.self.now.updates.ok.0) c.requires.kept.tracked.draft

pub returns-clause-kept : goal.returns-clause-kept
returns-clause-kept c =
    let o = c.args.self.now in
    let u = c.args.update in
    let n = c.len-number.result in
    let none = addition-none u c.requires.addition in
    record {
      tracked = tracked-more o _ n u c.requires.kept.tracked (c.len-number.ensures ∙ o.updates.ok.0) (c.append.ensures ∙ ap (λ l. l ++ u ∷ []) c.reserve.ensures.items)
          (c.in_ok-add.ensures.made ∙ ap (fold keep o.draft) (sym (drafts-addition n u c.requires.addition)))
          (λ t. sym (ap (λ a. change_if (is_target t a) (Some n) (get same_target o.marks t)) none)) (λ t h. let z : false ≡ true = sym (ap (is_target t) none) ∙ h in absurd (cc))
          (more-kept o.updates.items u c.before_fronts-self.result o.before_fronts _ _ c.requires.kept.tracked.fronts (one-more c.len.result c.append.new.updates.items c.reserve.new.self.items o.updates.items u (c.len.ensures ∙ c.append.new.updates.ok.0) c.append.ensures c.reserve.ensures.items) c.is_first-is_front.ensures c.before_fronts-self.ensures.more c.before_fronts-self.ensures.same);
      closed = λ e. absurd (c.requires.open e);
    }
