use Rattle.std.proofs.Common.{refl, ◌∙◌, sym, ap, ap₂, length, ◌++◌, ◌∷◌, [], Some}
use Rattle.plevent.specs.Alive.{change_if}
use Rattle.pltx.specs.Own.{erasing, is_target}
use Rattle.pltx.proofs.Drafting.{draft-above, tracked-more, tracked-same}
use Rattle.pltx.proofs.Fronts.{erasing-plain, more-kept, one-more}
use Rattle.pltx.proofs.Marking.{erasing-some, fresh-erasing}
use Rattle.pltx.proofs.Targets.{get-is}
use Rattle.pltx.proofs.overlay.Overlay.erase_now.Goals as goal

pub erase_in-requires : goal.erase_in-requires
erase_in-requires c = draft-above c.len-number.result c.args.self.now.updates.items c.args.self.now.draft (c.len-number.ensures ∙ c.reserve.new.self.ok.0 ∙ ap length c.reserve.ensures.items) c.requires.kept.tracked.draft

pub returns-in_err-erase_in-clause-kept : goal.returns-in_err-erase_in-clause-kept
returns-in_err-erase_in-clause-kept c = record {
  tracked = tracked-same c.args.self.now _ c.requires.kept.tracked c.reserve.ensures.items c.in_err-erase_in.ensures.refused (λ t. sym (get-is c.reserve-2.new.self t) ∙ c.reserve-2.ensures.entries.2 t ∙ get-is c.args.self.now.marks t) refl;
  closed = λ e. absurd (c.requires.open e);
}

pub returns-clause-kept : goal.returns-clause-kept
returns-clause-kept c =
    let o = c.args.self.now in
    let s = c.args.target in
    record {
      tracked = tracked-more o _ c.len-number.result (erasing s) c.requires.kept.tracked (c.len-number.ensures ∙ c.reserve.new.self.ok.0 ∙ ap length c.reserve.ensures.items)
          (c.append.ensures ∙ ap₂ (λ l u. l ++ u ∷ []) c.reserve.ensures.items c.erasing.ensures) c.in_ok-erase_in.ensures.made
          (λ t. c.mark.ensures t ∙ ap₂ (λ a b. change_if (is_target t a) (Some c.len-number.result) b) (sym (erasing-some s)) (sym (get-is c.reserve-2.new.self t) ∙ c.reserve-2.ensures.entries.2 t ∙ get-is o.marks t)) (fresh-erasing s o.updates.items c.requires.fresh)
          (more-kept o.updates.items (erasing s) c.before_fronts-self.result o.before_fronts _ _ c.requires.kept.tracked.fronts (one-more c.len.result c.append.new.updates.items c.reserve.new.self.items o.updates.items (erasing s) (c.len.ensures ∙ c.append.new.updates.ok.0) (c.append.ensures ∙ ap (λ u. c.reserve.new.self.items ++ u ∷ []) c.erasing.ensures) c.reserve.ensures.items) (erasing-plain s) c.before_fronts-self.ensures.more c.before_fronts-self.ensures.same);
      closed = λ e. absurd (c.requires.open e);
    }
