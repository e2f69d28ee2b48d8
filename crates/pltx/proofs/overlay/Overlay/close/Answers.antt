use Rattle.std.proofs.Common.{◌∙◌, ap, refl}
use Rattle.pltx.proofs.Drafting.{tracked-none}
use Rattle.pltx.proofs.overlay.Overlay.close.Goals as goal

pub returns-then-kept-clause-kept : goal.returns-then-kept-clause-kept
returns-then-kept-clause-kept c =
    let none = ap (λ v. v.items) c.replace-updates.ensures.after ∙ c.new-3.ensures.items in
    record {
      tracked = tracked-none _ none c.new-2.ensures c.new.ensures.empty refl;
      closed = λ e. (none, refl);
    }

pub returns-clause-kept : goal.returns-clause-kept
returns-clause-kept c =
    let none = ap (λ v. v.items) c.replace-updates.ensures.after ∙ c.new-3.ensures.items in
    record {
      tracked = tracked-none _ none c.new-2.ensures c.new.ensures.empty refl;
      closed = λ e. (none, refl);
    }
