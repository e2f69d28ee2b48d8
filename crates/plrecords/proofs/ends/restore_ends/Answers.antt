use Rattle.std.proofs.Common.{◌≡◌, ◌∙◌, ap, Bool, true, false, Option, None, cond, unwrap_or}
use Rattle.std.specs.HashMap.{get}
use Rattle.plrecords.specs.declared.ends.Ends.{Ends}
use Rattle.plrecords.specs.Links.{no_ends}
use Rattle.plrecords.proofs.ends.restore_ends.Goals as goal

pub returns-then-is_nothing : goal.returns-then-is_nothing
returns-then-is_nothing g c =
    let eq = g.K.PartialEq.eq in
    record {
      set = λ k. ap (λ o. unwrap_or o no_ends) (c.remove.ensures.updates.0 k) ∙ without (eq c.args.key k) (get eq c.args.index.now k) c.args.ends (c.is_nothing.ensures.0 c.if-is_nothing.true);
      gone = λ e. c.remove.ensures.updates.1;
    }
  where
    without : (b : Bool) (o : Option Ends) (e : Ends) → e ≡ no_ends → unwrap_or (cond b None o) no_ends ≡ cond b e (unwrap_or o no_ends)
    without true o e h = cc
    without false o e h = cc
