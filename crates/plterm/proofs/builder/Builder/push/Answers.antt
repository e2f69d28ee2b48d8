use Rattle.plterm.proofs.Postfixes.{IsPostfix-push}
use Rattle.plterm.proofs.builder.Builder.push.Goals as goal

pub invariant_of-self : goal.invariant_of-self
invariant_of-self c = rw c.in_err-push.ensures.items c.self.invariant

pub invariant_of-self-2 : goal.invariant_of-self-2
invariant_of-self-2 c =
    let fits = c.name_len-fitting.ensures.fits c.requires.limits in
    rw c.in_ok-push.ensures.items (IsPostfix-push _ _ c.self.invariant fits (rw c.self.view_is c.requires.room))
