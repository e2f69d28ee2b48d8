use Rattle.std.proofs.Common.{◌∙◌}
use Rattle.plterm.proofs.Spellings.{IsWhole, numbering_all, numbering_step, seen_step}
use Rattle.plterm.proofs.Forests.{AllFit-push, Fits-numbered}
use Rattle.plterm.specs.Variables.{place, renamed}
use Rattle.plterm.proofs.walk.TermRef.numbered.Goals as goal
use Rattle.plterm.proofs.walk.TermRef.numbered.Goals.{In_default}

whole : (c : In_default) → IsWhole c.terms.nodes.items (renamed (λ v. place v c.terms.seen) c.args.self.now)
whole c = numbering_all _ _ c.args.seen _ c.terms.terms c.in_default.ensures.0 c.terms.invariant.nodes c.terms.invariant.seen c.terms.invariant.fits

pub terms-preserved : goal.terms-preserved
terms-preserved c =
    let n = c.in-Some.node.now in
    let e = c.in-Some.ensures in
    let push = c.in_ok-push.ensures.items in
    let i = c.terms.invariant in
    record {
      nodes = numbering_step _ _ _ _ _ _ _ n _ i.nodes e.nodes c.in_ok-numbered_node.ensures.seen c.in_ok-numbered_node.ensures.node push;
      seen = seen_step _ _ _ _ _ n i.seen e.nodes c.in_ok-numbered_node.ensures.seen;
      fits = rw push (AllFit-push _ _ i.fits (rw c.in_ok-numbered_node.ensures.node (Fits-numbered _ n e.fits)));
    }

pub from_prefix-requires : goal.from_prefix-requires
from_prefix-requires c = (whole (goal.at.from_prefix-requires c).In_default).term

pub returns-clause-tree : goal.returns-clause-tree
returns-clause-tree c = c.from_prefix.ensures ∙ (whole (goal.at.returns-clause-tree c).In_default).tree
