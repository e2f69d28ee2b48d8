use Rattle.std.proofs.Common.{◌-◌, ◌∙◌, sym, ap, length, set, None}
use Rattle.std.proofs.lemmas.List.{length-set}
use Rattle.plrecords.specs.Links.{links_after}
use Rattle.plrecords.proofs.Backward.{unlinked-to}
use Rattle.plrecords.proofs.Passing.{written}
use Rattle.plrecords.proofs.ends.unlink.Goals as goal

pub returns-in-Some : goal.returns-in-Some
returns-in-Some c = λ xs n links end.
    let made = c.cut_link.ensures ∙ ap (λ l. set l c.in-Some.last None) c.as_mut_slice.ensures.value in
    written _ _ _ (c.pop.new.self.ok.0 ∙ sym (ap length made ∙ length-set c.pop.new.self.items c.in-Some.last None))
    ∙ made ∙ ap (λ l. set l c.in-Some.last None) c.pop.ensures.rest
    ∙ unlinked-to n c.in-Some.last c.args.ends.newest_back xs c.args.next.now.items _ c.in-Some.is (links ∙ ap (λ f. links_after f n c.args.ends xs) c.if-front.false) end (ap (λ k. k - 1) c.args.next.now.ok.0)
