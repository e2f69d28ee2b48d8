use Rattle.std.proofs.Common.{◌≡◌, ◌∷◌, [], length, map, sym, ap, ◌∙◌, arith, rules}
use Rattle.std.proofs.lemmas.Bool.{and_parts}
use Rattle.std.specs.List.{list_all}
use Rattle.plterm.specs.Ground.{is_ground}
use Rattle.plcells.specs.Store.{value}
use Rattle.plbuiltin.specs.Solution.{Gives, against}
use Rattle.planswers.proofs.Forwarding.{forwarded}
use Rattle.pltexts.proofs.Groups.{alone, below-ground}
use Rattle.pltexts.proofs.current.one_of.Goals as goal

pub are_together-requires-clause-right : goal.are_together-requires-clause-right
are_together-requires-clause-right c =
    let t = c.in-Some.group in
    let all : c.args.groups.items ≡ t ∷ c.next.new.self.rest.items = search rules in
    below-ground t (and_parts (is_ground t) _ (sym (ap (list_all is_ground) all) ∙ c.requires.ground)).0

pub returns-in-Some-clause-is : goal.returns-in-Some-clause-is
returns-in-Some-clause-is c = λ h.
    let us = map (value h) c.args.values.items in
    let t = c.in-Some.group in
    let all : c.args.groups.items ≡ t ∷ c.next.new.self.rest.items = search rules in
    let few : c.len.result ≡ length c.args.groups.items = search rules in
    let only : c.args.groups.items ≡ t ∷ [] = all ∙ ap (λ ts. t ∷ ts) (alone t c.next.new.self.rest.items (omega (arith, few, ap length all, c.if-len-gt1.false))) in
    forwarded c.are_together.result h (λ s n. Gives (against us t ∷ []) [] s) (λ s n. Gives (map (against us) c.args.groups.items) [] s) (c.are_together.ensures.is h)
    (λ s n. ap (λ ts. Gives (map (against us) ts) [] s) (sym only))
