use Rattle.std.proofs.Common.{◌≡◌, ◌∙◌, ◌∷◌, ◌++◌, [], length, map, sym, ap, arith}
use Rattle.std.specs.Str.{bytes_eq}
use Rattle.std.specs.List.{position, position_or_len}
use Rattle.std.specs.HashMap.{get_by}
use Rattle.std.proofs.lemmas.List.{map-append, length-map}
use Rattle.std.proofs.lemmas.Map.Text.{hash_map_updates_str}
use Rattle.plterm.proofs.Places.{position-none}
use Rattle.plops.proofs.Names.{named_itself}
use Rattle.plread.specs.Spelling.{anonymous, number_of, seen_with}
use Rattle.plread.proofs.Numbered.{number_of_new, seen_with_new, table_more, table_skips}
use Rattle.plread.proofs.variables.Variables.number.Goals as goal
use Rattle.plread.proofs.variables.Variables.number.Goals.{In_default}

pub invariant_of-self-then-eq : goal.invariant_of-self-then-eq
invariant_of-self-then-eq c = λ q other.
    let seen = map (λ n. n.now) c.self.inside.order.items in
    let skips : position (bytes_eq q) seen ≡ position (bytes_eq q) (seen ++ c.args.name.now ∷ []) = table_skips seen c.args.name.now q (named_itself c.args.name.now anonymous (sym c.eq.ensures ∙ c.if-eq.true)) other in
    c.self.invariant q other ∙ skips ∙ ap (position (bytes_eq q)) (sym (map-append (λ n. n.now) c.self.inside.order.items (c.args.name ∷ [])) ∙ ap (map (λ n. n.now)) (sym c.in_ok-push.ensures.items))

-- the name stands nowhere yet
at_end : (c : In_default) → position_or_len (bytes_eq c.args.name.now) (map (λ n. n.now) c.self.inside.order.items) ≡ length (map (λ n. n.now) c.self.inside.order.items)
at_end c = position-none (bytes_eq c.args.name.now) (map (λ n. n.now) c.self.inside.order.items) (c.in_default.ensures.value ∙ c.self.invariant c.args.name.now (sym c.eq.ensures ∙ c.if-eq.false))

next_is : (c : In_default) → c.len-next.result ≡ length (map (λ n. n.now) c.self.inside.order.items)
next_is c = omega (arith, c.self.inside.order.ok.0, length-map c.self.inside.order.items (λ n. n.now))

pub invariant_of-self-in-Ok : goal.invariant_of-self-in-Ok
invariant_of-self-in-Ok c = λ q other.
    let seen = map (λ n. n.now) c.self.inside.order.items in
    hash_map_updates_str c.args.name.now c.self.inside.places c.insert.new.self _ c.in-Ok.ensures.updates q
    ∙ table_more seen c.args.name.now q c.len-next.result (get_by (λ n. bytes_eq q n.now) c.self.inside.places) (at_end (goal.at.invariant_of-self-in-Ok c).In_default) (next_is (goal.at.invariant_of-self-in-Ok c).In_default) (c.self.invariant q other)
    ∙ ap (position (bytes_eq q)) (sym (map-append (λ n. n.now) c.self.inside.order.items (c.args.name ∷ [])) ∙ ap (map (λ n. n.now)) (sym c.in_ok-push-2.ensures.items))

pub returns-in-Ok-clause-number : goal.returns-in-Ok-clause-number
returns-in-Ok-clause-number c =
    let seen = map (λ n. n.now) c.self.inside.order.items in
    next_is (goal.at.returns-in-Ok-clause-number c).In_default
    ∙ sym (number_of_new c.args.name.now seen (at_end (goal.at.returns-in-Ok-clause-number c).In_default))
    ∙ ap (λ s. number_of s c.args.name.now) c.self.view_is

pub returns-in-Ok-clause-ok : goal.returns-in-Ok-clause-ok
returns-in-Ok-clause-ok c =
    let seen = map (λ n. n.now) c.self.inside.order.items in
    let new = number_of_new c.args.name.now seen (at_end (goal.at.returns-in-Ok-clause-ok c).In_default) in
    ap (map (λ n. n.now)) c.in_ok-push-2.ensures.items ∙ map-append (λ n. n.now) c.self.inside.order.items (c.args.name ∷ [])
    ∙ sym (seen_with_new c.args.name.now seen new) ∙ ap (λ s. seen_with s c.args.name.now) c.self.view_is
