use Rattle.std.proofs.Common.{◌≡◌, length, rules, sym, ap, subst, ◌∙◌, map-id, OnOk}
use Rattle.std.specs.Str.{chars}
use Rattle.std.proofs.lemmas.Str.{chars_from_encodes}
use Rattle.std.proofs.lemmas.Iterator.{YieldsList-from_chars}
use Rattle.std.proofs.lemmas.Iterator.Consumers.{YieldsList-end}
use Rattle.plterm.specs.Building.{with_node}
use Rattle.plread.specs.Texts.{char_tree}
use Rattle.plread.proofs.Joined.{one_pushed, pushed_so_many, closed_text}
use Rattle.plread.proofs.lists.push_chars.Goals as goal

pub loop-c-preserved : goal.loop-c-preserved
loop-c-preserved c = one_pushed char_tree c.loop-c.yielded c.in-Some.c c.args.terms.now c.loop-c.terms c.push.new.self c.loop-c.invariant (c.in_ok-push.ensures.ok ∙ ap (λ n. with_node n c.loop-c.terms) c.in_ok-one_character.ensures.value)

pub close-requires : goal.close-requires
close-requires c =
    let end = YieldsList-end (YieldsList-from_chars c.args.text.now c.utf8.text cc) c.loop-c.yielded _ c.loop-c.yielded_by _ _ c.in-None.is c.next.ensures.steps in
    let all : c.loop-c.yielded ≡ chars c.args.text.now = sym (map-id c.loop-c.yielded) ∙ end.0 in
    let many : c.count.result ≡ length (chars c.args.text.now) = search (rules, chars_from_encodes) in
    pushed_so_many char_tree c.loop-c.yielded (chars c.args.text.now) c.args.terms.now c.loop-c.terms c.count.result c.loop-c.invariant all many

pub returns : goal.returns
returns c =
    let end = YieldsList-end (YieldsList-from_chars c.args.text.now c.utf8.text cc) c.loop-c.yielded _ c.loop-c.yielded_by _ _ c.in-None.is c.next.ensures.steps in
    let all : c.loop-c.yielded ≡ chars c.args.text.now = sym (map-id c.loop-c.yielded) ∙ end.0 in
    let many : c.count.result ≡ length (chars c.args.text.now) = search (rules, chars_from_encodes) in
    subst (λ ts. OnOk c.close.result (c.close.new.terms ≡ ts)) (closed_text char_tree c.loop-c.yielded (chars c.args.text.now) c.args.terms.now c.loop-c.terms c.count.result c.loop-c.invariant all many) c.close.ensures
