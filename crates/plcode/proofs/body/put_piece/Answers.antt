use Rattle.std.proofs.Common.{List, reverse, subst, sym}
use Rattle.std.proofs.lemmas.Result.{on_ok_weaker}
use Rattle.plterm.specs.Tree.{Tree}
use Rattle.plcode.specs.declared.body.Piece.{Piece}
use Rattle.plcode.specs.declared.body.Piece.TheVariants.{And, Or, IfThen, Single}
use Rattle.plcode.specs.Steps.{text}
use Rattle.plcode.specs.Bodies.{Made, Splits, IsNext}
use Rattle.plcode.proofs.Segments.{made_joined, made_goal}
use Rattle.plcode.proofs.Folds.{two_either, two_arrow}
use Rattle.plcode.proofs.Stays.{Extended-refl}
use Rattle.plcode.proofs.body.put_piece.Goals as goal

pub put_either-requires-clause-made : goal.put_either-requires-clause-made
put_either-requires-clause-made c =
    let S : Piece → Type 0 = λ p. IsNext (text c.args.code.now) p (reverse c.args.parts.now.items) (reverse c.args.made.now.items) in
    two_either (text c.args.code.now) (reverse c.args.parts.now.items) (reverse c.args.made.now.items) (subst S c.in-Or.is c.requires.next)

pub put_arrow-requires-clause-made : goal.put_arrow-requires-clause-made
put_arrow-requires-clause-made c =
    let S : Piece → Type 0 = λ p. IsNext (text c.args.code.now) p (reverse c.args.parts.now.items) (reverse c.args.made.now.items) in
    two_arrow (text c.args.code.now) (reverse c.args.parts.now.items) (reverse c.args.made.now.items) (subst S c.in-IfThen.is c.requires.next)

pub returns-in_ok-join-in-And-clause-goal : goal.returns-in_ok-join-in-And-clause-goal
returns-in_ok-join-in-And-clause-goal c gs hs split h =
    let t = text c.args.code.now in
    let S : Piece → Type 0 = λ p. Splits t p gs hs in
    let s : Splits t And gs hs = subst S c.in-And.is split in
    let holds = s.means in
    let ps = reverse c.args.parts.now.items in
    let xs = reverse c.args.made.now.items in
    let P : List Tree → Type 0 = Made t ps xs in
    let Q : List Tree → Type 0 = Made t (reverse c.join.new.parts.items) (reverse c.join.new.made.items) in
    subst Q (sym s.before)
    (rw (c.in_ok-join-in-And.ensures.parts, c.in_ok-join-in-And.ensures.made)
    (made_joined t ps xs s.goal holds.first holds.second s.rest holds.is (subst P holds.next h)))

pub returns-in-IfThen-clause-goal : goal.returns-in-IfThen-clause-goal
returns-in-IfThen-clause-goal c = on_ok_weaker c.put_arrow.result
    (λ put gs hs split h.
    let S : Piece → Type 0 = λ p. Splits (text c.args.code.now) p gs hs in
    let s : Splits (text c.args.code.now) IfThen gs hs = subst S c.in-IfThen.is split in
    let Q : List Tree → Type 0 = Made (text c.put_arrow.new.code) (reverse c.put_arrow.new.parts.items) (reverse c.put_arrow.new.made.items) in
    subst Q (sym s.before) (put s.goal s.rest hs s.means h))
    c.put_arrow.ensures.goal

pub returns-in_ok-push_part-in-Single-clause-goal : goal.returns-in_ok-push_part-in-Single-clause-goal
returns-in_ok-push_part-in-Single-clause-goal c gs hs split h =
    let t = text c.args.code.now in
    let S : Piece → Type 0 = λ p. Splits t p gs hs in
    let node = c.in-Single.node in
    let s : Splits t (Single node) gs hs = subst S c.in-Single.is split in
    let m = s.means in
    let ps = reverse c.args.parts.now.items in
    let xs = reverse c.args.made.now.items in
    let P : List Tree → Type 0 = Made t ps xs in
    let Q : List Tree → Type 0 = Made t (reverse c.push_part.new.parts.items) (reverse c.push_part.new.made.items) in
    subst Q (sym s.before)
    (rw (c.in_ok-push_part-in-Single.ensures.parts, c.in_ok-push_part-in-Single.ensures.made)
    (made_goal t node ps xs s.goal s.rest m.no_arrow m.node (subst P m.next h)))

pub returns-in-Or-clause-goal : goal.returns-in-Or-clause-goal
returns-in-Or-clause-goal c = on_ok_weaker c.put_either.result
    (λ put gs hs split h.
    let S : Piece → Type 0 = λ p. Splits (text c.args.code.now) p gs hs in
    let s : Splits (text c.args.code.now) Or gs hs = subst S c.in-Or.is split in
    let Q : List Tree → Type 0 = Made (text c.put_either.new.code) (reverse c.put_either.new.parts.items) (reverse c.put_either.new.made.items) in
    subst Q (sym s.before) (put s.goal s.rest hs s.means h))
    c.put_either.ensures.goal

pub returns-in_ok-join-in-And-clause-extended : goal.returns-in_ok-join-in-And-clause-extended
returns-in_ok-join-in-And-clause-extended c = Extended-refl (text c.args.code.now)

pub returns-in_ok-push_part-in-Single-clause-extended : goal.returns-in_ok-push_part-in-Single-clause-extended
returns-in_ok-push_part-in-Single-clause-extended c = Extended-refl (text c.args.code.now)
