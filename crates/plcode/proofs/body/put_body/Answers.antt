use Rattle.std.proofs.Common.{◌≡◌, ◌∙◌, ◌∷◌, [], reverse, ap, arith}
use Rattle.std.proofs.lemmas.List.{reverse-append, length-reverse}
use Rattle.plcode.specs.Steps.{text}
use Rattle.plcode.proofs.Folds.{fold_ready, fold_next, fold_next_is, fold_code, fold_extended, fold_begins}
use Rattle.plcode.proofs.Rows.{popped_none}
use Rattle.plcode.proofs.Stays.{Extended-trans}
use Rattle.plcode.proofs.Pushing.{with_steps}
use Rattle.plcode.proofs.body.put_body.Goals as goal

pub put_piece-requires-clause-ready : goal.put_piece-requires-clause-ready
put_piece-requires-clause-ready c =
    let f = c.pieces.invariant.folds c.requires.spelled.0 c.requires.spelled.1 in
    rw (← length-reverse c.pieces.made.items)
    (fold_ready (text c.pieces.code) c.requires.spelled.0 c.pieces.pieces.items c.pop.new.self.items c.in-Some.piece (reverse c.pieces.parts.items) (reverse c.pieces.made.items) c.in-Some.ensures.items f)

pub pieces-preserved : goal.pieces-preserved
pieces-preserved c =
    let i = c.pieces.invariant in
    let e = c.in_ok-put_piece.ensures in
    record {
      code = e.code;
      extended = Extended-trans (text c.args.code.now) (text c.pieces.code) (text c.put_piece.new.code) i.extended e.extended;
      folds = λ g h.
          fold_next (text c.pieces.code) g c.pieces.pieces.items c.pop.new.self.items c.in-Some.piece (reverse c.pieces.parts.items) (reverse c.pieces.made.items) c.in-Some.ensures.items (i.folds g h)
          (text c.put_piece.new.code) (reverse c.put_piece.new.parts.items) (reverse c.put_piece.new.made.items) i.code.laid e.extended e.goal;
    }

pub put_piece-requires-clause-next : goal.put_piece-requires-clause-next
put_piece-requires-clause-next c =
    let f = c.pieces.invariant.folds c.requires.spelled.0 c.requires.spelled.1 in
    fold_next_is (text c.pieces.code) c.requires.spelled.0 c.pieces.pieces.items c.pop.new.self.items c.in-Some.piece (reverse c.pieces.parts.items) (reverse c.pieces.made.items) c.in-Some.ensures.items f

module _ (c : goal.After-drop-pieces-2) where
  none : c.pieces.pieces.items ≡ []
  none = popped_none c.pieces.pieces.items c.pop.new.self.items _ c.in_default.ensures.items c.in_default.ensures.rest (omega (arith, c.pieces.pieces.ok.0))

  parts : reverse c.pieces.parts.items ≡ c.in-Some-pop.whole ∷ reverse c.pop-2.new.self.items
  parts = ap reverse c.in-Some-pop.ensures.items ∙ reverse-append c.pop-2.new.self.items (c.in-Some-pop.whole ∷ [])

pub returns-clause-begins : goal.returns-clause-begins
returns-clause-begins c g h =
    let i = c.pieces.invariant in
    let e = c.in_ok-at.ensures in
    fold_begins (text c.pieces.code) i.code g c.pieces.pieces.items c.in-Some-pop.whole (reverse c.pieces.parts.items) (reverse c.pop-2.new.self.items) (reverse c.pieces.made.items)
    c.put_sequence.new.code.items c.in_ok-at.at (none c) (parts c) (i.folds g h) e.code e.place

pub returns-clause-code : goal.returns-clause-code
returns-clause-code c =
    let i = c.pieces.invariant in
    let e = c.in_ok-at.ensures in
    fold_code (text c.pieces.code) i.code c.requires.spelled.0 c.pieces.pieces.items c.in-Some-pop.whole (reverse c.pieces.parts.items) (reverse c.pop-2.new.self.items) (reverse c.pieces.made.items)
    c.put_sequence.new.code.items c.in_ok-at.at (none c) (parts c) (i.folds c.requires.spelled.0 c.requires.spelled.1) e.code e.place

pub returns-clause-extended : goal.returns-clause-extended
returns-clause-extended c =
    let i = c.pieces.invariant in
    let e = c.in_ok-at.ensures in
    Extended-trans (text c.args.code.now) (text c.pieces.code) (with_steps (text c.pieces.code) c.put_sequence.new.code.items) i.extended
    (fold_extended (text c.pieces.code) i.code c.requires.spelled.0 c.pieces.pieces.items c.in-Some-pop.whole (reverse c.pieces.parts.items) (reverse c.pop-2.new.self.items) (reverse c.pieces.made.items)
    c.put_sequence.new.code.items c.in_ok-at.at (none c) (parts c) (i.folds c.requires.spelled.0 c.requires.spelled.1) e.code e.place)
