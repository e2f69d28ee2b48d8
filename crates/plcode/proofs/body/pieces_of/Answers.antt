use Rattle.std.proofs.Common.{rules, ◌∷◌, [], List, subst, sym}
use Rattle.plterm.specs.Tree.{Tree}
use Rattle.plcode.specs.Steps.{text}
use Rattle.plcode.specs.Bodies.{Leads, Splits}
use Rattle.plcode.specs.declared.body.Piece.{Piece}
use Rattle.plcode.proofs.Folds.{Leads-more, Leads-push}
use Rattle.plcode.proofs.Stays.{Extended-trans, Extended-refl}
use Rattle.plcode.proofs.body.pieces_of.Goals as goal

pub goals-preserved : goal.goals-preserved
goals-preserved c =
    let i = c.goals.invariant in
    let e = c.in_ok-piece.ensures in
    let d = text c.piece_of.new.code in
    let P : List Tree → Type 0 = λ gs. Splits d c.in_ok-piece.piece gs c.piece_of.new.goals in
    let Q : List Piece → Type 0 = λ ps. Leads d ps (c.args.body.now ∷ []) c.piece_of.new.goals in
    record {
      code = e.code;
      extended = Extended-trans (text c.args.code.now) (text c.goals.code) d i.extended e.extended;
      leads = subst Q (sym c.in_ok-push.ensures.items)
          (Leads-push d c.goals.pieces.items c.in_ok-piece.piece (c.args.body.now ∷ []) c.goals.goals c.piece_of.new.goals
          (Leads-more (text c.goals.code) d c.goals.pieces.items (c.args.body.now ∷ []) c.goals.goals i.code.laid e.extended i.leads)
          (subst P (sym c.in-Some.ensures.before) e.splits));
    }

pub goals-init : goal.goals-init
goals-init c =
    let d = text c.args.code.now in
    record { code = c.requires.code; extended = Extended-refl d; leads = search rules }
