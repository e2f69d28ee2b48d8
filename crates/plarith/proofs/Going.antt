-- The steps of an evaluation.
use Rattle.std.proofs.Common.{◌≡◌, suc, ◌+◌, ◌<◌, ℤ, List, [], ◌∷◌, ◌++◌, Ok, Err, refl, sym, ap, ◌∙◌, arith}
use Rattle.plterm.specs.Tree.{Tree}
use Rattle.plcells.specs.Walking.{weight}
use Rattle.plarith.specs.declared.error.ArithError.{ArithError}
use Rattle.platoms.specs.declared.evaluable.Unary.{Unary}
use Rattle.platoms.specs.declared.evaluable.Binary.{Binary}
use Rattle.plarith.specs.declared.operand.Operand.{Operand}
use Rattle.plarith.specs.declared.evaluate.Frame.{Frame}
use Rattle.plarith.specs.declared.evaluate.Frame.TheVariants.{One, Left, Right}
use Rattle.plarith.specs.declared.evaluate.Step.{Step}
use Rattle.plarith.specs.declared.evaluate.Step.TheVariants.{Into, Back, Ends}
use Rattle.plarith.specs.Errors.{Evaluated}
use Rattle.plarith.specs.Operations.{unary, binary}
use Rattle.plarith.specs.Evaluation.{eval, with_one, with_two}
use Rattle.plarith.specs.Frames.{resumed, finished, outcome_of, follows, waiting, ahead, frame_bound, frames_bound, step_bound, Goes}

finished-push : (w : Operand → Tree) (fs : List Frame) (f : Frame) (r : Evaluated) → finished w (fs ++ f ∷ []) r ≡ finished w fs (resumed w f r)
finished-push w [] f r = refl
finished-push w (g ∷ fs) f r = ap (resumed w g) (finished-push w fs f r)

resumed-error : (w : Operand → Tree) (f : Frame) (e : ArithError) → resumed w f (Err e) ≡ Err e
resumed-error w (One f) e = refl
resumed-error w (Left f p) e = refl
resumed-error w (Right f x) e = refl

finished-error : (w : Operand → Tree) (fs : List Frame) (e : ArithError) → finished w fs (Err e) ≡ Err e
finished-error w [] e = refl
finished-error w (f ∷ fs) e = ap (resumed w f) (finished-error w fs e) ∙ resumed-error w f e

bound-push : (w : Operand → Tree) (fs : List Frame) (f : Frame) → frames_bound w (fs ++ f ∷ []) ≡ frames_bound w fs + frame_bound w f
bound-push w [] f = omega arith
bound-push w (g ∷ fs) f = omega (arith, bound-push w fs f)

pub waiting-one : (fs : List Frame) (f : Unary) → waiting (fs ++ One f ∷ []) ≡ waiting fs
waiting-one [] f = refl
waiting-one (One g ∷ fs) f = waiting-one fs f
waiting-one (Left g p ∷ fs) f = ap (λ ps. p ∷ ps) (waiting-one fs f)
waiting-one (Right g x ∷ fs) f = waiting-one fs f

pub waiting-left : (fs : List Frame) (f : Binary) (q : Operand) → waiting (fs ++ Left f q ∷ []) ≡ waiting fs ++ q ∷ []
waiting-left [] f q = refl
waiting-left (One g ∷ fs) f q = waiting-left fs f q
waiting-left (Left g p ∷ fs) f q = ap (λ ps. p ∷ ps) (waiting-left fs f q)
waiting-left (Right g x ∷ fs) f q = waiting-left fs f q

pub waiting-right : (fs : List Frame) (f : Binary) (x : ℤ) → waiting (fs ++ Right f x ∷ []) ≡ waiting fs
waiting-right [] f x = refl
waiting-right (One g ∷ fs) f x = waiting-right fs f x
waiting-right (Left g p ∷ fs) f x = ap (λ ps. p ∷ ps) (waiting-right fs f x)
waiting-right (Right g y ∷ fs) f x = waiting-right fs f x

-- what was found goes back, or ends all
pub goes_on : (w : Operand → Tree) (before fs : List Frame) (from : Step) (r : Evaluated) → finished w fs r ≡ outcome_of w before from → suc (frames_bound w fs) < step_bound w before from → Goes w before fs from (follows r)
goes_on w before fs from (Ok x) same near = record { same = same; nearer = near }
goes_on w before fs from (Err e) same near = record { same = sym (finished-error w fs e) ∙ same; nearer = omega arith }

pub ahead-follows : (fs : List Frame) (r : Evaluated) → ahead fs (follows r) ≡ waiting fs
ahead-follows fs (Ok x) = refl
ahead-follows fs (Err e) = refl

pub goes_known : (w : Operand → Tree) (fs : List Frame) (p : Operand) (r : Evaluated) → r ≡ eval (w p) → 0 < weight (w p) → Goes w fs fs (Into p) (follows r)
goes_known w fs p r is some = goes_on w fs fs (Into p) r (ap (finished w fs) is) (omega arith)

pub goes_one : (w : Operand → Tree) (fs : List Frame) (p a : Operand) (f : Unary) → with_one f (eval (w a)) ≡ eval (w p) → weight (w a) < weight (w p) → Goes w fs (fs ++ One f ∷ []) (Into p) (Into a)
goes_one w fs p a f is lighter = record { same = finished-push w fs (One f) (eval (w a)) ∙ ap (finished w fs) is; nearer = omega (arith, bound-push w fs (One f)) }

pub goes_two : (w : Operand → Tree) (fs : List Frame) (p a b : Operand) (f : Binary) → with_two f (eval (w a)) (eval (w b)) ≡ eval (w p) → weight (w a) + weight (w b) < weight (w p) → Goes w fs (fs ++ Left f b ∷ []) (Into p) (Into a)
goes_two w fs p a b f is lighter = record { same = finished-push w fs (Left f b) (eval (w a)) ∙ ap (finished w fs) is; nearer = omega (arith, bound-push w fs (Left f b)) }

pub back_end : (w : Operand → Tree) (x : ℤ) → Goes w [] [] (Back x) (Ends (Ok x))
back_end w x = record { same = refl; nearer = omega arith }

pub back_one : (w : Operand → Tree) (fs : List Frame) (f : Unary) (x : ℤ) → Goes w (fs ++ One f ∷ []) fs (Back x) (follows (unary f x))
back_one w fs f x = goes_on w (fs ++ One f ∷ []) fs (Back x) (unary f x) (sym (finished-push w fs (One f) (Ok x))) (omega (arith, bound-push w fs (One f)))

pub back_left : (w : Operand → Tree) (fs : List Frame) (f : Binary) (b : Operand) (x : ℤ) → Goes w (fs ++ Left f b ∷ []) (fs ++ Right f x ∷ []) (Back x) (Into b)
back_left w fs f b x = record {
  same = finished-push w fs (Right f x) (eval (w b)) ∙ sym (finished-push w fs (Left f b) (Ok x));
  nearer = omega (arith, bound-push w fs (Right f x), bound-push w fs (Left f b));
}

pub back_right : (w : Operand → Tree) (fs : List Frame) (f : Binary) (x y : ℤ) → Goes w (fs ++ Right f x ∷ []) fs (Back y) (follows (binary f x y))
back_right w fs f x y = goes_on w (fs ++ Right f x ∷ []) fs (Back y) (binary f x y) (sym (finished-push w fs (Right f x) (Ok y))) (omega (arith, bound-push w fs (Right f x)))
