-- Frames that are put on a stack and taken off.
use Rattle.std.proofs.Common.{◌≡◌, ℕ, zero, suc, ◌+◌, ◌-◌, ◌<◌, List, [], ◌∷◌, ◌++◌, length, length-append, get_or, slice_set, refl, sym, ap, ap₂, ◌∙◌, subst, arith, reverse, ◌⊎◌, inl, inr}
use Rattle.std.proofs.Math.Seq.{set-append_seam, get_or-append_seam}
use Rattle.platoms.specs.Names.{Extends as ExtendsNames}
use Rattle.plcode.specs.Steps.{goals_from}
use Rattle.plcode.specs.Callees.{Compiled}
use Rattle.plsearch.specs.Types.{Case, Choice}
use Rattle.plsearch.specs.Engine.{deeper}
use Rattle.plenv.specs.Env.{Env, IsEnv}
use Rattle.pllinks.specs.declared.link.Continuation.{Continuation}
use Rattle.pllinks.specs.Links.{alone}
use Rattle.pllinks.proofs.Arena.{chain-none}
use Rattle.plstack.specs.declared.stack.Stack.TheInside.{Inside}
use Rattle.plviews.specs.declared.view.View.{View}
use Rattle.plstack.specs.declared.frame.Frame.{Frame}
use Rattle.plstack.specs.declared.frame.Frame.TheVariants.{Plain, Open}
use Rattle.plstack.specs.Places.{Database, plain, opened, cases, size, depth_of}
use Rattle.plstack.specs.Basis.{Basis, IsShown}
use Rattle.plstack.specs.Levels.{Sort, Choosing, choices, kinds_of, EmptyOrFits}
use Rattle.plstack.specs.Frames.{IsFrame, IsFrameSeen, AreFrames, AreSeen}
use Rattle.plstack.specs.State.{State, IsState, IsStack, CountsUp, goals_in, goals_of, kinds_in, IsEmptyOrFit, IsFit, IsList, WalksSee, cases_of, depth_in, seeing, HasHandler, IsHandler, HasUndo, IsUndo, BeginsWith}
use Rattle.plstack.proofs.Naming.{visited-widen, widens-frame, widens-choices}
use Rattle.plstack.proofs.Undoing.{undoings-choices, undoings-frame}
use Rattle.plstack.proofs.Seeing.{seen-more, behind-stays, stays-behind}
use Rattle.plstack.proofs.Lists.{empty-list, no-elements}
use Rattle.plstack.proofs.Frames.{depth-cases, reverse-push, plain-more}

pub depth_is : (db : Database) (s : State) (d : ℕ) → d ≡ depth_of (reverse s.frames) → d ≡ deeper (cases_of db s) 0
unfolding cases_of
depth_is db s d e = e ∙ sym (depth-cases db (goals_in s) s.env s.links s.saved (reverse s.frames))

pub depth-in : (db : Database) (s : State) → deeper (cases_of db s) 0 ≡ depth_in s
depth-in db s = sym (depth_is db s (depth_in s) refl)

-- what the cases rest on, and the state, by a stack's fields
abbrev pub basis_in : Inside → Basis
basis_in a = record { code = a.basis.code; latest = a.basis.latest; starts = a.basis.starts.items }

abbrev pub inside : Inside → State
inside a = record { basis = basis_in a; env = a.env; links = a.links.items; saved = a.saved.items; frames = a.frames.items; goals = a.goals }

-- a stack with nothing on it
pub empty-stack : (code : Compiled) (e : Env) → IsEnv e → ExtendsNames code.text.names e.heap.names → goals_from code.text 0 0 ≡ [] → IsStack (record { basis = record { code = code; latest = record { place = 0; count = 0 }; starts = [] }; env = e; links = []; saved = []; frames = []; goals = alone 0 }) 0
empty-stack code e env names none = (
  record {
    env = env;
    names = names;
    none = none;
    chain = chain-none;
    frames = tt;
    seen = refl;
    goals = empty-list (goals_from code.text) none e [];
    fits = inl (no-elements (goals_from code.text) none e []);
  },
  refl,
)

-- a later view
pub sees-stack : (s : State) (d : ℕ) (g : View) → IsShown s.basis.latest g → IsStack s d → IsStack (seeing g s) d
sees-stack s d g le is = (
  record {
    env = is.0.env;
    names = is.0.names;
    none = is.0.none;
    chain = is.0.chain;
    frames = is.0.frames;
    seen = seen-more (reverse s.basis.starts) s.basis.latest g le (reverse s.frames) is.0.seen;
    goals = record { there = is.0.goals.there; items = is.0.goals.items };
    fits = is.0.fits;
  },
  is.1,
)

pub seeing-cases : (db : Database) (g : View) (s : State) → cases_of db (seeing g s) ≡ cases_of db s
unfolding cases_of
seeing-cases db g s = refl

-- the level of the innermost case, if it comes back to something
pub level_is : (s : State) (d : ℕ) → IsStack s d → HasHandler s ⊎ HasUndo s → (db : Database) → deeper (cases_of db s) 0 ≡ (d - 1) + 1
level_is s d is has db = sym (depth_is db s d is.1) ∙ go (reverse s.frames) has is.1
  where
    go : (fs : List Frame) → BeginsWith IsHandler fs ⊎ BeginsWith IsUndo fs → d ≡ depth_of fs → d ≡ (d - 1) + 1
    go [] (inl has) e = absurd has
    go [] (inr has) e = absurd has
    go (Plain n ∷ fs) (inl has) e = absurd has
    go (Plain n ∷ fs) (inr has) e = absurd has
    go (Open p r ∷ fs) has e = omega (arith, e)

-- a new frame
pub opened-cases : (db : Database) (s : State) (frames : List Frame) (f : Frame) → frames ≡ s.frames ++ f ∷ [] →
    cases_of db (record s { frames = frames }) ≡ opened db (goals_in s) s.env s.links s.saved f (cases_of db s)
unfolding cases_of
opened-cases db s frames f e = ap (λ fs. cases db (goals_in s) s.env s.links s.saved (reverse fs)) e ∙ ap (cases db (goals_in s) s.env s.links s.saved) (reverse-push s.frames f)

-- other frames
pub with-frames : (s : State) (frames : List Frame) → IsState s → AreFrames (goals_in s) s.env s.links s.saved (reverse frames) → WalksSee s.basis frames → EmptyOrFits (kinds_of (reverse frames)) (goals_of s s.goals) →
    IsState (record s { frames = frames })
with-frames s frames is a seen fits = record { env = is.env; names = is.names; none = is.none; chain = is.chain; frames = a; seen = seen; goals = record { there = is.goals.there; items = is.goals.items }; fits = fits }

-- another list is visited
pub visiting-any : (s : State) (d : ℕ) (l : Continuation) → IsStack s d → IsList s l → IsEmptyOrFit s l → IsStack (record s { goals = l }) d
visiting-any s d l is i f = (record { env = is.0.env; names = is.0.names; none = is.0.none; chain = is.0.chain; frames = is.0.frames; seen = is.0.seen; goals = record { there = i.there; items = i.items }; fits = f }, is.1)

pub visiting : (s : State) (d : ℕ) (l : Continuation) → IsStack s d → IsList s l → IsFit s l → IsStack (record s { goals = l }) d
visiting s d l is i f = visiting-any s d l is i (inr f)

-- no goals are
pub no-goals : (s : State) (d : ℕ) → IsStack s d → IsStack (record s { goals = alone 0 }) d
no-goals s d is = visiting-any s d (alone 0) is (empty-list (goals_in s) is.0.none s.env s.links) (inl (no-elements (goals_in s) is.0.none s.env s.links))

pub opened-state : (s : State) (d : ℕ) (frames : List Frame) (f : Frame) → frames ≡ s.frames ++ f ∷ [] → IsStack s d → IsFrame (goals_in s) s.env s.links s.saved f (reverse s.frames) → (IsUndo f → ⊥) → IsFrameSeen s.basis.latest f →
    IsStack (record s { frames = frames }) (size f + d)
opened-state s d frames f e is frame stays seen =
    let same : reverse frames ≡ f ∷ reverse s.frames = ap reverse e ∙ reverse-push s.frames f in (
      with-frames s frames is.0 (subst (AreFrames (goals_in s) s.env s.links s.saved) (sym same) (frame, is.0.frames))
          (subst (AreSeen (reverse s.basis.starts) s.basis.latest) (sym same)
          (seen, behind-stays f (reverse s.basis.starts) s.basis.latest (λ older v. AreSeen older v (reverse s.frames)) stays is.0.seen))
          (subst (λ fs. EmptyOrFits (kinds_of fs) (goals_of s s.goals)) (sym same)
          (visited-widen (kinds_in s) (kinds_of (f ∷ reverse s.frames)) (widens-frame f (reverse s.frames)) (undoings-frame f (reverse s.frames) stays) (goals_of s s.goals) is.0.fits)),
      omega (arith, is.1, ap depth_of same),
    )

-- a count of choices with nothing left
pub counted : (n : ℕ) (s : State) (d : ℕ) (frames : List Frame) → CountsUp n (reverse s.frames) (reverse frames) → IsStack s d → IsStack (record s { frames = frames }) (d + n)
counted n s d frames c is = (
  with-frames s frames is.0 (c.frames (goals_in s) s.env s.links s.saved is.0.frames) (c.seen (reverse s.basis.starts) s.basis.latest is.0.seen)
      (subst (λ ks. EmptyOrFits ks (goals_of s s.goals)) (sym c.kinds)
      (visited-widen (kinds_in s) (choices n (kinds_in s)) (widens-choices n (kinds_in s)) (undoings-choices n (kinds_in s)) (goals_of s s.goals) is.0.fits)),
  omega (arith, is.1, c.depth),
)

pub counted-cases : (n : ℕ) (db : Database) (s : State) (frames : List Frame) → CountsUp n (reverse s.frames) (reverse frames) → cases_of db (record s { frames = frames }) ≡ plain n (cases_of db s)
unfolding cases_of
counted-cases n db s frames c = c.cases db (goals_in s) s.env s.links s.saved

-- a frame that was taken off
pub popped-cases : (db : Database) (s : State) (rest : List Frame) (f : Frame) → s.frames ≡ rest ++ f ∷ [] →
    cases_of db s ≡ opened db (goals_in s) s.env s.links s.saved f (cases_of db (record s { frames = rest }))
unfolding cases_of
popped-cases db s rest f e = ap (cases db (goals_in s) s.env s.links s.saved) (ap reverse e ∙ reverse-push rest f)

pub no-cases : (db : Database) (s : State) → s.frames ≡ [] → cases_of db s ≡ []
unfolding cases_of
no-cases db s e = ap (λ fs. cases db (goals_in s) s.env s.links s.saved (reverse fs)) e

pub popped-frames : (s : State) (d : ℕ) (rest : List Frame) (f : Frame) → s.frames ≡ rest ++ f ∷ [] → IsStack s d →
    IsFrame (goals_in s) s.env s.links s.saved f (reverse rest) × AreFrames (goals_in s) s.env s.links s.saved (reverse rest) × (d ≡ size f + depth_of (reverse rest))
popped-frames s d rest f e is =
    let same : reverse s.frames ≡ f ∷ reverse rest = ap reverse e ∙ reverse-push rest f in
    let frames = subst (AreFrames (goals_in s) s.env s.links s.saved) same is.0.frames in
    (frames.0, frames.1, is.1 ∙ ap depth_of same)

pub popped-frame : (s : State) (d : ℕ) (rest : List Frame) (f : Frame) → s.frames ≡ rest ++ f ∷ [] → IsStack s d → AreSeen (reverse s.basis.starts) s.basis.latest (f ∷ reverse rest)
popped-frame s d rest f e is = subst (AreSeen (reverse s.basis.starts) s.basis.latest) (ap reverse e ∙ reverse-push rest f) is.0.seen

pub popped-seen : (s : State) (d : ℕ) (rest : List Frame) (f : Frame) → s.frames ≡ rest ++ f ∷ [] → IsStack s d → (IsUndo f → ⊥) → IsFrameSeen s.basis.latest f × WalksSee s.basis rest
popped-seen s d rest f e is stays =
    let seen = popped-frame s d rest f e is in
    (seen.0, stays-behind f (reverse s.basis.starts) s.basis.latest (λ older v. AreSeen older v (reverse rest)) stays seen.1)

-- and no goals are visited
pub popped-stack : (s : State) (d : ℕ) (rest : List Frame) (f : Frame) → s.frames ≡ rest ++ f ∷ [] → IsStack s d → (IsUndo f → ⊥) → IsStack (record s { frames = rest; goals = alone 0 }) (d - size f)
popped-stack s d rest f e is stays =
    let p = popped-frames s d rest f e is in
    let t : State = record s { goals = alone 0 } in
    (with-frames t rest (no-goals s d is).0 p.1 (popped-seen s d rest f e is stays).1 (inl (no-elements (goals_in s) is.0.none s.env s.links)), omega (arith, p.2))

pub empty_is : {A : Type 0} (xs : List A) → length xs ≡ 0 → xs ≡ []
empty_is [] e = refl
empty_is (x ∷ xs) e = absurd (omega arith)

-- what the newest frame is
pub has-last : (Is : Frame → Type 0) (frames rest : List Frame) (f : Frame) → frames ≡ rest ++ f ∷ [] → Is f → BeginsWith Is (reverse frames)
has-last Is frames rest f e i = subst (BeginsWith Is) (sym (ap reverse e ∙ reverse-push rest f)) i

pub is-last : (Is : Frame → Type 0) (frames rest : List Frame) (f : Frame) → frames ≡ rest ++ f ∷ [] → BeginsWith Is (reverse frames) → Is f
is-last Is frames rest f e begins = subst (BeginsWith Is) (ap reverse e ∙ reverse-push rest f) begins

-- closing a choice of so many
pub closed-plain : (db : Database) (s : State) (rest frames : List Frame) (n : ℕ) → s.frames ≡ rest ++ Plain n ∷ [] → 1 < n → frames ≡ rest ++ Plain (n - 1) ∷ [] →
    cases_of db s ≡ Choice [] ∷ cases_of db (record s { frames = frames })
closed-plain db s rest frames n e lt e' =
    popped-cases db s rest (Plain n) e
    ∙ plain-more (n - 1) n (cases_of db (record s { frames = rest })) (omega (arith, lt))
    ∙ ap (λ cs. Choice [] ∷ cs) (sym (popped-cases db (record s { frames = frames }) rest (Plain (n - 1)) e'))

pub closed-last : (db : Database) (s : State) (rest : List Frame) (n : ℕ) → s.frames ≡ rest ++ Plain n ∷ [] → n ≡ 1 →
    cases_of db s ≡ Choice [] ∷ cases_of db (record s { frames = rest })
closed-last db s rest n e one = popped-cases db s rest (Plain n) e ∙ ap (λ i. plain i (cases_of db (record s { frames = rest }))) one

-- a smaller choice in place of one
pub smaller-stack : (s : State) (d : ℕ) (rest frames : List Frame) (n : ℕ) → s.frames ≡ rest ++ Plain n ∷ [] → 1 < n → frames ≡ rest ++ Plain (n - 1) ∷ [] → IsStack s d → IsStack (record s { frames = frames; goals = alone 0 }) (d - 1)
smaller-stack s d rest frames n e lt e' is =
    let p = popped-stack s d rest (Plain n) e is (λ i. i) in
    let q = popped-frames s d rest (Plain n) e is in
    let o = opened-state (record s { frames = rest; goals = alone 0 }) (d - n) frames (Plain (n - 1)) e' p (omega (arith, lt)) (λ i. i) tt in
    (o.0, omega (arith, o.1, q.2, lt))

-- so many more in the newest frame
pub plain-plus : (m n : ℕ) (below : List Case) → plain m (plain n below) ≡ plain (m + n) below
plain-plus zero n below = ap (λ i. plain i below) (omega arith)
plain-plus (suc m) n below =
    let e : suc (m + n) ≡ suc m + n = omega arith in
    ap (λ cs. Choice [] ∷ cs) (plain-plus m n below) ∙ ap (λ i. plain i below) e

choices-plus : (m n : ℕ) (below : List Sort) → choices (m + n) below ≡ choices n (choices m below)
choices-plus m zero below = ap (λ i. choices i below) (omega arith)
choices-plus m (suc n) below =
    let e : m + suc n ≡ suc (m + n) = omega arith in
    ap (λ i. choices i below) e ∙ ap (λ ks. Choosing ∷ ks) (choices-plus m n below)

pub counts-in-place : (rest old new : List Frame) (m n : ℕ) → old ≡ rest ++ Plain m ∷ [] → new ≡ rest ++ Plain (m + n) ∷ [] → CountsUp n (reverse old) (reverse new)
counts-in-place rest old new m n was is =
    let before : reverse old ≡ Plain m ∷ reverse rest = ap reverse was ∙ reverse-push rest (Plain m) in
    let after : reverse new ≡ Plain (m + n) ∷ reverse rest = ap reverse is ∙ reverse-push rest (Plain (m + n)) in
    rw (before, after) (record {
      cases = λ db code e links saved. ap (λ k. plain k (cases db code e links saved (reverse rest))) (omega arith) ∙ sym (plain-plus n m (cases db code e links saved (reverse rest)));
      frames = λ code e links saved a. (omega (arith, a.0), a.1);
      older = λ m o. o;
      depth = omega arith;
      kinds = choices-plus m n (kinds_of (reverse rest));
      seen = λ ss g a. (tt, a.1);
      walks = refl;
    })

pub set-last : (frames rest : List Frame) (f g : Frame) (n : ℕ) → frames ≡ rest ++ f ∷ [] → n ≡ length frames → slice_set frames (n - 1) g ≡ rest ++ g ∷ []
set-last frames rest f g n e many =
    let at : n - 1 ≡ length rest = omega (arith, many, ap length e, length-append rest (f ∷ [])) in
    ap₂ (λ fs i. slice_set fs i g) e at ∙ set-append_seam rest f [] g

pub get-last : (frames rest : List Frame) (f d : Frame) (n : ℕ) → frames ≡ rest ++ f ∷ [] → n ≡ length frames → get_or frames (n - 1) d ≡ f
get-last frames rest f d n e many =
    let at : n - 1 ≡ length rest = omega (arith, many, ap length e, length-append rest (f ∷ [])) in
    ap₂ (λ fs i. get_or fs i d) e at ∙ get_or-append_seam rest f [] d

-- the newest frame is changed in place
pub changed-last : (frames rest : List Frame) (old new f g : Frame) (n : ℕ) → frames ≡ rest ++ old ∷ [] → n ≡ length frames → f ≡ get_or frames (n - 1) f → (f ≡ old → g ≡ new) → slice_set frames (n - 1) g ≡ rest ++ new ∷ []
changed-last frames rest old new f g n top many is becomes = set-last frames rest old g n top many ∙ ap (λ x. rest ++ x ∷ []) (becomes (is ∙ get-last frames rest old f n top many))

pub counts-new : (old new : List Frame) (n : ℕ) → 0 < n → new ≡ old ++ Plain n ∷ [] → CountsUp n (reverse old) (reverse new)
counts-new old new n some is =
    let after : reverse new ≡ Plain n ∷ reverse old = ap reverse is ∙ reverse-push old (Plain n) in
    rw after (record {
      cases = λ db code e links saved. refl;
      frames = λ code e links saved a. (some, a);
      older = λ m o. o;
      depth = omega arith;
      kinds = refl;
      seen = λ ss g a. (tt, a);
      walks = refl;
    })
