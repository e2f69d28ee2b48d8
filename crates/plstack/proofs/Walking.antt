-- Walks over clauses: they are opened, gone back to, tried and moved on.
use Rattle.std.proofs.Common.{◌≡◌, ℕ, ◌+◌, List, [], ◌∷◌, ◌++◌, take, filter_map, option_map, refl, sym, ap, ap₂, ◌∙◌, subst, arith, reverse, append-nil, Option, Some, None, inr}
use Rattle.std.specs.List.{cons_option}
use Rattle.plterm.specs.Tree.{Tree}
use Rattle.plsubst.specs.Subst.{bind, shift}
use Rattle.plsubst.specs.Unify.{unify}
use Rattle.platoms.proofs.Extending.{Extends-trans as extends-names}
use Rattle.plclause.specs.Clause.{Clause}
use Rattle.plcells.specs.declared.cell.Cell.{Cell}
use Rattle.plcells.specs.Store.{IsValue, value}
use Rattle.plsearch.specs.Types.{Element, Resolvent, Choice}
use Rattle.plsearch.specs.Lists.{bind_goals}
use Rattle.plsearch.specs.Moves.{before_rest, is_true, resolve}
use Rattle.plsearch.specs.Engine.{deeper}
use Rattle.plenv.specs.declared.slot.Mark.{Mark}
use Rattle.plenv.specs.Env.{Env, IsEnv, IsMark, cut, renamed}
use Rattle.plenv.specs.Changes.{Keeps}
use Rattle.pllinks.specs.declared.link.Link.{Link}
use Rattle.pllinks.specs.declared.link.Continuation.{Continuation}
use Rattle.pllinks.specs.Lists.{all_elements}
use Rattle.pllinks.specs.Links.{alone, items_of, IsChain}
use Rattle.plstack.specs.declared.walk.Candidate.{Candidate}
use Rattle.plstack.specs.declared.frame.Point.{Point}
use Rattle.plstack.specs.declared.frame.Walk.{Walk}
use Rattle.plstack.specs.declared.frame.Spot.{Spot}
use Rattle.plstack.specs.declared.frame.Resume.TheVariants as resumes
use Rattle.plstack.specs.declared.frame.Frame.{Frame}
use Rattle.plstack.specs.declared.frame.Frame.TheVariants.{Open}
use Rattle.plstack.specs.Places.{Database, clause_by, place_asked, tried, candidates_left, left_at, left_if}
use Rattle.plstack.specs.Frames.{IsOpen, IsSpotSeen, AreOlder}
use Rattle.plstack.specs.Levels.{Choosing, kinds_of, Precedes}
use Rattle.plstack.specs.State.{State, IsStack, goals_in, goals_of, place_of, cases_of, depth_in, kinds_in, IsFit, IsList, CountsUp, RetriesBy}
use Rattle.plstack.specs.Calls.{Goes}
use Rattle.plstack.specs.Cutting.{Settles}
use Rattle.plstack.specs.Opening.{OpensFrame}
use Rattle.plstack.specs.Trials.{ComesBack}
use Rattle.plstack.specs.Walks.{IsWalking, AtWalk, OpensWalk, goal_at, walk_left, GoesOn, EndsPlain, Finds, FitsCall, LeftSame}
use Rattle.plstack.proofs.Naming.{first-precedes, kinds-length}
use Rattle.plstack.proofs.Renaming.{stays, candidates-renamed}
use Rattle.plstack.proofs.Frames.{items-more, reverse-push}
use Rattle.plstack.proofs.Growing.{cases-grown, frames-grown}
use Rattle.plstack.proofs.Found.{renamed-kept}
use Rattle.plstack.proofs.Reopening.{unchanged-extends}
use Rattle.plstack.proofs.Returning.{at-frame, back-list}
use Rattle.plstack.proofs.Rewinding.{rewound-stack, rewound-cases, now}
use Rattle.plstack.proofs.Replacing.{taken-cases, other-stack, other-cases, none-stack, none-cases, none-older}

-- what was changed since a mark of then is given back, but for names
module _ (e after : Env) (m : Mark) (then : Env) (mark : IsMark m e) (same : cut m e ≡ e) (kept : Keeps e after) (back : then ≡ cut m after) where
  then-is : then ≡ renamed e after.heap.names
  then-is = back ∙ kept.kept m mark.within ∙ ap (λ x. renamed x after.heap.names) same

  pub undone : (then ≡ renamed e then.heap.names) × Keeps e then
  undone = (
    then-is ∙ ap (renamed e) (sym (ap (λ (x : Env). x.heap.names) then-is)),
    subst (Keeps e) (sym then-is) (renamed-kept e after.heap.names kept.names),
  )

pub undone-back : (e after : Env) (m : Mark) (then : Env) (links : List Link) → IsMark m e → cut m e ≡ e → Keeps e after → then ≡ cut m after → ComesBack e then links links
undone-back e after m then links mark same kept back =
    let u = undone e after m then mark same kept back in
    record { env = u.0; names = u.1.names; same = refl }

-- ---- opening

pub opens_walk : (s new : State) (w : Walk) (rest : Continuation) → IsValue s.env.heap w.goal → IsList s rest → OpensFrame s new rest (resumes.Walk w) → OpensWalk s new w rest
opens_walk s new w rest goal there o = record {
  cases = λ db.
      o.cases db
      ∙ ap₂ (λ t n. Choice (filter_map (tried (deeper (cases_of db s) 0) n t (goals_of new rest)) (left_at db w.uses t w.spot)) ∷ cases_of db s) (o.keeps.values w.goal goal).1 o.keeps.count
      ∙ ap (λ es. Choice (candidates_left (deeper (cases_of db s) 0) s.env (value s.env.heap w.goal) es (left_at db w.uses (value s.env.heap w.goal) w.spot)) ∷ cases_of db s) (o.keeps.lists rest there).1;
  basis = o.keeps.basis;
  walks = o.walks;
}

-- ---- going back

module _ (s : State) (d : ℕ) (is : IsStack s d) (rest : List Frame) (p : Point) (w : Walk) (popped : s.frames ≡ rest ++ Open p (resumes.Walk w) ∷ []) where
  none-kept : p.marks.saved + 0 ≡ p.marks.saved
  none-kept = omega arith

  abbrev pub gone : State
  gone = record { basis = s.basis; env = cut p.marks.env s.env; links = take p.marks.links s.links; saved = take p.marks.saved s.saved; frames = s.frames; goals = alone 0 }

  pub gone-stack : IsStack gone d
  gone-stack = subst (λ n. IsStack (record { basis = s.basis; env = cut p.marks.env s.env; links = take p.marks.links s.links; saved = take n s.saved; frames = s.frames; goals = alone 0 }) d) none-kept (rewound-stack s d is rest p (resumes.Walk w) popped (λ i. i))

  pub gone-cases : (db : Database) → cases_of db gone ≡ cases_of db s
  gone-cases db = ap (λ n. cases_of db (record { basis = s.basis; env = cut p.marks.env s.env; links = take p.marks.links s.links; saved = take n s.saved; frames = s.frames; goals = alone 0 })) (sym none-kept) ∙ rewound-cases s d is rest p (resumes.Walk w) popped db

  pub gone-at : AtWalk gone p w
  gone-at = record {
    walking = record { rest = rest; top = popped };
    now = now s d is rest p (resumes.Walk w) popped;
    list = let l = back-list s d is rest p (resumes.Walk w) popped in record { there = l.there; items = l.items };
    goal = (at-frame s d is rest p (resumes.Walk w) popped).resume;
  }

-- ---- going on

-- the newest frame, which is a walk, was taken off
module _ (s : State) (d : ℕ) (is : IsStack s d) (p : Point) (w : Walk) (walking : IsWalking s p w) (rest : List Frame) (f : Frame) (taken : s.frames ≡ rest ++ f ∷ []) where
  -- it stands at another spot
  module _ (spot : Spot) (seen : IsSpotSeen s.basis.latest spot) (frames : List Frame) (pushed : frames ≡ rest ++ Open p (resumes.Walk (record { goal = w.goal; uses = w.uses; spot = spot })) ∷ []) where
    abbrev w' : Walk
    w' = record { goal = w.goal; uses = w.uses; spot = spot }

    pub replaced-stack : IsStack (record s { frames = frames }) d
    replaced-stack = other-stack s d is p (resumes.Walk w) walking.rest walking.top rest f taken (resumes.Walk w') refl refl refl (λ fits. fits) seen frames pushed

    pub replaced : (db : Database) → GoesOn db s (record s { frames = frames }) p w (Some spot)
    replaced db = record {
      below = cases_of db (record s { frames = rest });
      was = taken-cases s d is p (resumes.Walk w) walking.rest walking.top rest f taken db;
      cases = other-cases s d is p (resumes.Walk w) walking.rest walking.top rest f taken (resumes.Walk w') refl refl refl (λ fits. fits) seen frames pushed db;
    }

  -- nothing is left
  module _ (frames : List Frame) (up : CountsUp 1 (reverse rest) (reverse frames)) where
    pub emptied-stack : IsStack (record s { frames = frames }) d
    emptied-stack = none-stack s d is p (resumes.Walk w) walking.rest walking.top rest f taken frames up refl

    pub emptied : (db : Database) → GoesOn db s (record s { frames = frames }) p w None
    emptied db = record {
      below = cases_of db (record s { frames = rest });
      was = taken-cases s d is p (resumes.Walk w) walking.rest walking.top rest f taken db;
      cases = none-cases s d is p (resumes.Walk w) walking.rest walking.top rest f taken frames up db;
    }

    pub emptied-older : AreOlder p.marks (reverse frames)
    emptied-older = none-older s d is p (resumes.Walk w) walking.rest walking.top rest f taken frames up

pub goes_settled : (db : Database) (s mid new : State) (p : Point) (w : Walk) (next : Option Spot) → GoesOn db s mid p w next → Settles mid new → GoesOn db s new p w next
goes_settled db s mid new p w next g y = record { below = g.below; was = g.was; cases = y.cases db ∙ g.cases }

-- ---- a clause that fits

-- the environment and the links have changed, and a list is visited
module _ (s : State) (d : ℕ) (is : IsStack s d) (p : Point) (w : Walk) (at : AtWalk s p w) (e : Env) (ls : List Link) (goes : Goes s (record s { env = e; links = ls })) where
  the-frame : IsOpen (goals_in s) s.env s.links s.saved p (resumes.Walk w) (reverse at.walking.rest)
  the-frame = at-frame s d is at.walking.rest p (resumes.Walk w) at.walking.top

  pub then-cut : cut p.marks.env e ≡ renamed s.env e.heap.names
  then-cut = goes.keeps.kept p.marks.env the-frame.mark.within ∙ ap (λ x. renamed x e.heap.names) at.now

  same-items : items_of ls p.list ≡ items_of s.links p.list
  same-items = ap (λ ks. items_of ks p.list) goes.links ∙ items-more s.links goes.more p.list at.list.there

  -- what is left of the walk is what was
  pub left-kept : (k : ℕ) (xs : Tree → List Candidate) → walk_left (record s { env = e; links = ls }) k p w (xs (goal_at (record s { env = e; links = ls }) p w)) ≡ walk_left s k p w (xs (goal_at s p w))
  left-kept k xs =
      ap₂ (λ (x : Env) is. candidates_left k x (value x.heap w.goal) (all_elements (goals_in s) x is) (xs (value x.heap w.goal))) then-cut same-items
      ∙ candidates-renamed s.env e.heap.names is.0.env goes.env.heap.names goes.keeps.names (goals_in s) (items_of s.links p.list) at.list.items k _ _ xs ((stays s.env e.heap.names is.0.env goes.env.heap.names goes.keeps.names).values w.goal at.goal).1
      ∙ ap (λ (x : Env). candidates_left k x (value x.heap w.goal) (all_elements (goals_in s) x (items_of s.links p.list)) (xs (value x.heap w.goal))) (sym at.now)

  pub fitted-cases : (db : Database) → cases_of db (record s { env = e; links = ls }) ≡ cases_of db s
  unfolding cases_of
  fitted-cases db = cases-grown (goals_in s) s.env e s.links ls goes.more s.saved goes.links goes.keeps goes.env.heap.names db (reverse s.frames) is.0.frames

  pub fitted-stack : (list : Continuation) → IsList (record s { env = e; links = ls; goals = list }) list → IsFit (record s { env = e; links = ls; goals = list }) list → IsStack (record s { env = e; links = ls; goals = list }) d
  fitted-stack list there fits = (
    record {
      env = goes.env;
      names = extends-names s.basis.code.text.names s.env.heap.names e.heap.names is.0.names goes.keeps.names;
      none = is.0.none;
      chain = goes.chain;
      frames = frames-grown (goals_in s) s.env e s.links ls goes.more s.saved goes.links goes.keeps goes.env.heap.names (reverse s.frames) is.0.frames;
      seen = is.0.seen;
      goals = record { there = there.there; items = there.items };
      fits = inr fits;
    },
    is.1,
  )

-- ---- trying

module _ (d n : ℕ) (t : Tree) (es : List Element) (x : Candidate) (xs : List Candidate) where
  -- a candidate whose clause does not unify is passed over
  pub passed : unify t (shift n (clause_by x.uses x.clause).head) ≡ None → filter_map (tried d n t es) (x ∷ xs) ≡ filter_map (tried d n t es) xs
  passed e =
      ap (λ o. cons_option (option_map (place_asked x.erased) (option_map (λ (σ : ℕ → Tree). record { goals = before_rest (is_true (clause_by x.uses x.clause).body) d (bind σ (shift n (clause_by x.uses x.clause).body)) (bind_goals σ es); variables = n + (clause_by x.uses x.clause).variables }) o)) (filter_map (tried d n t es) xs)) e

  pub taken : (q : Resolvent) → resolve d n t es (clause_by x.uses x.clause) ≡ Some q → filter_map (tried d n t es) (x ∷ xs) ≡ place_asked x.erased q ∷ filter_map (tried d n t es) xs
  taken q e = ap (λ o. cons_option (option_map (place_asked x.erased) o) (filter_map (tried d n t es) xs)) e

-- what was left of a walk where all is as it was at its opening
at-left : (s : State) (p : Point) (w : Walk) (k : ℕ) → cut p.marks.env s.env ≡ s.env → (xs : Tree → List Candidate) →
    walk_left s k p w (xs (goal_at s p w)) ≡ filter_map (tried k s.env.count (value s.env.heap w.goal) (goals_of s p.list)) (xs (value s.env.heap w.goal))
at-left s p w k now xs = ap (λ (x : Env). candidates_left k x (value x.heap w.goal) (all_elements (goals_in s) x (items_of s.links p.list)) (xs (value x.heap w.goal))) now

-- the walk went on from where all is as it was at its opening
module _ (db : Database) (s mid new : State) (p : Point) (w : Walk) (at : AtWalk s p w) (same : cases_of db mid ≡ cases_of db s)
    (kept : (k : ℕ) (xs : Tree → List Candidate) → walk_left mid k p w (xs (goal_at mid p w)) ≡ walk_left s k p w (xs (goal_at s p w)))
    (x : Candidate) (next : Option Spot) (goes : GoesOn db mid new p w next) (finds : Finds db w (value s.env.heap w.goal) x next) where
  abbrev t : Tree
  t = value s.env.heap w.goal

  abbrev k : ℕ
  k = deeper goes.below 0

  abbrev others : List Resolvent
  others = filter_map (tried k s.env.count t (goals_of s p.list)) (left_if db w.uses t next)

  pub was-left : cases_of db s ≡ Choice (filter_map (tried k s.env.count t (goals_of s p.list)) (x ∷ left_if db w.uses t next)) ∷ goes.below
  was-left =
      sym same ∙ goes.was
      ∙ ap (λ ps. Choice ps ∷ goes.below) (kept k (λ g. left_at db w.uses g w.spot) ∙ at-left s p w k at.now (λ g. left_at db w.uses g w.spot) ∙ finds k s.env.count (goals_of s p.list))

  pub is-left : cases_of db new ≡ Choice others ∷ goes.below
  is-left = goes.cases ∙ ap (λ ps. Choice ps ∷ goes.below) (kept k (λ g. left_if db w.uses g next) ∙ at-left s p w k at.now (λ g. left_if db w.uses g next))

  -- the clause does not fit
  pub went-past : unify t (shift s.env.count (clause_by x.uses x.clause).head) ≡ None → cases_of db new ≡ cases_of db s
  went-past e =
      is-left
      ∙ ap (λ ps. Choice ps ∷ goes.below) (sym (passed k s.env.count t (goals_of s p.list) x (left_if db w.uses t next) e))
      ∙ sym was-left

  -- it does, and its place is visited
  pub went-in : resolve k s.env.count t (goals_of s p.list) (clause_by x.uses x.clause) ≡ Some (place_of mid) → place_of new ≡ place_of mid → RetriesBy db s new x.erased
  went-in e place = record {
    others = others;
    older = goes.below;
    was =
        was-left
        ∙ ap (λ ps. Choice ps ∷ goes.below) (taken k s.env.count t (goals_of s p.list) x (left_if db w.uses t next) (place_of mid) e)
        ∙ ap (λ q. Choice (place_asked x.erased q ∷ others) ∷ goes.below) (sym place);
    cases = is-left;
  }

-- a spot that is there is the one
pub same-spot : (x y : Spot) → Some x ≡ Some y → x ≡ y
same-spot x y e = cc

-- ---- where a walk is tried

-- what a clause that fits changes
pub fits-goes : (s : State) (e : Env) (ls : List Link) (list : Continuation) (d : ℕ) (goal : Cell) (rest : Continuation) (x : Clause) → FitsCall s (record s { env = e; links = ls; goals = list }) d goal rest x → Goes s (record s { env = e; links = ls })
fits-goes s e ls list d goal rest x f = record { keeps = f.goes.keeps; env = f.goes.env; more = f.goes.more; links = f.goes.links; chain = f.goes.chain }

module _ (s : State) (d : ℕ) (is : IsStack s d) (p : Point) (w : Walk) (at : AtWalk s p w) where
  pub walk-precedes : (k : ℕ) → depth_in s ≡ k + 1 → Precedes (kinds_in s) k (goals_of s p.list)
  walk-precedes k level =
      let kinds : kinds_in s ≡ Choosing ∷ kinds_of (reverse at.walking.rest) = ap (λ fs. kinds_of (reverse fs)) at.walking.top ∙ ap kinds_of (reverse-push at.walking.rest (Open p (resumes.Walk w))) in
      first-precedes (kinds_in s) (kinds_of (reverse at.walking.rest)) k (goals_of s p.list) kinds (kinds-length (reverse s.frames) ∙ level) (at-frame s d is at.walking.rest p (resumes.Walk w) at.walking.top).fits

  pub mark-there : IsMark p.marks.env s.env
  mark-there = (at-frame s d is at.walking.rest p (resumes.Walk w) at.walking.top).mark

  module _ (e : Env) (ls : List Link) (env : IsEnv e) (b : ComesBack s.env e s.links ls) where
    -- all is as it was but for more names
    pub back-goes : Goes s (record s { env = e; links = ls })
    back-goes = record {
      keeps = subst (Keeps s.env) (sym b.env) (renamed-kept s.env e.heap.names b.names);
      env = env;
      more = [];
      links = b.same ∙ sym (append-nil s.links);
      chain = subst IsChain (sym b.same) is.0.chain;
    }

    pub back-at : AtWalk (record s { env = e; links = ls }) p w
    back-at =
        let x = unchanged-extends s d is e ls env b in
        let kept : cut p.marks.env e ≡ e = then-cut s d is p w at e ls back-goes ∙ sym b.env in
        record {
          walking = record { rest = at.walking.rest; top = at.walking.top };
          now = kept;
          list = let l = (x.lists p.list at.list).0 in record { there = l.there; items = l.items };
          goal = (x.values w.goal at.goal).0;
        }

    pub back-value : value e.heap w.goal ≡ value s.env.heap w.goal
    back-value = ((unchanged-extends s d is e ls env b).values w.goal at.goal).1

-- what is left of a walk is what was, whatever list is visited
pub left-same : (s : State) (d : ℕ) (is : IsStack s d) (p : Point) (w : Walk) (at : AtWalk s p w) (e : Env) (ls : List Link) (list : Continuation) → Goes s (record s { env = e; links = ls }) → LeftSame s (record s { env = e; links = ls; goals = list }) p w
left-same s d is p w at e ls list goes = record {
  walking = record { rest = at.walking.rest; top = at.walking.top };
  left = λ k xs. left-kept s d is p w at e ls goes k xs;
}

pub listed-cases : (db : Database) (s : State) (e : Env) (ls : List Link) (list : Continuation) → cases_of db (record s { env = e; links = ls; goals = list }) ≡ cases_of db (record s { env = e; links = ls })
unfolding cases_of
listed-cases db s e ls list = refl

-- where nothing is left of a walk, it is a choice with nothing left
pub plain-end : (db : Database) (mid new : State) (p : Point) (w : Walk) (next : Option Spot) → next ≡ None → GoesOn db mid new p w next → EndsPlain db new
plain-end db mid new p w next none goes = record {
  below = goes.below;
  cases = goes.cases ∙ ap (λ (n : Option Spot). Choice (walk_left mid (deeper goes.below 0) p w (left_if db w.uses (goal_at mid p w) n)) ∷ goes.below) none;
}

-- where it stands at another spot, all else is as it was
pub at-framed : (mid new : State) (p : Point) (w : Walk) (spot : Spot) → new ≡ record mid { frames = new.frames } → IsWalking new p (record w { spot = spot }) → AtWalk mid p w → AtWalk new p (record w { spot = spot })
at-framed mid new p w spot same walking at = record {
  walking = walking;
  now = let e : new.env ≡ mid.env = ap (λ (x : State). x.env) same in ap (cut p.marks.env) e ∙ at.now ∙ sym e;
  list = subst (λ (x : State). IsList x p.list) (sym same) (record { there = at.list.there; items = at.list.items });
  goal = subst (λ (x : State). IsValue x.env.heap w.goal) (sym same) at.goal;
}

pub value-framed : (mid new : State) (v : Cell) → new ≡ record mid { frames = new.frames } → value new.env.heap v ≡ value mid.env.heap v
value-framed mid new v same = ap (λ (x : State). value x.env.heap v) same

-- the place of a clause that fits, by its level
pub fitted-at : (s mid : State) (p : Point) (w : Walk) (d k : ℕ) → d ≡ k → (x : Clause) → resolve d s.env.count (value s.env.heap w.goal) (goals_of s p.list) x ≡ Some (place_of mid) →
    resolve k s.env.count (value s.env.heap w.goal) (goals_of s p.list) x ≡ Some (place_of mid)
fitted-at s mid p w d k same x e = subst (λ n. resolve n s.env.count (value s.env.heap w.goal) (goals_of s p.list) x ≡ Some (place_of mid)) same e

-- the newest frame is one walk
same-top : (s : State) (p q : Point) (w u : Walk) → IsWalking s p w → IsWalking s q u → (p ≡ q) × (w ≡ u)
same-top s p q w u a b =
    let e : Open p (resumes.Walk w) ∷ reverse a.rest ≡ Open q (resumes.Walk u) ∷ reverse b.rest =
    sym (ap reverse a.top ∙ reverse-push a.rest (Open p (resumes.Walk w))) ∙ ap reverse b.top ∙ reverse-push b.rest (Open q (resumes.Walk u)) in (cc, cc)

pub same-walking : (s : State) (p q : Point) (w u : Walk) → IsWalking s p w → IsWalking s q u → w ≡ u
same-walking s p q w u a b = (same-top s p q w u a b).1

pub at-walking : (s : State) (p q : Point) (w u : Walk) → AtWalk s p w → IsWalking s q u → AtWalk s q u
at-walking s p q w u at on =
    let same = same-top s p q w u at.walking on in
    record {
      walking = on;
      now = subst (λ (z : Point). cut z.marks.env s.env ≡ s.env) same.0 at.now;
      list = subst (λ (z : Point). IsList s z.list) same.0 at.list;
      goal = subst (λ (z : Walk). IsValue s.env.heap z.goal) same.1 at.goal;
    }

-- what is said of it is said of each that it is
pub each-walk : (T : Point → Walk → Type 0) (s : State) (q : Point) (u : Walk) → IsWalking s q u → (AtWalk s q u → T q u) → (p : Point) (w : Walk) → AtWalk s p w → T p w
each-walk T s q u on f p w at =
    let same = same-top s p q w u at.walking on in
    subst (λ (x : Point). T x w) (sym same.0) (subst (λ (y : Walk). T q y) (sym same.1) (f (at-walking s p q w u at on)))
