-- A walk in a view that goes on among own clauses.
use Rattle.std.proofs.Common.{◌≡◌, ◌<◌, ℕ, suc, List, [], length, Option, Some, None, refl, sym, ap, ◌∙◌, subst, arith}
use Rattle.plterm.specs.Tree.{Tree}
use Rattle.plcells.specs.Store.{value}
use Rattle.plclause.specs.Clause.{Clause}
use Rattle.plevent.specs.declared.update.ClauseName.{ClauseName}
use Rattle.plevent.specs.declared.update.Update.{Update}
use Rattle.plevent.specs.Alive.{lives_as}
use Rattle.plprogram.specs.Program.{Program}
use Rattle.plstore.specs.declared.query.Query.{Query}
use Rattle.plrecords.specs.declared.record.Cursor.{Cursor}
use Rattle.plstore.specs.Looking.{Views}
use Rattle.plviews.specs.declared.lookup.Reach.{Reach}
use Rattle.plviews.specs.declared.lookup.Reach.TheVariants as reaches
use Rattle.plviews.specs.declared.lookup.Step.{Step}
use Rattle.plviews.specs.declared.lookup.Step.TheVariants as steps
use Rattle.plviews.specs.declared.view.View.{View}
use Rattle.plviews.specs.Views.{AreOrdered}
use Rattle.plstack.specs.Basis.{Basis, IsShown}
use Rattle.plstack.specs.Frames.{IsLeftSeen, IsSpotSeen}
use Rattle.plstack.specs.declared.frame.Ahead.{Ahead}
use Rattle.plstack.specs.declared.frame.Point.{Point}
use Rattle.plstack.specs.declared.frame.Spot.{Spot}
use Rattle.plstack.specs.declared.frame.Spot.TheVariants as spots
use Rattle.plstack.specs.declared.frame.Walk.{Walk}
use Rattle.plstack.specs.declared.walk.Candidate.{Candidate}
use Rattle.plstack.specs.declared.walk.Walking.{Walking}
use Rattle.plstack.specs.Places.{Database, candidate_of, head_in, viewed}
use Rattle.plstack.specs.State.{State}
use Rattle.plstack.specs.StaticCalls.{database_of}
use Rattle.plstack.specs.Walks.{AtWalk, EndsPlain, Finds, GoesOn, IsWalking}
use Rattle.plmachine.specs.declared.machine.Machine.{Machine as Reached}
use Rattle.plmachine.specs.declared.machine.Outcome.TheVariants as outcomes
use Rattle.plmachine.specs.declared.machine.Mode.TheVariants as modes
use Rattle.plsolver.specs.Fetching.{like, spot_ahead, spot_behind, ComesToJournal, SpotAsks}
use Rattle.plsolver.specs.Going.{goes_left, head_at, own_behind, walked_on, GoesOnTo, HasEnded, IsInView, IsToAsk, LooksBehind, SameCases, WalkedTo}
use Rattle.plsolver.specs.Knowing.{Holds, Steps, Tells}
use Rattle.plsolver.proofs.Behind.{behind-left, clause-found, gone-left, looks-elim, SameLeft}
use Rattle.plsolver.proofs.Trying.{last-ends, same-cases}

-- the same machine over another stack
abbrev pub over : Reached → State → Reached
over s st = record s { stack = st }

-- a walk at another spot
abbrev pub moved : Walking → Spot → Walking
moved at x = record at { walk = record at.walk { spot = x } }

-- ---- how often it goes on

module _ (own : List Update) (h : Tree) (g : View) where
  next-fewer : (r q : Reach) (x : ClauseName) → Tells own h g r (steps.Next x q) → own_behind own h g r ≡ suc (own_behind own h g q)
  next-fewer r q x tells = let b = tells [] tt tt in ap length b.whole

  some-is : {y z : Spot} → Some y ≡ Some z → y ≡ z
  some-is e = cc

  -- where own updates tell what comes next, it comes nearer to the end
  pub behind-fewer : (spot new : Spot) (r : Reach) (step : Step) → LooksBehind spot g r → Tells own h g r step → ((c : Cursor) → step ≡ steps.Asks c → ⊥) → spot_behind spot step ≡ Some new → goes_left own h new < goes_left own h spot
  behind-fewer spot new r step looks tells asks is = looks-elim (λ z. spot_behind z step ≡ Some new → goes_left own h new < goes_left own h z) g r spot looks (seeks step tells asks) (λ x. at-clause x step tells asks) is
    where
      seeks : (step : Step) → Tells own h g r step → ((c : Cursor) → step ≡ steps.Asks c → ⊥) → spot_behind (spots.Seek g r) step ≡ Some new → goes_left own h new < goes_left own h (spots.Seek g r)
      seeks (steps.Next x w) tells asks is = subst (λ z. goes_left own h z < goes_left own h (spots.Seek g r)) (some-is is) (let fewer = next-fewer r w x tells in omega (arith, fewer))
      seeks steps.Nothing tells asks is = absurd (cc)
      seeks (steps.Asks c) tells asks is = absurd (asks c refl)

      at-clause : (x : ClauseName) (step : Step) → Tells own h g r step → ((c : Cursor) → step ≡ steps.Asks c → ⊥) → spot_behind (spots.At g x r) step ≡ Some new → goes_left own h new < goes_left own h (spots.At g x r)
      at-clause x (steps.Next y w) tells asks is = subst (λ z. goes_left own h z < goes_left own h (spots.At g x r)) (some-is is) (let fewer = next-fewer r w y tells in omega (arith, fewer))
      at-clause x steps.Nothing tells asks is = subst (λ z. goes_left own h z < goes_left own h (spots.At g x r)) (some-is is) (omega arith)
      at-clause x (steps.Asks c) tells asks is = absurd (asks c refl)

  -- so it does past a clause
  pub ahead-fewer : (spot new : Spot) (x : ClauseName) (y : Option Ahead) → spot ≡ spots.Known g x y → spot_ahead g y ≡ Some new → goes_left own h new < goes_left own h spot
  ahead-fewer spot new x y at is = subst (λ z. goes_left own h new < goes_left own h z) (sym at) (past y is)
    where
      past : (y : Option Ahead) → spot_ahead g y ≡ Some new → goes_left own h new < goes_left own h (spots.Known g x y)
      past None is = absurd (cc)
      past (Some z) is = subst (λ n. goes_left own h n < goes_left own h (spots.Known g x (Some z))) (some-is is) (omega arith)

-- ---- where it is seen, and what it asks

-- a spot in another view
in-view : (b g : View) → b ≡ g → (latest : View) → IsShown b latest → IsShown g latest
in-view b g e latest s = subst (λ v. IsShown v latest) e s

pub looks-viewed : (spot : Spot) (g : View) (r : Reach) → LooksBehind spot g r → IsInView spot
looks-viewed spot g r looks = looks-elim IsInView g r spot looks tt (λ x. tt)

pub known-viewed : (spot : Spot) (g : View) (x : ClauseName) (y : Option Ahead) → spot ≡ spots.Known g x y → IsInView spot
known-viewed spot g x y at = subst IsInView (sym at) tt

pub looks-shown : (latest : View) (spot : Spot) (g : View) (r : Reach) → LooksBehind spot g r → IsSpotSeen latest spot → IsShown g latest
looks-shown latest spot g r looks = looks-elim (λ z. IsSpotSeen latest z → IsShown g latest) g r spot looks (λ s. s) (λ x s. s)

-- at the spot behind a step it goes on in the same view
pub behind-seen : (latest : View) (spot : Spot) (g : View) (r : Reach) (step : Step) → LooksBehind spot g r → IsSpotSeen latest spot → IsLeftSeen latest (spot_behind spot step)
behind-seen latest spot g r step looks = looks-elim (λ z. IsSpotSeen latest z → IsLeftSeen latest (spot_behind z step)) g r spot looks (seeks step) (λ x. at-clause x step)
  where
    seeks : (step : Step) → IsShown g latest → IsLeftSeen latest (spot_behind (spots.Seek g r) step)
    seeks (steps.Next x w) s = s
    seeks steps.Nothing s = tt
    seeks (steps.Asks c) s = s

    at-clause : (x : ClauseName) (step : Step) → IsShown g latest → IsLeftSeen latest (spot_behind (spots.At g x r) step)
    at-clause x (steps.Next y w) s = s
    at-clause x steps.Nothing s = s
    at-clause x (steps.Asks c) s = s

pub behind-viewed : (spot new : Spot) (g : View) (r : Reach) (step : Step) → LooksBehind spot g r → spot_behind spot step ≡ Some new → IsInView new
behind-viewed spot new g r step looks = looks-elim (λ z. spot_behind z step ≡ Some new → IsInView new) g r spot looks (seeks step) (λ x. at-clause x step)
  where
    to-new : {y z : Spot} → Some y ≡ Some z → IsInView y → IsInView z
    to-new e v = let same : _ ≡ _ = some-spot e in subst IsInView same v
      where
        some-spot : {y z : Spot} → Some y ≡ Some z → y ≡ z
        some-spot e = cc

    seeks : (step : Step) → spot_behind (spots.Seek g r) step ≡ Some new → IsInView new
    seeks (steps.Next x w) is = to-new is tt
    seeks steps.Nothing is = absurd (cc)
    seeks (steps.Asks c) is = to-new is tt

    at-clause : (x : ClauseName) (step : Step) → spot_behind (spots.At g x r) step ≡ Some new → IsInView new
    at-clause x (steps.Next y w) is = to-new is tt
    at-clause x steps.Nothing is = to-new is tt
    at-clause x (steps.Asks c) is = to-new is tt

pub ahead-seen : (latest : View) (spot : Spot) (g : View) (x : ClauseName) (y : Option Ahead) → spot ≡ spots.Known g x y → IsSpotSeen latest spot → IsLeftSeen latest (spot_ahead g y)
ahead-seen latest spot g x None at seen = tt
ahead-seen latest spot g x (Some y) at seen = subst (IsSpotSeen latest) at seen

pub ahead-viewed : (g : View) (y : Option Ahead) (new : Spot) → spot_ahead g y ≡ Some new → IsInView new
ahead-viewed g None new is = absurd (cc)
ahead-viewed g (Some y) new is = let same : spots.At g y.name y.reach ≡ new = cc in subst IsInView same tt

-- ---- what it comes to

-- at another spot it stands where it stood
pub at-again : (s st : State) (p : Point) (w : Walk) (x : Spot) → AtWalk s p w → st ≡ record s { frames = st.frames } → IsWalking st p (record w { spot = x }) → AtWalk st p (record w { spot = x })
at-again s st p w x at same walking =
    let there : AtWalk (record s { frames = st.frames }) p (record w { spot = x }) = record { walking = subst (λ z. IsWalking z p (record w { spot = x })) same walking; now = at.now; list = at.list; goal = at.goal } in
    subst (λ z. AtWalk z p (record w { spot = x })) (sym same) there

-- so do its cases, where the same is left of it
module _ (s : Reached) (st : State) (at : Walking) (there : AtWalk s.stack at.point at.walk) where
  pub cases-same : (next : Option Spot) → ((P : Program) (v : Views) → AreOrdered v → SameLeft (database_of P v s.layer.own.updates) at.walk.uses (value s.stack.env.heap at.walk.goal) at.walk.spot next) →
      ((db : Database) → GoesOn db s.stack st at.point at.walk next) → SameCases s (over s st)
  cases-same next left goes P v ordered = same-cases (database_of P v s.layer.own.updates) s.stack st at.point at.walk next there (goes (database_of P v s.layer.own.updates)) (left P v ordered)

  pub cases-ended : ((P : Program) (v : Views) → AreOrdered v → SameLeft (database_of P v s.layer.own.updates) at.walk.uses (value s.stack.env.heap at.walk.goal) at.walk.spot None) →
      ((db : Database) → GoesOn db s.stack st at.point at.walk None) → HasEnded s (over s st)
  cases-ended left goes P v ordered =
      let g = goes (database_of P v s.layer.own.updates) in
      (g.below, sym (cases-same None left goes P v ordered) ∙ g.cases, g.cases)

  -- it goes on in a view
  pub goes-on : (x : Spot) → SameCases s (over s st) → st.basis ≡ s.stack.basis → AtWalk st at.point (record at.walk { spot = x }) → value st.env.heap at.walk.goal ≡ value s.stack.env.heap at.walk.goal → IsSpotSeen s.stack.basis.latest x → IsInView x →
      goes_left s.layer.own.updates (head_at s at.walk) x < goes_left s.layer.own.updates (head_at s at.walk) at.walk.spot → GoesOnTo s (over s st) at (moved at x)
  goes-on x cases basis walking same seen viewed fewer = record {
    same = cases;
    walking = walking;
    seen = subst (λ (b : Basis). IsSpotSeen b.latest x) (sym basis) seen;
    viewed = viewed;
    fewer = subst (λ t. goes_left s.layer.own.updates (head_in at.walk.uses t) x < goes_left s.layer.own.updates (head_at s at.walk) at.walk.spot) (sym same) fewer;
  }

-- ---- by a step

module _ (s : Reached) (st : State) (at : Walking) (there : AtWalk s.stack at.point at.walk) (g : View) (r : Reach) (looks : LooksBehind at.walk.spot g r) (step : Step) (steps_are : Steps s.layer.own.updates (head_at s at.walk) g r step) where
  left-behind : (P : Program) (v : Views) → AreOrdered v → SameLeft (database_of P v s.layer.own.updates) at.walk.uses (value s.stack.env.heap at.walk.goal) at.walk.spot (spot_behind at.walk.spot step)
  left-behind P v ordered = behind-left (database_of P v s.layer.own.updates) at.walk.uses (value s.stack.env.heap at.walk.goal) g at.walk.spot r step looks (steps_are.tells (v g.place) (ordered.ordered g.place) (ordered.under g.place))

  pub walks-behind : (x : Spot) → spot_behind at.walk.spot step ≡ Some x → ((c : Cursor) → step ≡ steps.Asks c → ⊥) → IsSpotSeen s.stack.basis.latest at.walk.spot → ((db : Database) → GoesOn db s.stack st at.point at.walk (Some x)) →
      st ≡ record s.stack { frames = st.frames } → IsWalking st at.point (record at.walk { spot = x }) → GoesOnTo s (over s st) at (moved at x)
  walks-behind x is asks seen goes same walking =
      goes-on s st at there x (cases-same s st at there (Some x) (λ P v ordered. subst (SameLeft (database_of P v s.layer.own.updates) at.walk.uses (value s.stack.env.heap at.walk.goal) at.walk.spot) is (left-behind P v ordered)) goes)
      (ap (λ (z : State). z.basis) same) (at-again s.stack st at.point at.walk x there same walking) (ap (λ (z : State). value z.env.heap at.walk.goal) same)
      (subst (IsLeftSeen s.stack.basis.latest) is (behind-seen s.stack.basis.latest at.walk.spot g r step looks seen))
      (behind-viewed at.walk.spot x g r step looks is)
      (behind-fewer s.layer.own.updates (head_at s at.walk) g at.walk.spot x r step looks steps_are.tells asks is)

  -- the journal is to be asked
  pub asks-behind : (x : Spot) (c : Cursor) → step ≡ steps.Asks c → spot_behind at.walk.spot step ≡ Some x → s.mode ≡ modes.Back outcomes.Fail → ((db : Database) → GoesOn db s.stack st at.point at.walk (Some x)) →
      st ≡ record s.stack { frames = st.frames } → IsWalking st at.point (record at.walk { spot = x }) → SameCases s (over s st) × IsToAsk (over s st)
  asks-behind x c asks is fails goes same walking = (
    cases-same s st at there (Some x) (λ P v ordered. subst (SameLeft (database_of P v s.layer.own.updates) at.walk.uses (value s.stack.env.heap at.walk.goal) at.walk.spot) is (left-behind P v ordered)) goes,
    (
      g.place,
      like (head_at (over s st) at.walk) c,
      record {
        point = at.point;
        walk = record at.walk { spot = x };
        at = at-again s.stack st at.point at.walk x there same walking;
        fails = fails;
        asks = asks-at (subst (λ z. spot_behind at.walk.spot z ≡ Some x) asks is);
      },
    ),
  )
    where
      asks-at : spot_behind at.walk.spot (steps.Asks c) ≡ Some x → SpotAsks s.layer.own.updates (head_at (over s st) at.walk) x g.place (like (head_at (over s st) at.walk) c)
      asks-at = looks-elim (λ z. spot_behind z (steps.Asks c) ≡ Some x → SpotAsks s.layer.own.updates (head_at (over s st) at.walk) x g.place (like (head_at (over s st) at.walk) c)) g r at.walk.spot looks
          (λ e. subst (λ z. SpotAsks s.layer.own.updates (head_at (over s st) at.walk) z g.place (like (head_at (over s st) at.walk) c)) (to-spot e) (refl, refl))
          (λ y e. subst (λ z. SpotAsks s.layer.own.updates (head_at (over s st) at.walk) z g.place (like (head_at (over s st) at.walk) c)) (to-spot e) (refl, refl))
        where
          to-spot : {y z : Spot} → Some y ≡ Some z → y ≡ z
          to-spot e = cc

  -- nothing is left
  pub ends-behind : spot_behind at.walk.spot step ≡ None → ((db : Database) → GoesOn db s.stack st at.point at.walk None) → HasEnded s (over s st)
  ends-behind is goes = cases-ended s st at there (λ P v ordered. subst (SameLeft (database_of P v s.layer.own.updates) at.walk.uses (value s.stack.env.heap at.walk.goal) at.walk.spot) is (left-behind P v ordered)) goes

-- ---- past a clause

module _ (s : Reached) (st : State) (at : Walking) (there : AtWalk s.stack at.point at.walk) (g : View) (x : ClauseName) (y : Option Ahead) (spot : at.walk.spot ≡ spots.Known g x y) where
  pub left-past : Holds s.layer.own.updates g x None → (P : Program) (v : Views) → AreOrdered v → SameLeft (database_of P v s.layer.own.updates) at.walk.uses (value s.stack.env.heap at.walk.goal) at.walk.spot (spot_ahead g y)
  left-past gone P v ordered = gone-left (database_of P v s.layer.own.updates) at.walk.uses (value s.stack.env.heap at.walk.goal) g at.walk.spot x y spot (gone (v g.place) (ordered.ordered g.place) (ordered.under g.place))

  -- it goes on from what is ahead, if there is anything
  pub goes-past : (rest : Option Spot) → rest ≡ spot_ahead g y → SameCases s (over s st) → st.basis ≡ s.stack.basis → IsSpotSeen s.stack.basis.latest at.walk.spot → ((z : Spot) → rest ≡ Some z → AtWalk st at.point (record at.walk { spot = z })) →
      ((z : Spot) → rest ≡ Some z → value st.env.heap at.walk.goal ≡ value s.stack.env.heap at.walk.goal) → (rest ≡ None → HasEnded s (over s st)) → WalkedTo s (over s st) at (walked_on rest)
  goes-past None is cases basis seen walking same ended = ended refl
  goes-past (Some z) is cases basis seen walking same ended =
      goes-on s st at there z cases basis (walking z refl) (same z refl) (subst (IsLeftSeen s.stack.basis.latest) (sym is) (ahead-seen s.stack.basis.latest at.walk.spot g x y spot seen)) (ahead-viewed g y z (sym is))
      (ahead-fewer s.layer.own.updates (head_at s at.walk) g at.walk.spot z x y spot (sym is))

  -- a clause that is not alive
  pub walks-past : (rest : Option Spot) → rest ≡ spot_ahead g y → Holds s.layer.own.updates g x None → IsSpotSeen s.stack.basis.latest at.walk.spot → ((db : Database) → GoesOn db s.stack st at.point at.walk rest) → st.basis ≡ s.stack.basis →
      ((z : Spot) → rest ≡ Some z → st ≡ record s.stack { frames = st.frames }) → ((z : Spot) → rest ≡ Some z → IsWalking st at.point (record at.walk { spot = z })) → WalkedTo s (over s st) at (walked_on rest)
  walks-past rest is gone seen goes basis same walking =
      goes-past rest is (cases-same s st at there rest left goes) basis seen (λ z e. at-again s.stack st at.point at.walk z there (same z e) (walking z e)) (λ z e. ap (λ (z : State). value z.env.heap at.walk.goal) (same z e))
      (λ none. cases-ended s st at there (λ P v ordered. subst (SameLeft (database_of P v s.layer.own.updates) at.walk.uses (value s.stack.env.heap at.walk.goal) at.walk.spot) none (left P v ordered)) (λ db. subst (GoesOn db s.stack st at.point at.walk) none (goes db)))
    where
      left : (P : Program) (v : Views) → AreOrdered v → SameLeft (database_of P v s.layer.own.updates) at.walk.uses (value s.stack.env.heap at.walk.goal) at.walk.spot rest
      left P v ordered = subst (SameLeft (database_of P v s.layer.own.updates) at.walk.uses (value s.stack.env.heap at.walk.goal) at.walk.spot) (sym is) (left-past gone P v ordered)

  -- one that is alive is the next candidate
  pub finds-own : (rest : Option Spot) → rest ≡ spot_ahead g y → (next : Candidate) (c : Clause) → next ≡ candidate_of at.walk.uses (lives_as x c) → Holds s.layer.own.updates g x (Some c) → (P : Program) (v : Views) → AreOrdered v →
      Finds (database_of P v s.layer.own.updates) at.walk (value s.stack.env.heap at.walk.goal) next rest
  finds-own rest is next c next_is alive P v ordered =
      subst (Finds (database_of P v s.layer.own.updates) at.walk (value s.stack.env.heap at.walk.goal) next) (sym is)
      (clause-found (database_of P v s.layer.own.updates) at.walk (value s.stack.env.heap at.walk.goal) g x y c next spot (alive (v g.place) (ordered.ordered g.place) (ordered.under g.place)) next_is)

  -- and does not fit
  pub tries-past : (rest : Option Spot) → rest ≡ spot_ahead g y → SameCases s (over s st) → st.basis ≡ s.stack.basis → IsSpotSeen s.stack.basis.latest at.walk.spot → ((z : Spot) → rest ≡ Some z → AtWalk st at.point (record at.walk { spot = z })) →
      ((z : Spot) → rest ≡ Some z → value st.env.heap at.walk.goal ≡ value s.stack.env.heap at.walk.goal) → (rest ≡ None → (db : Database) → EndsPlain db st) → WalkedTo s (over s st) at (walked_on rest)
  tries-past rest is cases basis seen walking same ends =
      goes-past rest is cases basis seen walking same (λ none P v ordered. last-ends (database_of P v s.layer.own.updates) s.stack st (cases P v ordered) (ends none (database_of P v s.layer.own.updates)))

-- ---- where the journal comes next it is asked, whatever the own updates are

pub journal-asks : (own : List Update) (h : Tree) (x : Spot) → ComesToJournal x → (g : ℕ) × (q : Query) × SpotAsks own h x g q
journal-asks own h (spots.Text k) comes = absurd comes
journal-asks own h (spots.Seek b (reaches.Front c)) comes = absurd comes
journal-asks own h (spots.Seek b (reaches.Base c)) comes = (b.place, like h c, (refl, refl))
journal-asks own h (spots.Seek b (reaches.Back c)) comes = absurd comes
journal-asks own h (spots.At b y (reaches.Front c)) comes = absurd comes
journal-asks own h (spots.At b y (reaches.Base c)) comes = (b.place, like h c, (refl, refl))
journal-asks own h (spots.At b y (reaches.Back c)) comes = absurd comes
journal-asks own h (spots.Known b y z) comes = absurd comes
