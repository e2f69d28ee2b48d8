-- The case of a call, which is opened once a clause fits.
use Rattle.std.proofs.Common.{◌≡◌, ℕ, ◌+◌, ◌-◌, ◌≤◌, List, [], ◌∷◌, ◌++◌, append-nil, length, map, get_or, refl, sym, ap, ◌∙◌, subst, arith, reverse, Option, Some, None, inr}
use Rattle.platoms.specs.Names.{Extends as ExtendsNames}
use Rattle.plsubst.specs.Subst.{bind}
use Rattle.plcells.specs.declared.cell.Cell.{Cell}
use Rattle.plcells.specs.Store.{AreValues, value}
use Rattle.plsearch.specs.Moves.{before_rest, is_true}
use Rattle.plsearch.specs.Engine.{deeper}
use Rattle.plsearch.specs.Types.{Choice}
use Rattle.plcode.specs.Keys.{IsFirstKey}
use Rattle.plenv.specs.Env.{Env, IsEnv, over, renamed}
use Rattle.plenv.specs.Changes.{Keeps}
use Rattle.pllinks.specs.declared.link.Continuation.{Continuation}
use Rattle.pllinks.specs.Lists.{all_elements}
use Rattle.pllinks.specs.Links.{alone, items_of}
use Rattle.plstack.specs.declared.fit.Hit.{Hit}
use Rattle.plstack.specs.declared.frame.Point.{Point}
use Rattle.plstack.specs.declared.frame.Clauses.{Clauses}
use Rattle.plstack.specs.declared.frame.Resume.TheVariants as resumes
use Rattle.plstack.specs.declared.frame.Frame.{Frame}
use Rattle.plstack.specs.declared.frame.Frame.TheVariants.{Open}
use Rattle.plstack.specs.Calls.{Calls, CallsNone, StaysAt}
use Rattle.plstack.specs.Fits.{FindsNone}
use Rattle.plstack.specs.Frames.{AreFrames, AreOlder}
use Rattle.plstack.specs.Places.{Database, called, kept_values, cases}
use Rattle.plstack.specs.State.{State, IsStack, goals_in, goals_of, place_of, cases_of, AddsList, CountsUp, IsFit, IsList, kinds_in}
use Rattle.plstack.specs.Levels.{kinds_of, FitsIn, Precedes}
use Rattle.plstack.specs.StaticCalls.{body_at, AreStatics, AtCall, IsCalling, Binds, Enters, FindsHit, FitsFirst, GoesOn, Hits, PushesCall}
use Rattle.plstack.specs.Trials.{IsMarked}
use Rattle.plstack.proofs.Entering.{calls-entered, retries-entered}
use Rattle.plstack.proofs.Finding.{hit-binds, hit-stack, hits}
use Rattle.plstack.proofs.Going.{body-fits, body-goals, body-there, pushes-kinds, emptied, emptied-stack, level-of, replaced, replaced-stack}
use Rattle.plstack.proofs.Naming.{fits-env, kinds-length, new-precedes}
use Rattle.plstack.proofs.Growing.{cases-grown, extends_same, extends-env, frames-grown, stack-env}
use Rattle.plstack.proofs.Hitting.{cases-stay, extends-renamed}
use Rattle.plstack.proofs.Opened.{call-at, call-opens, call-stack, kept-there, opened, older-then, OpensCall}

-- a list that is there has its number
same-list : (s : State) (l : Continuation) (n : ℕ) → l ≡ alone n → IsList s l → AddsList s s (alone n) (goals_of s l)
same-list s l n is i = record { there = subst (IsList s) is i; is = ap (goals_of s) (sym is); stays = extends_same s; env = refl; saved = refl }

module _ (s : State) (d : ℕ) (is : IsStack s d) (p : Point) (m : IsMarked s p.marks) (alone_is : p.list ≡ alone p.list.rest) (i : IsList s p.list) (own_fits : IsFit s p.list) (procedure count : ℕ) (vs : List Cell) (fit : AreValues s.env.heap vs) (many : count ≡ length vs) where
  -- there are more names
  module _ (e : Env) (env : IsEnv e) (names : ExtendsNames s.env.heap.names e.heap.names) (same : e ≡ renamed s.env e.heap.names) where
    abbrev pub unchanged : State
    unchanged = record s { env = e }

    pub unchanged-stack : IsStack unchanged d
    unchanged-stack = subst (λ (x : Env). IsStack (record s { env = x }) d) (sym same)
        (stack-env s d (renamed s.env e.heap.names) (extends-renamed s.env e.heap.names is.0.env env.heap.names names) (subst IsEnv same env) is)

    same-cases : (db : Database) → cases_of db unchanged ≡ cases_of db s
    same-cases db =
        ap (λ (x : Env). cases_of db (record s { env = x })) same
        ∙ (extends-env s d (renamed s.env e.heap.names) (extends-renamed s.env e.heap.names is.0.env env.heap.names names) (subst IsEnv same env) is).cases db

    pub unchanged-at : StaysAt s unchanged
    unchanged-at = record {
      cases = same-cases;
      place =
          ap (λ (x : Env). place_of (record s { env = x })) same
          ∙ ap (λ gs. record { goals = gs; variables = s.env.count }) (extends-env s d (renamed s.env e.heap.names) (extends-renamed s.env e.heap.names is.0.env env.heap.names names) (subst IsEnv same env) is).visited;
    }

    pub unchanged-none : (db : Database) → FindsNone s.env (called s.env.heap (db.statics procedure).name vs) (db.statics procedure).clauses 0 → CallsNone db s unchanged (called s.env.heap (db.statics procedure).name vs) p.list (db.statics procedure).clauses
    unchanged-none db none = record { none = none (deeper (cases_of db s) 0) (goals_of s p.list); cases = same-cases db }

  -- a clause fits
  module _ (db : Database) (own : AreStatics s.basis.code db) (e : Env) (keeps : Keeps s.env e) (env : IsEnv e) (hit : Hit) (f : FitsFirst s.basis.code db procedure vs s.env e hit) where
    abbrev c : Clauses
    c = record { procedure = procedure; count = count; next = 0 }

    abbrev before : State
    before = opened s d is p m alone_is i own_fits procedure count vs fit many

    before-stack : IsStack before (d + 1)
    before-stack = call-stack s d is p m alone_is i own_fits procedure count vs fit many

    there : kept_values before.saved p (resumes.Clauses c) ≡ vs
    there = kept-there s d is p m alone_is i own_fits procedure count vs fit many

    key-then : IsFirstKey s.env.heap.names f.key (map (value s.env.heap) (kept_values before.saved p (resumes.Clauses c)))
    key-then = subst (λ ws. IsFirstKey s.env.heap.names f.key (map (value s.env.heap) ws)) (sym there) f.key_is

    finds-then : FindsHit s.env e (called s.env.heap (db.statics procedure).name (kept_values before.saved p (resumes.Clauses c))) f.key (get_or s.basis.code.procedures procedure []) (db.statics procedure).clauses 0 hit
    finds-then = subst (λ ws. FindsHit s.env e (called s.env.heap (db.statics procedure).name ws) f.key (get_or s.basis.code.procedures procedure []) (db.statics procedure).clauses 0 hit) (sym there) f.finds

    at : AtCall before p c
    at = call-at s d is p m alone_is i own_fits procedure count vs fit many

    -- with the environment in which the clause fits
    abbrev after : State
    after = record before { env = e }

    after-stack : IsStack after (d + 1)
    after-stack = hit-stack before (d + 1) before-stack p c at db own f.within f.key key-then f.laid e keeps env hit finds-then

    after-hits : Hits db before after p c hit
    after-hits = hits before (d + 1) before-stack p c at db own f.within f.key key-then f.laid e keeps env hit finds-then

    after-binds : Binds before after
    after-binds = hit-binds before (d + 1) before-stack p c at db own f.within f.key key-then f.laid e keeps env hit finds-then

    pub own-slots : hit.base + hit.clause.variables ≤ length e.slots
    own-slots = after-hits.slots

    module _ (frames : List Frame) (pushes : PushesCall p (record { procedure = procedure; count = count; next = 0 }) hit.next s.frames frames) where
      abbrev framed : State
      framed = record after { frames = frames }

      calling : IsCalling after p c
      calling = record { rest = s.frames; top = refl }

      framed-is : (o : Option ℕ) → PushesCall p c o s.frames frames → IsStack framed (d + 1) × GoesOn db after framed p c o
      framed-is (Some next) pushed = (
        replaced-stack after (d + 1) after-stack p c calling s.frames (Open p (resumes.Clauses c)) refl next frames pushed,
        replaced after (d + 1) after-stack p c calling s.frames (Open p (resumes.Clauses c)) refl next frames pushed db,
      )
      framed-is None up = (
        emptied-stack after (d + 1) after-stack p c calling s.frames (Open p (resumes.Clauses c)) refl frames up,
        emptied after (d + 1) after-stack p c calling s.frames (Open p (resumes.Clauses c)) refl frames up db,
      )

      framed-stack : IsStack framed (d + 1)
      framed-stack = (framed-is hit.next pushes).0

      goes : GoesOn db after framed p c hit.next
      goes = (framed-is hit.next pushes).1

      behind-there : IsList framed (alone p.list.rest)
      behind-there =
          let l = (after-binds.lists (alone p.list.rest) (subst (IsList before) alone_is at.list)).0 in
          record { there = l.there; items = l.items }

      -- so does its body behind it
      precedes : Precedes (kinds_of (reverse frames)) d (goals_of framed (alone p.list.rest))
      precedes =
          let listed : FitsIn (kinds_in s) (all_elements (goals_in s) s.env (items_of s.links (alone p.list.rest))) = subst (IsFit s) alone_is own_fits in
          let here : FitsIn (kinds_in s) (goals_of framed (alone p.list.rest)) = fits-env (kinds_in s) (goals_in s) s.env e (items_of s.links (alone p.list.rest)) (items_of s.links (alone p.list.rest)) refl listed in
          subst (λ ks. Precedes ks d (goals_of framed (alone p.list.rest))) (sym (pushes-kinds p (record { procedure = procedure; count = count; next = 0 }) hit.next s.frames frames pushes))
          (new-precedes (kinds_in s) d (goals_of framed (alone p.list.rest)) (is.1 ∙ sym (kinds-length (reverse s.frames))) here)

      -- the clause's body is visited
      abbrev pub entered : State
      entered = record { basis = s.basis; env = e; links = s.links; saved = s.saved ++ vs; frames = frames; goals = body_at hit p.list.rest d }

      pub entered-stack : IsStack entered (d + 1)
      entered-stack =
          let l = body-there framed (d + 1) framed-stack hit after-hits.clause after-hits.code after-hits.slots (alone p.list.rest) p.list.rest behind-there refl d in
          let t = framed-stack.0 in
          (record { env = t.env; names = t.names; none = t.none; chain = t.chain; frames = t.frames; seen = t.seen; goals = record { there = l.there; items = l.items }; fits = inr (body-fits framed (d + 1) framed-stack hit after-hits.clause after-hits.code after-hits.slots (alone p.list.rest) p.list.rest behind-there refl d (kinds_of (reverse frames)) precedes) }, framed-stack.1)

      level : d ≡ deeper goes.below 0
      level = let e : d + 1 - 1 ≡ deeper goes.below 0 = level-of db framed framed (d + 1) framed-stack refl _ goes.below goes.cases in omega (arith, e)

      enters : Enters db after entered p c hit p.list.rest
      unfolding cases_of
      enters = record {
        goes = record { below = goes.below; was = goes.was; cases = goes.cases };
        place = λ x code.
            let body = bind (over e hit.base) x.body in
            let rest = goals_of after (alone p.list.rest) in
            ap (λ gs. record { goals = gs; variables = e.count })
            (body-goals framed (d + 1) framed-stack hit x code after-hits.slots (alone p.list.rest) p.list.rest behind-there refl d ∙ ap (λ l. before_rest (is_true x.body) l body rest) level);
      }

      pub entered-calls : Calls db s entered (called s.env.heap (db.statics procedure).name vs) p.list (db.statics procedure).clauses
      entered-calls =
          let opens : OpensCall s before procedure vs (alone p.list.rest) = subst (OpensCall s before procedure vs) alone_is (call-opens s d is p m alone_is i own_fits procedure count vs fit many) in
          let cases = cases-stay before (d + 1) before-stack p c at e keeps env db in
          calls-entered s s before procedure p.list.rest vs p.list (same-list s p.list p.list.rest alone_is i) opens db entered
          (retries-entered before before p c p.list.rest at (same-list before p.list p.list.rest alone_is at.list) after refl after-binds db entered hit cases after-hits enters)

      pub entered-older : hit.next ≡ None → AreOlder p.marks (reverse frames)
      entered-older none = (subst (λ o. PushesCall p c o s.frames frames) none pushes).older p.marks (older-then s d is p m i own_fits (resumes.Clauses c) vs fit many)

      -- nothing is left: no values are kept
      module _ (none : hit.next ≡ None) where
        up : CountsUp 1 (reverse s.frames) (reverse frames)
        up = subst (λ o. PushesCall p c o s.frames frames) none pushes

        abbrev pub entered-last : State
        entered-last = record { basis = s.basis; env = e; links = s.links; saved = s.saved; frames = frames; goals = body_at hit p.list.rest d }

        frames-now : AreFrames (goals_in s) e s.links s.saved (reverse s.frames)
        frames-now = frames-grown (goals_in s) s.env e s.links s.links [] s.saved (sym (append-nil s.links)) keeps env.heap.names (reverse s.frames) is.0.frames

        pub last-stack : IsStack entered-last (d + 1)
        last-stack =
            let t = entered-stack.0 in (
              record {
                env = env;
                names = t.names;
                none = t.none;
                chain = t.chain;
                frames = up.frames (goals_in s) e s.links s.saved frames-now;
                seen = t.seen;
                goals = record { there = t.goals.there; items = t.goals.items };
                fits = t.fits;
              },
              entered-stack.1,
            )

        last-cases : cases_of db entered-last ≡ Choice [] ∷ cases_of db s
        unfolding cases_of
        last-cases =
            up.cases db (goals_in s) e s.links s.saved
            ∙ ap (λ cs. Choice [] ∷ cs) (cases-grown (goals_in s) s.env e s.links s.links [] s.saved (sym (append-nil s.links)) keeps env.heap.names db (reverse s.frames) is.0.frames)

        entered-cases : cases_of db entered ≡ Choice [] ∷ cases db (goals_in s) e s.links (s.saved ++ vs) (reverse s.frames)
        unfolding cases_of
        entered-cases = up.cases db (goals_in s) e s.links (s.saved ++ vs)

        pub last-calls : Calls db s entered-last (called s.env.heap (db.statics procedure).name vs) p.list (db.statics procedure).clauses
        last-calls =
            let both = sym entered-calls.cases ∙ entered-cases in
            let empty : entered-calls.others ≡ [] = cc in
            record { others = entered-calls.others; places = entered-calls.places; cases = last-cases ∙ ap (λ ps. Choice ps ∷ cases_of db s) (sym empty) }
