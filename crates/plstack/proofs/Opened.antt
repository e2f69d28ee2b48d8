-- The case of a call is opened, with its values behind those that are kept.
use Rattle.std.proofs.Common.{◌≡◌, ℕ, ◌+◌, List, [], ◌∷◌, ◌++◌, length, map, take, drop, filter_map, refl, sym, ap, ap₂, ◌∙◌, subst, arith, reverse, append-nil, length-append}
use Rattle.std.proofs.lemmas.List.{take_all}
use Rattle.plterm.specs.Tree.{compound, trees}
use Rattle.plcells.specs.declared.cell.Cell.{Cell}
use Rattle.plcells.specs.Store.{Store, IsValue, AreValues, value}
use Rattle.plsearch.specs.Types.{Choice}
use Rattle.plsearch.specs.Moves.{resolve}
use Rattle.plsearch.specs.Engine.{deeper}
use Rattle.plenv.specs.Env.{Env, cut}
use Rattle.plenv.proofs.Keeping.{Keeps-refl}
use Rattle.pllinks.specs.Lists.{AreItems, all_elements}
use Rattle.pllinks.specs.Links.{items_of, alone}
use Rattle.plstack.specs.declared.frame.Point.{Point}
use Rattle.plstack.specs.declared.frame.Clauses.{Clauses}
use Rattle.plstack.specs.declared.frame.Resume.{Resume}
use Rattle.plstack.specs.declared.frame.Resume.TheVariants as resumes
use Rattle.plstack.specs.declared.frame.Frame.TheVariants.{Open}
use Rattle.plstack.specs.Places.{Database, called, places_left, kept, kept_values, cases}
use Rattle.plstack.specs.Frames.{AreOlder, IsOpen, IsResume, AreFrames}
use Rattle.plstack.specs.Trials.{IsMarked}
use Rattle.plstack.specs.State.{State, IsStack, goals_in, goals_of, cases_of, AddsList, Extends, IsFit, IsList, IsClauses, place_of, HasClauses}
use Rattle.plstack.specs.Calls.{places_of, Calls, CallsNone, StaysAt}
use Rattle.pllinks.specs.declared.link.Continuation.{Continuation}
use Rattle.plclause.specs.Clause.{Clause}
use Rattle.plstack.specs.StaticCalls.{AtCall}
use Rattle.plstack.proofs.Frames.{cases-kept, AreFrames-kept, reverse-push}
use Rattle.plstack.proofs.Opening.{older-frames}
use Rattle.plstack.proofs.Stacks.{opened-cases, opened-state, has-last}
use Rattle.plstack.specs.Levels.{FitsIn, kinds_of}

-- the case of a call is opened, and no clause is tried
pub record OpensCall (old new : State) (procedure : ℕ) (values : List Cell) (list : Continuation) : Type 0 where
  pub has : HasClauses new
  pub cases : (db : Database) → cases_of db new ≡ Choice (places_of db old (called old.env.heap (db.statics procedure).name values) list (db.statics procedure).clauses) ∷ cases_of db old
  pub place : place_of new ≡ place_of old
  pub basis : new.basis ≡ old.basis

-- what is kept for a call
run_end : (xs vs : List Cell) → take (length vs) (drop (length xs) (xs ++ vs)) ≡ vs
run_end [] vs = take_all (length vs) vs (omega arith)
run_end (x ∷ xs) vs = run_end xs vs

pub values_stay : (h k : Store) (vs : List Cell) → ((v : Cell) → IsValue h v → IsValue k v × (value k v ≡ value h v)) → AreValues h vs → AreValues k vs × (map (value k) vs ≡ map (value h) vs)
values_stay h k [] stay a = (tt, refl)
values_stay h k (v ∷ vs) stay a =
    let r = values_stay h k vs stay a.1 in
    let s = stay v a.0 in
    ((s.0, r.0), ap₂ (λ x xs. x ∷ xs) s.1 r.1)

called_stay : (h k : Store) (name : List ℕ) (vs : List Cell) → ((v : Cell) → IsValue h v → IsValue k v × (value k v ≡ value h v)) → AreValues h vs → called k name vs ≡ called h name vs
called_stay h k name [] stay a = refl
called_stay h k name (v ∷ vs) stay a = ap (λ ts. compound name (trees ts)) (values_stay h k (v ∷ vs) stay a).1

-- values behind those that are kept
module _ (s : State) (d : ℕ) (is : IsStack s d) (vs : List Cell) where
  abbrev pub with_values : State
  with_values = record { basis = s.basis; env = s.env; links = s.links; saved = s.saved ++ vs; frames = s.frames; goals = s.goals }

  pub values-stack : IsStack with_values d
  values-stack = (
    record {
      env = is.0.env;
      names = is.0.names;
      none = is.0.none;
      chain = is.0.chain;
      frames = subst (λ ks. AreFrames (goals_in s) s.env ks (s.saved ++ vs) (reverse s.frames)) (append-nil s.links)
          (AreFrames-kept (goals_in s) s.env s.env s.links [] s.saved vs (Keeps-refl s.env) is.0.env.heap.names (reverse s.frames) is.0.frames);
      seen = is.0.seen;
      goals = record { there = is.0.goals.there; items = is.0.goals.items };
      fits = is.0.fits;
    },
    is.1,
  )

  pub values-cases : (db : Database) → cases_of db with_values ≡ cases_of db s
  unfolding cases_of
  values-cases db =
      ap (λ ks. cases db (goals_in s) s.env ks (s.saved ++ vs) (reverse s.frames)) (sym (append-nil s.links))
      ∙ cases-kept (goals_in s) s.env s.env s.links [] s.saved vs (Keeps-refl s.env) is.0.env.heap.names db (reverse s.frames) is.0.frames

-- all that is there is marked, and a case would be opened now
module _ (s : State) (d : ℕ) (is : IsStack s d) (p : Point) (m : IsMarked s p.marks) (i : IsList s p.list) (f : IsFit s p.list) (r : Resume) (vs : List Cell) (fit : IsResume s.env.heap vs r) (many : kept r ≡ length vs) where
  pub values-there : kept_values (s.saved ++ vs) p r ≡ vs
  values-there = ap₂ (λ k l. take k (drop l (s.saved ++ vs))) many m.saved ∙ run_end s.saved vs

  pub older-then : AreOlder p.marks (reverse s.frames)
  older-then = older-frames (goals_in s) s.env s.links s.saved p.marks m.mark m.now m.links m.saved (reverse s.frames) is.0.frames

  pub frame-there : IsOpen (goals_in s) s.env s.links (s.saved ++ vs) p r (reverse s.frames)
  frame-there = record {
    mark = m.mark;
    links_room = omega (arith, m.links);
    list = omega (arith, m.links, i.there);
    saved_room = omega (arith, m.saved, many, length-append s.saved vs);
    older = older-then;
    items = subst (λ (x : Env). AreItems (goals_in s) x.heap (length x.slots) (items_of s.links p.list)) (sym m.now) i.items;
    resume = subst (λ (x : Env). IsResume x.heap (kept_values (s.saved ++ vs) p r) r) (sym m.now) (subst (λ ws. IsResume s.env.heap ws r) (sym values-there) fit);
    fits = f;
  }

-- the case of a call
module _ (s : State) (d : ℕ) (is : IsStack s d) (p : Point) (m : IsMarked s p.marks) (alone_is : p.list ≡ alone p.list.rest) (i : IsList s p.list) (f : IsFit s p.list) (procedure count : ℕ) (vs : List Cell) (fit : AreValues s.env.heap vs) (many : count ≡ length vs) where
  abbrev c : Clauses
  c = record { procedure = procedure; count = count; next = 0 }

  abbrev kept-state : State
  kept-state = with_values s d is vs

  pub kept-there : kept_values (s.saved ++ vs) p (resumes.Clauses c) ≡ vs
  kept-there = values-there s d is p m i f (resumes.Clauses c) vs fit many

  -- the stack with that case
  abbrev pub opened : State
  opened = record { basis = s.basis; env = s.env; links = s.links; saved = s.saved ++ vs; frames = s.frames ++ Open p (resumes.Clauses (record { procedure = procedure; count = count; next = 0 })) ∷ []; goals = s.goals }

  pub call-stack : IsStack opened (d + 1)
  call-stack =
      let o = opened-state kept-state d opened.frames (Open p (resumes.Clauses c)) refl (values-stack s d is vs) (frame-there s d is p m i f (resumes.Clauses c) vs fit many) (λ i. i) tt in
      (o.0, omega (arith, o.1))

  pub call-at : AtCall opened p c
  call-at = record { calling = record { rest = s.frames; top = refl }; now = m.now; list = record { there = i.there; items = i.items }; fits = subst (λ fs. FitsIn (drop 1 (kinds_of fs)) (goals_of s p.list)) (sym (reverse-push s.frames (Open p (resumes.Clauses c)))) f }

  pub call-opens : OpensCall s opened procedure vs p.list
  call-opens = record {
    has = has-last IsClauses opened.frames s.frames (Open p (resumes.Clauses c)) refl tt;
    cases = λ db.
        let name = (db.statics procedure).name in
        let cs = (db.statics procedure).clauses in
        let below = cases_of db s in
        opened-cases db kept-state opened.frames (Open p (resumes.Clauses c)) refl
        ∙ ap (λ xs. Choice (places_left (deeper xs 0) (cut p.marks.env s.env) (called (cut p.marks.env s.env).heap name (kept_values (s.saved ++ vs) p (resumes.Clauses c))) (all_elements (goals_in s) (cut p.marks.env s.env) (items_of s.links p.list)) cs) ∷ xs) (values-cases s d is vs db)
        ∙ ap₂ (λ (x : Env) ws. Choice (places_left (deeper below 0) x (called x.heap name ws) (all_elements (goals_in s) x (items_of s.links p.list)) cs) ∷ below) m.now kept-there;
    place = refl;
    basis = refl;
  }

-- a list got a number, and all was marked, before a call
module _ (s t u new : State) (n : ℕ) (rest : Continuation) (adds : AddsList s t (alone n) (goals_of s rest)) (x : Extends t u) (count : u.env.count ≡ t.env.count) where
  pub marked-list : IsList u (alone n)
  marked-list = (x.lists (alone n) adds.there).0

  pub marked-values : (vs : List Cell) → AreValues s.env.heap vs → AreValues u.env.heap vs
  marked-values vs fit = (values_stay t.env.heap u.env.heap vs x.values (subst (λ (e : Env). AreValues e.heap vs) (sym adds.env) fit)).0

  cases-then : (db : Database) → cases_of db u ≡ cases_of db s
  cases-then db = x.cases db ∙ adds.stays.cases db

  count-then : u.env.count ≡ s.env.count
  count-then = count ∙ ap (λ (e : Env). e.count) adds.env

  module _ (db : Database) (procedure : ℕ) (vs : List Cell) (fit : AreValues s.env.heap vs) where
    abbrev name : List ℕ
    name = (db.statics procedure).name

    abbrev cs : List Clause
    cs = (db.statics procedure).clauses

    places-then : places_of db s (called s.env.heap name vs) rest cs ≡ places_of db u (called u.env.heap name vs) (alone n) cs
    places-then =
        let there = subst (λ (e : Env). AreValues e.heap vs) (sym adds.env) fit in
        let goal = called_stay t.env.heap u.env.heap name vs x.values there ∙ ap (λ (e : Env). called e.heap name vs) adds.env in
        ap₂ (λ ks k. filter_map (resolve (deeper ks 0) k (called s.env.heap name vs) (goals_of s rest)) cs) (sym (cases-then db)) (sym count-then)
        ∙ ap₂ (λ g gs. filter_map (resolve (deeper (cases_of db u) 0) u.env.count g gs) cs) (sym goal) (sym ((x.lists (alone n) adds.there).1 ∙ adds.is))

    pub calls-then : Calls db u new (called u.env.heap name vs) (alone n) cs → Calls db s new (called s.env.heap name vs) rest cs
    calls-then c = record { others = c.others; places = places-then ∙ c.places; cases = c.cases ∙ ap (λ ks. Choice c.others ∷ ks) (cases-then db) }

    pub calls-none-then : CallsNone db u new (called u.env.heap name vs) (alone n) cs → CallsNone db s new (called s.env.heap name vs) rest cs
    calls-none-then c = record { none = places-then ∙ c.none; cases = c.cases ∙ cases-then db }

  pub stays-then : StaysAt u new → StaysAt s new
  stays-then y = record {
    cases = λ db. y.cases db ∙ cases-then db;
    place = y.place ∙ ap₂ (λ gs k. record { goals = gs; variables = k }) (x.visited ∙ adds.stays.visited) count-then;
  }
