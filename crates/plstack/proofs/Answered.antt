-- The case of the answers of a call that are left, and the first of them that fits.
use Rattle.std.proofs.Common.{◌≡◌, ℕ, ◌+◌, ◌-◌, List, [], ◌∷◌, ◌++◌, length, filter_map, refl, sym, ap, ap₂, ◌∙◌, subst, arith, reverse, append-nil, Option, Some, None}
use Rattle.plcells.specs.declared.cell.Cell.{Cell}
use Rattle.plcells.specs.Store.{AreValues}
use Rattle.plsearch.specs.Types.{Choice}
use Rattle.plsearch.specs.Lists.{bind_goals}
use Rattle.plsearch.specs.Rows.{solved}
use Rattle.plgenerator.specs.declared.turn.Remaining.{Remaining}
use Rattle.plgenerator.specs.Answers.{left, IsRemaining}
use Rattle.plgenerator.proofs.Staying.{left_stays, turn_stays}
use Rattle.plenv.specs.Env.{Env, IsEnv, cut, renamed, IsMark, IsWithin}
use Rattle.plenv.specs.Changes.{Keeps, Stays}
use Rattle.plenv.specs.Solving.{counted as wider}
use Rattle.plenv.proofs.Keeping.{Keeps-trans}
use Rattle.plenv.proofs.Solving.{extends-counted}
use Rattle.pllinks.specs.declared.link.Continuation.{Continuation}
use Rattle.pllinks.specs.Lists.{all_elements}
use Rattle.pllinks.specs.Links.{items_of, alone}
use Rattle.plstack.specs.declared.frame.Answers.{Answers}
use Rattle.plstack.specs.declared.frame.Point.{Point}
use Rattle.plstack.specs.declared.frame.Resume.{Resume}
use Rattle.plstack.specs.declared.frame.Resume.TheVariants as resumes
use Rattle.plstack.specs.declared.frame.Frame.{Frame}
use Rattle.plstack.specs.declared.frame.Frame.TheVariants.{Open}
use Rattle.plstack.specs.Places.{Database, answers_left, kept_values}
use Rattle.plstack.specs.Frames.{AreOlder, IsOpen}
use Rattle.plstack.specs.Trials.{IsMarked}
use Rattle.plstack.specs.State.{State, IsStack, goals_in, goals_of, place_of, cases_of, IsFit, IsList, kinds_in, Extends, Retries, CountsUp}
use Rattle.plstack.specs.Calls.{StaysAt}
use Rattle.plstack.specs.Cutting.{Settles}
use Rattle.plstack.specs.Answering.{answers_if, TakesAnswer, TakesNone, PushesAnswers, Answered, Unanswered}
use Rattle.plstack.proofs.Growing.{extends-env, frames-grown, solved-cases, solved-lists, solved-stack, stack-env}
use Rattle.plstack.proofs.Opened.{with_values, values-stack, values-cases, values-there, older-then, frame-there}
use Rattle.plstack.proofs.Renaming.{answers-renamed, stays}
use Rattle.plstack.proofs.Returning.{same-cases, back-depth}
use Rattle.plstack.proofs.Naming.{fits-env}
use Rattle.plstack.proofs.Rewinding.{without, without-stack, now, kept-then, frame-then, list-then, was-open, rewound, rewound-stack, rewound-cases}
use Rattle.plstack.proofs.Stacks.{visiting, opened-cases, opened-state, counted, counted-cases}

-- the first answer was taken
module _ (s : State) (d : ℕ) (is : IsStack s d) (vs : List Cell) (fit : AreValues s.env.heap vs) (turn : Remaining) (e : Env) (env : IsEnv e) (rest : Option Remaining) (t : TakesAnswer s.env e vs turn rest) where
  before-stack : IsStack (record s { env = t.before }) d
  before-stack = stack-env s d t.before t.stays.extends t.env is

  before-extends : Extends s (record s { env = t.before })
  before-extends = extends-env s d t.before t.stays.extends t.env is

  bound-stack : IsStack (record s { env = e }) d
  bound-stack = solved-stack (record s { env = t.before }) d e t.solution.left t.solution.right t.solution.new t.solves env before-stack

  bound-cases : (db : Database) → cases_of db (record s { env = e }) ≡ cases_of db (record s { env = t.before })
  bound-cases = solved-cases (record s { env = t.before }) d e t.solution.left t.solution.right t.solution.new t.solves env before-stack

  bound-list : (l : Continuation) → IsList s l → IsList (record s { env = e }) l × (goals_of (record s { env = e }) l ≡ bind_goals t.solves.unifier (goals_of s l))
  bound-list l i =
      let b = before-extends.lists l i in
      let r = solved-lists (record s { env = t.before }) d e t.solution.left t.solution.right t.solution.new t.solves env before-stack l b.0 in
      (r.0, r.1 ∙ ap (bind_goals t.solves.unifier) b.1)

  pub keeps-all : Keeps s.env e
  keeps-all = Keeps-trans s.env t.before e t.stays.extends.keeps (Keeps-trans t.before (wider t.solution.new t.before) e (extends-counted t.before t.solution.new).keeps t.solves.made.keeps)

  module _ (l : Continuation) (i : IsList s l) (f : IsFit s l) where
    list-there : IsList (record s { env = e }) l
    list-there = (bound-list l i).0

    list-goals : goals_of (record s { env = e }) l ≡ bind_goals t.solves.unifier (goals_of s l)
    list-goals = (bound-list l i).1

    abbrev pub entered : State
    entered = record { basis = s.basis; env = e; links = s.links; saved = s.saved; frames = s.frames; goals = l }

    entered-stack : IsStack entered d
    entered-stack = visiting (record s { env = e }) d l bound-stack list-there (fits-env (kinds_in s) (goals_in s) s.env e (items_of s.links l) (items_of s.links l) refl f)

    entered-cases : (db : Database) → cases_of db entered ≡ cases_of db s
    entered-cases db = same-cases db (record s { env = e }) l ∙ bound-cases db ∙ before-extends.cases db

    entered-places : answers_left s.env vs (goals_of s l) turn ≡ place_of entered ∷ answers_if s.env vs (goals_of s l) rest
    entered-places = t.places (goals_of s l) ∙ ap (λ gs. record { goals = gs; variables = e.count } ∷ answers_if s.env vs (goals_of s l) rest) (sym list-goals)

    -- nothing is left behind it
    module _ (none : rest ≡ None) (frames : List Frame) (up : CountsUp 1 (reverse s.frames) (reverse frames)) where
      pub last-stack : IsStack (record { basis = s.basis; env = e; links = s.links; saved = s.saved; frames = frames; goals = l }) (d + 1)
      last-stack = counted 1 entered d frames up entered-stack

      pub last-answered : (db : Database) → Answered db s (record { basis = s.basis; env = e; links = s.links; saved = s.saved; frames = frames; goals = l }) vs l turn
      last-answered db = record {
        others = [];
        places = entered-places ∙ ap (λ o. place_of entered ∷ answers_if s.env vs (goals_of s l) o) none;
        cases = counted-cases 1 db entered frames up ∙ ap (λ cs. Choice [] ∷ cs) (entered-cases db);
      }

    -- others are left
    module _ (next : Remaining) (some : rest ≡ Some next) (p : Point) (l_is : p.list ≡ l) (count : ℕ) (there : kept_values s.saved p (resumes.Answers (record { count = count; turn = turn })) ≡ vs) (same : cut p.marks.env s.env ≡ s.env)
        (frame : IsOpen (goals_in s) s.env s.links s.saved p (resumes.Answers (record { count = count; turn = turn })) (reverse s.frames)) where
      abbrev r : Resume
      r = resumes.Answers (record { count = count; turn = turn })

      abbrev r' : Resume
      r' = resumes.Answers (record { count = count; turn = next })

      then-cut : cut p.marks.env e ≡ renamed s.env e.heap.names
      then-cut = keeps-all.kept p.marks.env frame.mark.within ∙ ap (λ x. renamed x e.heap.names) same

      kept-frame : IsOpen (goals_in s) e s.links s.saved p r (reverse s.frames)
      kept-frame = (frames-grown (goals_in s) s.env e s.links s.links [] s.saved (sym (append-nil s.links)) keeps-all env.heap.names (Open p r ∷ reverse s.frames) (frame, is.0.frames)).0

      turn-then : IsRemaining (renamed s.env e.heap.names).heap vs next
      turn-then = turn_stays s.env.heap (renamed s.env e.heap.names).heap (stays s.env e.heap.names is.0.env env.heap.names keeps-all.names).values vs fit next (rw some at t.turns)

      next-frame : IsOpen (goals_in s) e s.links s.saved p r' (reverse s.frames)
      next-frame = record {
        mark = kept-frame.mark;
        links_room = kept-frame.links_room;
        list = kept-frame.list;
        saved_room = kept-frame.saved_room;
        older = kept-frame.older;
        items = kept-frame.items;
        fits = kept-frame.fits;
        resume = (kept-frame.resume.0, subst (λ (x : Env). IsRemaining x.heap (kept_values s.saved p r) next) (sym then-cut) (subst (λ ws. IsRemaining (renamed s.env e.heap.names).heap ws next) (sym there) turn-then));
      }

      module _ (frames : List Frame) (pushed : frames ≡ s.frames ++ Open p (resumes.Answers (record { count = count; turn = next })) ∷ []) where
        pub next-stack : IsStack (record { basis = s.basis; env = e; links = s.links; saved = s.saved; frames = frames; goals = l }) (d + 1)
        next-stack =
            let o = opened-state entered d frames (Open p r') pushed entered-stack next-frame (λ i. i) tt in
            (o.0, omega (arith, o.1))

        pub next-answered : (db : Database) → Answered db s (record { basis = s.basis; env = e; links = s.links; saved = s.saved; frames = frames; goals = l }) vs l turn
        next-answered db = record {
          others = answers_left s.env vs (goals_of s l) next;
          places = entered-places ∙ ap (λ o. place_of entered ∷ answers_if s.env vs (goals_of s l) o) some;
          cases =
              opened-cases db entered frames (Open p r') pushed
              ∙ ap₂ (λ (x : Env) ws. Choice (answers_left x ws (all_elements (goals_in s) x (items_of s.links p.list)) next) ∷ cases_of db entered) then-cut there
              ∙ ap (λ q. Choice (answers_left (renamed s.env e.heap.names) vs (all_elements (goals_in s) (renamed s.env e.heap.names) (items_of s.links q)) next) ∷ cases_of db entered) l_is
              ∙ ap (λ ps. Choice ps ∷ cases_of db entered) (answers-renamed s.env e.heap.names is.0.env env.heap.names keeps-all.names (goals_in s) (items_of s.links l) i.items vs fit next)
              ∙ ap (λ cs. Choice (answers_left s.env vs (goals_of s l) next) ∷ cs) (entered-cases db);
        }

-- none of the answers fits
module _ (s : State) (d : ℕ) (is : IsStack s d) (vs : List Cell) (turn : Remaining) (e : Env) (env : IsEnv e) (t : TakesNone s.env e vs turn) where
  pub none-stack : IsStack (record s { env = e }) d
  none-stack = stack-env s d e t.stays.extends env is

  pub none-answered : (l : Continuation) (db : Database) → Unanswered db s (record s { env = e }) vs l turn
  none-answered l db = record { none = t.none (goals_of s l); cases = (extends-env s d e t.stays.extends env is).cases db }

-- memory gave out
module _ (s : State) (d : ℕ) (is : IsStack s d) (e : Env) (env : IsEnv e) (y : Stays s.env e) where
  pub stays-stack : IsStack (record s { env = e }) d
  stays-stack = stack-env s d e y.extends env is

  pub stays-at : StaysAt s (record s { env = e })
  stays-at =
      let x = extends-env s d e y.extends env is in
      record { cases = x.cases; place = ap₂ (λ gs n. record { goals = gs; variables = n }) x.visited y.count }

-- before a call all was marked
module _ (s t new : State) (x : Extends s t) (count : t.env.count ≡ s.env.count) (db : Database) (vs : List Cell) (fit : AreValues s.env.heap vs) (l : Continuation) (i : IsList s l) (turn : Remaining) where
  marked-places : answers_left s.env vs (goals_of s l) turn ≡ answers_left t.env vs (goals_of t l) turn
  marked-places =
      ap (λ n. filter_map (solved (goals_of s l) n) (left s.env.heap vs turn)) (sym count)
      ∙ ap₂ (λ gs ss. filter_map (solved gs t.env.count) ss) (sym (x.lists l i).1) (sym (left_stays s.env.heap t.env.heap x.values vs fit turn))

  pub answered_marked : Answered db t new vs l turn → Answered db s new vs l turn
  answered_marked a = record { others = a.others; places = marked-places ∙ a.places; cases = a.cases ∙ ap (λ cs. Choice a.others ∷ cs) (x.cases db) }

  pub unanswered_marked : Unanswered db t new vs l turn → Unanswered db s new vs l turn
  unanswered_marked a = record { none = marked-places ∙ a.none; cases = a.cases ∙ x.cases db }

pub answered_settled : (db : Database) (s t new : State) (vs : List Cell) (l : Continuation) (turn : Remaining) → Answered db s t vs l turn → Settles t new → Answered db s new vs l turn
answered_settled db s t new vs l turn a y = record { others = a.others; places = a.places ∙ ap (λ p. p ∷ a.others) (sym y.place); cases = y.cases db ∙ a.cases }

-- a call that is opened: whatever its first answer leaves
module _ (s : State) (d : ℕ) (is : IsStack s d) (p : Point) (m : IsMarked s p.marks) (i : IsList s p.list) (f : IsFit s p.list) (vs : List Cell) (fit : AreValues s.env.heap vs) (turn : Remaining) (turns : IsRemaining s.env.heap vs turn)
    (e : Env) (env : IsEnv e) (rest : Option Remaining) (t : TakesAnswer s.env e vs turn rest) (frames : List Frame) (pushes : PushesAnswers p (length vs) rest s.frames frames) where
  abbrev kept : State
  kept = with_values s d is vs

  kept-stack : IsStack kept d
  kept-stack = values-stack s d is vs

  abbrev pub called : State
  called = record { basis = s.basis; env = e; links = s.links; saved = s.saved ++ vs; frames = frames; goals = p.list }

  list-kept : IsList kept p.list
  list-kept = record { there = i.there; items = i.items }

  abbrev c : Answers
  c = record { count = length vs; turn = turn }

  both : (o : Option Remaining) → rest ≡ o → PushesAnswers p (length vs) o s.frames frames → IsStack called (d + 1) × ((db : Database) → Answered db kept called vs p.list turn)
  both None none up = (
    last-stack kept d kept-stack vs fit turn e env rest t p.list list-kept f none frames up,
    last-answered kept d kept-stack vs fit turn e env rest t p.list list-kept f none frames up,
  )
  both (Some next) some pushed = (
    next-stack kept d kept-stack vs fit turn e env rest t p.list list-kept f next some p refl (length vs) (values-there s d is p m i f (resumes.Answers c) vs (fit, turns) refl) m.now (frame-there s d is p m i f (resumes.Answers c) vs (fit, turns) refl) frames pushed,
    next-answered kept d kept-stack vs fit turn e env rest t p.list list-kept f next some p refl (length vs) (values-there s d is p m i f (resumes.Answers c) vs (fit, turns) refl) m.now (frame-there s d is p m i f (resumes.Answers c) vs (fit, turns) refl) frames pushed,
  )

  pub called-stack : IsStack called (d + 1)
  called-stack = (both rest refl pushes).0

  pub called-answered : (db : Database) → Answered db s called vs p.list turn
  called-answered db =
      let a = (both rest refl pushes).1 db in
      record { others = a.others; places = a.places; cases = a.cases ∙ ap (λ cs. Choice a.others ∷ cs) (values-cases s d is vs db) }

  -- where nothing is left, no case is newer than the marks
  pub called-within : IsWithin p.marks.env e
  called-within = (keeps-all s d is vs fit turn e env rest t).within p.marks.env m.mark.within

  pub called-older : rest ≡ None → AreOlder p.marks (reverse frames)
  called-older none = (subst (λ o. PushesAnswers p (length vs) o s.frames frames) none pushes).older p.marks (older-then s d is p m i f (resumes.Answers c) vs (fit, turns) refl)

-- the innermost case, a call, is opened again
module _ (s : State) (d : ℕ) (is : IsStack s d) (below : List Frame) (p : Point) (a : Answers) (popped : s.frames ≡ below ++ Open p (resumes.Answers a) ∷ []) where
  abbrev at : State
  at = without s d is below p (resumes.Answers a) popped

  abbrev vs : List Cell
  vs = kept_values s.saved p (resumes.Answers a)

  at-stack : IsStack at (d - 1)
  at-stack = without-stack s d is below p (resumes.Answers a) popped (λ i. i)

  the-frame : IsOpen (goals_in s) at.env at.links at.saved p (resumes.Answers a) (reverse below)
  the-frame = frame-then s d is below p (resumes.Answers a) popped

  the-resume : AreValues at.env.heap vs × IsRemaining at.env.heap vs a.turn
  the-resume =
      let q = kept-then s d is below p (resumes.Answers a) popped in
      let f : AreValues at.env.heap (kept_values at.saved p (resumes.Answers a)) × IsRemaining at.env.heap (kept_values at.saved p (resumes.Answers a)) a.turn = subst (λ (x : Env). AreValues x.heap (kept_values at.saved p (resumes.Answers a)) × IsRemaining x.heap (kept_values at.saved p (resumes.Answers a)) a.turn) (now s d is below p (resumes.Answers a) popped) the-frame.resume in
      subst (λ ws. AreValues at.env.heap ws × IsRemaining at.env.heap ws a.turn) q f

  pub values-again : AreValues at.env.heap vs
  values-again = the-resume.0

  pub turn-again : IsRemaining at.env.heap vs a.turn
  turn-again = the-resume.1

  pub mark-again : IsMark p.marks.env at.env
  mark-again = the-frame.mark

  pub now-again : cut p.marks.env at.env ≡ at.env
  now-again = now s d is below p (resumes.Answers a) popped

  was : (db : Database) → cases_of db s ≡ Choice (answers_left at.env vs (goals_of at p.list) a.turn) ∷ cases_of db at
  was db = was-open s d is below p (resumes.Answers a) popped db

  module _ (e : Env) (env : IsEnv e) where
    module _ (rest : Option Remaining) (t : TakesAnswer at.env e vs a.turn rest) (frames : List Frame) (pushes : PushesAnswers p a.count rest below frames) where
      abbrev again : State
      again = record { basis = s.basis; env = e; links = at.links; saved = at.saved; frames = frames; goals = p.list }

      both-again : (o : Option Remaining) → rest ≡ o → PushesAnswers p a.count o below frames → IsStack again (d - 1 + 1) × ((db : Database) → Answered db at again vs p.list a.turn)
      both-again None none up = (
        last-stack at (d - 1) at-stack vs values-again a.turn e env rest t p.list (list-then s d is below p (resumes.Answers a) popped) the-frame.fits none frames up,
        last-answered at (d - 1) at-stack vs values-again a.turn e env rest t p.list (list-then s d is below p (resumes.Answers a) popped) the-frame.fits none frames up,
      )
      both-again (Some next) some pushed = (
        next-stack at (d - 1) at-stack vs values-again a.turn e env rest t p.list (list-then s d is below p (resumes.Answers a) popped) the-frame.fits next some p refl a.count (kept-then s d is below p (resumes.Answers a) popped) (now s d is below p (resumes.Answers a) popped) the-frame frames pushed,
        next-answered at (d - 1) at-stack vs values-again a.turn e env rest t p.list (list-then s d is below p (resumes.Answers a) popped) the-frame.fits next some p refl a.count (kept-then s d is below p (resumes.Answers a) popped) (now s d is below p (resumes.Answers a) popped) the-frame frames pushed,
      )

      pub again-stack : IsStack again d
      again-stack =
          let q = (both-again rest refl pushes).0 in
          (q.0, omega (arith, q.1, back-depth s d is below p (resumes.Answers a) popped))

      pub again-retries : (db : Database) → Retries db s again
      again-retries db =
          let q = (both-again rest refl pushes).1 db in
          record { others = q.others; older = cases_of db at; was = was db ∙ ap (λ ps. Choice ps ∷ cases_of db at) q.places; cases = q.cases }

      pub again-within : IsWithin p.marks.env e
      again-within = (keeps-all at (d - 1) at-stack vs values-again a.turn e env rest t).within p.marks.env the-frame.mark.within

      pub again-older : rest ≡ None → AreOlder p.marks (reverse frames)
      again-older none = (subst (λ o. PushesAnswers p a.count o below frames) none pushes).older p.marks the-frame.older

    pub closed-stack : TakesNone at.env e vs a.turn → IsStack (record { basis = s.basis; env = e; links = at.links; saved = at.saved; frames = below; goals = alone 0 }) (d - 1)
    closed-stack t = none-stack at (d - 1) at-stack vs a.turn e env t

    pub closed-cases : (t : TakesNone at.env e vs a.turn) (db : Database) → cases_of db s ≡ Choice [] ∷ cases_of db (record { basis = s.basis; env = e; links = at.links; saved = at.saved; frames = below; goals = alone 0 })
    closed-cases t db =
        let u = none-answered at (d - 1) at-stack vs a.turn e env t p.list db in
        was db ∙ ap₂ (λ ps cs. Choice ps ∷ cs) u.none (sym u.cases)

    -- the case is put back
    module _ (y : Stays at.env e) where
      pub back-again : IsStack (record (rewound s d is below p (resumes.Answers a) popped) { env = e }) d
      back-again = stays-stack (rewound s d is below p (resumes.Answers a) popped) d (rewound-stack s d is below p (resumes.Answers a) popped (λ i. i)) e env y

      pub back-again-cases : (db : Database) → cases_of db (record (rewound s d is below p (resumes.Answers a) popped) { env = e }) ≡ cases_of db s
      back-again-cases db = (stays-at (rewound s d is below p (resumes.Answers a) popped) d (rewound-stack s d is below p (resumes.Answers a) popped (λ i. i)) e env y).cases db ∙ rewound-cases s d is below p (resumes.Answers a) popped db
