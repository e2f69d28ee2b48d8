-- The cases of a transaction, which are opened before a list, and the end of one without success.
use Rattle.std.proofs.Common.{◌≡◌, ℕ, ◌+◌, ◌-◌, List, [], ◌∷◌, ◌++◌, length, refl, sym, ap, ap₂, ◌∙◌, subst, arith, reverse, le_refl, inl}
use Rattle.std.proofs.lemmas.List.{reverse-append}
use Rattle.plsearch.specs.Types.{Choice, Handle, Undo}
use Rattle.plviews.specs.declared.view.View.{View}
use Rattle.plenv.specs.Env.{Env, cut, IsMark}
use Rattle.plenv.specs.Changes.{bounded}
use Rattle.pllinks.specs.declared.link.Continuation.{Continuation}
use Rattle.pllinks.specs.Links.{alone}
use Rattle.plstack.specs.declared.frame.Marks.{Marks}
use Rattle.plstack.specs.declared.frame.Point.{Point}
use Rattle.plstack.specs.declared.frame.Handler.TheVariants as handlers
use Rattle.plstack.specs.declared.frame.Resume.TheVariants as resumes
use Rattle.plstack.specs.declared.frame.Frame.{Frame}
use Rattle.plstack.specs.declared.frame.Frame.TheVariants.{Open}
use Rattle.plstack.specs.Basis.{Basis, IsShown, counting, Ends}
use Rattle.plstack.specs.Places.{Database, depth_of}
use Rattle.plstack.specs.Frames.{AreFrames, AreSeen}
use Rattle.plstack.specs.Levels.{FitsIn}
use Rattle.plstack.specs.State.{State, IsState, IsStack, CountsUp, IsFit, IsList, Opens, beginning, goals_of, goals_in, kinds_in, cases_of}
use Rattle.plstack.specs.Opening.{undo_of}
use Rattle.plstack.proofs.Naming.{fits-widen, widens-choices}
use Rattle.plstack.proofs.Undoing.{undoings-choices}
use Rattle.plstack.proofs.Seeing.{SeenSince, seen-more, seen-since, taken-start, ends-taken}
use Rattle.plstack.proofs.Frames.{reverse-push}
use Rattle.plstack.proofs.Lists.{empty-list, no-elements}
use Rattle.plstack.proofs.Stacks.{counted, counted-cases, popped-frame, popped-frames}
use Rattle.plstack.proofs.Opening.{frame-now, framed-cases, framed-keeps, marked-stack}
use Rattle.plstack.proofs.Ending.{pushed-walks}

-- a choice, the case Undo in it, and in that a choice
module _ (s : State) (d : ℕ) (is : IsStack s d) (view : View) (shown : IsShown s.basis.latest view) (list : Continuation) (there : IsList s list) (fits : IsFit s list)
    (outer : List Frame) (first : CountsUp 1 (reverse s.frames) (reverse outer))
    (e : Env) (m : Marks) (mark : IsMark m.env e) (now : cut m.env e ≡ e) (same : e ≡ bounded (length s.env.heap.cells) (length s.env.slots) s.env)
    (links : m.links ≡ length s.links) (saved : m.saved ≡ length s.saved)
    (undo : List Frame) (pushed : undo ≡ outer ++ Open (record { marks = m; list = list }) (resumes.Handle handlers.Undo) ∷ [])
    (inner : List Frame) (second : CountsUp 1 (reverse undo) (reverse inner))
    (starts : List ℕ) (more : starts ≡ s.basis.starts ++ view.count ∷ []) where
  abbrev within : State
  within = record { basis = s.basis; env = s.env; links = s.links; saved = s.saved; frames = outer; goals = s.goals }

  within-stack : IsStack within (d + 1)
  within-stack = counted 1 s d outer first is

  within-list : IsList within list
  within-list = record { there = there.there; items = there.items }

  within-fits : IsFit within list
  within-fits = subst (λ ks. FitsIn ks (goals_of s list)) (sym first.kinds) (fits-widen (kinds_in s) _ (widens-choices 1 (kinds_in s)) (undoings-choices 1 (kinds_in s)) (goals_of s list) fits)

  abbrev point : Point
  point = record { marks = m; list = list }

  abbrev basis : Basis
  basis = record { code = s.basis.code; latest = view; starts = starts }

  counts-all : IsShown s.basis.latest (counting view.count view)
  counts-all = record { place = shown.place; count = shown.count; own = shown.own }

  undo-seen : AreSeen (reverse starts) view (reverse undo)
  undo-seen =
      let later = seen-more (reverse s.basis.starts) s.basis.latest (counting view.count view) counts-all (reverse outer) within-stack.0.seen in
      let behind : AreSeen (view.count ∷ reverse s.basis.starts) view (Open point (resumes.Handle handlers.Undo) ∷ reverse outer) = (tt, (le_refl _, later)) in
      subst (λ ss. AreSeen ss view (reverse undo)) (sym (ap reverse more ∙ reverse-append s.basis.starts (view.count ∷ [])))
      (subst (AreSeen (view.count ∷ reverse s.basis.starts) view) (sym (ap reverse pushed ∙ reverse-push outer (Open point (resumes.Handle handlers.Undo)))) behind)

  abbrev then : State
  then = record { basis = record { code = s.basis.code; latest = view; starts = starts }; env = e; links = s.links; saved = s.saved; frames = undo; goals = alone 0 }

  then-stack : IsStack then (d + 2)
  then-stack =
      let frame = frame-now within (d + 1) within-stack e m mark now same links saved list (resumes.Handle handlers.Undo) within-list within-fits tt refl in
      let before = framed-rest in (
        record {
          env = before.env;
          names = before.names;
          none = is.0.none;
          chain = is.0.chain;
          frames = subst (AreFrames (goals_in s) e s.links s.saved) (sym (ap reverse pushed ∙ reverse-push outer (Open point (resumes.Handle handlers.Undo)))) (frame, before.frames);
          seen = undo-seen;
          goals = empty-list (goals_in s) is.0.none e s.links;
          fits = inl (no-elements (goals_in s) is.0.none e s.links);
        },
        omega (arith, within-stack.1, ap depth_of (ap reverse pushed ∙ reverse-push outer (Open point (resumes.Handle handlers.Undo)))),
      )
    where
      framed-rest : IsState (record within { env = e })
      framed-rest = (marked-stack within (d + 1) within-stack e m mark now same links saved).0

  pub transaction-stack : IsStack (record { basis = record { code = s.basis.code; latest = view; starts = starts }; env = e; links = s.links; saved = s.saved; frames = inner; goals = alone 0 }) (d + 3)
  transaction-stack = let c = counted 1 then (d + 2) inner second then-stack in (c.0, omega (arith, c.1))

  transaction-cases : (db : Database) → cases_of db (record { basis = record { code = s.basis.code; latest = view; starts = starts }; env = e; links = s.links; saved = s.saved; frames = inner; goals = alone 0 })
      ≡ Choice [] ∷ Handle Undo (record { goals = goals_of (record within { env = e; frames = undo }) list; variables = e.count }) ∷ Choice [] ∷ cases_of db s
  unfolding cases_of
  transaction-cases db =
      second.cases db (goals_in s) e s.links s.saved
      ∙ ap (λ cs. Choice [] ∷ cs) (framed-cases within (d + 1) within-stack e m mark now same links saved list (resumes.Handle handlers.Undo) within-list within-fits tt refl undo pushed db)
      ∙ ap (λ cs. Choice [] ∷ Handle Undo (record { goals = goals_of (record within { env = e; frames = undo }) list; variables = e.count }) ∷ cs) (counted-cases 1 db s outer first)

  beginning-cases : (db : Database) → cases_of db (beginning view s) ≡ cases_of db s
  unfolding cases_of
  beginning-cases db = refl

  pub transaction-opens : Opens (beginning view s) (record { basis = record { code = s.basis.code; latest = view; starts = starts }; env = e; links = s.links; saved = s.saved; frames = inner; goals = alone 0 }) (Choice [] ∷ undo_of s list ∷ Choice [] ∷ [])
  transaction-opens =
      let k = framed-keeps within (d + 1) within-stack e m mark now same links saved list (resumes.Handle handlers.Undo) within-list within-fits tt refl undo pushed undo in
      let k' = framed-keeps within (d + 1) within-stack e m mark now same links saved list (resumes.Handle handlers.Undo) within-list within-fits tt refl undo pushed inner in
      record {
        cases = λ db.
            transaction-cases db
            ∙ ap₂ (λ gs n. Choice [] ∷ Handle Undo (record { goals = gs; variables = n }) ∷ Choice [] ∷ cases_of db s) (k.lists list within-list).1 k.count
            ∙ ap (λ cs. Choice [] ∷ undo_of s list ∷ Choice [] ∷ cs) (sym (beginning-cases db));
        values = k'.values;
        lists = λ l i. let r = k'.lists l (record { there = i.there; items = i.items }) in (record { there = r.0.there; items = r.0.items }, r.1);
        count = k.count;
        basis = ap (λ ss. record { code = s.basis.code; latest = view; starts = ss }) more;
        walks = second.walks ∙ pushed-walks undo outer (Open point (resumes.Handle handlers.Undo)) pushed ∙ first.walks;
        goals = refl;
      }

-- the case Undo was the innermost one, and is closed
module _ (s : State) (d : ℕ) (is : IsStack s d) (rest : List Frame) (p : Point) (popped : s.frames ≡ rest ++ Open p (resumes.Handle handlers.Undo) ∷ []) where
  since : SeenSince (reverse s.basis.starts) s.basis.latest (reverse rest)
  since = seen-since (reverse s.basis.starts) s.basis.latest (reverse rest) (popped-frame s d rest (Open p (resumes.Handle handlers.Undo)) popped is).1

  module _ (start : ℕ) (older : List ℕ) (starts : s.basis.starts ≡ older ++ start ∷ []) where
    pub undone-ends : Ends s.basis (record { code = s.basis.code; latest = counting start s.basis.latest; starts = older })
    undone-ends = ends-taken s.basis (reverse rest) start older starts since

    pub undone-stack : IsStack (record { basis = record { code = s.basis.code; latest = counting start s.basis.latest; starts = older }; env = s.env; links = s.links; saved = s.saved; frames = rest; goals = alone 0 }) (d - 1)
    undone-stack =
        let q = popped-frames s d rest (Open p (resumes.Handle handlers.Undo)) popped is in (
          record {
            env = is.0.env;
            names = is.0.names;
            none = is.0.none;
            chain = is.0.chain;
            frames = q.1;
            seen = taken-start s.basis (reverse rest) start older starts since;
            goals = empty-list (goals_in s) is.0.none s.env s.links;
            fits = inl (no-elements (goals_in s) is.0.none s.env s.links);
          },
          omega (arith, q.2),
        )
