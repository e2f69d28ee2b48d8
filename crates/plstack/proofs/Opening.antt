-- Cases that come back to what there is now.
use Rattle.std.proofs.Common.{◌≡◌, ℕ, ◌+◌, List, [], ◌∷◌, ◌++◌, length, take, drop, refl, sym, ap, ap₂, ◌∙◌, subst, arith, reverse}
use Rattle.plcells.specs.declared.cell.Cell.{Cell}
use Rattle.plsearch.specs.Types.{Case, Choice, Handle}
use Rattle.plsearch.specs.Rows.{branch}
use Rattle.plsearch.specs.Engine.{deeper}
use Rattle.plenv.specs.Env.{Env, IsEnv, cut, IsMark}
use Rattle.plenv.specs.Changes.{bounded, Extends as ExtendsEnv}
use Rattle.plenv.proofs.Bounding.{extends-marked, older-now}
use Rattle.pllinks.specs.declared.link.Link.{Link}
use Rattle.pllinks.specs.declared.link.Continuation.{Continuation}
use Rattle.pllinks.specs.Lists.{Goals, AreItems}
use Rattle.pllinks.specs.Links.{items_of}
use Rattle.plstack.specs.declared.frame.Marks.{Marks}
use Rattle.plstack.specs.declared.frame.Point.{Point}
use Rattle.plstack.specs.declared.frame.Resume.{Resume}
use Rattle.plstack.specs.declared.frame.Resume.TheVariants as resumes
use Rattle.plstack.specs.declared.frame.Handler.TheVariants as handlers
use Rattle.plstack.specs.declared.frame.Handling.{Handling}
use Rattle.plstack.specs.declared.frame.Frame.{Frame}
use Rattle.plstack.specs.declared.frame.Frame.TheVariants.{Plain, Open}
use Rattle.plstack.specs.Places.{Database, kept, kept_values, case_of}
use Rattle.plstack.specs.Frames.{AreOlder, IsResume, IsSeen, IsOpen, AreFrames}
use Rattle.plgenerator.proofs.Staying.{turn_stays}
use Rattle.plstack.specs.State.{State, IsStack, goals_in, kinds_in, cases_of, walks_in, IsFit, IsList, Extends, CountsUp, Opens, IsClauses, IsWalk, IsAnswers, IsBranch, IsCatcher, IsGatherer, IsUndo}
use Rattle.plstack.specs.Opening.{branch_of, handler_of, closing, ClosedAs, IsHandling, OpensFrame, OpensIn, Keeps}
use Rattle.plstack.specs.Levels.{sort_of, Undoing}
use Rattle.plstack.proofs.Undoing.{stays-frame}
use Rattle.plstack.proofs.Handled.{handled-same}
use Rattle.plstack.proofs.Naming.{fits-env}
use Rattle.plstack.proofs.Growing.{stack-env, extends-env}
use Rattle.plstack.proofs.Stacks.{opened-cases, opened-state, counted, counted-cases, popped-cases, has-last}
use Rattle.plstack.proofs.Ending.{pushed-walks}

-- no frame is newer than the mark of now
pub older-frames : (code : Goals) (e : Env) (links : List Link) (saved : List Cell) (m : Marks) → IsMark m.env e → cut m.env e ≡ e → m.links ≡ length links → m.saved ≡ length saved →
    (fs : List Frame) → AreFrames code e links saved fs → AreOlder m fs
older-frames code e links saved m mark now ls vs [] a = tt
older-frames code e links saved m mark now ls vs (Plain n ∷ fs) a = older-frames code e links saved m mark now ls vs fs a.1
older-frames code e links saved m mark now ls vs (Open p r ∷ fs) a = (
  record {
    env = older-now p.marks.env m.env e mark now a.0.mark.within;
    links = rw ls a.0.links_room;
    saved = rw vs a.0.saved_room;
  },
  older-frames code e links saved m mark now ls vs fs a.1,
)

pub no-values : (n k : ℕ) (vs : List Cell) → k ≡ 0 → take k (drop n vs) ≡ []
no-values n k vs e = ap (λ i. take i (drop n vs)) e

-- all that is there was marked
module _ (s : State) (d : ℕ) (is : IsStack s d) (e : Env) (m : Marks) (mark : IsMark m.env e) (now : cut m.env e ≡ e) (same : e ≡ bounded (length s.env.heap.cells) (length s.env.slots) s.env)
    (links : m.links ≡ length s.links) (saved : m.saved ≡ length s.saved) where
  abbrev marked : State
  marked = record { basis = s.basis; env = e; links = s.links; saved = s.saved; frames = s.frames; goals = s.goals }

  pub env-now : IsEnv e
  env-now = subst IsEnv now mark.env

  pub extends-now : ExtendsEnv s.env e
  extends-now = subst (ExtendsEnv s.env) (sym same) (extends-marked s.env is.0.env)

  pub marked-stack : IsStack marked d
  marked-stack = stack-env s d e extends-now env-now is

  pub marked-extends : Extends s marked
  marked-extends = extends-env s d e extends-now env-now is

  pub count-now : e.count ≡ s.env.count
  count-now = ap (λ x. x.count) same

  module _ (l : Continuation) (r : Resume) (i : IsList s l) (f : IsFit s l) (resume : IsResume s.env.heap [] r) (none : kept r ≡ 0) where
    abbrev point : Point
    point = record { marks = m; list = l }

    resume-now : (q : Resume) → IsResume s.env.heap [] q → IsResume e.heap [] q
    resume-now (resumes.Clauses c) a = tt
    resume-now (resumes.Walk w) a = (extends-now.values w.goal a).0
    resume-now (resumes.Answers x) a = (tt, turn_stays s.env.heap e.heap extends-now.values [] tt x.turn a.1)
    resume-now resumes.List a = tt
    resume-now (resumes.Handle x) a = (handled-same s.env.heap e.heap extends-now.values x a).0

    pub frame-now : IsOpen (goals_in s) e s.links s.saved point r (reverse s.frames)
    frame-now = record {
      mark = mark;
      links_room = omega (arith, links);
      list = omega (arith, links, i.there);
      saved_room = omega (arith, saved, none);
      older = older-frames (goals_in s) e s.links s.saved m mark now links saved (reverse s.frames) marked-stack.0.frames;
      items = subst (λ (x : Env). AreItems (goals_in s) x.heap (length x.slots) (items_of s.links l)) (sym now) (marked-extends.lists l i).0.items;
      resume = subst (λ (x : Env). IsResume x.heap (kept_values s.saved point r) r) (sym now)
          (subst (λ vs. IsResume e.heap vs r) (sym (no-values m.saved (kept r) s.saved none)) (resume-now r resume));
      fits = fits-env (kinds_in s) (goals_in s) s.env e (items_of s.links l) (items_of s.links l) refl f;
    }

    case-now : (db : Database) (k : ℕ) →
        case_of db (goals_in s) k (cut m.env e) (items_of s.links l) (kept_values s.saved point r) r ≡ case_of db (goals_in s) k e (items_of s.links l) [] r
    case-now db k = ap₂ (λ x vs. case_of db (goals_in s) k x (items_of s.links l) vs r) now (no-values m.saved (kept r) s.saved none)

    module _ (frames : List Frame) (pushed : frames ≡ s.frames ++ Open (record { marks = m; list = l }) r ∷ []) where
      pub framed-stack : (sort_of r ≡ Undoing → ⊥) → IsSeen s.basis.latest r → IsStack (record s { env = e; frames = frames }) (d + 1)
      framed-stack stays seen =
          let o = opened-state marked d frames (Open point r) pushed marked-stack frame-now (stays-frame point r stays) seen in
          (o.0, omega (arith, o.1))

      pub framed-cases : (db : Database) → cases_of db (record s { env = e; frames = frames }) ≡ case_of db (goals_in s) (deeper (cases_of db s) 0) e (items_of s.links l) [] r ∷ cases_of db s
      framed-cases db =
          opened-cases db marked frames (Open point r) pushed
          ∙ ap (λ cs. case_of db (goals_in s) (deeper cs 0) (cut m.env e) (items_of s.links l) (kept_values s.saved point r) r ∷ cs) (marked-extends.cases db)
          ∙ ap (λ c. c ∷ cases_of db s) (case-now db (deeper (cases_of db s) 0))

      pub framed-keeps : (more : List Frame) → Keeps s (record s { env = e; frames = more })
      framed-keeps more = record {
        values = extends-now.values;
        lists = λ x a. let r = marked-extends.lists x a in (record { there = r.0.there; items = r.0.items }, r.1);
        count = count-now;
        basis = refl;
      }

      pub framed-opens : OpensFrame s (record s { env = e; frames = frames }) l r
      framed-opens = record { cases = framed-cases; keeps = framed-keeps frames; walks = pushed-walks frames s.frames (Open point r) pushed; goals = refl }

      module _ (more : List Frame) (up : CountsUp 1 (reverse frames) (reverse more)) where
        pub in-stack : (sort_of r ≡ Undoing → ⊥) → IsSeen s.basis.latest r → IsStack (record s { env = e; frames = more }) (d + 2)
        in-stack stays seen =
            let c = counted 1 (record s { env = e; frames = frames }) (d + 1) more up (framed-stack stays seen) in
            (c.0, omega (arith, c.1))

        pub in-opens : OpensIn s (record s { env = e; frames = more }) l r
        in-opens = record {
          cases = λ db. counted-cases 1 db (record s { env = e; frames = frames }) more up ∙ ap (λ cs. Choice [] ∷ cs) (framed-cases db);
          keeps = framed-keeps more;
          walks = up.walks ∙ pushed-walks frames s.frames (Open point r) pushed;
          goals = refl;
        }

-- what cases are opened
module _ (s new : State) where
  branch-same : (l : Continuation) → IsList s l → Keeps s new → branch_of new l ≡ branch_of s l
  branch-same l i y = ap₂ branch (y.lists l i).1 y.count

  handler-same : (h : Handling) → IsHandling s h → Keeps s new → handler_of new h ≡ handler_of s h
  handler-same h i y =
      ap₂ Handle (handled-same s.env.heap new.env.heap y.values h.handler i.handler).1
      (ap₂ (λ gs n. record { goals = gs; variables = n }) (y.lists h.list i.list).1 y.count)

  -- all else stays
  opens-these : (more : List Case) → ((db : Database) → cases_of db new ≡ more ++ cases_of db s) → Keeps s new → walks_in new ≡ walks_in s → new.goals ≡ s.goals → Opens s new more
  opens-these more cases y walks goals = record { cases = cases; values = y.values; lists = y.lists; count = y.count; basis = y.basis; walks = walks; goals = goals }

  pub opens_branch : (l : Continuation) → IsList s l → OpensFrame s new l resumes.List → Opens s new (branch_of s l ∷ [])
  opens_branch l i o = opens-these (branch_of s l ∷ []) (λ db. o.cases db ∙ ap (λ c. c ∷ cases_of db s) (branch-same l i o.keeps)) o.keeps o.walks o.goals

  pub opens_in_branch : (l : Continuation) → IsList s l → OpensIn s new l resumes.List → Opens s new (Choice [] ∷ branch_of s l ∷ [])
  opens_in_branch l i o = opens-these (Choice [] ∷ branch_of s l ∷ []) (λ db. o.cases db ∙ ap (λ c. Choice [] ∷ c ∷ cases_of db s) (branch-same l i o.keeps)) o.keeps o.walks o.goals

  pub opens_in_handler : (h : Handling) → IsHandling s h → OpensIn s new h.list (resumes.Handle h.handler) → Opens s new (Choice [] ∷ handler_of s h ∷ [])
  opens_in_handler h i o = opens-these (Choice [] ∷ handler_of s h ∷ []) (λ db. o.cases db ∙ ap (λ c. Choice [] ∷ c ∷ cases_of db s) (handler-same h i o.keeps)) o.keeps o.walks o.goals

-- more choices with nothing left
pub opens-plain : (s : State) (frames : List Frame) → CountsUp 1 (reverse s.frames) (reverse frames) → Opens s (record s { frames = frames }) (Choice [] ∷ [])
opens-plain s frames up = record {
  cases = λ db. counted-cases 1 db s frames up;
  values = λ v f. (f, refl);
  lists = λ l i. (record { there = i.there; items = i.items }, refl);
  count = refl;
  basis = refl;
  walks = up.walks;
  goals = refl;
}

-- a case that came back to something was closed
pub closed-open : (db : Database) (s : State) (rest : List Frame) (p : Point) (r : Resume) → s.frames ≡ rest ++ Open p r ∷ [] → ClosedAs db s (record s { frames = rest }) (closing r)
closed-open db s rest p (resumes.Clauses c) e = (_, popped-cases db s rest (Open p (resumes.Clauses c)) e, λ not n m k. absurd (not (has-last IsClauses s.frames rest (Open p (resumes.Clauses c)) e tt)))
closed-open db s rest p (resumes.Walk w) e = (_, popped-cases db s rest (Open p (resumes.Walk w)) e, λ n not m k. absurd (not (has-last IsWalk s.frames rest (Open p (resumes.Walk w)) e tt)))
closed-open db s rest p (resumes.Answers a) e = (_, popped-cases db s rest (Open p (resumes.Answers a)) e, λ n m k not. absurd (not (has-last IsAnswers s.frames rest (Open p (resumes.Answers a)) e tt)))
closed-open db s rest p resumes.List e = (_, popped-cases db s rest (Open p resumes.List) e, λ n m not k. absurd (not (has-last IsBranch s.frames rest (Open p resumes.List) e tt)))
closed-open db s rest p (resumes.Handle (handlers.Catch c)) e = (
  _,
  _,
  popped-cases db s rest (Open p (resumes.Handle (handlers.Catch c))) e,
  (λ a b is not. not (has-last IsCatcher s.frames rest (Open p (resumes.Handle (handlers.Catch c))) e tt)),
  (λ l is not. absurd (cc)),
  λ is. cc,
)
closed-open db s rest p (resumes.Handle (handlers.Gather v)) e = (
  _,
  _,
  popped-cases db s rest (Open p (resumes.Handle (handlers.Gather v))) e,
  (λ a b is not. absurd (cc)),
  (λ l is not. not (has-last IsGatherer s.frames rest (Open p (resumes.Handle (handlers.Gather v))) e tt)),
  λ is. cc,
)
closed-open db s rest p (resumes.Handle handlers.Undo) e = (_, popped-cases db s rest (Open p (resumes.Handle handlers.Undo)) e, has-last IsUndo s.frames rest (Open p (resumes.Handle handlers.Undo)) e tt)
