-- A catcher whose goal is done: with the choices inside of it, in which nothing is left, it becomes more of these.
use Rattle.std.proofs.Common.{◌≡◌, ℕ, ◌+◌, ◌-◌, ◌<◌, List, [], ◌∷◌, ◌++◌, length, length-append, get_or, take, reverse, refl, sym, ap, ap₂, ◌∙◌, subst, arith, append_assoc, inr}
use Rattle.std.proofs.lemmas.List.{reverse-append}
use Rattle.std.proofs.Math.Seq.{get_or-append_seam}
use Rattle.plsearch.specs.Types.{Marker, Until}
use Rattle.plcells.specs.Store.{value}
use Rattle.plenv.specs.Env.{IsWithin, cut}
use Rattle.pllinks.specs.declared.link.Continuation.{Continuation}
use Rattle.pllinks.specs.declared.item.MarkerKind.TheVariants as markers
use Rattle.plstack.specs.declared.first.First.TheVariants as firsts
use Rattle.plstack.specs.declared.frame.Marks.{Marks}
use Rattle.plstack.specs.declared.frame.Point.{Point}
use Rattle.plstack.specs.declared.frame.Catcher.{Catcher}
use Rattle.plstack.specs.declared.frame.Handler.TheVariants as handlers
use Rattle.plstack.specs.declared.frame.Resume.TheVariants as resumes
use Rattle.plstack.specs.declared.frame.Frame.{Frame}
use Rattle.plstack.specs.declared.frame.Frame.TheVariants.{Plain, Open}
use Rattle.plstack.specs.Places.{Database, cases, depth_of, walks_of}
use Rattle.plstack.specs.Levels.{Guarding, kinds_of, undoings, Fits, FitsIn}
use Rattle.plstack.specs.Frames.{AreFrames, AreOlder, AreSeen, IsOpen}
use Rattle.plstack.specs.First.{IsFirst}
use Rattle.plstack.specs.State.{State, IsStack, CountsUp, depth_in, goals_in, goals_of, kinds_in, cases_of}
use Rattle.plstack.specs.Cutting.{CatcherIn, CatcherLeft, IsCatching, LeavesCatcher, Settles}
use Rattle.plstack.proofs.Naming.{Widens, widens-emptied, fits-more, fits-most, kinds-length}
use Rattle.plstack.proofs.Undoing.{undoings-choices}
use Rattle.plstack.proofs.Frames.{depth-cases}
use Rattle.plstack.proofs.Stacks.{plain-plus}
use Rattle.plstack.proofs.Settling.{Keeps-trans}

-- what a frame is that is a catcher, and where it stands
record Caught (f : Frame) (m : Marks) : Type 0 where
  point : Point
  catcher : Catcher
  marks : point.marks ≡ m
  is : f ≡ Open point (resumes.Handle (handlers.Catch catcher))

caught : (f : Frame) (m : Marks) → IsCatching f m → Caught f m
caught (Plain n) m i = absurd i
caught (Open p (resumes.Clauses c)) m i = absurd i
caught (Open p (resumes.Walk w)) m i = absurd i
caught (Open p (resumes.Answers a)) m i = absurd i
caught (Open p resumes.List) m i = absurd i
caught (Open p (resumes.Handle (handlers.Catch c))) m i = record { point = p; catcher = c; marks = i; is = refl }
caught (Open p (resumes.Handle (handlers.Gather v))) m i = absurd i
caught (Open p (resumes.Handle handlers.Undo)) m i = absurd i

module _ (s : State) (d : ℕ) (is : IsStack s d) (i inside : ℕ) (m : Marks) (at : CatcherIn s.frames i m inside) where
  abbrev under : List Frame
  under = reverse (take i s.frames)

  the-frame : Caught at.catcher m
  the-frame = caught at.catcher m at.catching

  abbrev catching : Frame
  catching = Open the-frame.point (resumes.Handle (handlers.Catch the-frame.catcher))

  newest : reverse s.frames ≡ Plain inside ∷ catching ∷ under
  newest = ap reverse (at.top ∙ ap (λ f. take i s.frames ++ f ∷ Plain inside ∷ []) the-frame.is) ∙ reverse-append (take i s.frames) (catching ∷ Plain inside ∷ [])

  all-frames : AreFrames (goals_in s) s.env s.links s.saved (Plain inside ∷ catching ∷ under)
  all-frames = subst (AreFrames (goals_in s) s.env s.links s.saved) newest is.0.frames

  the-catcher : IsOpen (goals_in s) s.env s.links s.saved the-frame.point (resumes.Handle (handlers.Catch the-frame.catcher)) under
  the-catcher = all-frames.1.0

  pub catcher-within : IsWithin m.env s.env
  catcher-within = subst (λ (x : Marks). IsWithin x.env s.env) the-frame.marks the-catcher.mark.within

  catcher-depth : depth_in s ≡ inside + (1 + depth_of under)
  catcher-depth = ap depth_of newest

  module _ (frames : List Frame) (up : CountsUp (inside + 1) under (reverse frames)) where
    pub catcher-older : AreOlder m (reverse frames)
    catcher-older = up.older m (subst (λ (x : Marks). AreOlder x under) the-frame.marks the-catcher.older)

    module _ (level : ℕ) (list : Continuation) (first : IsFirst s (firsts.Marker markers.Until level list)) (deep : depth_in s ≡ inside + level + 1) where
      behind : FitsIn (kinds_in s) (Marker Until level ∷ goals_of s list)
      behind = subst (FitsIn (kinds_in s)) first.goals first.levels

      level-is : depth_of under ≡ level
      level-is = omega (arith, deep, catcher-depth)

      widens : Widens (kinds_in s) (kinds_of (reverse frames))
      widens =
          let w = widens-emptied (Plain inside ∷ catching ∷ []) under (inside + 1) (omega arith) in
          subst (λ fs. Widens (kinds_of fs) (kinds_of (reverse frames))) (sym newest) (subst (Widens (kinds_of (Plain inside ∷ catching ∷ under))) (sym up.kinds) w)

      same-undoings : undoings (kinds_in s) ≡ undoings (kinds_of (reverse frames))
      same-undoings =
          ap (λ fs. undoings (kinds_of fs)) newest ∙ undoings-choices inside (Guarding ∷ kinds_of under)
          ∙ sym (ap undoings up.kinds ∙ undoings-choices (inside + 1) (kinds_of under))

      pub catcher-fits : FitsIn (kinds_of (reverse frames)) (goals_of s list)
      catcher-fits = (fits-more (kinds_in s) (kinds_of (reverse frames)) widens (goals_of s list) level _ (omega (arith, behind.0.0, widens.more)) behind.0.2, behind.1 ∙ same-undoings)

      pub catcher-stack : IsStack (record s { frames = frames; goals = list }) d
      catcher-stack = (
        record {
          env = is.0.env;
          names = is.0.names;
          none = is.0.none;
          chain = is.0.chain;
          frames = up.frames (goals_in s) s.env s.links s.saved all-frames.1.1;
          seen = up.seen (reverse s.basis.starts) s.basis.latest (subst (AreSeen (reverse s.basis.starts) s.basis.latest) newest is.0.seen).1.1;
          goals = record { there = first.there.there; items = first.there.items };
          fits = inr catcher-fits;
        },
        omega (arith, is.1, catcher-depth, up.depth),
      )

      left : (db : Database) → CatcherLeft db s (record s { frames = frames; goals = list }) level
      unfolding cases_of
      left db =
          let below = cases db (goals_in s) s.env s.links s.saved under in
          record {
            inside = inside;
            catcher = value (cut the-frame.point.marks.env s.env).heap the-frame.catcher.catcher;
            recovery = value (cut the-frame.point.marks.env s.env).heap the-frame.catcher.recovery;
            place = _;
            below = below;
            was = ap (cases db (goals_in s) s.env s.links s.saved) newest;
            at = depth-cases db (goals_in s) s.env s.links s.saved under ∙ level-is;
            cases = up.cases db (goals_in s) s.env s.links s.saved ∙ sym (plain-plus inside 1 below);
          }

      pub catcher-leaves : LeavesCatcher s (record s { frames = frames; goals = list }) level list
      catcher-leaves = record {
        most = λ k e. fits-most (kinds_in s) k (goals_of s list) (subst (λ n. Fits (kinds_in s) n (goals_of s list)) e behind.0.2);
        cases = left;
        keeps = record { values = λ v f. (f, refl); lists = λ l j. (record { there = j.there; items = j.items }, refl); count = refl; basis = refl };
        walks = up.walks ∙ sym (ap walks_of newest);
        goals = refl;
      }

-- so it is where less is old
pub catcher_settled : (s mid new : State) (level : ℕ) (list : Continuation) → LeavesCatcher s mid level list → Settles mid new → LeavesCatcher s new level list
catcher_settled s mid new level list l y = record {
  most = l.most;
  cases = λ db. let c = l.cases db in record { inside = c.inside; catcher = c.catcher; recovery = c.recovery; place = c.place; below = c.below; was = c.was; at = c.at; cases = y.cases db ∙ c.cases };
  keeps = Keeps-trans s mid new l.keeps y.keeps;
  walks = ap (λ fs. walks_of (reverse fs)) y.frames ∙ l.walks;
  goals = y.goals ∙ l.goals;
}

-- the level of a marker is that of a case
pub first-level : (s : State) (d : ℕ) → IsStack s d → (level : ℕ) (list : Continuation) → IsFirst s (firsts.Marker markers.Until level list) → level < d
first-level s d is level list f =
    let p = subst (FitsIn (kinds_in s)) f.goals f.levels in
    omega (arith, p.0.0, kinds-length (reverse s.frames), is.1)

-- ---- where there is none

module _ (frames : List Frame) (i : ℕ) (m : Marks) (inside : ℕ) (at : CatcherIn frames i m inside) where
  pub catcher-last : frames ≡ (take i frames ++ at.catcher ∷ []) ++ Plain inside ∷ []
  catcher-last = at.top ∙ sym (append_assoc (take i frames) (at.catcher ∷ []) (Plain inside ∷ []))

  catcher-many : length frames ≡ length (take i frames) + 2
  catcher-many = ap length at.top ∙ length-append (take i frames) (at.catcher ∷ Plain inside ∷ [])

  -- it is the frame before
  pub catcher-here : (n : ℕ) (f : Frame) → n ≡ length frames - 2 → f ≡ get_or frames n f → IsCatching f m
  catcher-here n f place found =
      let e : get_or frames n f ≡ at.catcher =
      ap₂ (λ fs k. get_or fs k f) at.top (omega (arith, place, catcher-many)) ∙ get_or-append_seam (take i frames) at.catcher (Plain inside ∷ []) f in
      subst (λ g. IsCatching g m) (sym (found ∙ e)) at.catching
