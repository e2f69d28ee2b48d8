-- The newest case, a choice point that goes on: another one stands in its place, or a choice with nothing left.
use Rattle.std.proofs.Common.{◌≡◌, ℕ, ◌+◌, ◌-◌, List, [], ◌∷◌, ◌++◌, reverse, sym, ap, subst, ◌∙◌, arith}
use Rattle.plsearch.specs.Types.{Choice}
use Rattle.plenv.specs.Env.{cut}
use Rattle.pllinks.specs.Links.{alone}
use Rattle.plstack.specs.declared.frame.Point.{Point}
use Rattle.plstack.specs.declared.frame.Resume.{Resume}
use Rattle.plstack.specs.declared.frame.Frame.{Frame}
use Rattle.plstack.specs.declared.frame.Frame.TheVariants.{Open}
use Rattle.plstack.specs.Places.{Database, kept, kept_values, opened}
use Rattle.plstack.specs.Frames.{AreOlder, IsOpen, IsResume, IsSeen}
use Rattle.plstack.specs.State.{State, IsStack, goals_in, goals_of, kinds_in, cases_of, CountsUp}
use Rattle.plstack.specs.Levels.{Sort, Choosing, sort_of, kinds_of, EmptyOrFits}
use Rattle.plstack.proofs.Undoing.{choice-stays}
use Rattle.plstack.proofs.Frames.{reverse-push}
use Rattle.plstack.proofs.Stacks.{visiting-any, opened-cases, opened-state, counted, counted-cases, popped-cases, popped-stack}
use Rattle.plstack.proofs.Returning.{at-frame, back-depth}

head_is : (x y : Frame) (xs ys : List Frame) → x ∷ xs ≡ y ∷ ys → x ≡ y
head_is x y xs ys e = cc

-- the newest frame was taken off
module _ (s : State) (d : ℕ) (is : IsStack s d) (p : Point) (r : Resume) (before : List Frame) (top : s.frames ≡ before ++ Open p r ∷ []) (rest : List Frame) (f : Frame) (taken : s.frames ≡ rest ++ f ∷ []) where
  popped : s.frames ≡ rest ++ Open p r ∷ []
  popped = taken ∙ ap (λ g. rest ++ g ∷ []) (head_is f (Open p r) (reverse rest) (reverse before) (sym (ap reverse taken ∙ reverse-push rest f) ∙ ap reverse top ∙ reverse-push before (Open p r)))

  the-case : IsOpen (goals_in s) s.env s.links s.saved p r (reverse rest)
  the-case = at-frame s d is rest p r popped

  below-stack : sort_of r ≡ Choosing → IsStack (record s { frames = rest; goals = alone 0 }) (d - 1)
  below-stack choice = popped-stack s d rest (Open p r) popped is (choice-stays (Open p r) choice)

  pub taken-cases : (db : Database) → cases_of db s ≡ opened db (goals_in s) s.env s.links s.saved (Open p r) (cases_of db (record s { frames = rest }))
  taken-cases db = popped-cases db s rest (Open p r) popped

  was-kinds : kinds_in s ≡ sort_of r ∷ kinds_of (reverse rest)
  was-kinds = ap (λ fs. kinds_of fs) (ap reverse popped ∙ reverse-push rest (Open p r))

  -- the visited list fits again
  again-fits : (choice : sort_of r ≡ Choosing) (ks : List Sort) → ks ≡ Choosing ∷ kinds_of (reverse rest) → EmptyOrFits ks (goals_of s s.goals)
  again-fits choice ks same = subst (λ xs. EmptyOrFits xs (goals_of s s.goals)) (was-kinds ∙ ap (λ b. b ∷ kinds_of (reverse rest)) choice ∙ sym same) is.0.fits

  -- another one that keeps as many values
  module _ (r' : Resume) (many : kept r' ≡ kept r) (choice : sort_of r ≡ Choosing) (kind : sort_of r' ≡ Choosing)
      (fits : IsResume (cut p.marks.env s.env).heap (kept_values s.saved p r) r → IsResume (cut p.marks.env s.env).heap (kept_values s.saved p r') r')
      (seen : IsSeen s.basis.latest r') (frames : List Frame) (pushed : frames ≡ rest ++ Open p r' ∷ []) where
    frame : IsOpen (goals_in s) s.env s.links s.saved p r' (reverse rest)
    frame = record {
      mark = the-case.mark;
      links_room = the-case.links_room;
      list = the-case.list;
      saved_room = omega (arith, many, the-case.saved_room);
      older = the-case.older;
      items = the-case.items;
      resume = fits the-case.resume;
      fits = the-case.fits;
    }

    pub other-stack : IsStack (record s { frames = frames }) d
    other-stack =
        let o = opened-state (record s { frames = rest; goals = alone 0 }) (d - 1) frames (Open p r') pushed (below-stack choice) frame (choice-stays (Open p r') kind) seen in
        let same : kinds_of (reverse frames) ≡ Choosing ∷ kinds_of (reverse rest) = ap (λ fs. kinds_of fs) (ap reverse pushed ∙ reverse-push rest (Open p r')) ∙ ap (λ b. b ∷ kinds_of (reverse rest)) kind in
        let v = visiting-any (record s { frames = frames; goals = alone 0 }) (1 + (d - 1)) s.goals o (record { there = is.0.goals.there; items = is.0.goals.items }) (again-fits choice (kinds_of (reverse frames)) same) in
        (v.0, omega (arith, v.1, back-depth s d is rest p r popped))

    pub other-cases : (db : Database) → cases_of db (record s { frames = frames }) ≡ opened db (goals_in s) s.env s.links s.saved (Open p r') (cases_of db (record s { frames = rest }))
    other-cases db = opened-cases db (record s { frames = rest }) frames (Open p r') pushed

  -- nothing is left
  module _ (frames : List Frame) (up : CountsUp 1 (reverse rest) (reverse frames)) where
    pub none-stack : sort_of r ≡ Choosing → IsStack (record s { frames = frames }) d
    none-stack choice =
        let u = counted 1 (record s { frames = rest; goals = alone 0 }) (d - 1) frames up (below-stack choice) in
        let v = visiting-any (record s { frames = frames; goals = alone 0 }) (d - 1 + 1) s.goals u (record { there = is.0.goals.there; items = is.0.goals.items }) (again-fits choice (kinds_of (reverse frames)) up.kinds) in
        (v.0, omega (arith, v.1, back-depth s d is rest p r popped))

    pub none-cases : (db : Database) → cases_of db (record s { frames = frames }) ≡ Choice [] ∷ cases_of db (record s { frames = rest })
    none-cases db = counted-cases 1 db (record s { frames = rest }) frames up

    pub none-older : AreOlder p.marks (reverse frames)
    none-older = up.older p.marks the-case.older
