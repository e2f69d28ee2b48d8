-- A stack whose cases from one on are given up.
use Rattle.std.proofs.Common.{◌≡◌, ℕ, suc, ◌+◌, ◌-◌, ◌<◌, ◌≤◌, List, [], ◌∷◌, ◌++◌, length, take, drop, reverse, refl, sym, ap, ◌∙◌, subst, arith, append_assoc, inl, inr}
use Rattle.plsearch.specs.Types.{Case, Choice, Mark as MarkOf, Element, Marker, Transact}
use Rattle.plsearch.specs.Engine.{deeper}
use Rattle.plsearch.specs.Machines.Levels.{AreAtMost}
use Rattle.pllinks.specs.declared.link.Continuation.{Continuation}
use Rattle.pllinks.specs.Links.{alone}
use Rattle.pllinks.specs.declared.item.MarkerKind.TheVariants as markers
use Rattle.plstack.specs.declared.frame.Frame.{Frame}
use Rattle.plstack.specs.Basis.{counting, Ends}
use Rattle.plstack.specs.Places.{Database, plain, cases, depth_of}
use Rattle.plstack.specs.Frames.{AreFrames, AreSeen}
use Rattle.plstack.specs.State.{State, IsStack, CountsUp, depth_in, goals_in, goals_of, kinds_in, cases_of, IsEmptyOrFit, IsList}
use Rattle.plstack.specs.First.{IsFirst}
use Rattle.plstack.specs.declared.first.First.TheVariants as firsts
use Rattle.plstack.specs.Levels.{kinds, choices, kinds_of, undoings, Fits, FitsIn, Precedes, transacts}
use Rattle.plstack.specs.Cutting.{frame_at, ChoiceAt, Cuts, Drops, NoneUndoes, EmptiesFrom, Empties, EmptiesTo, GivesUp, Passes, Settles}
use Rattle.plstack.specs.Opening.{KeepsValues}
use Rattle.plstack.proofs.Naming.{Widens, widens-emptied, visited-widen, fits-more, fits-most, fits-top, kinds-cases, kinds-plain, no-database}
use Rattle.plstack.proofs.Undoing.{undoings-choices, cuts-none, ends-one}
use Rattle.plstack.proofs.Seeing.{SeenSince, seen-append, seen-ended, taken-start}
use Rattle.plstack.proofs.Frames.{plain-deeper, depth-cases}
use Rattle.plstack.proofs.Lists.{empty-list, no-elements}
use Rattle.plstack.proofs.Stacks.{with-frames, no-goals, plain-plus}
use Rattle.plstack.proofs.Ending.{ends-from}
use Rattle.plstack.proofs.Settling.{keeps_as, gives_then}
use Rattle.plstack.proofs.Cutting.{Splits, all-split, emptied-plain, reversed-at, frames-append}

-- the frames from one on, and those below them
module _ (frames : List Frame) (i : ℕ) (lt : i < length frames) where
  abbrev pub front : List Frame
  front = reverse (drop (suc i) frames) ++ frame_at frames i ∷ []

  abbrev pub under : List Frame
  under = reverse (take i frames)

  pub split-at : reverse frames ≡ front ++ under
  split-at = reversed-at frames i lt ∙ sym (append_assoc (reverse (drop (suc i) frames)) (frame_at frames i ∷ []) (reverse (take i frames)))

-- the cases from the frame of a number on are so many choices with nothing left
module _ (s : State) (d : ℕ) (is : IsStack s d) (i n : ℕ) (lt : i < length s.frames) (many : depth_of (reverse s.frames) ≤ n + depth_of (reverse (take i s.frames))) (frames : List Frame) (up : CountsUp n (reverse (take i s.frames)) (reverse frames)) where
  emptied-widens : Widens (kinds_in s) (kinds_of (reverse frames))
  emptied-widens =
      let more = widens-emptied (front s.frames i lt) (under s.frames i lt) n (omega (arith, many, ap depth_of (split-at s.frames i lt))) in
      subst (λ fs. Widens (kinds_of fs) (kinds_of (reverse frames))) (sym (split-at s.frames i lt)) (subst (Widens (kinds_of (front s.frames i lt ++ under s.frames i lt))) (sym up.kinds) more)

  emptied-undoings : NoneUndoes s.frames i → undoings (kinds_of (reverse frames)) ≡ undoings (kinds_in s)
  emptied-undoings none = ap undoings up.kinds ∙ undoings-choices n (kinds_of (reverse (take i s.frames))) ∙ none

  emptied-frames : AreFrames (goals_in s) s.env s.links s.saved (reverse frames)
  emptied-frames = up.frames (goals_in s) s.env s.links s.saved
      (frames-append (goals_in s) s.env s.links s.saved (front s.frames i lt) (under s.frames i lt) (subst (AreFrames (goals_in s) s.env s.links s.saved) (split-at s.frames i lt) is.0.frames))

  emptied-depth : depth_of (reverse frames) ≡ n + depth_of (reverse (take i s.frames))
  emptied-depth = omega (arith, up.depth)

  pub emptied-stack : NoneUndoes s.frames i → IsStack (record s { frames = frames }) (n + depth_of (reverse (take i s.frames)))
  emptied-stack none = (
    with-frames s frames is.0 emptied-frames
        (up.seen (reverse s.basis.starts) s.basis.latest
        (seen-append (front s.frames i lt) (under s.frames i lt) (reverse s.basis.starts) s.basis.latest (none ∙ ap (λ fs. undoings (kinds_of fs)) (split-at s.frames i lt))
        (subst (AreSeen (reverse s.basis.starts) s.basis.latest) (split-at s.frames i lt) is.0.seen)))
        (visited-widen (kinds_in s) (kinds_of (reverse frames)) emptied-widens (emptied-undoings none) (goals_of s s.goals) is.0.fits),
    sym emptied-depth,
  )

  pub dropped-stack : NoneUndoes s.frames i → IsStack (record s { frames = frames; goals = alone 0 }) (n + depth_of (reverse (take i s.frames)))
  dropped-stack none = no-goals (record s { frames = frames }) (n + depth_of (reverse (take i s.frames))) (emptied-stack none)

  -- among them is the innermost transaction
  module _ (l : ℕ) (one : undoings (kinds_in s) ≡ l ∷ undoings (kinds_of (reverse (take i s.frames)))) where
    pub seen-under : SeenSince (reverse s.basis.starts) s.basis.latest (reverse (take i s.frames))
    seen-under = seen-ended (front s.frames i lt) (under s.frames i lt) (reverse s.basis.starts) s.basis.latest l (ap (λ fs. undoings (kinds_of fs)) (sym (split-at s.frames i lt)) ∙ one)
        (subst (AreSeen (reverse s.basis.starts) s.basis.latest) (split-at s.frames i lt) is.0.seen)

    pub ended-stack : (start : ℕ) (older : List ℕ) → s.basis.starts ≡ older ++ start ∷ [] →
        IsStack (record s { basis = record { code = s.basis.code; latest = counting start s.basis.latest; starts = older }; frames = frames; goals = alone 0 }) (n + depth_of (reverse (take i s.frames)))
    ended-stack start older starts = (
      record {
        env = is.0.env;
        names = is.0.names;
        none = is.0.none;
        chain = is.0.chain;
        frames = emptied-frames;
        seen = up.seen (reverse older) (counting start s.basis.latest) (taken-start s.basis (reverse (take i s.frames)) start older starts seen-under);
        goals = empty-list (goals_in s) is.0.none s.env s.links;
        fits = inl (no-elements (goals_in s) is.0.none s.env s.links);
      },
      sym emptied-depth,
    )

  pub empties-from : (new : State) → new.frames ≡ frames → new.env ≡ s.env → new.links ≡ s.links → new.saved ≡ s.saved → new.basis.code ≡ s.basis.code → EmptiesFrom s new i n
  unfolding cases_of
  empties-from new fs e links saved code = record {
    cases = λ db. rw (fs, e, links, saved, code) (up.cases db (goals_in s) s.env s.links s.saved);
    older = λ m o. rw fs (up.older m o);
    walks = let w = ends-from s i n frames up in rw fs (w.0, w.1);
  }

-- so the choice at the level and all inside of it are
module _ (s new : State) (level i below : ℕ) (at : ChoiceAt s.frames level i below) (db : Database) where
  abbrev base : List Case
  base = cases db (goals_in s) s.env s.links s.saved (reverse (take i s.frames))

  base-depth : deeper base 0 ≡ below
  base-depth = depth-cases db (goals_in s) s.env s.links s.saved (reverse (take i s.frames)) ∙ at.depth

  abbrev up-to : ℕ
  up-to = level - deeper base 0

  splits : Splits (cases db (goals_in s) s.env s.links s.saved (reverse s.frames)) level (plain up-to base)
  splits = rw (reversed-at s.frames i at.there) (all-split db (goals_in s) s.env s.links s.saved (reverse (drop (suc i) s.frames)) (frame_at s.frames i) (reverse (take i s.frames)) level at.choice (omega (arith, base-depth, at.low)) (omega (arith, base-depth, at.high)))

  all-depth : depth_of (reverse s.frames) ≡ length splits.inside + suc level
  all-depth = sym (depth-cases db (goals_in s) s.env s.links s.saved (reverse s.frames)) ∙ splits.count

  at-level : deeper (plain up-to base) 0 ≡ level
  at-level = plain-deeper up-to base ∙ omega (arith, base-depth, at.low)

  emptied-to : (n : ℕ) (inside : List Case) → n ≡ length inside + suc (level - below) → plain n base ≡ plain (length inside) (Choice [] ∷ plain up-to base)
  emptied-to n inside count = ap (λ k. plain k base) (omega (arith, count, base-depth)) ∙ sym (plain-plus (length inside) (suc up-to) base)

  pub empties : cases_of db new ≡ plain (depth_of (reverse s.frames) - below + 1) base → Empties db s new level
  unfolding cases_of
  empties from = record {
    inside = splits.inside;
    places = splits.places;
    below = plain up-to base;
    was = splits.is;
    at = at-level;
    cases =
        from
        ∙ emptied-to (depth_of (reverse s.frames) - below + 1) (MarkOf level ∷ splits.inside) (omega (arith, all-depth, at.low))
        ∙ sym (emptied-plain (MarkOf level ∷ splits.inside) (Choice [] ∷ plain up-to base));
  }

  pub empties-to : cases_of db new ≡ plain (depth_of (reverse s.frames) - below) base → EmptiesTo db s new level
  unfolding cases_of
  empties-to from = record {
    inside = splits.inside;
    places = splits.places;
    below = plain up-to base;
    was = splits.is;
    at = at-level;
    cases =
        from
        ∙ emptied-to (depth_of (reverse s.frames) - below) splits.inside (omega (arith, all-depth, at.low))
        ∙ sym (emptied-plain splits.inside (Choice [] ∷ plain up-to base));
  }

-- ---- where a choice's level is cut to

module _ (s : State) (level i below : ℕ) (at : ChoiceAt s.frames level i below) where
  all-kinds : kinds_in s ≡ kinds_of (reverse (drop (suc i) s.frames) ++ frame_at s.frames i ∷ reverse (take i s.frames))
  all-kinds = ap kinds_of (reversed-at s.frames i at.there)

  top : level < depth_of (frame_at s.frames i ∷ reverse (take i s.frames))
  top = omega (arith, at.high, at.depth)

  -- no transaction is given up
  pub cut-none : (es : List Element) → Precedes (kinds_in s) level es → NoneUndoes s.frames i
  cut-none es p =
      cuts-none (reverse (drop (suc i) s.frames)) (frame_at s.frames i) (reverse (take i s.frames)) level es at.choice top (subst (λ ks. Precedes ks level es) all-kinds p)
      ∙ sym (ap undoings all-kinds)

  -- the innermost is
  pub pass-one : (l : ℕ) (es : List Element) → FitsIn (kinds_in s) (Marker (Transact level) l ∷ es) → undoings (kinds_in s) ≡ l ∷ undoings (kinds_of (reverse (take i s.frames)))
  pass-one l es f =
      ap undoings all-kinds
      ∙ ends-one (reverse (drop (suc i) s.frames)) (frame_at s.frames i) (reverse (take i s.frames)) level l es at.choice (omega (arith, at.depth, at.low)) top (subst (λ ks. FitsIn ks (Marker (Transact level) l ∷ es)) all-kinds f)

  -- where so many choices with nothing left are in their place
  module _ (new : State) (n : ℕ) (many : depth_of (reverse s.frames) ≤ n + below) (from : (db : Database) → cases_of db new ≡ plain n (cases db (goals_in s) s.env s.links s.saved (reverse (take i s.frames)))) where
    new-kinds : kinds_in new ≡ choices n (kinds_of (reverse (take i s.frames)))
    unfolding cases_of
    new-kinds =
        sym (kinds-cases no-database (goals_in new) new.env new.links new.saved (reverse new.frames)) ∙ ap kinds (from no-database)
        ∙ kinds-plain n (cases no-database (goals_in s) s.env s.links s.saved (reverse (take i s.frames))) ∙ ap (choices n) (kinds-cases no-database (goals_in s) s.env s.links s.saved (reverse (take i s.frames)))

    new-widens : Widens (kinds_in s) (kinds_in new)
    new-widens =
        let more = widens-emptied (front s.frames i at.there) (under s.frames i at.there) n (omega (arith, many, at.depth, ap depth_of (split-at s.frames i at.there))) in
        subst (λ fs. Widens (kinds_of fs) (kinds_in new)) (sym (split-at s.frames i at.there)) (subst (Widens (kinds_of (front s.frames i at.there ++ under s.frames i at.there))) (sym new-kinds) more)

    new-undoings : undoings (kinds_in new) ≡ undoings (kinds_of (reverse (take i s.frames)))
    new-undoings = ap undoings new-kinds ∙ undoings-choices n (kinds_of (reverse (take i s.frames)))

    new-fits : (es : List Element) (d : ℕ) → d ≤ length (kinds_in s) → Fits (kinds_in s) d es → transacts es ≡ undoings (kinds_of (reverse (take i s.frames))) → FitsIn (kinds_in new) es
    new-fits es d le f same = (fits-more (kinds_in s) (kinds_in new) new-widens es d (length (kinds_in new)) (omega (arith, le, new-widens.more)) f, same ∙ sym new-undoings)

    -- a list behind a goal of the level fits
    pub cut-fits : (es : List Element) → Precedes (kinds_in s) level es → FitsIn (kinds_in new) es
    cut-fits es p = new-fits es (suc level) (omega (arith, p.0.0)) p.0.2 (p.1 ∙ sym (cut-none es p))

    -- and one behind the marker of a transaction
    pub pass-fits : (l : ℕ) (es : List Element) → FitsIn (kinds_in s) (Marker (Transact level) l ∷ es) → FitsIn (kinds_in new) es
    pass-fits l es f = new-fits es l (omega (arith, f.0.0)) f.0.2 (ap (drop 1) (f.1 ∙ pass-one l es f))

-- ---- what becomes of it

many-more : (d below : ℕ) → d ≤ d - below + 1 + below
many-more d below = omega arith

module _ (s mid : State) (level i below : ℕ) (at : ChoiceAt s.frames level i below) (from : GivesUp s mid i (depth_in s - below + 1)) where
  -- a list behind a goal of the level is visited
  pub cut-visited : (l : Continuation) → IsList s l → Precedes (kinds_in s) level (goals_of s l) → IsEmptyOrFit mid l
  cut-visited l there p = inr (subst (FitsIn (kinds_in mid)) (sym (from.keeps.lists l there).1) (cut-fits s level i below at mid (depth_in s - below + 1) (many-more (depth_in s) below) from.cases (goals_of s l) p))

  pub cuts_emptied : (new : State) (list : Continuation) → AreAtMost level (goals_of s list) → mid.basis ≡ s.basis → new ≡ record mid { goals = list } → Cuts s new level list
  unfolding cases_of
  cuts_emptied new list most basis is = rw is (record {
    most = most;
    cases = λ db. let e = empties s mid level i below at db (from.cases db) in record { inside = e.inside; places = e.places; below = e.below; was = e.was; at = e.at; cases = e.cases };
    keeps = record { values = from.keeps.values; lists = λ l k. let r = from.keeps.lists l k in (record { there = r.0.there; items = r.0.items }, r.1); count = from.keeps.count; basis = basis };
    walks = from.walks;
    goals = refl;
  })

  -- one behind the marker of a transaction is
  pub pass-visited : (l : ℕ) (list : Continuation) → IsFirst s (firsts.Marker (markers.Transact level) l list) → IsEmptyOrFit mid list
  pass-visited l list f = inr (subst (FitsIn (kinds_in mid)) (sym (from.keeps.lists list f.there).1)
      (pass-fits s level i below at mid (depth_in s - below + 1) (many-more (depth_in s) below) from.cases l (goals_of s list) (subst (FitsIn (kinds_in s)) f.goals f.levels)))

  pub passes : (l : ℕ) (list : Continuation) → IsFirst s (firsts.Marker (markers.Transact level) l list) → Ends s.basis mid.basis → (new : State) → new ≡ record mid { goals = list } → Passes s new level list
  unfolding cases_of
  passes l list f ends new is =
      let p = subst (FitsIn (kinds_in s)) f.goals f.levels in
      rw is (record {
        most = fits-most (kinds_in s) level (goals_of s list) (fits-top (kinds_in s) (goals_of s list) l (suc level) (omega (arith, p.0.1.0)) p.0.2);
        cases = λ db. let e = empties s mid level i below at db (from.cases db) in record { inside = e.inside; places = e.places; below = e.below; was = e.was; at = e.at; cases = e.cases };
        keeps = record { values = from.keeps.values; lists = λ k j. let r = from.keeps.lists k j in (record { there = r.0.there; items = r.0.items }, r.1); count = from.keeps.count };
        basis = ends;
        walks = from.walks;
        goals = refl;
      })

-- the list behind a marker that fails
pub never-precedes : (s : State) (level : ℕ) (rest : Continuation) → IsFirst s (firsts.Marker markers.Never level rest) → Precedes (kinds_in s) level (goals_of s rest)
never-precedes s level rest f = let p = subst (FitsIn (kinds_in s)) f.goals f.levels in p

-- the choices are dropped
module _ (s mid : State) (level i below : ℕ) (at : ChoiceAt s.frames level i below) (from : EmptiesFrom s mid i (depth_in s - below)) (same : mid ≡ record s { frames = mid.frames; goals = alone 0 }) where
  drops-keep : KeepsValues s mid
  drops-keep = keeps_as s mid s.basis.latest s.basis.starts mid.frames (alone 0) same

  pub drops_settled : (new : State) → Settles mid new → Drops s new level
  drops_settled new y =
      let g = gives_then s mid new i (depth_in s - below) from drops-keep y in
      record {
        cases = λ db. empties-to s new level i below at db (g.cases db);
        keeps = record { values = g.keeps.values; lists = g.keeps.lists; count = g.keeps.count; basis = y.keeps.basis ∙ ap (λ (x : State). x.basis) same };
        walks = g.walks;
        goals = y.goals ∙ ap (λ (x : State). x.goals) same;
      }

-- the cases from the innermost transaction's choice on were given up, and less may be old
module _ (s mid : State) (i n : ℕ) (from : EmptiesFrom s mid i n) (ends : Ends s.basis mid.basis) (same : mid ≡ record s { basis = mid.basis; frames = mid.frames; goals = alone 0 }) where
  ended-keeps : KeepsValues s mid
  ended-keeps = keeps_as s mid (counting ends.start s.basis.latest) ends.older mid.frames (alone 0) (same ∙ ap (λ b. record { basis = b; env = s.env; links = s.links; saved = s.saved; frames = mid.frames; goals = alone 0 }) ends.is)

  pub ended_settled : (new : State) → Settles mid new → GivesUp s new i n
  ended_settled new y = gives_then s mid new i n from ended-keeps y

  pub ended_basis : (new : State) → Settles mid new → Ends s.basis new.basis
  ended_basis new y = subst (Ends s.basis) (sym y.keeps.basis) ends
