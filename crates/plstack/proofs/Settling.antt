-- What becomes of a stack where choices were given up.
use Rattle.std.proofs.Common.{◌≡◌, ℕ, suc, ◌+◌, ◌<◌, ◌≤◌, List, [], ◌∷◌, ◌++◌, length, take, drop, reverse, refl, sym, ap, ap₂, ◌∙◌, subst, arith, le_trans, le_refl, take-append-drop, length-take-le, get_or, Option, None, Some, IfSome}
use Rattle.std.proofs.lemmas.List.{reverse-append, take-take, get_or_default}
use Rattle.plcells.specs.declared.cell.Cell.{Cell}
use Rattle.plcells.specs.Store.{IsValue, value}
use Rattle.plsearch.specs.Engine.{deeper}
use Rattle.plviews.specs.declared.view.View.{View}
use Rattle.platoms.specs.Names.{Extends as ExtendsNames}
use Rattle.plenv.specs.Env.{Env, IsEnv, IsWithin, cut}
use Rattle.plenv.specs.Changes.{Commits, IsBelow}
use Rattle.pllinks.specs.declared.link.Link.{Link}
use Rattle.pllinks.specs.declared.link.Continuation.{Continuation}
use Rattle.pllinks.specs.Lists.{Goals, AreItems}
use Rattle.pllinks.specs.Links.{items_of}
use Rattle.pllinks.specs.Changing.{Agrees}
use Rattle.pllinks.proofs.Changing.{items-agree}
use Rattle.plstack.specs.declared.frame.Marks.{Marks}
use Rattle.plstack.specs.declared.frame.Point.{Point}
use Rattle.plstack.specs.declared.frame.Resume.{Resume}
use Rattle.plstack.specs.declared.frame.Frame.{Frame}
use Rattle.plstack.specs.declared.frame.Frame.TheVariants.{Plain, Open}
use Rattle.plstack.specs.Places.{Database, kept, kept_values, case_of, plain, cases, walks_of}
use Rattle.plstack.specs.Frames.{IsOlder, AreOlder, IsResume, IsOpen, IsFrame, AreFrames}
use Rattle.plstack.specs.State.{State, IsState, IsStack, goals_in, goals_of, kinds_in, cases_of, IsList}
use Rattle.plstack.specs.Opening.{Keeps, KeepsValues}
use Rattle.plstack.specs.Holding.{held}
use Rattle.plstack.specs.Cutting.{frame_at, IsGivenUp, EmptiesFrom, GivesUp, Settles}
use Rattle.plstack.specs.Levels.{kinds_of}
use Rattle.plstack.proofs.Naming.{fits-env, visited-env}
use Rattle.plstack.proofs.Frames.{run-take}
use Rattle.plstack.proofs.Cutting.{reversed-at, frames-append}

-- the frames below one that is given up
older-append : (m : Marks) (xs ys : List Frame) → AreOlder m (xs ++ ys) → AreOlder m ys
older-append m [] ys o = o
older-append m (Plain n ∷ xs) ys o = older-append m xs ys o
older-append m (Open p r ∷ xs) ys o = older-append m xs ys o.1

frames-below : (fs : List Frame) (at i : ℕ) → at ≤ i → reverse (take i fs) ≡ reverse (drop at (take i fs)) ++ reverse (take at fs)
frames-below fs at i le =
    ap reverse (sym (take-append-drop at (take i fs)) ∙ ap (λ xs. xs ++ drop at (take i fs)) (take-take at i fs le))
    ∙ reverse-append (take at fs) (drop at (take i fs))

pub given-up : (s : State) (at i : ℕ) (f : Frame) (p : Point) (r : Resume) → IsState s → at ≤ i → i < length s.frames → f ≡ get_or s.frames i f → f ≡ Open p r → IsGivenUp s at p.marks
given-up s at i f p r is le lt found opens =
    let e : frame_at s.frames i ≡ Open p r = sym (found ∙ get_or_default s.frames i f (Plain 0) lt) ∙ opens in
    let there = frames-append (goals_in s) s.env s.links s.saved (reverse (drop (suc i) s.frames)) (frame_at s.frames i ∷ reverse (take i s.frames)) (subst (AreFrames (goals_in s) s.env s.links s.saved) (reversed-at s.frames i lt) is.frames) in
    let o : IsOpen (goals_in s) s.env s.links s.saved p r (reverse (take i s.frames)) = subst (λ f. IsFrame (goals_in s) s.env s.links s.saved f (reverse (take i s.frames))) e there.0 in
    record {
      within = o.mark.within;
      older = older-append p.marks (reverse (drop at (take i s.frames))) (reverse (take at s.frames)) (subst (AreOlder p.marks) (frames-below s.frames at i le) o.older);
    }

-- the newest case holds no more than there is
pub record HasRoom (e : Env) (values : List Cell) (m : Marks) (n : ℕ) : Type 0 where
  pub cells : m.env.heap.cells ≤ e.heap.boundary
  pub slots : m.env.slots ≤ e.boundary
  pub saved : m.saved + n ≤ length values

pub held-room : (code : Goals) (e : Env) (links : List Link) (saved : List Cell) (fs : List Frame) → AreFrames code e links saved fs → HasRoom e saved (held fs).marks (held fs).kept
held-room code e links saved [] a = record { cells = omega arith; slots = omega arith; saved = omega arith }
held-room code e links saved (Plain n ∷ fs) a = held-room code e links saved fs a.1
held-room code e links saved (Open p r ∷ fs) a = record { cells = a.0.mark.within.heap.old; slots = a.0.mark.within.old; saved = a.0.saved_room }

-- frames that hold no more than so much
abbrev AreWithin : (cells slots saved : ℕ) → List Frame → Type 0
AreWithin c n k [] = Unit {0}
AreWithin c n k (Plain m ∷ fs) = AreWithin c n k fs
AreWithin c n k (Open p r ∷ fs) = (p.marks.env.heap.cells ≤ c) × (p.marks.env.slots ≤ n) × (p.marks.saved + kept r ≤ k) × AreWithin c n k fs

older-within : (m : Marks) (k : ℕ) (fs : List Frame) → m.saved ≤ k → AreOlder m fs → AreWithin m.env.heap.cells m.env.slots k fs
older-within m k [] le o = tt
older-within m k (Plain n ∷ fs) le o = older-within m k fs le o
older-within m k (Open p r ∷ fs) le o = (o.0.env.heap.cells, o.0.env.slots, le_trans o.0.saved le, older-within m k fs le o.1)

held-within : (code : Goals) (e : Env) (links : List Link) (saved : List Cell) (fs : List Frame) → AreFrames code e links saved fs →
    AreWithin (held fs).marks.env.heap.cells (held fs).marks.env.slots ((held fs).marks.saved + (held fs).kept) fs
held-within code e links saved [] a = tt
held-within code e links saved (Plain n ∷ fs) a = held-within code e links saved fs a.1
held-within code e links saved (Open p r ∷ fs) a = (le_refl _, le_refl _, le_refl _, older-within p.marks (p.marks.saved + kept r) fs (omega arith) a.0.older)

-- fewer cells and slots are old, and fewer values kept
module _ (code : Goals) (old new : Env) (links : List Link) (saved : List Cell) (since : Marks) (c n k : ℕ) (made : Commits since.env c n old new) (room : k ≤ length saved) where
  module _ (p : Point) (r : Resume) (fs : List Frame) (is : IsOpen code old links saved p r fs) (o : IsOlder since p r) (cells : p.marks.env.heap.cells ≤ c) (slots : p.marks.env.slots ≤ n) (values : p.marks.saved + kept r ≤ k) where
    is-below : IsBelow p.marks.env since.env c n
    is-below = record { trail = o.env.heap.trail; noted = o.env.noted; cells_within = cells; slots_within = slots }

    same : cut p.marks.env new ≡ cut p.marks.env old
    same = (made.marks p.marks.env is.mark is-below).1

    first-values : kept_values (take k saved) p r ≡ kept_values saved p r
    first-values = run-take k p.marks.saved (kept r) saved values

    case-settled : (db : Database) (d : ℕ) →
        case_of db code d (cut p.marks.env new) (items_of links p.list) (kept_values (take k saved) p r) r ≡ case_of db code d (cut p.marks.env old) (items_of links p.list) (kept_values saved p r) r
    case-settled db d = ap₂ (λ x vs. case_of db code d x (items_of links p.list) vs r) same first-values

    open-settled : IsOpen code new links (take k saved) p r fs
    open-settled = record {
      mark = (made.marks p.marks.env is.mark is-below).0;
      links_room = is.links_room;
      list = is.list;
      saved_room = omega (arith, values, length-take-le k saved room);
      older = is.older;
      items = subst (λ (x : Env). AreItems code x.heap (length x.slots) (items_of links p.list)) (sym same) is.items;
      resume = subst (λ vs. IsResume (cut p.marks.env new).heap vs r) (sym first-values) (subst (λ (x : Env). IsResume x.heap (kept_values saved p r) r) (sym same) is.resume);
      fits = fits-env (kinds_of fs) code old new (items_of links p.list) (items_of links p.list) refl is.fits;
    }

  cases-settled : (db : Database) (fs : List Frame) → AreOlder since fs → AreWithin c n k fs → AreFrames code old links saved fs → cases db code new links (take k saved) fs ≡ cases db code old links saved fs
  cases-settled db [] o w a = refl
  cases-settled db (Plain m ∷ fs) o w a = ap (plain m) (cases-settled db fs o w a.1)
  cases-settled db (Open p r ∷ fs) o w a =
      ap (λ cs. case_of db code (deeper cs 0) (cut p.marks.env new) (items_of links p.list) (kept_values (take k saved) p r) r ∷ cs) (cases-settled db fs o.1 w.3 a.1)
      ∙ ap (λ x. x ∷ cases db code old links saved fs) (case-settled p r fs a.0 o.0 w.0 w.1 w.2 db (deeper (cases db code old links saved fs) 0))

  frames-settled : (fs : List Frame) → AreOlder since fs → AreWithin c n k fs → AreFrames code old links saved fs → AreFrames code new links (take k saved) fs
  frames-settled [] o w a = tt
  frames-settled (Plain m ∷ fs) o w a = (a.0, frames-settled fs o w a.1)
  frames-settled (Open p r ∷ fs) o w a = (open-settled p r fs a.0 o.0 w.0 w.1 w.2, frames-settled fs o.1 w.3 a.1)

module _ (s : State) (d : ℕ) (is : IsStack s d) (since : Marks) (older : AreOlder since (reverse s.frames)) (e : Env) (env : IsEnv e) where
  abbrev marks : Marks
  marks = (held (reverse s.frames)).marks

  abbrev count : ℕ
  count = marks.saved + (held (reverse s.frames)).kept

  module _ (made : Commits since.env (held (reverse s.frames)).marks.env.heap.cells (held (reverse s.frames)).marks.env.slots s.env e) where
    room : HasRoom s.env s.saved marks (held (reverse s.frames)).kept
    room = held-room (goals_in s) s.env s.links s.saved (reverse s.frames) is.0.frames

    within : AreWithin marks.env.heap.cells marks.env.slots count (reverse s.frames)
    within = held-within (goals_in s) s.env s.links s.saved (reverse s.frames) is.0.frames

    agrees : Agrees (length s.env.slots) s.env e
    agrees = record { values = made.values; variables = λ i lt. made.variables i }

    abbrev settled-state : State
    settled-state = record { basis = s.basis; env = e; links = s.links; saved = take ((held (reverse s.frames)).marks.saved + (held (reverse s.frames)).kept) s.saved; frames = s.frames; goals = s.goals }

    list-settled : (l : Continuation) → IsList s l → IsList settled-state l × (goals_of settled-state l ≡ goals_of s l)
    list-settled l i =
        let r = items-agree (goals_in s) (length s.env.slots) s.env e agrees (items_of s.links l) i.items in (
          record { there = i.there; items = subst (λ ss. AreItems (goals_in s) e.heap (length ss) (items_of s.links l)) (sym made.same_slots) r.0 },
          r.1,
        )

    pub settled-stack : IsStack settled-state d
    settled-stack = (
      record {
        env = env;
        names = subst (ExtendsNames s.basis.code.text.names) (sym made.names) is.0.names;
        none = is.0.none;
        chain = is.0.chain;
        frames = frames-settled (goals_in s) s.env e s.links s.saved since marks.env.heap.cells marks.env.slots count made room.saved (reverse s.frames) older within is.0.frames;
        seen = is.0.seen;
        goals = (list-settled s.goals is.0.goals).0;
        fits = visited-env (kinds_in s) (goals_in s) s.env e (items_of s.links s.goals) (items_of s.links s.goals) refl is.0.fits;
      },
      is.1,
    )

    pub settles : Settles s settled-state
    unfolding cases_of
    settles = record {
      cases = λ db. cases-settled (goals_in s) s.env e s.links s.saved since marks.env.heap.cells marks.env.slots count made room.saved db (reverse s.frames) older within is.0.frames;
      keeps = record { values = made.values; lists = list-settled; count = made.count; basis = refl };
      frames = refl;
      place = ap₂ (λ gs n. record { goals = gs; variables = n }) (list-settled s.goals is.0.goals).1 made.count;
      goals = refl;
    }

pub keeps_refl : (s : State) → Keeps s s
keeps_refl s = record { values = λ v f. (f, refl); lists = λ l i. (i, refl); count = refl; basis = refl }

pub settles_refl : (s : State) → Settles s s
settles_refl s = record { cases = λ db. refl; keeps = keeps_refl s; frames = refl; place = refl; goals = refl }

pub Keeps-trans : (a b c : State) → Keeps a b → Keeps b c → Keeps a c
Keeps-trans a b c x y = record {
  values = λ v f. let r = x.values v f in let q = y.values v r.0 in (q.0, q.1 ∙ r.1);
  lists = λ l i. let r = x.lists l i in let q = y.lists l r.0 in (q.0, q.1 ∙ r.1);
  count = y.count ∙ x.count;
  basis = y.basis ∙ x.basis;
}

-- only the frames are others
pub keeps-frames : (s new : State) → new ≡ record s { frames = new.frames } → Keeps s new
keeps-frames s new e = record {
  values = λ v f. (subst (λ (x : State). IsValue x.env.heap v) (sym e) f, ap (λ (x : State). value x.env.heap v) e);
  lists = λ l i. (subst (λ (x : State). IsList x l) (sym e) (record { there = i.there; items = i.items }), ap (λ (x : State). goals_of x l) e);
  count = ap (λ (x : State). x.env.count) e;
  basis = ap (λ (x : State). x.basis) e;
}

-- and what the cases rest on, but for the program's code
pub keeps_as : (s new : State) (latest : View) (starts : List ℕ) (frames : List Frame) (l : Continuation) → new ≡ record s { basis = record { code = s.basis.code; latest = latest; starts = starts }; frames = frames; goals = l } → KeepsValues s new
keeps_as s new latest starts frames l e = subst (KeepsValues s) (sym e) (record { values = λ v f. (f, refl); lists = λ k i. (record { there = i.there; items = i.items }, refl); count = refl })

values_kept : (a b c : State) → KeepsValues a b → Keeps b c → KeepsValues a c
values_kept a b c x y = record {
  values = λ v f. let r = x.values v f in let q = y.values v r.0 in (q.0, q.1 ∙ r.1);
  lists = λ l i. let r = x.lists l i in let q = y.lists l r.0 in (q.0, q.1 ∙ r.1);
  count = y.count ∙ x.count;
}

-- so choices are given up
pub gives_then : (s mid new : State) (i n : ℕ) → EmptiesFrom s mid i n → KeepsValues s mid → Settles mid new → GivesUp s new i n
gives_then s mid new i n from keeps y = record {
  cases = λ db. y.cases db ∙ from.cases db;
  keeps = values_kept s mid new keeps y.keeps;
  walks = (from.walks.0, from.walks.1 ∙ ap (λ fs. from.walks.0 ++ walks_of (reverse fs)) (sym y.frames));
}

frames_kept : (s new : State) → new ≡ record s { frames = new.frames } → KeepsValues s new
frames_kept s new e = let k = keeps-frames s new e in record { values = k.values; lists = k.lists; count = k.count }

pub gives_settled : (s mid new : State) (i n : ℕ) → EmptiesFrom s mid i n → mid ≡ record s { frames = mid.frames } → Settles mid new → GivesUp s new i n
gives_settled s mid new i n from same y = gives_then s mid new i n from (frames_kept s mid same) y

-- the marks of a case that was given up
pub given-within : (s mid : State) (i : ℕ) (o : Option Marks) → mid.env ≡ s.env → IfSome o (λ m. IsGivenUp s i m) → IfSome o (λ m. IsWithin m.env mid.env)
given-within s mid i None same g = tt
given-within s mid i (Some m) same g = subst (IsWithin m.env) (sym same) g.within

pub given-older : (s mid : State) (i n : ℕ) (o : Option Marks) → EmptiesFrom s mid i n → IfSome o (λ m. IsGivenUp s i m) → IfSome o (λ m. AreOlder m (reverse mid.frames))
given-older s mid i n None from g = tt
given-older s mid i n (Some m) from g = from.older m g.older
