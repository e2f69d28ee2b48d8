-- Open cases keep what they stand for while what is above them changes, and when it is cut to a newer mark.
use Rattle.std.proofs.Common.{◌≡◌, ℕ, zero, suc, ◌+◌, ◌≤◌, List, [], ◌∷◌, ◌++◌, length, length-append, take, drop, refl, sym, ap, ap₂, ◌∙◌, subst, arith, reverse, le_trans, length-take-le}
use Rattle.std.proofs.lemmas.List.{reverse-append}
use Rattle.platoms.specs.Names.{IsTable, Extends}
use Rattle.plcells.specs.declared.cell.Cell.{Cell}
use Rattle.plsearch.specs.Types.{Case, Choice}
use Rattle.plsearch.specs.Engine.{deeper}
use Rattle.plenv.specs.Env.{Env, cut, renamed, IsMark}
use Rattle.plenv.specs.Changes.{Keeps}
use Rattle.plenv.proofs.Cuts.{cut-cut, cut-names, IsMark-cut}
use Rattle.plenv.proofs.Renaming.{IsMark-kept}
use Rattle.pllinks.specs.declared.item.Portion.TheVariants as items
use Rattle.pllinks.specs.declared.link.Link.{Link}
use Rattle.pllinks.specs.declared.link.Continuation.{Continuation}
use Rattle.pllinks.specs.Lists.{Goals, AreItems}
use Rattle.pllinks.specs.Links.{items_of}
use Rattle.pllinks.proofs.Arena.{list_at-more, list_at-take}
use Rattle.pllinks.proofs.Changing.{items-agree}
use Rattle.plstack.specs.declared.frame.Marks.{Marks}
use Rattle.plstack.specs.declared.frame.Point.{Point}
use Rattle.plstack.specs.declared.frame.Resume.{Resume}
use Rattle.plstack.specs.declared.frame.Frame.{Frame}
use Rattle.plstack.specs.declared.frame.Frame.TheVariants.{Plain, Open}
use Rattle.plstack.specs.Places.{Database, kept, kept_values, case_of, plain, cases, depth_of}
use Rattle.plstack.specs.Frames.{IsOlder, AreOlder, IsResume, IsOpen, AreFrames}
use Rattle.plstack.specs.Levels.{kinds_of}
use Rattle.plstack.proofs.Naming.{fits-env}
use Rattle.plstack.proofs.Renaming.{agrees-renamed, resume-renamed, case-renamed}

-- the number of open cases
pub plain-deeper : (n : ℕ) (below : List Case) → deeper (plain n below) 0 ≡ n + deeper below 0
plain-deeper zero below = omega arith
plain-deeper (suc n) below = omega (arith, plain-deeper n below)

pub depth-cases : (db : Database) (code : Goals) (e : Env) (links : List Link) (saved : List Cell) (fs : List Frame) → deeper (cases db code e links saved fs) 0 ≡ depth_of fs
depth-cases db code e links saved [] = refl
depth-cases db code e links saved (Plain n ∷ fs) = omega (arith, plain-deeper n (cases db code e links saved fs), depth-cases db code e links saved fs)
depth-cases db code e links saved (Open p r ∷ fs) = omega (arith, depth-cases db code e links saved fs)

-- a list among the first links
pub items-more : (links more : List Link) (l : Continuation) → l.rest ≤ length links → items_of (links ++ more) l ≡ items_of links l
items-more links more l le = ap (λ xs. items.Clause l.run ∷ xs) (list_at-more links more l.rest le)

pub items-take : (links : List Link) (n : ℕ) (l : Continuation) → l.rest ≤ n → n ≤ length links → items_of (take n links) l ≡ items_of links l
items-take links n l le room = ap (λ xs. items.Clause l.run ∷ xs) (list_at-take links n l.rest le room)

-- a run of values among the first
run-more : (m k : ℕ) (xs ys : List Cell) → m + k ≤ length xs → take k (drop m (xs ++ ys)) ≡ take k (drop m xs)
run-more zero zero xs ys le = refl
run-more zero (suc k) [] ys le = absurd (omega arith)
run-more zero (suc k) (x ∷ xs) ys le = ap (λ zs. x ∷ zs) (run-more zero k xs ys (omega arith))
run-more (suc m) k [] ys le = absurd (omega arith)
run-more (suc m) k (x ∷ xs) ys le = run-more m k xs ys (omega arith)

pub run-take : (n m k : ℕ) (xs : List Cell) → m + k ≤ n → take k (drop m (take n xs)) ≡ take k (drop m xs)
run-take n zero zero xs le = refl
run-take zero zero (suc k) xs le = absurd (omega arith)
run-take (suc n) zero (suc k) [] le = refl
run-take (suc n) zero (suc k) (x ∷ xs) le = ap (λ zs. x ∷ zs) (run-take n zero k xs (omega arith))
run-take zero (suc m) k xs le = absurd (omega arith)
run-take (suc n) (suc m) k [] le = refl
run-take (suc n) (suc m) k (x ∷ xs) le = run-take n m k xs (omega arith)

-- what is above changes: marks are kept, and there may be more links and values
module _ (code : Goals) (old new : Env) (links more : List Link) (saved further : List Cell) (k : Keeps old new) (table : IsTable new.heap.names) where
  module _ (p : Point) (r : Resume) (fs : List Frame) (is : IsOpen code old links saved p r fs) where
    same-cut : cut p.marks.env new ≡ renamed (cut p.marks.env old) new.heap.names
    same-cut = k.kept p.marks.env is.mark.within

    more-names : Extends (cut p.marks.env old).heap.names new.heap.names
    more-names = subst (λ t. Extends t new.heap.names) (sym (cut-names p.marks.env old)) k.names

    same-items : items_of (links ++ more) p.list ≡ items_of links p.list
    same-items = items-more links more p.list (le_trans is.list is.links_room)

    same-values : kept_values (saved ++ further) p r ≡ kept_values saved p r
    same-values = run-more p.marks.saved (kept r) saved further is.saved_room

    case-kept : (db : Database) (d : ℕ) →
        case_of db code d (cut p.marks.env new) (items_of (links ++ more) p.list) (kept_values (saved ++ further) p r) r ≡ case_of db code d (cut p.marks.env old) (items_of links p.list) (kept_values saved p r) r
    case-kept db d =
        ap (λ e. case_of db code d e (items_of (links ++ more) p.list) (kept_values (saved ++ further) p r) r) same-cut
        ∙ ap₂ (λ xs vs. case_of db code d (renamed (cut p.marks.env old) new.heap.names) xs vs r) same-items same-values
        ∙ case-renamed (cut p.marks.env old) new.heap.names is.mark.env table more-names code (items_of links p.list) is.items db d (kept_values saved p r) r is.resume

    items-kept : AreItems code (cut p.marks.env new).heap (length (cut p.marks.env new).slots) (items_of (links ++ more) p.list)
    items-kept =
        subst (AreItems code (cut p.marks.env new).heap (length (cut p.marks.env new).slots)) (sym same-items)
        (subst (λ (e : Env). AreItems code e.heap (length e.slots) (items_of links p.list)) (sym same-cut)
        (items-agree code (length (cut p.marks.env old).slots) (cut p.marks.env old) (renamed (cut p.marks.env old) new.heap.names)
        (agrees-renamed (cut p.marks.env old) new.heap.names is.mark.env table more-names) (items_of links p.list) is.items).0)

    resume-kept : IsResume (cut p.marks.env new).heap (kept_values (saved ++ further) p r) r
    resume-kept =
        subst (λ vs. IsResume (cut p.marks.env new).heap vs r) (sym same-values)
        (subst (λ (e : Env). IsResume e.heap (kept_values saved p r) r) (sym same-cut)
        (resume-renamed (cut p.marks.env old) new.heap.names is.mark.env table more-names (kept_values saved p r) r is.resume))

    open-kept : (wider : length links ≤ length (links ++ more)) (longer : length saved ≤ length (saved ++ further)) → IsOpen code new (links ++ more) (saved ++ further) p r fs
    open-kept wider longer = record {
      mark = IsMark-kept p.marks.env old new k table is.mark;
      links_room = le_trans is.links_room wider;
      list = is.list;
      saved_room = le_trans is.saved_room longer;
      older = is.older;
      items = items-kept;
      resume = resume-kept;
      fits = fits-env (kinds_of fs) code old new (items_of links p.list) (items_of (links ++ more) p.list) same-items is.fits;
    }

  pub cases-kept : (db : Database) (fs : List Frame) → AreFrames code old links saved fs → cases db code new (links ++ more) (saved ++ further) fs ≡ cases db code old links saved fs
  cases-kept db [] a = refl
  cases-kept db (Plain n ∷ fs) a = ap (plain n) (cases-kept db fs a.1)
  cases-kept db (Open p r ∷ fs) a =
      ap (λ cs. case_of db code (deeper cs 0) (cut p.marks.env new) (items_of (links ++ more) p.list) (kept_values (saved ++ further) p r) r ∷ cs) (cases-kept db fs a.1)
      ∙ ap (λ c. c ∷ cases db code old links saved fs) (case-kept p r fs a.0 db (deeper (cases db code old links saved fs) 0))

  pub AreFrames-kept : (fs : List Frame) → AreFrames code old links saved fs → AreFrames code new (links ++ more) (saved ++ further) fs
  AreFrames-kept [] a = tt
  AreFrames-kept (Plain n ∷ fs) a = (a.0, AreFrames-kept fs a.1)
  AreFrames-kept (Open p r ∷ fs) a = (open-kept p r fs a.0 (omega (arith, length-append links more)) (omega (arith, length-append saved further)), AreFrames-kept fs a.1)

-- the undo to marks that are not older than the frames
module _ (code : Goals) (e : Env) (links : List Link) (saved : List Cell) (m : Marks) (mark : IsMark m.env e) (links_room : m.links ≤ length links) (saved_room : m.saved ≤ length saved) where
  module _ (p : Point) (r : Resume) (fs : List Frame) (o : IsOlder m p r) (is : IsOpen code e links saved p r fs) where
    again : cut p.marks.env (cut m.env e) ≡ cut p.marks.env e
    again = cut-cut p.marks.env m.env e o.env

    first-items : items_of (take m.links links) p.list ≡ items_of links p.list
    first-items = items-take links m.links p.list (le_trans is.list o.links) links_room

    first-values : kept_values (take m.saved saved) p r ≡ kept_values saved p r
    first-values = run-take m.saved p.marks.saved (kept r) saved o.saved

    case-cut : (db : Database) (d : ℕ) →
        case_of db code d (cut p.marks.env (cut m.env e)) (items_of (take m.links links) p.list) (kept_values (take m.saved saved) p r) r ≡ case_of db code d (cut p.marks.env e) (items_of links p.list) (kept_values saved p r) r
    case-cut db d =
        ap (λ c. case_of db code d c (items_of (take m.links links) p.list) (kept_values (take m.saved saved) p r) r) again
        ∙ ap₂ (λ xs vs. case_of db code d (cut p.marks.env e) xs vs r) first-items first-values

    open-cut : IsOpen code (cut m.env e) (take m.links links) (take m.saved saved) p r fs
    open-cut = record {
      mark = IsMark-cut p.marks.env m.env e is.mark mark o.env;
      links_room = omega (arith, o.links, length-take-le m.links links links_room);
      list = is.list;
      saved_room = omega (arith, o.saved, length-take-le m.saved saved saved_room);
      older = is.older;
      items = subst (AreItems code (cut p.marks.env (cut m.env e)).heap (length (cut p.marks.env (cut m.env e)).slots)) (sym first-items)
          (subst (λ (c : Env). AreItems code c.heap (length c.slots) (items_of links p.list)) (sym again) is.items);
      resume = subst (λ vs. IsResume (cut p.marks.env (cut m.env e)).heap vs r) (sym first-values)
          (subst (λ (c : Env). IsResume c.heap (kept_values saved p r) r) (sym again) is.resume);
      fits = fits-env (kinds_of fs) code e (cut m.env e) (items_of links p.list) (items_of (take m.links links) p.list) first-items is.fits;
    }

  pub cases-cut : (db : Database) (fs : List Frame) → AreOlder m fs → AreFrames code e links saved fs →
      cases db code (cut m.env e) (take m.links links) (take m.saved saved) fs ≡ cases db code e links saved fs
  cases-cut db [] o a = refl
  cases-cut db (Plain n ∷ fs) o a = ap (plain n) (cases-cut db fs o a.1)
  cases-cut db (Open p r ∷ fs) o a =
      ap (λ cs. case_of db code (deeper cs 0) (cut p.marks.env (cut m.env e)) (items_of (take m.links links) p.list) (kept_values (take m.saved saved) p r) r ∷ cs) (cases-cut db fs o.1 a.1)
      ∙ ap (λ c. c ∷ cases db code e links saved fs) (case-cut p r fs o.0 a.0 db (deeper (cases db code e links saved fs) 0))

  pub AreFrames-cut : (fs : List Frame) → AreOlder m fs → AreFrames code e links saved fs → AreFrames code (cut m.env e) (take m.links links) (take m.saved saved) fs
  AreFrames-cut [] o a = tt
  AreFrames-cut (Plain n ∷ fs) o a = (a.0, AreFrames-cut fs o a.1)
  AreFrames-cut (Open p r ∷ fs) o a = (open-cut p r fs o.0 a.0, AreFrames-cut fs o.1 a.1)

-- one more choice with nothing left is one more of a frame's
pub plain-more : (n k : ℕ) (below : List Case) → k ≡ n + 1 → plain k below ≡ Choice [] ∷ plain n below
plain-more n k below e = let s : k ≡ suc n = omega (arith, e) in ap (λ i. plain i below) s

pub reverse-push : (xs : List Frame) (y : Frame) → reverse (xs ++ y ∷ []) ≡ y ∷ reverse xs
reverse-push xs y = reverse-append xs (y ∷ [])
