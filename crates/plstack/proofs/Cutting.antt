-- What a cut gives up, frame by frame.
use Rattle.std.proofs.Common.{◌≡◌, ℕ, zero, suc, ◌+◌, ◌-◌, ◌<◌, ◌≤◌, List, [], ◌∷◌, ◌++◌, length, length-append, take, drop, reverse, refl, sym, ap, ap₂, ◌∙◌, subst, arith, append_assoc, le_trans, le_refl, take-append-drop, drop-cons, ◌⊎◌, inl, inr}
use Rattle.std.proofs.lemmas.List.{reverse-append, take_all}
use Rattle.std.proofs.Math.Nat.{eq-or-lt_of_le}
use Rattle.std.proofs.Math.Seq.{take-suc}
use Rattle.plcells.specs.declared.cell.Cell.{Cell}
use Rattle.plsearch.specs.Types.{Resolvent, Case, Choice}
use Rattle.plsearch.specs.Engine.{deeper}
use Rattle.plsearch.specs.Machines.Levels.{emptied}
use Rattle.plenv.specs.Env.{Env, cut}
use Rattle.pllinks.specs.declared.item.Portion.{Portion}
use Rattle.pllinks.specs.declared.link.Link.{Link}
use Rattle.pllinks.specs.Lists.{Goals}
use Rattle.pllinks.specs.Links.{items_of}
use Rattle.plstack.specs.declared.frame.Handler.TheVariants as handlers
use Rattle.plstack.specs.declared.frame.Resume.{Resume}
use Rattle.plstack.specs.declared.frame.Resume.TheVariants as resumes
use Rattle.plstack.specs.declared.frame.Frame.{Frame}
use Rattle.plstack.specs.declared.frame.Frame.TheVariants.{Plain, Open}
use Rattle.plstack.specs.Places.{Database, plain, kept_values, case_of, opened, cases, size, depth_of}
use Rattle.plstack.specs.Frames.{IsFrame, AreFrames}
use Rattle.plstack.specs.State.{State, IsStack, goals_in}
use Rattle.plstack.specs.Levels.{Choosing, sort_of, kinds_of, ChoiceIn}
use Rattle.plstack.proofs.Naming.{kinds-length, choice-append, choice-below, choice-first}
use Rattle.plstack.specs.Cutting.{IsChoice, frame_at}
use Rattle.plstack.proofs.Frames.{plain-deeper, reverse-push}
use Rattle.plstack.proofs.Stacks.{plain-plus}

-- choices with nothing left
plain-append : (n : ℕ) (below : List Case) → plain n below ≡ plain n [] ++ below
plain-append zero below = refl
plain-append (suc n) below = ap (λ cs. Choice [] ∷ cs) (plain-append n below)

plain-length : (n : ℕ) → length (plain n []) ≡ n
plain-length zero = refl
plain-length (suc n) = omega (arith, plain-length n)

pub emptied-plain : (cs below : List Case) → emptied cs below ≡ plain (length cs) below
emptied-plain [] below = refl
emptied-plain (c ∷ cs) below = ap (λ xs. Choice [] ∷ xs) (emptied-plain cs below)

-- cases with a choice at a level
pub record Splits (all : List Case) (level : ℕ) (low : List Case) : Type 0 where
  pub inside : List Case
  pub places : List Resolvent
  pub is : all ≡ inside ++ Choice places ∷ low
  pub count : deeper all 0 ≡ length inside + suc level

record IsChoiceCase (c : Case) : Type 0 where
  places : List Resolvent
  is : c ≡ Choice places

module _ (db : Database) (code : Goals) (e : Env) (links : List Link) (saved : List Cell) where
  chosen : (d : ℕ) (x : Env) (xs : List Portion) (vs : List Cell) (r : Resume) → sort_of r ≡ Choosing → IsChoiceCase (case_of db code d x xs vs r)
  chosen d x xs vs (resumes.Clauses c) i = record { places = _; is = refl }
  chosen d x xs vs (resumes.Walk w) i = record { places = _; is = refl }
  chosen d x xs vs (resumes.Answers a) i = record { places = _; is = refl }
  chosen d x xs vs resumes.List i = record { places = _; is = refl }
  chosen d x xs vs (resumes.Handle (handlers.Catch c)) i = absurd (cc)
  chosen d x xs vs (resumes.Handle (handlers.Gather v)) i = absurd (cc)
  chosen d x xs vs (resumes.Handle handlers.Undo) i = absurd (cc)

  one-splits : (f : Frame) (base : List Case) (level : ℕ) → IsChoice f → deeper base 0 ≤ level → level < deeper base 0 + size f → Splits (opened db code e links saved f base) level (plain (level - deeper base 0) base)
  one-splits (Plain n) base level choice low high =
      let k : ℕ = level - deeper base 0 in
      let m : ℕ = n - suc k in
      record {
        inside = plain m [];
        places = [];
        is = ap (λ i. plain i base) (omega arith) ∙ sym (plain-plus m (suc k) base) ∙ plain-append m (plain (suc k) base);
        count = omega (arith, plain-deeper n base, plain-length m);
      }
  one-splits (Open p r) base level choice low high =
      let c = chosen (deeper base 0) (cut p.marks.env e) (items_of links p.list) (kept_values saved p r) r choice in
      let none : 0 ≡ level - deeper base 0 = omega arith in
      record {
        inside = [];
        places = c.places;
        is = ap₂ (λ x k. x ∷ plain k base) c.is none;
        count = omega arith;
      }

  behind : (c : Case) (all : List Case) (level : ℕ) (low : List Case) → Splits all level low → Splits (c ∷ all) level low
  behind c all level low s = record { inside = c ∷ s.inside; places = s.places; is = ap (λ cs. c ∷ cs) s.is; count = omega (arith, s.count) }

  more-splits : (f : Frame) (all : List Case) (level : ℕ) (low : List Case) → Splits all level low → Splits (opened db code e links saved f all) level low
  more-splits (Plain n) all level low s = record {
    inside = plain n [] ++ s.inside;
    places = s.places;
    is = plain-append n all ∙ ap (λ cs. plain n [] ++ cs) s.is ∙ sym (append_assoc (plain n []) s.inside (Choice s.places ∷ low));
    count = omega (arith, plain-deeper n all, length-append (plain n []) s.inside, plain-length n, s.count);
  }
  more-splits (Open p r) all level low s = behind (case_of db code (deeper all 0) (cut p.marks.env e) (items_of links p.list) (kept_values saved p r) r) all level low s

  pub all-split : (front : List Frame) (f : Frame) (under : List Frame) (level : ℕ) → IsChoice f → deeper (cases db code e links saved under) 0 ≤ level → level < deeper (cases db code e links saved under) 0 + size f →
      Splits (cases db code e links saved (front ++ f ∷ under)) level (plain (level - deeper (cases db code e links saved under) 0) (cases db code e links saved under))
  all-split [] f under level choice low high = one-splits f (cases db code e links saved under) level choice low high
  all-split (g ∷ front) f under level choice low high =
      more-splits g (cases db code e links saved (front ++ f ∷ under)) level (plain (level - deeper (cases db code e links saved under) 0) (cases db code e links saved under)) (all-split front f under level choice low high)

-- the frames before one, that one, and those behind it
pub reversed-at : (fs : List Frame) (i : ℕ) → i < length fs → reverse fs ≡ reverse (drop (suc i) fs) ++ frame_at fs i ∷ reverse (take i fs)
reversed-at fs i lt =
    let f : Frame = frame_at fs i in
    ap reverse (sym (take-append-drop i fs) ∙ ap (λ xs. take i fs ++ xs) (drop-cons fs i (Plain 0) lt))
    ∙ reverse-append (take i fs) (f ∷ drop (suc i) fs)
    ∙ ap (λ xs. xs ++ reverse (take i fs)) (reverse-append (f ∷ []) (drop (suc i) fs))
    ∙ append_assoc (reverse (drop (suc i) fs)) (f ∷ []) (reverse (take i fs))

pub depth-taken : (fs : List Frame) (i : ℕ) → i < length fs → depth_of (reverse (take (suc i) fs)) ≡ size (frame_at fs i) + depth_of (reverse (take i fs))
depth-taken fs i lt = ap (λ xs. depth_of (reverse xs)) (take-suc fs i (Plain 0) lt) ∙ ap depth_of (reverse-push (take i fs) (frame_at fs i))

pub depth-append : (xs ys : List Frame) → depth_of ys ≤ depth_of (xs ++ ys)
depth-append [] ys = le_refl _
depth-append (x ∷ xs) ys = omega (arith, depth-append xs ys)

pub frames-append : (code : Goals) (e : Env) (links : List Link) (saved : List Cell) (xs ys : List Frame) → AreFrames code e links saved (xs ++ ys) → AreFrames code e links saved ys
frames-append code e links saved [] ys a = a
frames-append code e links saved (x ∷ xs) ys a = frames-append code e links saved xs ys a.1

pub depth-under : (fs : List Frame) (i : ℕ) → i < length fs → depth_of (reverse (take i fs)) ≤ depth_of (reverse fs)
depth-under fs i lt =
    let under = reverse (take i fs) in
    rw (reversed-at fs i lt) (le_trans (omega arith) (depth-append (reverse (drop (suc i) fs)) (frame_at fs i ∷ under)))

-- the frame of a choice's level is a choice's
pub choice-here : (frames : List Frame) (i level : ℕ) → i < length frames → depth_of (reverse (take i frames)) ≤ level → level < depth_of (reverse (take (i + 1) frames)) → ChoiceIn (kinds_of (reverse frames)) level → IsChoice (frame_at frames i)
choice-here frames i level lt low high c =
    let under : List Frame = reverse (take i frames) in
    let f : Frame = frame_at frames i in
    let more : i + 1 ≡ suc i = omega arith in
    let size-here = depth-taken frames i lt in
    let top : level < depth_of (f ∷ under) = omega (arith, high, size-here, ap (λ n. depth_of (reverse (take n frames))) more) in
    choice-first f under level low (choice-append (reverse (drop (suc i) frames)) (f ∷ under) level top (subst (λ fs. ChoiceIn (kinds_of fs) level) (reversed-at frames i lt) c))

pub choice-deep : (frames : List Frame) (level : ℕ) → ChoiceIn (kinds_of (reverse frames)) level → level < depth_of (reverse frames)
choice-deep frames level c = omega (arith, choice-below (kinds_of (reverse frames)) level c, kinds-length (reverse frames))

-- it is one of the frames
pub below-all : (frames : List Frame) (i level : ℕ) → i ≤ length frames → depth_of (reverse (take i frames)) ≤ level → level < depth_of (reverse (take (i + 1) frames)) → i < length frames
below-all frames i level le low high = go (eq-or-lt_of_le le)
  where
    go : (i ≡ length frames) ⊎ (i < length frames) → i < length frames
    go (inr lt) = lt
    go (inl e) = absurd (omega (arith, low, high, ap (λ xs. depth_of (reverse xs)) (take_all i frames (omega arith)), ap (λ xs. depth_of (reverse xs)) (take_all (i + 1) frames (omega arith))))

-- each frame is a case at least
pub frame-some : (code : Goals) (e : Env) (links : List Link) (saved : List Cell) (f : Frame) (fs : List Frame) → IsFrame code e links saved f fs → 0 < size f
frame-some code e links saved (Plain n) fs i = i
frame-some code e links saved (Open p r) fs i = omega arith

pub depth-less : (s : State) (d : ℕ) → IsStack s d → (i : ℕ) → i < length s.frames → depth_of (reverse (take i s.frames)) < depth_of (reverse s.frames)
depth-less s d is i lt =
    let under = reverse (take i s.frames) in
    let there = frames-append (goals_in s) s.env s.links s.saved (reverse (drop (suc i) s.frames)) (frame_at s.frames i ∷ under) (subst (AreFrames (goals_in s) s.env s.links s.saved) (reversed-at s.frames i lt) is.0.frames) in
    omega (arith, frame-some (goals_in s) s.env s.links s.saved (frame_at s.frames i) under there.0, ap depth_of (reversed-at s.frames i lt), depth-append (reverse (drop (suc i) s.frames)) (frame_at s.frames i ∷ under))
