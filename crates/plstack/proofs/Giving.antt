-- Lists that nothing holds may go.
use Rattle.std.proofs.Common.{◌≡◌, ℕ, suc, ◌+◌, ◌<◌, ◌≤◌, List, [], ◌∷◌, ◌++◌, length, length-append, take, reverse, refl, sym, ap, ap₂, ◌∙◌, subst, arith, le_trans, le_refl, length-take-le, get_or, ◌⊎◌, inl, inr}
use Rattle.std.proofs.lemmas.List.{get_or_append_left, get_or_push, get_or-take, get_or_default}
use Rattle.std.proofs.Math.Nat.{eq-or-lt_of_le}
use Rattle.plcells.specs.declared.cell.Cell.{Cell}
use Rattle.plsearch.specs.Engine.{deeper}
use Rattle.plenv.specs.Env.{Env, cut}
use Rattle.pllinks.specs.declared.item.Portion.TheVariants as items
use Rattle.pllinks.specs.declared.link.Link.{Link}
use Rattle.pllinks.specs.declared.link.Continuation.{Continuation}
use Rattle.pllinks.specs.Lists.{Goals, AreItems, all_elements}
use Rattle.pllinks.specs.Links.{list_at, items_of, link_at, slots_at, IsLink, IsChain}
use Rattle.pllinks.proofs.Arena.{list_at-more, list_at-take, list_at-new, list_at-first, slots_at-more, slots_at-take, chain-take}
use Rattle.plstack.specs.declared.frame.Point.{Point}
use Rattle.plstack.specs.declared.frame.Resume.{Resume}
use Rattle.plstack.specs.declared.frame.Frame.{Frame}
use Rattle.plstack.specs.declared.frame.Frame.TheVariants.{Plain, Open}
use Rattle.plstack.specs.declared.frame.Marks.{Marks}
use Rattle.plstack.specs.Places.{Database, kept_values, case_of, plain, cases}
use Rattle.plstack.specs.Frames.{AreOlder, IsOpen, AreFrames}
use Rattle.plstack.specs.State.{State, IsStack, goals_in, kinds_in, cases_of}
use Rattle.plstack.specs.Levels.{kinds_of}
use Rattle.plstack.proofs.Naming.{fits-env, visited-env}
use Rattle.plstack.specs.Holding.{held}
use Rattle.plstack.specs.Giving.{GivesBack}

-- frames that come back to some of the first so many lists
abbrev pub AreWithin : ℕ → List Frame → Type 0
AreWithin n [] = Unit {0}
AreWithin n (Plain m ∷ fs) = AreWithin n fs
AreWithin n (Open p r ∷ fs) = (p.marks.links ≤ n) × AreWithin n fs

older-within : (m : Marks) (fs : List Frame) → AreOlder m fs → AreWithin m.links fs
older-within m [] o = tt
older-within m (Plain n ∷ fs) o = older-within m fs o
older-within m (Open p r ∷ fs) o = (o.0.links, older-within m fs o.1)

pub held-within : (code : Goals) (e : Env) (links : List Link) (saved : List Cell) (fs : List Frame) → AreFrames code e links saved fs → AreWithin (held fs).marks.links fs
held-within code e links saved [] a = tt
held-within code e links saved (Plain m ∷ fs) a = held-within code e links saved fs a.1
held-within code e links saved (Open p r ∷ fs) a = (le_refl _, older-within p.marks fs a.0.older)

-- other lists behind the first so many
module _ (code : Goals) (e : Env) (links ls : List Link) (saved : List Cell) (n : ℕ) (room : n ≤ length ls) (same : (i : ℕ) → i ≤ n → list_at ls i ≡ list_at links i) where
  module _ (p : Point) (r : Resume) (fs : List Frame) (le : p.marks.links ≤ n) (is : IsOpen code e links saved p r fs) where
    same-items : items_of ls p.list ≡ items_of links p.list
    same-items = ap (λ xs. items.Clause p.list.run ∷ xs) (same p.list.rest (le_trans is.list le))

    open-same : IsOpen code e ls saved p r fs
    open-same = record {
      mark = is.mark;
      links_room = le_trans le room;
      list = is.list;
      saved_room = is.saved_room;
      older = is.older;
      items = subst (AreItems code (cut p.marks.env e).heap (length (cut p.marks.env e).slots)) (sym same-items) is.items;
      resume = is.resume;
      fits = fits-env (kinds_of fs) code e e (items_of links p.list) (items_of ls p.list) same-items is.fits;
    }

  cases-same : (db : Database) (fs : List Frame) → AreWithin n fs → AreFrames code e links saved fs → cases db code e ls saved fs ≡ cases db code e links saved fs
  cases-same db [] o a = refl
  cases-same db (Plain i ∷ fs) o a = ap (plain i) (cases-same db fs o a.1)
  cases-same db (Open p r ∷ fs) o a =
      ap₂ (λ xs cs. case_of db code (deeper cs 0) (cut p.marks.env e) xs (kept_values saved p r) r ∷ cs) (same-items p r fs o.0 a.0) (cases-same db fs o.1 a.1)

  frames-same : (fs : List Frame) → AreWithin n fs → AreFrames code e links saved fs → AreFrames code e ls saved fs
  frames-same [] o a = tt
  frames-same (Plain i ∷ fs) o a = (a.0, frames-same fs o a.1)
  frames-same (Open p r ∷ fs) o a = (open-same p r fs o.0 a.0, frames-same fs o.1 a.1)

-- how many lists the frames hold
abbrev pub held_links : State → ℕ
held_links s = (held (reverse s.frames)).marks.links

-- another rest of the visited list
abbrev pub rest_at : State → ℕ → Continuation
rest_at s g = record { run = s.goals.run; rest = g }

-- a stack with other lists behind those that are held
module _ (s : State) (d : ℕ) (is : IsStack s d) (ls : List Link) (g : ℕ) (chain : IsChain ls) (room : held_links s ≤ length ls)
    (same : (i : ℕ) → i ≤ held_links s → list_at ls i ≡ list_at s.links i) (there : g ≤ length ls) (visited : list_at ls g ≡ list_at s.links s.goals.rest) where
  within : AreWithin (held_links s) (reverse s.frames)
  within = held-within (goals_in s) s.env s.links s.saved (reverse s.frames) is.0.frames

  visited-items : items_of ls (rest_at s g) ≡ items_of s.links s.goals
  visited-items = ap (λ xs. items.Clause s.goals.run ∷ xs) visited

  pub given-stack : IsStack (record s { links = ls; goals = record { run = s.goals.run; rest = g } }) d
  given-stack = (
    record {
      env = is.0.env;
      names = is.0.names;
      none = is.0.none;
      chain = chain;
      frames = frames-same (goals_in s) s.env s.links ls s.saved (held_links s) room same (reverse s.frames) within is.0.frames;
      seen = is.0.seen;
      goals = record { there = there; items = subst (AreItems (goals_in s) s.env.heap (length s.env.slots)) (sym visited-items) is.0.goals.items };
      fits = visited-env (kinds_in s) (goals_in s) s.env s.env (items_of s.links s.goals) (items_of ls (rest_at s g)) visited-items is.0.fits;
    },
    is.1,
  )

  pub given-back : GivesBack s (record s { links = ls; goals = record { run = s.goals.run; rest = g } })
  unfolding cases_of
  given-back = record {
    cases = λ db. cases-same (goals_in s) s.env s.links ls s.saved (held_links s) room same db (reverse s.frames) within is.0.frames;
    place = ap (λ xs. record { goals = all_elements (goals_in s) s.env xs; variables = s.env.count }) visited-items;
    heap = refl;
    frames = refl;
    basis = refl;
  }

-- the lists behind some number go
module _ (s : State) (d : ℕ) (is : IsStack s d) (n : ℕ) (few : n ≤ length s.links) (held_le : held_links s ≤ n) (goals_le : s.goals.rest ≤ n) where
  size_is : length (take n s.links) ≡ n
  size_is = length-take-le n s.links few

  same-above : (i : ℕ) → i ≤ held_links s → list_at (take n s.links) i ≡ list_at s.links i
  same-above i le = list_at-take s.links n i (le_trans le held_le) few

  pub above-stack : IsStack (record s { links = take n s.links }) d
  above-stack = given-stack s d is (take n s.links) s.goals.rest (chain-take s.links n is.0.chain few) (omega (arith, size_is, held_le)) same-above (omega (arith, size_is, goals_le)) (list_at-take s.links n s.goals.rest goals_le few)

  pub above-back : GivesBack s (record s { links = take n s.links })
  above-back = given-back s d is (take n s.links) s.goals.rest (chain-take s.links n is.0.chain few) (omega (arith, size_is, held_le)) same-above (omega (arith, size_is, goals_le)) (list_at-take s.links n s.goals.rest goals_le few)

-- the last list takes the place of the one below it
module _ (s : State) (d : ℕ) (is : IsStack s d) (n : ℕ) (many : length s.links ≡ n + 2) (last : s.goals.rest ≡ n + 2) (held_le : held_links s ≤ n) (next_le : (link_at s.links (n + 1)).next ≤ n) where
  abbrev l : Link
  l = link_at s.links (n + 1)

  abbrev ls : List Link
  ls = take n s.links ++ l ∷ []

  fewer : n ≤ length s.links
  fewer = omega (arith, many)

  first_is : length (take n s.links) ≡ n
  first_is = length-take-le n s.links fewer

  all_is : length ls ≡ n + 1
  all_is = omega (arith, length-append (take n s.links) (l ∷ []), first_is)

  same-below : (i : ℕ) → i ≤ n → list_at ls i ≡ list_at s.links i
  same-below i le = list_at-more (take n s.links) (l ∷ []) i (omega (arith, first_is, le)) ∙ list_at-take s.links n i le fewer

  slots-below : (i : ℕ) → i ≤ n → slots_at ls i ≡ slots_at s.links i
  slots-below i le = slots_at-more (take n s.links) (l ∷ []) i (omega (arith, first_is, le)) ∙ slots_at-take s.links n i le

  was-last : IsLink s.links (n + 1) l
  was-last = is.0.chain (n + 1) (omega (arith, many))

  chain-below : IsChain ls
  chain-below i lt = go (eq-or-lt_of_le (omega (arith, lt, all_is)))
    where
      go : (i ≡ n) ⊎ (i < n) → IsLink ls i (link_at ls i)
      go (inr h) =
          let was = is.0.chain i (omega (arith, h, fewer)) in
          subst (IsLink ls i) (sym (get_or_append_left (take n s.links) (l ∷ []) (link_at [] 0) i (omega (arith, first_is, h)) ∙ get_or-take n s.links i (link_at [] 0) h))
          (record {
            next = was.next;
            own = was.own;
            rest_slots = rw (slots-below (link_at s.links i).next (omega (arith, was.next, h))) was.rest_slots;
          })
      go (inl e) =
          subst (IsLink ls i) (sym (get_or_push (take n s.links) l (link_at [] 0) i (omega (arith, first_is, e))))
          (record {
            next = omega (arith, next_le, e);
            own = was-last.own;
            rest_slots = rw (slots-below l.next next_le) was-last.rest_slots;
          })

  visited-below : list_at ls (n + 1) ≡ list_at s.links s.goals.rest
  visited-below =
      list_at-new (take n s.links) l (n + 1) (omega (arith, first_is))
      ∙ ap (λ xs. l.item ∷ xs) (list_at-take s.links n l.next next_le fewer)
      ∙ sym (ap (list_at s.links) (last ∙ suc_is) ∙ list_at-first s.links (n + 1) is.0.chain (omega (arith, many)))
    where
      suc_is : n + 2 ≡ suc (n + 1)
      suc_is = omega arith

  module _ (new : List Link) (g : ℕ) (new_is : new ≡ take n s.links ++ link_at s.links (n + 1) ∷ []) (g_is : g ≡ n + 1) where
    pub below-stack : IsStack (record s { links = new; goals = record { run = s.goals.run; rest = g } }) d
    below-stack = rw (new_is, g_is) (given-stack s d is ls (n + 1) chain-below (omega (arith, all_is, held_le)) (λ i le. same-below i (le_trans le held_le)) (omega (arith, all_is)) visited-below)

    pub below-back : GivesBack s (record s { links = new; goals = record { run = s.goals.run; rest = g } })
    below-back = rw (new_is, g_is) (given-back s d is ls (n + 1) chain-below (omega (arith, all_is, held_le)) (λ i le. same-below i (le_trans le held_le)) (omega (arith, all_is)) visited-below)

pub back_trans : (a b c : State) → GivesBack a b → GivesBack b c → GivesBack a c
back_trans a b c x y = record {
  cases = λ db. y.cases db ∙ x.cases db;
  place = y.place ∙ x.place;
  heap = y.heap ∙ x.heap;
  frames = y.frames ∙ x.frames;
  basis = y.basis ∙ x.basis;
}

pub back_refl : (a : State) → GivesBack a a
back_refl a = record { cases = λ db. refl; place = refl; heap = refl; frames = refl; basis = refl }

-- the last list, read where it stands
pub next_of : (links : List Link) (n i : ℕ) (l : Link) → i ≡ n + 1 → length links ≡ n + 2 → l ≡ get_or links i l → l.next ≤ n → (link_at links (n + 1)).next ≤ n
next_of links n i l e many at le =
    let same : l ≡ link_at links (n + 1) = at ∙ get_or_default links i l (link_at [] 0) (omega (arith, e, many)) ∙ ap (link_at links) e in
    subst (λ (x : Link). x.next ≤ n) same le
