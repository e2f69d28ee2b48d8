-- Slots that nothing asks for may go.
use Rattle.std.proofs.Common.{◌≡◌, ℕ, zero, suc, ◌<◌, ◌≤◌, max, List, [], ◌∷◌, length, take, reverse, refl, sym, ap, ap₂, subst, arith, le_trans, le_refl}
use Rattle.std.proofs.lemmas.List.{get_or-take, length-take}
use Rattle.std.proofs.Math.Nat.{le-max_left, le-max_right}
use Rattle.plcells.specs.declared.cell.Cell.{Cell}
use Rattle.plcells.specs.Store.{Store}
use Rattle.plsearch.specs.Engine.{deeper}
use Rattle.plenv.specs.declared.slot.Slot.TheVariants.{Free}
use Rattle.plenv.specs.declared.slot.Mark.{Mark}
use Rattle.plenv.specs.Env.{Env, IsEnv, IsMark, cut, slot_term}
use Rattle.plenv.specs.Changes.{released}
use Rattle.plenv.proofs.Bounding.{cut-released, IsMark-released}
use Rattle.pllinks.specs.declared.item.Portion.{Portion}
use Rattle.pllinks.specs.declared.item.Portion.TheVariants as items
use Rattle.pllinks.specs.declared.link.Link.{Link}
use Rattle.pllinks.specs.declared.link.Continuation.{Continuation}
use Rattle.pllinks.specs.Lists.{Goals, AreItems}
use Rattle.pllinks.specs.Links.{list_at, items_of, link_at, slots_at, slots_in, IsChain}
use Rattle.pllinks.specs.Changing.{Agrees}
use Rattle.pllinks.proofs.Arena.{list_at-first, list_at-none}
use Rattle.pllinks.proofs.Changing.{items-agree}
use Rattle.plstack.specs.declared.frame.Point.{Point}
use Rattle.plstack.specs.declared.frame.Resume.{Resume}
use Rattle.plstack.specs.declared.frame.Frame.{Frame}
use Rattle.plstack.specs.declared.frame.Frame.TheVariants.{Plain, Open}
use Rattle.plstack.specs.Places.{Database, kept_values, case_of, plain, cases}
use Rattle.plstack.specs.Frames.{IsResume, IsOpen, AreFrames}
use Rattle.plstack.specs.State.{State, IsStack, goals_in, kinds_in, cases_of}
use Rattle.plstack.specs.Giving.{GivesBack, IsShort}
use Rattle.plstack.specs.Levels.{kinds_of}
use Rattle.plstack.proofs.Naming.{fits-env, visited-env}

-- items that ask for no more than the first n slots
abbrev pub AskFor : ℕ → List Portion → Type 0
AskFor n [] = Unit {0}
AskFor n (x ∷ xs) = (slots_in x ≤ n) × AskFor n xs

ask-more : (n m : ℕ) (xs : List Portion) → n ≤ m → AskFor n xs → AskFor m xs
ask-more n m [] le a = tt
ask-more n m (x ∷ xs) le a = (le_trans a.0 le, ask-more n m xs le a.1)

-- a list asks for no more slots than its link says
module _ (links : List Link) (n : ℕ) (chain : IsChain links) where
  pub ask-of : (fuel i : ℕ) → i ≤ fuel → i ≤ length links → slots_at links i ≤ n → AskFor n (list_at links i)
  ask-of fuel zero few le most = subst (AskFor n) (sym (list_at-none links)) tt
  ask-of zero (suc i) few le most = absurd (omega arith)
  ask-of (suc fuel) (suc i) few le most =
      let l = chain i (omega arith) in
      subst (AskFor n) (sym (list_at-first links i chain (omega arith)))
      (le_trans l.own most, ask-of fuel (link_at links i).next (omega (arith, l.next)) (omega (arith, l.next)) (le_trans l.rest_slots most))

list-asks : (links : List Link) (l : Continuation) → IsChain links → l.rest ≤ length links → AskFor (max l.run.«end» (slots_at links l.rest)) (items_of links l)
list-asks links l chain le = (
  le-max_left l.run.«end» (slots_at links l.rest),
  ask-of links (max l.run.«end» (slots_at links l.rest)) chain l.rest l.rest (le_refl _) le (le-max_right l.run.«end» (slots_at links l.rest)),
)

-- they are there still
pub items-within : (code : Goals) (h : Store) (n m k : ℕ) (xs : List Portion) → ((i : ℕ) → i ≤ n → i ≤ m → i ≤ k) → AskFor m xs → AreItems code h n xs → AreItems code h k xs
items-within code h n m k [] le a is = tt
items-within code h n m k (items.Clause r ∷ xs) le a is = ((is.0.0, le r.«end» is.0.1 a.0), items-within code h n m k xs le a.1 is.1)
items-within code h n m k (items.Goal l v ∷ xs) le a is = (is.0, items-within code h n m k xs le a.1 is.1)
items-within code h n m k (items.Marker x l ∷ xs) le a is = (is.0, items-within code h n m k xs le a.1 is.1)

taken-within : {A : Type 0} (i n : ℕ) (xs : List A) → i ≤ n → i ≤ length xs → i ≤ length (take n xs)
taken-within zero n xs le lt = omega arith
taken-within (suc i) zero xs le lt = absurd (omega arith)
taken-within (suc i) (suc n) [] le lt = absurd (omega arith)
taken-within (suc i) (suc n) (x ∷ xs) le lt = let r = taken-within i n xs (omega arith) (omega arith) in omega (arith, r)

taken-below : {A : Type 0} (i n : ℕ) (xs : List A) → i < length (take n xs) → i < n
taken-below i zero xs lt = absurd (omega arith)
taken-below i (suc n) [] lt = absurd (omega arith)
taken-below zero (suc n) (x ∷ xs) lt = omega arith
taken-below (suc i) (suc n) (x ∷ xs) lt = let r = taken-below i n xs (omega arith) in omega (arith, r)

-- frames stand for what they did where each mark is one still, and comes back to the same
module _ (code : Goals) (e later : Env) (links : List Link) (saved : List Cell) (kept : (m : Mark) → IsMark m e → IsMark m later × (cut m later ≡ cut m e)) where
  pub cases-marked : (db : Database) (fs : List Frame) → AreFrames code e links saved fs → cases db code later links saved fs ≡ cases db code e links saved fs
  cases-marked db [] a = refl
  cases-marked db (Plain i ∷ fs) a = ap (plain i) (cases-marked db fs a.1)
  cases-marked db (Open p r ∷ fs) a =
      ap₂ (λ x cs. case_of db code (deeper cs 0) x (items_of links p.list) (kept_values saved p r) r ∷ cs) (kept p.marks.env a.0.mark).1 (cases-marked db fs a.1)

  open-marked : (p : Point) (r : Resume) (fs : List Frame) → IsOpen code e links saved p r fs → IsOpen code later links saved p r fs
  open-marked p r fs is = record {
    mark = (kept p.marks.env is.mark).0;
    links_room = is.links_room;
    list = is.list;
    saved_room = is.saved_room;
    older = is.older;
    items = subst (λ (x : Env). AreItems code x.heap (length x.slots) (items_of links p.list)) (sym (kept p.marks.env is.mark).1) is.items;
    resume = subst (λ (x : Env). IsResume x.heap (kept_values saved p r) r) (sym (kept p.marks.env is.mark).1) is.resume;
    fits = fits-env (kinds_of fs) code e later (items_of links p.list) (items_of links p.list) refl is.fits;
  }

  pub frames-marked : (fs : List Frame) → AreFrames code e links saved fs → AreFrames code later links saved fs
  frames-marked [] a = tt
  frames-marked (Plain i ∷ fs) a = (a.0, frames-marked fs a.1)
  frames-marked (Open p r ∷ fs) a = (open-marked p r fs a.0, frames-marked fs a.1)

-- the visited list asks for no more
module _ (s : State) (d : ℕ) (is : IsStack s d) (base : ℕ) (base_is : base ≡ max s.goals.run.«end» (slots_at s.links s.goals.rest)) (env : IsEnv (released base s.env)) where
  abbrev after : State
  after = record s { env = released base s.env }

  abbrev left : ℕ
  left = length (take (max base s.env.boundary) s.env.slots)

  asked : AskFor base (items_of s.links s.goals)
  asked = subst (λ n. AskFor n (items_of s.links s.goals)) (sym base_is) (list-asks s.links s.goals is.0.chain is.0.goals.there)

  enough : (i : ℕ) → i ≤ length s.env.slots → i ≤ base → i ≤ left
  enough i le lt = taken-within i (max base s.env.boundary) s.env.slots (le_trans lt (le-max_left base s.env.boundary)) le

  items-left : AreItems (goals_in s) s.env.heap left (items_of s.links s.goals)
  items-left = items-within (goals_in s) s.env.heap (length s.env.slots) base left (items_of s.links s.goals) enough asked is.0.goals.items

  agrees : Agrees left s.env (released base s.env)
  agrees = record {
    values = λ v f. (f, refl);
    variables = λ i lt. ap (slot_term s.env.heap) (get_or-take (max base s.env.boundary) s.env.slots i (Free 0) (taken-below i (max base s.env.boundary) s.env.slots lt));
  }

  kept : (m : Mark) → IsMark m s.env → IsMark m (released base s.env) × (cut m (released base s.env) ≡ cut m s.env)
  kept m marks = (IsMark-released base m s.env marks, cut-released base m s.env marks)

  pub released-stack : IsStack (record s { env = released base s.env }) d
  released-stack = (
    record {
      env = env;
      names = is.0.names;
      none = is.0.none;
      chain = is.0.chain;
      frames = frames-marked (goals_in s) s.env (released base s.env) s.links s.saved kept (reverse s.frames) is.0.frames;
      seen = is.0.seen;
      goals = record { there = is.0.goals.there; items = items-left };
      fits = visited-env (kinds_in s) (goals_in s) s.env (released base s.env) (items_of s.links s.goals) (items_of s.links s.goals) refl is.0.fits;
    },
    is.1,
  )

  pub released-back : GivesBack s (record s { env = released base s.env })
  unfolding cases_of
  released-back = record {
    cases = λ db. cases-marked (goals_in s) s.env (released base s.env) s.links s.saved kept db (reverse s.frames) is.0.frames;
    place = ap (λ es. record { goals = es; variables = s.env.count }) (items-agree (goals_in s) left s.env (released base s.env) agrees (items_of s.links s.goals) items-left).1;
    heap = refl;
    frames = refl;
    basis = refl;
  }

  pub released-short : IsShort (record s { env = released base s.env })
  released-short = omega (arith, length-take (max base s.env.boundary) s.env.slots, base_is)
