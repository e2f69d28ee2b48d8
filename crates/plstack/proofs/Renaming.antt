-- What a case stands for where the table of names has grown.
use Rattle.std.proofs.Common.{◌≡◌, ℕ, List, [], ◌∷◌, length, map, drop, filter_map, refl, ap, ap₂}
use Rattle.plterm.specs.Tree.{Tree, compound, trees}
use Rattle.platoms.specs.Names.{Table, IsTable, Extends}
use Rattle.plclause.specs.Clause.{Clause}
use Rattle.plcells.specs.declared.cell.Cell.{Cell}
use Rattle.plcells.specs.Store.{AreValues, value, renamed as renamed_heap, Preserves}
use Rattle.plcells.proofs.Renaming.{Preserves-renamed}
use Rattle.plsearch.specs.Types.{Element, Choice, Handle}
use Rattle.plsearch.specs.Moves.{resolve}
use Rattle.plsearch.specs.Rows.{solved}
use Rattle.plbuiltin.specs.Solution.{Solution}
use Rattle.plgenerator.specs.declared.turn.Remaining.{Remaining}
use Rattle.plgenerator.proofs.Staying.{turn_stays, left_stays}
use Rattle.plenv.specs.declared.slot.Slot.{Slot}
use Rattle.plenv.specs.declared.slot.Slot.TheVariants.{Free, Set}
use Rattle.plenv.specs.Env.{Env, IsEnv, IsSlot, slot_at, slot_term, renamed}
use Rattle.pllinks.specs.declared.item.Portion.{Portion}
use Rattle.pllinks.specs.Lists.{Goals, all_elements, AreItems}
use Rattle.pllinks.specs.Changing.{Agrees}
use Rattle.pllinks.proofs.Changing.{items-agree}
use Rattle.plstack.specs.declared.walk.Candidate.{Candidate}
use Rattle.plstack.specs.declared.frame.Resume.{Resume}
use Rattle.plstack.specs.declared.frame.Resume.TheVariants as resumes
use Rattle.plstack.specs.Places.{Database, called, places_left, tried, candidates_left, left_at, answers_left, case_of}
use Rattle.plstack.specs.Frames.{IsResume}
use Rattle.plstack.proofs.Handled.{handled-same}

module _ (e : Env) (t : Table) (is : IsEnv e) (table : IsTable t) (more : Extends e.heap.names t) where
  pub stays : Preserves e.heap (renamed_heap e.heap t)
  stays = Preserves-renamed e.heap t is.heap table more

  slot-renamed : (s : Slot) → IsSlot e s → slot_term (renamed_heap e.heap t) s ≡ slot_term e.heap s
  slot-renamed (Free n) f = refl
  slot-renamed (Set v) f = (stays.values v f).1

  pub agrees-renamed : Agrees (length e.slots) e (renamed e t)
  agrees-renamed = record { values = stays.values; variables = λ i lt. slot-renamed (slot_at e.slots i) (is.slots.fit i lt) }

  pub values-renamed : (vs : List Cell) → AreValues e.heap vs → AreValues (renamed_heap e.heap t) vs × (map (value (renamed_heap e.heap t)) vs ≡ map (value e.heap) vs)
  values-renamed [] a = (tt, refl)
  values-renamed (v ∷ vs) a =
      let r = values-renamed vs a.1 in
      let s = stays.values v a.0 in
      ((s.0, r.0), ap₂ (λ x xs. x ∷ xs) s.1 r.1)

  pub called-renamed : (name : List ℕ) (vs : List Cell) → AreValues e.heap vs → called (renamed_heap e.heap t) name vs ≡ called e.heap name vs
  called-renamed name [] a = refl
  called-renamed name (v ∷ vs) a = ap (λ ts. compound name (trees ts)) (values-renamed (v ∷ vs) a).1

  pub resume-renamed : (vs : List Cell) (r : Resume) → IsResume e.heap vs r → IsResume (renamed_heap e.heap t) vs r
  resume-renamed vs (resumes.Clauses c) i = (values-renamed vs i).0
  resume-renamed vs (resumes.Walk w) i = (stays.values w.goal i).0
  resume-renamed vs (resumes.Answers a) i = ((values-renamed vs i.0).0, turn_stays e.heap (renamed_heap e.heap t) stays.values vs i.0 a.turn i.1)
  resume-renamed vs resumes.List i = tt
  resume-renamed vs (resumes.Handle x) i = (handled-same e.heap (renamed_heap e.heap t) stays.values x i).0

  module _ (code : Goals) (xs : List Portion) (items : AreItems code e.heap (length e.slots) xs) where
    goals-renamed : all_elements code (renamed e t) xs ≡ all_elements code e xs
    goals-renamed = (items-agree code (length e.slots) e (renamed e t) agrees-renamed xs items).1

    pub candidates-renamed : (d : ℕ) (g g' : Tree) (ys : Tree → List Candidate) → g ≡ g' → candidates_left d (renamed e t) g (all_elements code (renamed e t) xs) (ys g) ≡ candidates_left d e g' (all_elements code e xs) (ys g')
    candidates-renamed d g g' ys same = ap₂ (λ (x : Tree) (es : List Element). filter_map (tried d e.count x es) (ys x)) same goals-renamed

    pub answers-renamed : (vs : List Cell) → AreValues e.heap vs → (turn : Remaining) →
        answers_left (renamed e t) vs (all_elements code (renamed e t) xs) turn ≡ answers_left e vs (all_elements code e xs) turn
    answers-renamed vs fit turn = ap₂ (λ (es : List Element) (ss : List Solution). filter_map (solved es e.count) ss) goals-renamed (left_stays e.heap (renamed_heap e.heap t) stays.values vs fit turn)

    module _ (db : Database) (d : ℕ) where
      left-renamed : (g g' : Tree) (cs : Tree → List Clause) → g ≡ g' → places_left d (renamed e t) g (all_elements code (renamed e t) xs) (cs g) ≡ places_left d e g' (all_elements code e xs) (cs g')
      left-renamed g g' cs same = ap₂ (λ (x : Tree) (es : List Element). filter_map (resolve d e.count x es) (cs x)) same goals-renamed

      pub case-renamed : (vs : List Cell) (r : Resume) → IsResume e.heap vs r → case_of db code d (renamed e t) xs vs r ≡ case_of db code d e xs vs r
      case-renamed vs (resumes.Clauses c) i = ap Choice (left-renamed _ _ (λ g. drop c.next (db.statics c.procedure).clauses) (called-renamed (db.statics c.procedure).name vs i))
      case-renamed vs (resumes.Walk w) i = ap Choice (candidates-renamed d _ _ (λ g. left_at db w.uses g w.spot) (stays.values w.goal i).1)
      case-renamed vs (resumes.Answers a) i = ap Choice (answers-renamed vs i.0 a.turn)
      case-renamed vs resumes.List i = ap (λ es. Choice (record { goals = es; variables = e.count } ∷ [])) goals-renamed
      case-renamed vs (resumes.Handle x) i = ap₂ (λ h es. Handle h (record { goals = es; variables = e.count })) (handled-same e.heap (renamed_heap e.heap t) stays.values x i).1 goals-renamed
