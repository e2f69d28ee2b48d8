-- Updates that are made of what is open.
use Rattle.std.proofs.Common.{◌≡◌, ◌≤◌, ℕ, Bool, true, false, List, [], ◌∷◌, length, map, take, refl, sym, ap, ◌∙◌, subst, arith, if◌then◌else◌}
use Rattle.std.specs.Prelude.{not}
use Rattle.std.proofs.lemmas.List.{length-append, take-append-le}
use Rattle.plevent.specs.Alive.{change_if, Stamped}
use Rattle.plevent.specs.Search.{Answer, Ask}
use Rattle.plevent.specs.declared.update.ClauseName.{ClauseName}
use Rattle.plevent.specs.declared.update.Update.{Update}
use Rattle.plevent.specs.declared.update.Update.TheVariants.{Erase}
use Rattle.plstore.specs.Looking.{Views}
use Rattle.pltx.specs.Own.{added, all_made, any_open, erased_in, made, target_at}
use Rattle.pltx.specs.Own.{erasing as erasing_update}
use Rattle.pltx.specs.Own.{State as Own}
use Rattle.pltx.specs.declared.target.Erasure.{Erasure}
use Rattle.pltx.specs.declared.target.Erasure.TheVariants.{Erased, Gone}
use Rattle.plviews.specs.Layers.{Grows, Layered}
use Rattle.plviews.proofs.Layering.{all-made-grows, made-grows}
use Rattle.plprogram.specs.Program.{Program}
use Rattle.plevent.specs.declared.request.Request.TheVariants.{EraseOne, Publish}
use Rattle.plsearch.specs.Types.{Asking, Asks, Await, Element, End, Fail, Give, GoesOn, Local, Look, Lookup, Meeting, Move, Pass, Question}
use Rattle.plsearch.specs.Lookups.{looked_up, seek, seen}
use Rattle.plsearch.specs.Moves.{go_on, publish, publishing}
use Rattle.plsearch.specs.Machines.Machine.{At, Rest, meets, move, turn}
use Rattle.plsearch.specs.Rows.{erasing as erasing_row, meet}
use Rattle.plsearch.specs.Search.{ending_of}
use Rattle.plsearch.proofs.Turns.{Rest-turn}
use Rattle.pllinks.specs.declared.link.Continuation.{Continuation}
use Rattle.plstack.specs.Places.{Database, IsOwnSoFar}
use Rattle.plstack.specs.State.{cases_of, goals_of}
use Rattle.plstack.specs.StaticCalls.{database_of}
use Rattle.plmachine.specs.declared.machine.Outcome.TheVariants as outcomes
use Rattle.plmachine.specs.declared.machine.Question.TheVariants as questions
use Rattle.plmachine.specs.declared.machine.Mode.TheVariants as modes
use Rattle.plmachine.specs.declared.machine.Machine.{Machine as Reached}
use Rattle.plmachine.specs.Machine.{below_at, below_in, cases_in, local_of, machine, run_in, IsTied, Moved}
use Rattle.plmachine.specs.Seeking.{erasing, ErasesBefore}
use Rattle.plmachine.proofs.Moves.{gave, goes-at, machine-is, moved-as}

-- ---- what updates come to

pub publish-closed : (us : List Update) (es : List Element) (n : ℕ) (w : Local) → any_open w.own ≡ false → go_on (publishing us es) n w ≡ publish us es n w
publish-closed us es n w none = ap (λ (b : Bool). if b then go_on es n (record w { own = all_made us w.own }) else go_on (publishing us es) n w) (sym none)

pub publish-open : (us : List Update) (es : List Element) (n : ℕ) (w : Local) → any_open w.own ≡ true → go_on es n (record w { own = all_made us w.own }) ≡ publish us es n w
publish-open us es n w some = ap (λ (b : Bool). if b then go_on es n (record w { own = all_made us w.own }) else go_on (publishing us es) n w) (sym some)

pub publishing-none : (us : List Update) (es : List Element) → length us ≡ 0 → es ≡ publishing us es
publishing-none [] es none = refl
publishing-none (u ∷ us) es none = absurd (omega (arith, none))

pub publishing-some : (us : List Update) (es : List Element) → (length us ≡ 0 → ⊥) → Asking (Await (Publish us) GoesOn) ∷ es ≡ publishing us es
publishing-some [] es some = absurd (some refl)
publishing-some (u ∷ us) es some = refl

pub seek-closed : (below : List Stamped) (u : Lookup) (d : ℕ) (es : List Element) (n : ℕ) (w : Local) → any_open w.own ≡ false → go_on (Asking (Look u) ∷ es) n w ≡ seek below u d es n w
seek-closed below u d es n w none = ap (λ (b : Bool). if b then looked_up (seen below w.own) u d es n w else go_on (Asking (Look u) ∷ es) n w) (sym none)

-- ---- a machine with more own updates

module _ (P : Program) (s : Reached) (x : Layered) (l : Continuation) (grows : Grows s.layer.own x.own) (place : x.place ≡ s.layer.place) (tied : IsTied s)
    (stay : (db : Database) (own : List Update) → IsOwnSoFar s.stack.basis.latest db own → cases_of (record db { own = own }) s.stack ≡ cases_of db s.stack) where
  abbrev grown : Reached
  grown = record s { layer = x; stack = record s.stack { goals = l }; mode = modes.Visit }

  grown-count : length s.layer.own.updates ≤ length x.own.updates
  grown-count = subst (λ (own : Own). length s.layer.own.updates ≤ length own.updates) (sym grows.is) (omega (arith, length-append s.layer.own.updates grows.more))

  grown-tied : IsTied grown
  grown-tied = record {
    starts = tied.starts ∙ ap (λ (own : Own). map (λ l. l.start) own.levels) (sym grows.is);
    count = omega (arith, tied.count, grown-count);
    base = λ some. tied.base (ap any_open (sym grows.is) ∙ some) ∙ ap (λ (own : Own). own.base) (sym grows.is);
    closed = λ none. tied.closed (ap any_open (sym grows.is) ∙ none);
    outer = tied.outer;
  }

  grown-cases : (v : Views) → cases_in P v grown ≡ cases_in P v s
  unfolding cases_of
  grown-cases v =
      stay (database_of P v s.layer.own.updates) x.own.updates
      (ap (λ (own : Own). take s.stack.basis.latest.count own.updates) grows.is ∙ take-append-le s.stack.basis.latest.count s.layer.own.updates grows.more tied.count)

  grown-moved : Moved P s grown (go_on (goals_of s.stack l) s.stack.env.count (record (local_of s) { own = x.own }))
  grown-moved = record {
    plain = tt;
    moved = record {
      code = refl;
      latest = refl;
      place = place;
      walks = ([], refl);
      seeks = tt;
      tied = λ tied. grown-tied;
      askable = tt;
      carry = tt;
      ends = λ v ordered. goes-at P v s grown [] (record { goals = goals_of s.stack l; variables = s.stack.env.count }) (record (local_of s) { own = x.own }) tt refl (grown-cases v) (ap (below_at v) place) refl;
    };
  }

  grown-machine : (v : Views) (left : ℕ) (answers : List Answer) → machine P v left answers grown ≡ move (cases_in P v s) (run_in v left answers s) (go_on (goals_of s.stack l) s.stack.env.count (record (local_of s) { own = x.own }))
  grown-machine v left answers =
      machine-is P v grown (At (record { goals = goals_of s.stack l; variables = s.stack.env.count })) (cases_in P v s) (below_in v s) (record (local_of s) { own = x.own }) tt refl (grown-cases v) (ap (below_at v) place) refl left answers

  -- a list is visited, where there may be more own updates
  pub grows-on : (new : Reached) → new ≡ record s { layer = x; stack = record s.stack { goals = l }; mode = modes.Visit } → Moved P s new (go_on (goals_of s.stack l) s.stack.env.count (record (local_of s) { own = x.own }))
  grows-on new is = subst (λ (new : Reached). Moved P s new (go_on (goals_of s.stack l) s.stack.env.count (record (local_of s) { own = x.own }))) (sym is) grown-moved

-- updates are made before a list
pub makes : (P : Program) (s new : Reached) (us : List Update) (l : Continuation) → any_open s.layer.own ≡ true → IsTied s →
    ((db : Database) (own : List Update) → IsOwnSoFar s.stack.basis.latest db own → cases_of (record db { own = own }) s.stack ≡ cases_of db s.stack) →
    new ≡ record s { layer = record s.layer { own = all_made us s.layer.own }; stack = record s.stack { goals = l }; mode = modes.Visit } → Moved P s new (publish us (goals_of s.stack l) s.stack.env.count (local_of s))
makes P s new us l some tied stay is =
    moved-as P s new _ _ (publish-open us (goals_of s.stack l) s.stack.env.count (local_of s) some)
    (grows-on P s (record s.layer { own = all_made us s.layer.own }) l (all-made-grows us s.layer.own) refl tied stay new is)

-- ---- a clause that is erased

gone-when : (b : Bool) → Gone ≡ change_if b Gone Erased → b ≡ true
gone-when true e = refl
gone-when false e = absurd (cc)

erased-when : (b : Bool) → Erased ≡ change_if b Gone Erased → b ≡ false
erased-when true e = absurd (cc)
erased-when false e = refl

-- of what is open, where an own update has erased it before, and where none has
module _ (P : Program) (v : Views) (left : ℕ) (answers : List Answer) (s : Reached) (x : ClauseName) (es : List Element) (some : any_open s.layer.own ≡ true) where
  abbrev gone : Bool
  gone = erased_in (target_at s.layer.own.base x) s.layer.own.updates

  abbrev after-row : Bool → Meeting
  after-row b = if b then End Fail (local_of s) else Pass (record (local_of s) { own = made (Erase x) s.layer.own })

  row-is : (b : Bool) → gone ≡ b → erasing_row x (local_of s) ≡ after-row b
  row-is b e = ap (λ (open_now : Bool). if not open_now then Asks (Ask (EraseOne x)) else after-row gone) some ∙ ap after-row e

  turn-is : (b : Bool) → gone ≡ b → turn P (erasing P v left answers s x es) ≡ meets P (cases_in P v s) (Asking (Question.Erase x)) es s.stack.env.count (run_in v left answers s) (after-row b)
  unfolding turn meet
  turn-is b e = ap (meets P (cases_in P v s) (Asking (Question.Erase x)) es s.stack.env.count (run_in v left answers s)) (row-is b e)

-- a move that is made a turn later
next-turn : (P : Program) (s new : Reached) (x : ClauseName) (es : List Element) (m : Move) → Moved P s new m →
    ((v : Views) (left : ℕ) (answers : List Answer) → turn P (erasing P v left answers s x es) ≡ move (cases_in P v s) (run_in v left answers s) m) → Moved P s new (go_on (Asking (Question.Erase x) ∷ es) s.stack.env.count (local_of s))
next-turn P s new x es m moved turns = record {
  plain = moved.plain;
  moved = record {
    code = moved.moved.code;
    latest = moved.moved.latest;
    place = moved.moved.place;
    walks = moved.moved.walks;
    seeks = moved.moved.seeks;
    tied = moved.moved.tied;
    askable = moved.moved.askable;
    carry = moved.moved.carry;
    ends = λ v ordered most left answers.
        ap (ending_of most) (Rest-turn P (erasing P v left answers s x es) ∙ ap (Rest P) (turns v left answers)) ∙ moved.moved.ends v ordered most left answers;
  };
}

module _ (P : Program) (s new : Reached) (x : ClauseName) (l : Continuation) where
  -- what is asked, where nothing is open
  pub erase-asked : new ≡ record s { stack = record s.stack { goals = l }; mode = modes.Ask (questions.Erase x) } → ErasesBefore P false s new x (goals_of s.stack l)
  unfolding machine cases_of
  erase-asked is = λ v left answers. ap (machine P v left answers) is

  module _ (e : Erasure) (answer : e ≡ change_if (erased_in (target_at s.layer.own.base x) s.layer.own.updates) Gone Erased) (some : any_open s.layer.own ≡ true) where
    -- it was erased before
    module _ (was : e ≡ Gone) (is : new ≡ record s { layer = record s.layer { own = made (Erase x) s.layer.own }; mode = modes.Back outcomes.Fail }) where
      gone-same : new ≡ record s { mode = modes.Back outcomes.Fail }
      gone-same =
          is ∙ ap (λ (own : Own). record s { layer = record s.layer { own = own }; mode = modes.Back outcomes.Fail })
          (ap (λ b. change_if b s.layer.own (added (erasing_update (target_at s.layer.own.base x)) s.layer.own)) (gone-when _ (sym was ∙ answer)))

      gone-turns : (v : Views) (left : ℕ) (answers : List Answer) → turn P (erasing P v left answers s x (goals_of s.stack l)) ≡ move (cases_in P v s) (run_in v left answers s) (Give Fail (local_of s))
      gone-turns v left answers = turn-is P v left answers s x (goals_of s.stack l) some true (gone-when _ (sym was ∙ answer))

      pub gone-moved : Moved P s new (go_on (Asking (Question.Erase x) ∷ goals_of s.stack l) s.stack.env.count (local_of s))
      gone-moved = next-turn P s new x (goals_of s.stack l) (Give Fail (local_of s)) (gave P s new outcomes.Fail tt gone-same) gone-turns

      pub gone-becomes : ErasesBefore P true s new x (goals_of s.stack l)
      unfolding machine
      gone-becomes = λ v left answers. ap (machine P v left answers) gone-same ∙ sym (gone-turns v left answers)

    -- it was not
    module _ (now_is : e ≡ Erased) (tied : IsTied s) (stay : (db : Database) (own : List Update) → IsOwnSoFar s.stack.basis.latest db own → cases_of (record db { own = own }) s.stack ≡ cases_of db s.stack)
        (is : new ≡ record s { layer = record s.layer { own = made (Erase x) s.layer.own }; stack = record s.stack { goals = l }; mode = modes.Visit }) where
      erased-turns : (v : Views) (left : ℕ) (answers : List Answer) →
          turn P (erasing P v left answers s x (goals_of s.stack l)) ≡ move (cases_in P v s) (run_in v left answers s) (go_on (goals_of s.stack l) s.stack.env.count (record (local_of s) { own = made (Erase x) s.layer.own }))
      erased-turns v left answers = turn-is P v left answers s x (goals_of s.stack l) some false (erased-when _ (sym now_is ∙ answer))

      pub erased-moved : Moved P s new (go_on (Asking (Question.Erase x) ∷ goals_of s.stack l) s.stack.env.count (local_of s))
      erased-moved =
          next-turn P s new x (goals_of s.stack l) _ (grows-on P s (record s.layer { own = made (Erase x) s.layer.own }) l (made-grows (Erase x) s.layer.own) refl tied stay new is) erased-turns

      pub erased-becomes : ErasesBefore P true s new x (goals_of s.stack l)
      erased-becomes = λ v left answers.
          ap (machine P v left answers) is
          ∙ grown-machine P s (record s.layer { own = made (Erase x) s.layer.own }) l (made-grows (Erase x) s.layer.own) refl tied stay v left answers
          ∙ sym (erased-turns v left answers)
