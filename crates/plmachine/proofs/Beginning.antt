-- Transactions and snapshots that begin.
use Rattle.std.proofs.Common.{◌≡◌, ◌≤◌, ℕ, true, false, List, [], ◌∷◌, ◌++◌, Option, Some, length, map, take, refl, sym, ap, ap₂, ◌∙◌, subst, reverse, le_refl, true≢false, arith}
use Rattle.std.proofs.lemmas.List.{reverse-append}
use Rattle.plterm.specs.declared.indicator.Indicator.{Indicator}
use Rattle.plevent.specs.Search.{Answer}
use Rattle.plevent.specs.declared.update.Update.{Update}
use Rattle.plstore.specs.Looking.{Views}
use Rattle.pltx.specs.Own.{any_open, begun, ended, nothing, some_open}
use Rattle.pltx.specs.Own.{State as Own}
use Rattle.pltx.specs.declared.level.Isolation.{Isolation}
use Rattle.pltx.specs.declared.level.Isolation.TheVariants.{Transaction, Snapshot}
use Rattle.pltx.specs.declared.level.Level.{Level}
use Rattle.plviews.specs.Layers.{Layered}
use Rattle.plviews.specs.declared.view.View.{View}
use Rattle.plprogram.specs.Program.{Program}
use Rattle.plterm.specs.Tree.{Tree}
use Rattle.plsearch.specs.Types.{Element, Go, Goal, Move, Raise, Throw, Case, Choice}
use Rattle.plsearch.specs.Moves.{first_of}
use Rattle.plsearch.specs.Rows.{meet}
use Rattle.plsearch.specs.Running.{Runnable}
use Rattle.plsearch.specs.Machines.Machine.{At, Back, Machine, Rest, move, turn}
use Rattle.plsearch.specs.Search.{ending_of}
use Rattle.plsearch.proofs.Turns.{Rest-turn}
use Rattle.pllinks.specs.declared.link.Continuation.{Continuation}
use Rattle.plstack.specs.Basis.{Basis}
use Rattle.plstack.specs.Basis.{begun as begun_in}
use Rattle.plstack.specs.Levels.{Choosing, FitsIn, Undoing}
use Rattle.plstack.specs.Places.{Database}
use Rattle.plstack.specs.State.{State, beginning, cases_of, kinds_in, walks_in, Opens}
use Rattle.plstack.specs.StaticCalls.{database_of}
use Rattle.plstack.proofs.Fitted.{kinds-in, kinds-opened}
use Rattle.plmachine.specs.declared.machine.Machine.{Machine as Reached}
use Rattle.plmachine.specs.declared.within.Entry.{Entry}
use Rattle.plmachine.specs.declared.within.Entry.TheVariants as entries
use Rattle.plmachine.specs.Machine.{below_at, cases_in, local_of, mode_of, now, run_in, IsPlain, IsTied, MayAsk, MayCarry, Moved, Stays}
use Rattle.plmachine.specs.Within.{entered, BeginsAt, IsEntry, IsEntryFit}
use Rattle.plmachine.proofs.Levels.{fits-opened}
use Rattle.plmachine.proofs.Moves.{machine-is, seeks-none}
use Rattle.plstack.specs.Opening.{undo_of}

-- the cases in which its goal runs, before a list
abbrev pub transaction_cases : State → Continuation → List Case
transaction_cases s l = Choice [] ∷ undo_of s l ∷ Choice [] ∷ []

-- ---- own updates

-- one more is open inside of what is
pub begun-inner : (k : Isolation) (b : ℕ) (x : Own) → any_open x ≡ true →
    ((begun k b x).levels ≡ record { kind = k; start = length x.updates } ∷ x.levels) × ((begun k b x).updates ≡ x.updates) × ((begun k b x).base ≡ x.base)
begun-inner k b x is = go x.levels is
  where
    go : (ls : List Level) → some_open ls ≡ true →
        ((begun k b (record x { levels = ls })).levels ≡ record { kind = k; start = length x.updates } ∷ ls) × ((begun k b (record x { levels = ls })).updates ≡ x.updates) × ((begun k b (record x { levels = ls })).base ≡ x.base)
    go [] h = absurd (cc)
    go (l ∷ ls) h = (refl, refl, refl)

-- and it is taken back
pub begun-ended : (k : Isolation) (b : ℕ) (x : Own) → any_open x ≡ true → ended false (begun k b x) ≡ x
begun-ended k b x is = go k x.levels is
  where
    take-all : (us : List Update) → take (length us) us ≡ us
    take-all [] = refl
    take-all (u ∷ us) = ap (λ us. u ∷ us) (take-all us)

    go : (k : Isolation) (ls : List Level) → some_open ls ≡ true → ended false (begun k b (record x { levels = ls })) ≡ record x { levels = ls }
    go k [] h = absurd (cc)
    go Transaction (l ∷ ls) h = ap (λ us. record x { updates = us; levels = l ∷ ls }) (take-all x.updates)
    go Snapshot (l ∷ ls) h = ap (λ us. record x { updates = us; levels = l ∷ ls }) (take-all x.updates)

-- the outermost one
pub begun-outer : (k : Isolation) (b : ℕ) (x : Own) → any_open x ≡ false → begun k b x ≡ record { base = b; updates = []; levels = record { kind = k; start = 0 } ∷ [] }
begun-outer k b x is = go x.levels is
  where
    go : (ls : List Level) → some_open ls ≡ false → begun k b (record x { levels = ls }) ≡ record { base = b; updates = []; levels = record { kind = k; start = 0 } ∷ [] }
    go [] h = refl
    go (l ∷ ls) h = absurd (cc)

-- the outermost of what is open began with no own updates
outer-begun : (starts : List ℕ) (n : ℕ) → ((k : ℕ) (ks : List ℕ) → starts ≡ k ∷ ks → k ≡ 0) → (starts ≡ [] → n ≡ 0) → (k : ℕ) (ks : List ℕ) → starts ++ n ∷ [] ≡ k ∷ ks → k ≡ 0
outer-begun starts n old new k ks is = go starts old new is
  where
    first : List ℕ → ℕ
    first [] = 0
    first (x ∷ xs) = x

    go : (starts : List ℕ) → ((k : ℕ) (ks : List ℕ) → starts ≡ k ∷ ks → k ≡ 0) → (starts ≡ [] → n ≡ 0) → starts ++ n ∷ [] ≡ k ∷ ks → k ≡ 0
    go [] old new is = sym (ap first is) ∙ new refl
    go (j ∷ js) old new is = sym (ap first is) ∙ old j js refl

none-open : (ls : List Level) → map (λ (l : Level). l.start) ls ≡ [] → some_open ls ≡ false
none-open [] none = refl
none-open (l ∷ ls) none = absurd (cc)

-- they are tied to the cases
pub tied-begun : (s new : Reached) (view : View) (x : Own) → new.stack.basis ≡ begun_in view s.stack.basis → new.layer.own ≡ x → map (λ (l : Level). l.start) x.levels ≡ view.count ∷ reverse s.stack.basis.starts →
    view.count ≤ length x.updates → view.place ≡ x.base → any_open x ≡ true → ((k : ℕ) (ks : List ℕ) → s.stack.basis.starts ++ view.count ∷ [] ≡ k ∷ ks → k ≡ 0) → IsTied new
tied-begun s new view x basis own starts count base some outer = record {
  starts = ap (λ (b : Basis). reverse b.starts) basis ∙ reverse-append s.stack.basis.starts (view.count ∷ []) ∙ sym starts ∙ ap (λ (o : Own). map (λ (l : Level). l.start) o.levels) (sym own);
  count = subst (λ (b : Basis). b.latest.count ≤ length new.layer.own.updates) (sym basis) (subst (λ (o : Own). view.count ≤ length o.updates) (sym own) count);
  base = λ open_now. ap (λ (b : Basis). b.latest.place) basis ∙ base ∙ ap (λ (o : Own). o.base) (sym own);
  closed = λ none. absurd (neither (sym none ∙ ap any_open own ∙ some));
  outer = λ k ks is. outer k ks (sym (ap (λ (b : Basis). b.starts) basis) ∙ is);
}
  where
    neither : false ≡ true → ⊥
    neither e = absurd (cc)

-- ---- the cases, and what comes first in them

module _ (P : Program) (s : Reached) (own : Own) (place : Option ℕ) (view : View) (rest : Continuation) (st : State) (opens : Opens (beginning view s.stack) st (transaction_cases s.stack rest)) where
  abbrev base : Reached
  base = record s { layer = record { own = own; place = place } }

  entered-stack : (e : Entry) → ((entered base st e).stack.basis ≡ st.basis) × (walks_in (entered base st e).stack ≡ walks_in st) × ((entered base st e).layer ≡ record { own = own; place = place }) × (local_of (entered base st e) ≡ record (local_of s) { own = own })
  entered-stack (entries.Visits l) = (refl, refl, refl, refl)
  entered-stack (entries.Throws b ls) = (refl, refl, refl, refl)

  entered-cases : (e : Entry) (db : Database) → cases_of db (entered base st e).stack ≡ cases_of db st
  unfolding cases_of
  entered-cases (entries.Visits l) db = refl
  entered-cases (entries.Throws b ls) db = refl

  opened-cases : (db : Database) → cases_of db st ≡ transaction_cases s.stack rest ++ cases_of db s.stack
  unfolding cases_of
  opened-cases db = opens.cases db

  module _ (new : Reached) (e : Entry) (is : new ≡ entered base st e) where
    pub basis-in : new.stack.basis ≡ begun_in view s.stack.basis
    basis-in = ap (λ (x : Reached). x.stack.basis) is ∙ (entered-stack e).0 ∙ opens.basis

    pub walks-in : walks_in new.stack ≡ walks_in s.stack
    walks-in = ap (λ (x : Reached). walks_in x.stack) is ∙ (entered-stack e).1 ∙ opens.walks

    pub layer-in : new.layer ≡ record { own = own; place = place }
    layer-in = ap (λ (x : Reached). x.layer) is ∙ (entered-stack e).2

    cases-in : (v : Views) → own.updates ≡ s.layer.own.updates → cases_in P v new ≡ transaction_cases s.stack rest ++ cases_in P v s
    cases-in v same =
        ap (λ (x : Layered). cases_of (database_of P v x.own.updates) new.stack) layer-in
        ∙ ap (λ (x : Reached). cases_of (database_of P v own.updates) x.stack) is ∙ entered-cases e (database_of P v own.updates) ∙ opened-cases (database_of P v own.updates)
        ∙ ap (λ us. transaction_cases s.stack rest ++ cases_of (database_of P v us) s.stack) same

    local-in : local_of new ≡ record (local_of s) { own = own }
    local-in = ap (λ (x : Reached). local_of x) is ∙ (entered-stack e).3

  pub plain-in : (new : Reached) (e : Entry) → new ≡ entered base st e → IsPlain new.mode
  plain-in new (entries.Visits l) is = subst (λ (x : Reached). IsPlain x.mode) (sym is) tt
  plain-in new (entries.Throws b ls) is = subst (λ (x : Reached). IsPlain x.mode) (sym is) tt

  pub asks-in : (new : Reached) (e : Entry) → new ≡ entered base st e → MayAsk new.layer.own new.stack new.mode
  asks-in new (entries.Visits l) is = subst (λ (x : Reached). MayAsk x.layer.own x.stack x.mode) (sym is) tt
  asks-in new (entries.Throws b ls) is = subst (λ (x : Reached). MayAsk x.layer.own x.stack x.mode) (sym is) tt

  module _ (r : Runnable) (p : Indicator) (k : ℕ) (es : List Element) where
    pub carries-in : (new : Reached) (e : Entry) → new ≡ entered base st e → IsEntry s.stack r p k es e → FitsIn (Choosing ∷ Undoing ∷ Choosing ∷ kinds_in s.stack) es → MayCarry new.stack new.mode
    carries-in new (entries.Visits l) is entry fits = subst (λ (x : Reached). MayCarry x.stack x.mode) (sym is) tt
    carries-in new (entries.Throws b ls) is entry fits =
        subst (λ (x : Reached). MayCarry x.stack x.mode) (sym is)
        (λ db. entry.2 (cases_of db st) (subst (λ ks. FitsIn ks es) (sym (kinds-in db st ∙ kinds-opened (beginning view s.stack) st (transaction_cases s.stack rest) opens.cases)) fits))

    -- the machine where the term is run, with the updates below a place
    abbrev begins : Views → ℕ → List Answer → Machine
    begins v left answers =
        move (cases_in P v s) (record (run_in v left answers s) { below = below_at v place })
        (Go (transaction_cases s.stack rest) (record { goals = first_of r p k ∷ es; variables = s.stack.env.count }) (record (local_of s) { own = own }))

    pub ends-in : (new : Reached) (e : Entry) → new ≡ entered base st e → IsEntry s.stack r p k es e → own.updates ≡ s.layer.own.updates → (v : Views) (most left : ℕ) (answers : List Answer) →
        ending_of most (Rest P (begins v left answers)) ≡ now P v new most left answers
    unfolding turn meet
    ends-in new (entries.Visits l) is entry same v most left answers =
        let here = opens.lists l entry.2.there in
        ap (λ m. ending_of most (Rest P m))
        (ap (λ f. record (begins v left answers) { mode = At (record { goals = f ∷ es; variables = s.stack.env.count }) }) entry.1
        ∙ sym (machine-is P v new (At (record { goals = Goal k entry.0 ∷ es; variables = s.stack.env.count })) (transaction_cases s.stack rest ++ cases_in P v s) (below_at v place) (record (local_of s) { own = own })
        (plain-in new (entries.Visits l) is)
        (ap (λ (x : Reached). mode_of x.mode x.stack) is ∙ ap₂ (λ gs n. At (record { goals = gs; variables = n })) (here.1 ∙ entry.2.is) opens.count)
        (cases-in new (entries.Visits l) is v same) (ap (λ (x : Layered). below_at v x.place) (layer-in new (entries.Visits l) is)) (local-in new (entries.Visits l) is) left answers))
    ends-in new (entries.Throws b ls) is entry same v most left answers =
        ap (λ f. ending_of most (Rest P (record (begins v left answers) { mode = At (record { goals = f ∷ es; variables = s.stack.env.count }) }))) entry.0
        ∙ ap (ending_of most) (Rest-turn P (record (begins v left answers) { mode = At (record { goals = Raise b ∷ es; variables = s.stack.env.count }) }))
        ∙ ap (λ m. ending_of most (Rest P m))
        (ap (λ ks. record (begins v left answers) { mode = Back (Throw b ks) }) (sym entry.1)
        ∙ sym (machine-is P v new (Back (Throw b ls.items)) (transaction_cases s.stack rest ++ cases_in P v s) (below_at v place) (record (local_of s) { own = own })
        (plain-in new (entries.Throws b ls) is)
        (ap (λ (x : Reached). mode_of x.mode x.stack) is)
        (cases-in new (entries.Throws b ls) is v same) (ap (λ (x : Layered). below_at v x.place) (layer-in new (entries.Throws b ls) is)) (local-in new (entries.Throws b ls) is) left answers))

-- a list that comes first fits
pub entry-fit : (s st : State) (view : View) (rest : Continuation) → Opens (beginning view s) st (transaction_cases s rest) → (r : Runnable) (p : Indicator) (k : ℕ) (es : List Element) (e : Entry) → IsEntry s r p k es e →
    ((t : Tree) → FitsIn (Choosing ∷ Undoing ∷ Choosing ∷ kinds_in s) (Goal k t ∷ es)) → IsEntryFit st e
entry-fit s st view rest opens r p k es (entries.Visits l) entry fits =
    ((opens.lists l entry.2.there).0, fits-opened (beginning view s) st (transaction_cases s rest) opens l entry.2.there (subst (FitsIn (Choosing ∷ Undoing ∷ Choosing ∷ kinds_in s)) (sym entry.2.is) (fits entry.0)))
entry-fit s st view rest opens r p k es (entries.Throws b ls) entry fits = tt

-- what stands in the stack before does not matter
pub entered-as : (x : Reached) (was st : State) (e : Entry) → entered (record x { stack = was }) st e ≡ entered x st e
entered-as x was st (entries.Visits l) = refl
entered-as x was st (entries.Throws b ls) = refl

-- ---- the moves

module _ (P : Program) (s : Reached) (rest : Continuation) (st : State) (new : Reached) (e : Entry) (r : Runnable) (p : Indicator) (k : ℕ) (es : List Element) (entry : IsEntry s.stack r p k es e)
    (fits : FitsIn (Choosing ∷ Undoing ∷ Choosing ∷ kinds_in s.stack) es) (i : Isolation) (tied : IsTied s) where
  abbrev begins_by : Own → Move
  begins_by own = Go (transaction_cases s.stack rest) (record { goals = first_of r p k ∷ es; variables = s.stack.env.count }) (record (local_of s) { own = own })

  -- inside of what is open
  module _ (some : any_open s.layer.own ≡ true) where
    abbrev inner : Own
    inner = begun i s.layer.own.base s.layer.own

    abbrev here : View
    here = record { place = s.layer.own.base; count = length s.layer.own.updates }

    pub begins-inside : Opens (beginning here s.stack) st (transaction_cases s.stack rest) → new ≡ entered (record s { layer = record { own = inner; place = s.layer.place } }) st e → Moved P s new (begins_by inner)
    begins-inside opens is =
        let facts = begun-inner i s.layer.own.base s.layer.own some in
        let basis = basis-in P s inner s.layer.place here rest st opens new e is in
        let layer = layer-in P s inner s.layer.place here rest st opens new e is in
        record {
          plain = plain-in P s inner s.layer.place here rest st opens new e is;
          moved = record {
            code = ap (λ (b : Basis). b.code) basis;
            latest = ap (λ (b : Basis). b.latest.place) basis ∙ sym (tied.base some);
            place = ap (λ (x : Layered). x.place) layer;
            walks = ([], sym (walks-in P s inner s.layer.place here rest st opens new e is));
            seeks = seeks-none new.mode (plain-in P s inner s.layer.place here rest st opens new e is);
            tied = λ was.
                tied-begun s new here inner basis (ap (λ (x : Layered). x.own) layer)
                (ap (λ (ls : List Level). map (λ (l : Level). l.start) ls) facts.0 ∙ ap (λ ks. length s.layer.own.updates ∷ ks) (sym was.starts))
                (subst (λ us. length s.layer.own.updates ≤ length us) (sym facts.1) (le_refl _)) (sym facts.2) (ap some_open facts.0)
                (outer-begun s.stack.basis.starts (length s.layer.own.updates) was.outer (λ empty. absurd (true≢false (sym some ∙ none-open s.layer.own.levels (sym was.starts ∙ ap reverse empty)))));
            askable = asks-in P s inner s.layer.place here rest st opens new e is;
            carry = carries-in P s inner s.layer.place here rest st opens r p k es new e is entry fits;
            ends = λ v ordered. ends-in P s inner s.layer.place here rest st opens r p k es new e is entry facts.1 v;
          };
        }

  -- the outermost one, in the view of a place
  module _ (none : any_open s.layer.own ≡ false) (g : ℕ) (empty : s.layer.own ≡ nothing) where
    abbrev outer : Own
    outer = begun i g s.layer.own

    abbrev there : View
    there = record { place = g; count = 0 }

    pub begins-outside : Opens (beginning there s.stack) st (transaction_cases s.stack rest) → new ≡ entered (record s { layer = record { own = outer; place = Some g } }) st e → BeginsAt P s new g (begins_by outer)
    begins-outside opens is =
        let facts = begun-outer i g s.layer.own none in
        let basis = basis-in P s outer (Some g) there rest st opens new e is in
        let layer = layer-in P s outer (Some g) there rest st opens new e is in
        let updates : outer.updates ≡ s.layer.own.updates = ap (λ (x : Own). x.updates) facts ∙ ap (λ (x : Own). x.updates) (sym empty) in
        record {
          code = ap (λ (b : Basis). b.code) basis;
          latest = ap (λ (b : Basis). b.latest.place) basis;
          place = ap (λ (x : Layered). x.place) layer;
          walks = walks-in P s outer (Some g) there rest st opens new e is;
          plain = plain-in P s outer (Some g) there rest st opens new e is;
          tied =
              tied-begun s new there outer basis (ap (λ (x : Layered). x.own) layer)
              (ap (λ (x : Own). map (λ (l : Level). l.start) x.levels) facts ∙ ap (λ (x : Own). 0 ∷ map (λ (l : Level). l.start) x.levels) (sym empty) ∙ ap (λ ks. 0 ∷ ks) (sym tied.starts))
              (omega arith) (sym (ap (λ (x : Own). x.base) facts)) (ap any_open facts) (outer-begun s.stack.basis.starts 0 tied.outer (λ e. refl));
          askable = asks-in P s outer (Some g) there rest st opens new e is;
          carry = carries-in P s outer (Some g) there rest st opens r p k es new e is entry fits;
          ends = λ v most left answers. ends-in P s outer (Some g) there rest st opens r p k es new e is entry updates v most left answers;
        }

-- where it stood before
pub begins-from : (P : Program) (s t new : Reached) (g : ℕ) (m m' : Move) → Stays P s t → m ≡ m' → BeginsAt P t new g m → BeginsAt P s new g m'
begins-from P s t new g m m' stay same begins = record {
  code = begins.code ∙ ap (λ (b : Basis). b.code) stay.basis;
  latest = begins.latest;
  place = begins.place;
  walks = begins.walks ∙ stay.walks;
  plain = begins.plain;
  tied = begins.tied;
  askable = begins.askable;
  carry = begins.carry;
  ends = λ v most left answers.
      ap₂ (λ cs w. ending_of most (Rest P (move cs (record { steps = left; answers = answers; below = v g; local = w }) m'))) (sym (stay.cases v)) (sym stay.local)
      ∙ ap (λ m. ending_of most (Rest P (move (cases_in P v t) (record { steps = left; answers = answers; below = v g; local = local_of t }) m))) (sym same)
      ∙ begins.ends v most left answers;
}
