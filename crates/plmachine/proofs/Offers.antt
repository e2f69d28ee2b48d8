-- What a built-in predicate makes of a machine.
use Rattle.std.proofs.Common.{◌≡◌, ℕ, ◌+◌, List, [], ◌∷◌, ◌++◌, map, filter_map, refl, sym, ap, ap₂, ◌∙◌, subst, None, option_map, arith, append-nil, reverse}
use Rattle.plterm.specs.Tree.{Tree, var}
use Rattle.plterm.specs.declared.indicator.Indicator.{Indicator}
use Rattle.plcells.specs.declared.cell.Cell.{Cell}
use Rattle.plcells.specs.declared.equation.Equation.{Equation}
use Rattle.plcells.specs.Equations.{left_of, right_of}
use Rattle.plcells.specs.Store.{value}
use Rattle.plsubst.specs.Unify.{places, differ, unify_in, unify}
use Rattle.plsubst.proofs.Unify.{bind-var}
use Rattle.plprogram.specs.Program.{Program}
use Rattle.plprogram.specs.declared.settings.Settings.{Settings}
use Rattle.plbuiltin.specs.Solution.{Solution, Gives, fails, unifies as unified_to, writes, sets, decides}
use Rattle.plbuiltin.specs.Terms.{is_none}
use Rattle.plsearch.specs.Types.{Fail, Kind, Commit, Never, Until, Collect, Transact, Lookup, ToCall, ToRetrieve, ToRetract, ToRetractAll, Look, Begin, Await, Erase, Goal, Marker, Raise, Asking, Element, Local, Move, Give}
use Rattle.plsearch.specs.Lists.{bind_lookup, bind_kind, bind_goals}
use Rattle.plsearch.specs.Machines.Machine.{At}
use Rattle.plsearch.specs.Moves.{go_on, choose}
use Rattle.plsearch.specs.Rows.{solved, taken, offer}
use Rattle.planswers.specs.Answers.{IsMany}
use Rattle.pllinks.specs.declared.link.Continuation.{Continuation}
use Rattle.plstack.specs.Places.{walks_of}
use Rattle.plstack.specs.State.{State, walks_in, IsList, cases_of, goals_of, Solves, Unifies, UnifiesTerms}
use Rattle.plstack.specs.StaticCalls.{database_of}
use Rattle.plmachine.specs.declared.machine.Outcome.TheVariants as outcomes
use Rattle.plmachine.specs.declared.machine.Mode.TheVariants as modes
use Rattle.plmachine.specs.declared.machine.Machine.{Machine as Reached}
use Rattle.plmachine.specs.Lists.{Grown}
use Rattle.plmachine.specs.Machine.{IsPlain, mode_of, cases_in, local_of, Moved}
use Rattle.plmachine.proofs.Lists.{holds-list, lengthened-grown, lengthened-same}
use Rattle.plmachine.proofs.Moves.{gave, gives, goes-to, moved-as, moved-grown, visit-asks, went}

-- a unifier was put in
pub unifies : (P : Program) (s new : Reached) (t : State) (a b : Tree) (l : Continuation) → IsList s.stack l → UnifiesTerms s.stack t a b → new ≡ record s { stack = record t { goals = l }; mode = modes.Visit } →
    Moved P s new (taken (solved (goals_of s.stack l) s.stack.env.count (record { left = a; right = b; new = 0 })) (local_of s))
unfolding cases_of
unifies P s new t a b l there u is =
    let count : t.env.count ≡ s.stack.env.count + 0 = omega (arith, u.count) in
    subst (λ o. Moved P s new (taken (option_map (λ σ. record { goals = bind_goals σ (goals_of s.stack l); variables = s.stack.env.count + 0 }) o) (local_of s))) (sym u.is)
    (goes-to P s new [] _ (local_of s) (ap (λ x. x.stack.basis) is ∙ u.basis) (ap (λ x. x.layer) is) (ap (λ x. walks_in x.stack) is ∙ ap (λ fs. walks_of (reverse fs)) u.frames) (visit-asks new (ap (λ x. x.mode) is)) (subst IsPlain (sym (ap (λ x. x.mode) is)) tt)
    (ap (λ x. mode_of x.mode x.stack) is ∙ ap₂ (λ gs n. At (record { goals = gs; variables = n })) (u.lists l there).1 count)
    (λ v. ap (λ x. cases_in P v x) is ∙ u.cases (database_of P v s.layer.own.updates)) (ap (λ x. local_of x) is))

pub ununified : (P : Program) (s new : Reached) (a b : Tree) (l : Continuation) → unify a b ≡ None → new ≡ record s { mode = modes.Back outcomes.Fail } →
    Moved P s new (taken (solved (goals_of s.stack l) s.stack.env.count (record { left = a; right = b; new = 0 })) (local_of s))
ununified P s new a b l none is =
    subst (λ o. Moved P s new (taken (option_map (λ σ. record { goals = bind_goals σ (goals_of s.stack l); variables = s.stack.env.count + 0 }) o) (local_of s))) (sym none)
    (gave P s new outcomes.Fail tt is)

-- an equation was solved
pub solves : (P : Program) (s new : Reached) (t : State) (q : Equation) (l : Continuation) → IsList s.stack l → Solves s.stack t q → new ≡ record s { stack = record t { goals = l }; mode = modes.Visit } →
    Moved P s new (taken (solved (goals_of s.stack l) s.stack.env.count (record { left = left_of s.stack.env.heap s.stack.env.count q; right = right_of s.stack.env.heap s.stack.env.count q; new = q.new })) (local_of s))
unfolding cases_of
solves P s new t q l there u is =
    subst (λ o. Moved P s new (taken (option_map (λ σ. record { goals = bind_goals σ (goals_of s.stack l); variables = s.stack.env.count + q.new }) o) (local_of s))) (sym u.is)
    (goes-to P s new [] _ (local_of s) (ap (λ x. x.stack.basis) is ∙ u.basis) (ap (λ x. x.layer) is) (ap (λ x. walks_in x.stack) is ∙ ap (λ fs. walks_of (reverse fs)) u.frames) (visit-asks new (ap (λ x. x.mode) is)) (subst IsPlain (sym (ap (λ x. x.mode) is)) tt)
    (ap (λ x. mode_of x.mode x.stack) is ∙ ap₂ (λ gs n. At (record { goals = gs; variables = n })) (u.lists l there).1 u.count)
    (λ v. ap (λ x. cases_in P v x) is ∙ u.cases (database_of P v s.layer.own.updates)) (ap (λ x. local_of x) is))

-- two terms with new variables have no unifier
pub unsolved : (P : Program) (s t new : Reached) (a b : Tree) (k : ℕ) (l : Continuation) → Grown s.stack t.stack → t ≡ record s { stack = t.stack } → unify a b ≡ None → new ≡ record t { mode = modes.Back outcomes.Fail } →
    Moved P s new (taken (solved (goals_of s.stack l) s.stack.env.count (record { left = a; right = b; new = k })) (local_of s))
unsolved P s t new a b k l g frame none is =
    subst (λ o. Moved P s new (taken (option_map (λ σ. record { goals = bind_goals σ (goals_of s.stack l); variables = s.stack.env.count + k }) o) (local_of s))) (sym none)
    (moved-grown P s t new (Give Fail (local_of t)) (Give Fail (local_of s)) g frame (ap (λ x. Give Fail (local_of x)) frame) (gave P t new outcomes.Fail tt is))

-- a substitution that changes nothing leaves a list as it is
bind-kind-var : (m : Kind) → bind_kind var m ≡ m
bind-kind-var Commit = refl
bind-kind-var Never = refl
bind-kind-var Until = refl
bind-kind-var (Collect t) = ap Collect (bind-var t)
bind-kind-var (Transact d) = refl

bind-lookup-var : (u : Lookup) → bind_lookup var u ≡ u
bind-lookup-var (ToCall t) = ap ToCall (bind-var t)
bind-lookup-var (ToRetrieve h b) = ap₂ ToRetrieve (bind-var h) (bind-var b)
bind-lookup-var (ToRetract h b) = ap₂ ToRetract (bind-var h) (bind-var b)
bind-lookup-var (ToRetractAll h) = ap ToRetractAll (bind-var h)

bind-goals-var : (es : List Element) → bind_goals var es ≡ es
bind-goals-var [] = refl
bind-goals-var (Goal k t ∷ es) = ap₂ (λ u us. Goal k u ∷ us) (bind-var t) (bind-goals-var es)
bind-goals-var (Marker m l ∷ es) = ap₂ (λ k us. Marker k l ∷ us) (bind-kind-var m) (bind-goals-var es)
bind-goals-var (Raise b ∷ es) = ap (λ us. Raise b ∷ us) (bind-goals-var es)
bind-goals-var (Asking (Look u) ∷ es) = ap₂ (λ u us. Asking (Look u) ∷ us) (bind-lookup-var u) (bind-goals-var es)
bind-goals-var (Asking (Begin i g) ∷ es) = ap₂ (λ u us. Asking (Begin i u) ∷ us) (bind-var g) (bind-goals-var es)
bind-goals-var (Asking (Await q next) ∷ es) = ap (λ us. Asking (Await q next) ∷ us) (bind-goals-var es)
bind-goals-var (Asking (Erase x) ∷ es) = ap (λ us. Asking (Erase x) ∷ us) (bind-goals-var es)

-- one that is true once it has written
pub offer-writes : (bytes : List ℕ) (settings : Settings) (p : Indicator) (es : List Element) (n : ℕ) (w : Local) →
    go_on es n (record w { out = w.out ++ bytes; settings = settings }) ≡ offer (writes bytes settings) p es n w
unfolding unify unify_in differ places
offer-writes bytes settings p es n w =
    let same : n ≡ n + 0 = omega arith in
    ap₂ (λ gs k. go_on gs k (record w { out = w.out ++ bytes; settings = settings })) (sym (bind-goals-var es)) same

-- one that is true, and writes nothing
pub offer-succeeds : (settings : Settings) (p : Indicator) (es : List Element) (n : ℕ) (w : Local) → w.settings ≡ settings → go_on es n w ≡ offer (writes [] settings) p es n w
offer-succeeds settings p es n w same = ap₂ (λ o x. go_on es n (record w { out = o; settings = x })) (sym (append-nil w.out)) same ∙ offer-writes [] settings p es n w

-- one that is true, and changes the settings
pub offer-sets : (settings : Settings) (p : Indicator) (es : List Element) (n : ℕ) (w : Local) → go_on es n (record w { settings = settings }) ≡ offer (sets settings) p es n w
offer-sets settings p es n w = ap (λ o. go_on es n (record w { out = o; settings = settings })) (sym (append-nil w.out)) ∙ offer-writes [] settings p es n w

-- one that has no solution
pub offer-fails : (settings : Settings) (p : Indicator) (es : List Element) (n : ℕ) (w : Local) → w.settings ≡ settings → ◌≡◌ {A = Move} (Give Fail w) (offer (fails settings) p es n w)
offer-fails settings p es n w same = ap₂ (λ o x. Give Fail (record w { out = o; settings = x })) (sym (append-nil w.out)) same

-- one that unifies two terms with new variables
pub offer-solves : (a b : Tree) (k : ℕ) (settings : Settings) (p : Indicator) (es : List Element) (n : ℕ) (w : Local) → w.settings ≡ settings →
    taken (solved es n (record { left = a; right = b; new = k })) w ≡ offer (Gives (record { left = a; right = b; new = k } ∷ []) [] settings) p es n w
offer-solves a b k settings p es n w same =
    ap₂ (λ o s. taken (solved es n (record { left = a; right = b; new = k })) (record w { out = o; settings = s })) (sym (append-nil w.out)) same

-- and without
pub offer-unifies : (a b : Tree) (settings : Settings) (p : Indicator) (es : List Element) (n : ℕ) (w : Local) → w.settings ≡ settings →
    taken (solved es n (record { left = a; right = b; new = 0 })) w ≡ offer (unified_to a b settings) p es n w
offer-unifies a b = offer-solves a b 0

pub many-map : {A B : Type 0} (f : A → B) (xs : List A) → IsMany xs → IsMany (map f xs)
many-map f [] many = tt
many-map f (x ∷ []) many = many
many-map f (x ∷ y ∷ xs) many = tt

-- one that has several solutions, or none
pub offer-many : (ss : List Solution) → IsMany ss → (settings : Settings) (p : Indicator) (es : List Element) (n : ℕ) (w : Local) → w.settings ≡ settings →
    choose (filter_map (solved es n) ss) w ≡ offer (Gives ss [] settings) p es n w
offer-many [] many settings p es n w same = offer-fails settings p es n w same
offer-many (s ∷ []) many settings p es n w same = absurd many
offer-many (s ∷ t ∷ ss) many settings p es n w same = ap₂ (λ o x. choose (filter_map (solved es n) (s ∷ t ∷ ss)) (record w { out = o; settings = x })) (sym (append-nil w.out)) same

-- one that is true where two terms have no unifier
pub differs : (P : Program) (s new : Reached) (a b : Tree) (p : Indicator) (l : Continuation) → IsList s.stack l → unify a b ≡ None → new ≡ record s { stack = record s.stack { goals = l }; mode = modes.Visit } →
    Moved P s new (offer (decides (is_none (unify a b)) s.settings) p (goals_of s.stack l) s.stack.env.count (local_of s))
differs P s new a b p l there none is =
    subst (λ o. Moved P s new (offer (decides (is_none o) s.settings) p (goals_of s.stack l) s.stack.env.count (local_of s))) (sym none)
    (moved-as P s new _ _ (offer-succeeds s.settings p (goals_of s.stack l) s.stack.env.count (local_of s) refl)
    (went P s new s.stack l (goals_of s.stack l) (lengthened-grown s.stack s.stack (lengthened-same s.stack)) (holds-list s.stack l there) is))

pub unified : (P : Program) (s new : Reached) (t : State) (a b : Cell) (p : Indicator) (es : List Element) (n : ℕ) → Unifies s.stack t a b → new ≡ record s { stack = t; mode = modes.Back outcomes.Fail } →
    Moved P s new (offer (decides (is_none (unify (value s.stack.env.heap a) (value s.stack.env.heap b))) s.settings) p es n (local_of s))
unfolding cases_of
unified P s new t a b p es n u is =
    subst (λ o. Moved P s new (offer (decides (is_none o) s.settings) p es n (local_of s))) (sym u.is)
    (moved-as P s new _ _ (offer-fails s.settings p es n (local_of s) refl)
    (gives P s new outcomes.Fail (local_of s) (ap (λ x. x.stack.basis) is ∙ u.basis) (ap (λ x. x.layer) is) (ap (λ x. walks_in x.stack) is ∙ ap (λ fs. walks_of (reverse fs)) u.frames) (ap (λ x. x.mode) is) tt (λ v. ap (λ x. cases_in P v x) is ∙ u.cases (database_of P v s.layer.own.updates)) (ap (λ x. local_of x) is)))
