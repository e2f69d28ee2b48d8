-- Balls: the levels behind a ball name each Undo that is open, and no handler that a mark gave up.
use Rattle.std.proofs.Common.{◌≡◌, ℕ, suc, ◌<◌, ◌≤◌, ◌⊎◌, inl, inr, Bool, true, false, ◌||◌, if◌then◌else◌, List, [], ◌∷◌, refl, sym, ap, ◌∙◌, subst, arith, nat_eq}
use Rattle.std.proofs.lemmas.Bool.Decides.{nat_tests}
use Rattle.plsearch.specs.Types.{Commit, Never, Until, Collect, Transact, Erase, Element, Goal, Marker, Raise, Asking, Case, Choice, Mark, Handle, Handler, Catch, Gather, Undo}
use Rattle.plsearch.specs.Lists.{levels}
use Rattle.plsearch.specs.Handlers.{has}
use Rattle.plsearch.specs.Engine.{deeper}
use Rattle.pltransactions.proofs.Contexts.{Sort, Choosing, Guarding, Undoing, Entry, entry, handler_sort, upto, around, sort_undos, counted, counted-sum, undos, Falls, Leads, Fits, by-level, either-le, upto-falls, around-falls, upto-all, upto-lower, upto-higher}

-- one more, if it undoes and is named
abbrev pub named_with : Handler → Bool → ℕ → ℕ
named_with (Catch c r) b n = n
named_with (Gather l) b n = n
named_with Undo b n = if b then suc n else n

-- how many cases Undo are named
unfoldable pub named : List Case → List ℕ → ℕ
named [] ls = 0
named (Choice ps ∷ cs) ls = named cs ls
named (Mark l ∷ cs) ls = named cs ls
named (Handle h p ∷ cs) ls = named_with h (has (deeper cs 0) ls) (named cs ls)

-- outside of each handler that is named, those cases Undo are named that are open there
unfoldable pub HandlersFit : List Case → List ℕ → Type 0
HandlersFit [] ls = Unit {0}
HandlersFit (Choice ps ∷ cs) ls = HandlersFit cs ls
HandlersFit (Mark l ∷ cs) ls = HandlersFit cs ls
HandlersFit (Handle h p ∷ cs) ls = (has (deeper cs 0) ls ≡ true → named cs ls ≡ undos (around cs)) × HandlersFit cs ls

-- each Undoing is named
abbrev AllNamed : List Entry → List ℕ → Type 0
AllNamed [] ls = Unit {0}
AllNamed (e ∷ Γ) ls = (sort_undos e.sort ≡ 1 → has e.level ls ≡ true) × AllNamed Γ ls

abbrev IsAmong : ℕ → List Entry → Type 0
IsAmong l [] = ⊥
IsAmong l (e ∷ Γ) = (l ≡ e.level) ⊎ IsAmong l Γ

has-first : (l : ℕ) (ls : List ℕ) → has l (l ∷ ls) ≡ true
has-first l ls = ap (λ b. b || has l ls) (same l)
  where
    same : (l : ℕ) → nat_eq l l ≡ true
    same l = grind (arith, nat_tests)

has-more : (l k : ℕ) (ls : List ℕ) → has l ls ≡ true → has l (k ∷ ls) ≡ true
has-more l k ls h = right (nat_eq k l) (has l ls) h
  where
    right : (a b : Bool) → b ≡ true → (a || b) ≡ true
    right true b h = refl
    right false b h = h

has-either : (l k : ℕ) (ls : List ℕ) → has l (k ∷ ls) ≡ true → (l ≡ k) ⊎ (has l ls ≡ true)
has-either l k ls h = go (nat_eq k l) refl h
  where
    go : (b : Bool) → nat_eq k l ≡ b → (b || has l ls) ≡ true → (l ≡ k) ⊎ (has l ls ≡ true)
    go true is h = inl (grind (arith, nat_tests))
    go false is h = inr h

named-more : (Γ : List Entry) (k : ℕ) (ls : List ℕ) → AllNamed Γ ls → AllNamed Γ (k ∷ ls)
named-more [] k ls h = tt
named-more (e ∷ Γ) k ls h = (λ is. has-more e.level k ls (h.0 is), named-more Γ k ls h.1)

none-named : (Γ : List Entry) (ls : List ℕ) → undos Γ ≡ 0 → AllNamed Γ ls
none-named [] ls h = tt
none-named (e ∷ Γ) ls h = (λ is. absurd (never is), none-named Γ ls (omega (arith, h, counted-sum e.sort (undos Γ))))
  where
    never : sort_undos e.sort ≡ 1 → ⊥
    never is = omega (arith, is, h, counted-sum e.sort (undos Γ))

-- what is led to is named, and so all is
leads-named : (Γ : List Entry) (s : Sort) (l : ℕ) (Δ : List Entry) (ls : List ℕ) → Leads Γ s l Δ → AllNamed (entry l s ∷ Δ) ls → AllNamed Γ ls
leads-named [] s l Δ ls h all = absurd h
leads-named (e ∷ Γ) s l Δ ls (inl h) all = subst (λ Σ. AllNamed Σ ls) (ap (λ Σ. entry l s ∷ Σ) h.1 ∙ ap (λ x. x ∷ Γ) (sym h.0)) all
leads-named (e ∷ Γ) s l Δ ls (inr h) all = (λ is. absurd (never is), leads-named Γ s l Δ ls h.1 all)
  where
    never : sort_undos e.sort ≡ 1 → ⊥
    never is = omega (arith, is, h.0)

leads-among : (Γ : List Entry) (s : Sort) (l : ℕ) (Δ : List Entry) (k : ℕ) → Leads Γ s l Δ → IsAmong k (entry l s ∷ Δ) → IsAmong k Γ
leads-among [] s l Δ k h all = absurd h
leads-among (e ∷ Γ) s l Δ k (inl h) all = subst (IsAmong k) (ap (λ Σ. entry l s ∷ Σ) h.1 ∙ ap (λ x. x ∷ Γ) (sym h.0)) all
leads-among (e ∷ Γ) s l Δ k (inr h) all = inr (leads-among Γ s l Δ k h.1 all)

-- levels of a context
record Names (Γ : List Entry) (ls : List ℕ) : Type 0 where
  undoing : AllNamed Γ ls
  among : (l : ℕ) → has l ls ≡ true → IsAmong l Γ

-- behind a marker
names-behind : (Γ : List Entry) (s : Sort) (l : ℕ) (Δ : List Entry) (ls : List ℕ) → Leads Γ s l Δ → Names (entry l s ∷ Δ) ls → Names Γ ls
names-behind Γ s l Δ ls h names = record {
  undoing = leads-named Γ s l Δ ls h names.undoing;
  among = λ k is. leads-among Γ s l Δ k h (names.among k is);
}

names-marker : (Γ : List Entry) (s : Sort) (l : ℕ) (Δ : List Entry) (ls : List ℕ) → Leads Γ s l Δ →
    AllNamed Δ ls → ((k : ℕ) → has k ls ≡ true → IsAmong k (entry l s ∷ Δ)) → Names Γ (l ∷ ls)
names-marker Γ s l Δ ls h all among = names-behind Γ s l Δ (l ∷ ls) h (record {
  undoing = (λ is. has-first l ls, named-more Δ l ls all);
  among = λ k is. go k (has-either k l ls is);
})
  where
    go : (k : ℕ) → ((k ≡ l) ⊎ (has k ls ≡ true)) → IsAmong k (entry l s ∷ Δ)
    go k (inl same) = inl same
    go k (inr is) = among k is

fits-names : (Γ : List Entry) (es : List Element) → Fits Γ es → Names Γ (levels es)
unfolding Fits
fits-names Γ [] h = record { undoing = none-named Γ [] h; among = λ l is. absurd (never is) }
  where
    never : false ≡ true → ⊥
    never is = cc
fits-names Γ (Goal k t ∷ es) h = names-behind Γ Choosing k h.0 (levels es) h.1 (fits-names (entry k Choosing ∷ h.0) es h.2)
fits-names Γ (Marker Commit l ∷ es) h = let more = fits-names (entry l Choosing ∷ h.0) es h.2 in names-marker Γ Choosing l h.0 (levels es) h.1 more.undoing.1 more.among
fits-names Γ (Marker Never l ∷ es) h = let more = fits-names (entry l Choosing ∷ h.0) es h.2 in names-marker Γ Choosing l h.0 (levels es) h.1 more.undoing.1 more.among
fits-names Γ (Marker Until l ∷ es) h = let more = fits-names h.0 es h.2 in names-marker Γ Guarding l h.0 (levels es) h.1 more.undoing (λ k is. inr (more.among k is))
fits-names Γ (Marker (Collect t) l ∷ es) h = let more = fits-names h.0 es h.2 in names-marker Γ Guarding l h.0 (levels es) h.1 more.undoing (λ k is. inr (more.among k is))
fits-names Γ (Marker (Transact d) l ∷ es) h =
    let more = fits-names (entry d Choosing ∷ h.0) es h.2 in names-marker Γ Undoing l (entry d Choosing ∷ h.0) (levels es) h.1 more.undoing (λ k is. inr (more.among k is))
fits-names Γ (Raise b ∷ es) h = fits-names Γ es h
fits-names Γ (Asking (Erase x) ∷ es) h = fits-names Γ es h
fits-names Γ (Asking q ∷ es) h = absurd h

among-below : (d : ℕ) (Γ : List Entry) (l : ℕ) → Falls d Γ → IsAmong l Γ → l < d
among-below d [] l f h = absurd h
among-below d (e ∷ Γ) l f (inl same) = omega (arith, same, f.0)
among-below d (e ∷ Γ) l f (inr h) = let low = among-below e.level Γ l f.1 h in omega (arith, low, f.0)

-- what is named in some cases, of which those from a level outward are open
record Counts (cs : List Case) (ls : List ℕ) (Γ : List Entry) : Type 0 where
  count : named cs ls ≡ undos Γ
  each : HandlersFit cs ls

Inside : ℕ → List Entry → List ℕ → Type 0
Inside d Γ ls = (l : ℕ) → has l ls ≡ true → l < d → IsAmong l Γ

inside-less : (d : ℕ) (s : Sort) (Γ : List Entry) (ls : List ℕ) → Inside (suc d) (entry d s ∷ Γ) ls → Inside d Γ ls
unfolding Inside
inside-less d s Γ ls inside = λ l is lt. go l lt (inside l is (omega arith))
  where
    go : (l : ℕ) → l < d → IsAmong l (entry d s ∷ Γ) → IsAmong l Γ
    go l lt (inl same) = absurd (never same)
      where
        never : l ≡ d → ⊥
        never same = omega (arith, same, lt)
    go l lt (inr h) = h

inside-same : (d : ℕ) (Γ : List Entry) (ls : List ℕ) → Inside (suc d) Γ ls → Inside d Γ ls
unfolding Inside
inside-same d Γ ls inside = λ l is lt. inside l is (omega arith)

named-none : (h : Handler) (b : Bool) (n : ℕ) → (b ≡ true → ⊥) → named_with h b n ≡ n
named-none (Catch c r) b n no-one = refl
named-none (Gather l) b n no-one = refl
named-none Undo true n no-one = absurd (no-one refl)
named-none Undo false n no-one = refl

named-shown : (h : Handler) (b : Bool) (n : ℕ) → (sort_undos (handler_sort h) ≡ 1 → b ≡ true) → named_with h b n ≡ counted (handler_sort h) n
named-shown (Catch c r) b n is = refl
named-shown (Gather l) b n is = refl
named-shown Undo b n is = rw (is refl) refl

-- where they are all open
whole : (cs : List Case) (b : ℕ) (ls : List ℕ) → deeper cs 0 ≤ b → AllNamed (around cs) ls → Inside (deeper cs 0) (around cs) ls →
    (AllNamed (upto b (around cs)) ls → Inside (deeper cs 0) (upto b (around cs)) ls → Counts cs ls (upto b (around cs))) → Counts cs ls (around cs)
whole cs b ls le all inside counts =
    let same : upto b (around cs) ≡ around cs = upto-all (deeper cs 0) b (around cs) (around-falls cs) (omega arith) in
    subst (λ Σ. Counts cs ls Σ) same (counts (subst (λ Σ. AllNamed Σ ls) (sym same) all) (subst (λ Σ. Inside (deeper cs 0) Σ ls) (sym same) inside))

-- a handler that a mark gave up is not named
hides : (cs : List Case) (b : ℕ) (ls : List ℕ) → Inside (suc (deeper cs 0)) (upto b (around cs)) ls → has (deeper cs 0) ls ≡ true → ⊥
unfolding Inside
hides cs b ls inside is =
    let low = among-below (deeper cs 0) (upto b (around cs)) (deeper cs 0) (upto-falls (deeper cs 0) b (around cs) (around-falls cs)) (inside (deeper cs 0) is (omega arith)) in omega (arith, low)

counts : (cs : List Case) (b : ℕ) (ls : List ℕ) → AllNamed (upto b (around cs)) ls → Inside (deeper cs 0) (upto b (around cs)) ls → Counts cs ls (upto b (around cs))
unfolding around named HandlersFit
counts [] b ls all inside = record { count = refl; each = tt }
counts (Choice ps ∷ cs) b ls all inside =
    let d = deeper cs 0 in
    by-level b (entry d Choosing) (around cs) (λ Σ. AllNamed Σ ls → Inside (suc d) Σ ls → Counts (Choice ps ∷ cs) ls Σ)
    (λ le all inside. let one = whole cs b ls le all.1 (inside-less d Choosing (around cs) ls inside) (counts cs b ls) in record { count = one.count; each = one.each })
    (λ lt all inside. let one = counts cs b ls all (inside-same d (upto b (around cs)) ls inside) in record { count = one.count; each = one.each })
    all inside
counts (Mark l ∷ cs) b ls all inside = go (either-le b l) (counts cs b ls) (counts cs l ls)
  where
    at : (c : ℕ) → upto b (upto l (around cs)) ≡ upto c (around cs) →
        (AllNamed (upto c (around cs)) ls → Inside (deeper cs 0) (upto c (around cs)) ls → Counts cs ls (upto c (around cs))) → Counts (Mark l ∷ cs) ls (upto b (upto l (around cs)))
    at c same counts =
        let one = counts (subst (λ Σ. AllNamed Σ ls) same all) (inside-same (deeper cs 0) (upto c (around cs)) ls (subst (λ Σ. Inside (suc (deeper cs 0)) Σ ls) same inside)) in
        record { count = one.count ∙ ap undos (sym same); each = one.each }

    go : ((b ≤ l) ⊎ (l < b)) → (AllNamed (upto b (around cs)) ls → Inside (deeper cs 0) (upto b (around cs)) ls → Counts cs ls (upto b (around cs))) →
        (AllNamed (upto l (around cs)) ls → Inside (deeper cs 0) (upto l (around cs)) ls → Counts cs ls (upto l (around cs))) → Counts (Mark l ∷ cs) ls (upto b (upto l (around cs)))
    go (inl le) lower higher = at b (upto-lower (deeper cs 0) l b (around cs) (around-falls cs) le) lower
    go (inr lt) lower higher = at l (upto-higher (deeper cs 0) l b (around cs) (around-falls cs) (omega arith)) higher
counts (Handle h p ∷ cs) b ls all inside =
    let d = deeper cs 0 in
    by-level b (entry d (handler_sort h)) (around cs) (λ Σ. AllNamed Σ ls → Inside (suc d) Σ ls → Counts (Handle h p ∷ cs) ls Σ)
    (λ le all inside.
    let one = whole cs b ls le all.1 (inside-less d (handler_sort h) (around cs) ls inside) (counts cs b ls) in
    record { count = named-shown h (has d ls) (named cs ls) all.0 ∙ ap (counted (handler_sort h)) one.count; each = (λ is. one.count, one.each) })
    (λ lt all inside.
    let one = counts cs b ls all (inside-same d (upto b (around cs)) ls inside) in
    let hidden = hides cs b ls inside in
    record { count = named-none h (has d ls) (named cs ls) hidden ∙ one.count; each = (λ is. absurd (hidden is), one.each) })
    all inside

-- a ball in some cases, where so much is open
pub record BallFits (cs : List Case) (ls : List ℕ) (n : ℕ) : Type 0 where
  pub count : n ≡ named cs ls
  pub each : HandlersFit cs ls

pub thrown-fits : (cs : List Case) (es : List Element) → Fits (around cs) es → BallFits cs (levels es) (undos (around cs))
unfolding Inside
thrown-fits cs es fit =
    let names = fits-names (around cs) es fit in
    let one = whole cs (deeper cs 0) (levels es) (omega arith) names.undoing (λ l is lt. names.among l is) (counts cs (deeper cs 0) (levels es)) in
    record { count = sym one.count; each = one.each }
