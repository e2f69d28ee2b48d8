-- What stands around a list: the cases that are open outside of it, without those that marks give up, and how its levels fit them.
use Rattle.std.proofs.Common.{◌≡◌, ℕ, suc, ◌+◌, ◌<◌, ◌≤◌, ◌⊎◌, inl, inr, Bool, true, false, if◌then◌else◌, List, [], ◌∷◌, length, refl, sym, ap, ◌∙◌, subst, arith}
use Rattle.std.specs.Prelude.{nat_le}
use Rattle.std.proofs.lemmas.Bool.Decides.{nat_tests}
use Rattle.plterm.specs.Tree.{Tree}
use Rattle.pltx.specs.Own.{State, any_open, nothing}
use Rattle.plsearch.specs.Types.{Commit, Never, Until, Collect, Transact, Question, Erase, Element, Goal, Marker, Raise, Asking, Case, Choice, Mark, Handle, Handler, Catch, Gather, Undo}
use Rattle.plsearch.specs.Lists.{bind_goals}
use Rattle.plsearch.proofs.Cuts.{at-most}
use Rattle.plsearch.specs.Engine.{deeper}
use Rattle.plsearch.specs.Rows.{asked}
use Rattle.pltransactions.specs.Laws.{IsOfClauses}

-- what a case is
pub data Sort : Type 0 where
  Choosing : Sort
  Guarding : Sort
  Undoing : Sort

pub record Entry : Type 0 where
  pub level : ℕ
  pub sort : Sort

abbrev pub entry : ℕ → Sort → Entry
entry l s = record { level = l; sort = s }

abbrev pub handler_sort : Handler → Sort
handler_sort (Catch c r) = Guarding
handler_sort (Gather l) = Guarding
handler_sort Undo = Undoing

-- those from a level outward
abbrev pub upto : ℕ → List Entry → List Entry
upto l [] = []
upto l (e ∷ Γ) = if nat_le e.level l then e ∷ Γ else upto l Γ

-- the cases that are open, the innermost first
unfoldable pub around : List Case → List Entry
around [] = []
around (Choice ps ∷ cs) = entry (deeper cs 0) Choosing ∷ around cs
around (Mark l ∷ cs) = upto l (around cs)
around (Handle h p ∷ cs) = entry (deeper cs 0) (handler_sort h) ∷ around cs

abbrev pub sort_undos : Sort → ℕ
sort_undos Choosing = 0
sort_undos Guarding = 0
sort_undos Undoing = 1

abbrev pub counted : Sort → ℕ → ℕ
counted Choosing n = n
counted Guarding n = n
counted Undoing n = suc n

pub counted-sum : (s : Sort) (n : ℕ) → counted s n ≡ sort_undos s + n
counted-sum Choosing n = omega arith
counted-sum Guarding n = omega arith
counted-sum Undoing n = omega arith

-- how many are Undoing
abbrev pub undos : List Entry → ℕ
undos [] = 0
undos (e ∷ Γ) = counted e.sort (undos Γ)

-- the levels fall from d
abbrev pub Falls : ℕ → List Entry → Type 0
Falls d [] = Unit {0}
Falls d (e ∷ Γ) = (e.level < d) × Falls e.level Γ

-- behind some entries, none of them Undoing, comes that of a sort and a level
abbrev pub Leads : List Entry → Sort → ℕ → List Entry → Type 0
Leads [] s l Δ = ⊥
Leads (e ∷ Γ) s l Δ = ((e ≡ entry l s) × (Δ ≡ Γ)) ⊎ ((sort_undos e.sort ≡ 0) × Leads Γ s l Δ)

-- a list in a context: its levels are those of choices and of handlers, from the innermost outward, and each Undoing has its marker
unfoldable pub Fits : List Entry → List Element → Type 0
Fits Γ [] = undos Γ ≡ 0
Fits Γ (Goal k t ∷ es) = (Δ : List Entry) × Leads Γ Choosing k Δ × Fits (entry k Choosing ∷ Δ) es
Fits Γ (Marker Commit l ∷ es) = (Δ : List Entry) × Leads Γ Choosing l Δ × Fits (entry l Choosing ∷ Δ) es
Fits Γ (Marker Never l ∷ es) = (Δ : List Entry) × Leads Γ Choosing l Δ × Fits (entry l Choosing ∷ Δ) es
Fits Γ (Marker Until l ∷ es) = (Δ : List Entry) × Leads Γ Guarding l Δ × Fits Δ es
Fits Γ (Marker (Collect t) l ∷ es) = (Δ : List Entry) × Leads Γ Guarding l Δ × Fits Δ es
Fits Γ (Marker (Transact d) l ∷ es) = (Δ : List Entry) × Leads Γ Undoing l (entry d Choosing ∷ Δ) × Fits (entry d Choosing ∷ Δ) es
Fits Γ (Raise b ∷ es) = Fits Γ es
Fits Γ (Asking (Erase x) ∷ es) = Fits Γ es
Fits Γ (Asking q ∷ es) = ⊥

-- it asks for no clauses
abbrev pub AsksNoClauses : Question → Type 0
AsksNoClauses q = IsOfClauses (asked q) → ⊥

-- what a machine is at may ask besides, where nothing is open
unfoldable pub FitsFirst : List Entry → State → List Element → Type 0
unfolding Fits
FitsFirst Γ x (Asking (Erase y) ∷ es) = Fits Γ es
FitsFirst Γ x (Asking q ∷ es) = ((any_open x ≡ false) ⊎ AsksNoClauses q) × Fits Γ es
FitsFirst Γ x es = Fits Γ es

-- so many are open, and where none is, there is nothing
pub record Stands (x : State) (n : ℕ) : Type 0 where
  pub count : length x.levels ≡ n
  pub none : n ≡ 0 → x ≡ nothing

-- levels
le-false : (a b : ℕ) → b < a → nat_le a b ≡ false
le-false a b h = grind (arith, nat_tests)

pub either-le : (a b : ℕ) → (a ≤ b) ⊎ (b < a)
either-le a b = go (nat_le a b) refl
  where
    go : (c : Bool) → nat_le a b ≡ c → (a ≤ b) ⊎ (b < a)
    go true is = inl (grind (arith, nat_tests))
    go false is = inr (grind (arith, nat_tests))

pub upto-here : (l : ℕ) (e : Entry) (Γ : List Entry) → e.level ≤ l → upto l (e ∷ Γ) ≡ e ∷ Γ
upto-here l e Γ le = rw (at-most e.level l le) refl

pub upto-past : (l : ℕ) (e : Entry) (Γ : List Entry) → l < e.level → upto l (e ∷ Γ) ≡ upto l Γ
upto-past l e Γ lt = rw (le-false e.level l lt) refl

falls-more : (d d' : ℕ) → d ≤ d' → (Γ : List Entry) → Falls d Γ → Falls d' Γ
falls-more d d' le [] h = tt
falls-more d d' le (e ∷ Γ) h = (omega (arith, h.0), h.1)

-- what holds of both, holds of those from a level outward
pub by-level : (l : ℕ) (e : Entry) (Γ : List Entry) (Q : List Entry → Type 0) → (e.level ≤ l → Q (e ∷ Γ)) → (l < e.level → Q (upto l Γ)) → Q (upto l (e ∷ Γ))
by-level l e Γ Q here past = go (either-le e.level l)
  where
    go : ((e.level ≤ l) ⊎ (l < e.level)) → Q (upto l (e ∷ Γ))
    go (inl le) = subst Q (sym (upto-here l e Γ le)) (here le)
    go (inr lt) = subst Q (sym (upto-past l e Γ lt)) (past lt)

pub upto-falls : (d l : ℕ) (Γ : List Entry) → Falls d Γ → Falls d (upto l Γ)
upto-falls d l [] h = tt
upto-falls d l (e ∷ Γ) h = by-level l e Γ (Falls d) (λ le. h) (λ lt. falls-more e.level d (omega (arith, h.0)) (upto l Γ) (upto-falls e.level l Γ h.1))

pub around-falls : (cs : List Case) → Falls (deeper cs 0) (around cs)
unfolding around
around-falls [] = tt
around-falls (Choice ps ∷ cs) = (omega arith, around-falls cs)
around-falls (Mark l ∷ cs) = falls-more (deeper cs 0) (suc (deeper cs 0)) (omega arith) (upto l (around cs)) (upto-falls (deeper cs 0) l (around cs) (around-falls cs))
around-falls (Handle h p ∷ cs) = (omega arith, around-falls cs)

-- all levels stay
pub upto-all : (d l : ℕ) (Γ : List Entry) → Falls d Γ → d ≤ suc l → upto l Γ ≡ Γ
upto-all d l [] h le = refl
upto-all d l (e ∷ Γ) h le = upto-here l e Γ (omega (arith, h.0))

pub upto-below : (d l : ℕ) (Γ : List Entry) (e : Entry) (Δ : List Entry) → Falls d Γ → upto l Γ ≡ e ∷ Δ → e.level < d
upto-below d l Γ e Δ h is = (subst (Falls d) is (upto-falls d l Γ h)).0

-- from one level outward, and from a lower or a higher one there
pub upto-lower : (d l b : ℕ) (Γ : List Entry) → Falls d Γ → b ≤ l → upto b (upto l Γ) ≡ upto b Γ
upto-lower d l b [] h le = refl
upto-lower d l b (e ∷ Γ) h le =
    by-level l e Γ (λ Σ. upto b Σ ≡ upto b (e ∷ Γ)) (λ here. refl) (λ past. upto-lower e.level l b Γ h.1 le ∙ sym (upto-past b e Γ (omega arith)))

pub upto-higher : (d l b : ℕ) (Γ : List Entry) → Falls d Γ → l ≤ b → upto b (upto l Γ) ≡ upto l Γ
upto-higher d l b [] h le = refl
upto-higher d l b (e ∷ Γ) h le = by-level l e Γ (λ Σ. upto b Σ ≡ Σ) (λ here. upto-here b e Γ (omega arith)) (λ past. upto-higher e.level l b Γ h.1 le)

-- an entry that stands behind another level
pub upto-twice : (d l b : ℕ) (Γ : List Entry) (s : Sort) (Δ : List Entry) → Falls d Γ → upto l (upto b Γ) ≡ entry l s ∷ Δ → upto l Γ ≡ entry l s ∷ Δ
upto-twice d l b Γ s Δ h is = go (either-le l b)
  where
    go : ((l ≤ b) ⊎ (b < l)) → upto l Γ ≡ entry l s ∷ Δ
    go (inl le) = sym (upto-lower d b l Γ h le) ∙ is
    go (inr lt) = absurd (never (upto-first d b Γ h (entry l s) Δ (sym (upto-higher d b l Γ h (omega arith)) ∙ is)))
      where
        never : l ≤ b → ⊥
        never le = omega arith

        upto-first : (d b : ℕ) (Γ : List Entry) → Falls d Γ → (e : Entry) (Δ : List Entry) → upto b Γ ≡ e ∷ Δ → e.level ≤ b
        upto-first d b [] h e Δ is = absurd (none is)
          where
            none : ◌≡◌ {A = List Entry} [] (e ∷ Δ) → ⊥
            none is = cc
        upto-first d b (x ∷ Γ) h e Δ is =
            by-level b x Γ (λ Σ. Σ ≡ e ∷ Δ → e.level ≤ b) (λ le is. head x Γ is le) (λ lt is. upto-first x.level b Γ h.1 e Δ is) is
          where
            head : (x : Entry) (Γ : List Entry) → x ∷ Γ ≡ e ∷ Δ → x.level ≤ b → e.level ≤ b
            head x Γ is le = let same : x ≡ e = cc in subst (λ y. y.level ≤ b) same le

-- what is led to
pub leads-undos : (Γ : List Entry) (s : Sort) (l : ℕ) (Δ : List Entry) → Leads Γ s l Δ → undos Γ ≡ counted s (undos Δ)
leads-undos [] s l Δ h = absurd h
leads-undos (e ∷ Γ) s l Δ (inl h) = ap (λ x. counted x.sort (undos Γ)) h.0 ∙ ap (λ Σ. counted s (undos Σ)) (sym h.1)
leads-undos (e ∷ Γ) s l Δ (inr h) = let others = leads-undos Γ s l Δ h.1 in omega (arith, h.0, others, counted-sum e.sort (undos Γ))

pub leads-falls : (d : ℕ) (Γ : List Entry) (s : Sort) (l : ℕ) (Δ : List Entry) → Falls d Γ → Leads Γ s l Δ → (l < d) × Falls l Δ
leads-falls d [] s l Δ f h = absurd h
leads-falls d (e ∷ Γ) s l Δ f (inl h) =
    let same : e.level ≡ l = ap (λ x. x.level) h.0 in (omega (arith, same, f.0), subst (λ Σ. Falls l Σ) (sym h.1) (subst (λ k. Falls k Γ) same f.1))
leads-falls d (e ∷ Γ) s l Δ f (inr h) = let more = leads-falls e.level Γ s l Δ f.1 h.1 in (omega (arith, more.0, f.0), more.1)

pub upto-leads : (d : ℕ) (Γ : List Entry) (s : Sort) (l : ℕ) (Δ : List Entry) → Falls d Γ → Leads Γ s l Δ → upto l Γ ≡ entry l s ∷ Δ
upto-leads d [] s l Δ f h = absurd h
upto-leads d (e ∷ Γ) s l Δ f (inl h) =
    let same : e.level ≡ l = ap (λ x. x.level) h.0 in upto-here l e Γ (omega (arith, same)) ∙ ap (λ x. x ∷ Γ) h.0 ∙ ap (λ Σ. entry l s ∷ Σ) (sym h.1)
upto-leads d (e ∷ Γ) s l Δ f (inr h) =
    let low = leads-falls e.level Γ s l Δ f.1 h.1 in upto-past l e Γ low.0 ∙ upto-leads e.level Γ s l Δ f.1 h.1

pub upto-behind : (d : ℕ) (Γ : List Entry) (s : Sort) (l : ℕ) (x : Entry) (Δ : List Entry) → Falls d Γ → Leads Γ s l (x ∷ Δ) → upto x.level Γ ≡ x ∷ Δ
upto-behind d [] s l x Δ f h = absurd h
upto-behind d (e ∷ Γ) s l x Δ f (inl h) =
    let low = (subst (Falls e.level) (sym h.1) f.1).0 in
    upto-past x.level e Γ low ∙ ap (upto x.level) (sym h.1) ∙ upto-here x.level x Δ (omega arith)
upto-behind d (e ∷ Γ) s l x Δ f (inr h) =
    let low = leads-falls e.level Γ s l (x ∷ Δ) f.1 h.1 in
    upto-past x.level e Γ (omega (arith, low.0, low.1.0)) ∙ upto-behind e.level Γ s l x Δ f.1 h.1

-- a list fits where more is open, if that is no Undoing
pub fits-more : (e : Entry) (Γ : List Entry) (es : List Element) → sort_undos e.sort ≡ 0 → Fits Γ es → Fits (e ∷ Γ) es
unfolding Fits
fits-more e Γ [] is h = omega (arith, is, h, counted-sum e.sort (undos Γ))
fits-more e Γ (Goal k t ∷ es) is h = (h.0, inr (is, h.1), h.2)
fits-more e Γ (Marker Commit l ∷ es) is h = (h.0, inr (is, h.1), h.2)
fits-more e Γ (Marker Never l ∷ es) is h = (h.0, inr (is, h.1), h.2)
fits-more e Γ (Marker Until l ∷ es) is h = (h.0, inr (is, h.1), h.2)
fits-more e Γ (Marker (Collect t) l ∷ es) is h = (h.0, inr (is, h.1), h.2)
fits-more e Γ (Marker (Transact d) l ∷ es) is h = (h.0, inr (is, h.1), h.2)
fits-more e Γ (Raise b ∷ es) is h = fits-more e Γ es is h
fits-more e Γ (Asking (Erase x) ∷ es) is h = fits-more e Γ es is h
fits-more e Γ (Asking q ∷ es) is h = absurd h

pub leads-fits : (Γ : List Entry) (s : Sort) (l : ℕ) (Δ : List Entry) (es : List Element) → sort_undos s ≡ 0 → Leads Γ s l Δ → Fits (entry l s ∷ Δ) es → Fits Γ es
leads-fits [] s l Δ es is h fit = absurd h
leads-fits (e ∷ Γ) s l Δ es is (inl h) fit = subst (λ Σ. Fits Σ es) (ap (λ Σ. entry l s ∷ Σ) h.1 ∙ ap (λ x. x ∷ Γ) (sym h.0)) fit
leads-fits (e ∷ Γ) s l Δ es is (inr h) fit = fits-more e Γ es h.0 (leads-fits Γ s l Δ es is h.1 fit)

pub fits-bound : (σ : ℕ → Tree) (Γ : List Entry) (es : List Element) → Fits Γ es → Fits Γ (bind_goals σ es)
unfolding Fits
fits-bound σ Γ [] h = h
fits-bound σ Γ (Goal k t ∷ es) h = (h.0, h.1, fits-bound σ (entry k Choosing ∷ h.0) es h.2)
fits-bound σ Γ (Marker Commit l ∷ es) h = (h.0, h.1, fits-bound σ (entry l Choosing ∷ h.0) es h.2)
fits-bound σ Γ (Marker Never l ∷ es) h = (h.0, h.1, fits-bound σ (entry l Choosing ∷ h.0) es h.2)
fits-bound σ Γ (Marker Until l ∷ es) h = (h.0, h.1, fits-bound σ h.0 es h.2)
fits-bound σ Γ (Marker (Collect t) l ∷ es) h = (h.0, h.1, fits-bound σ h.0 es h.2)
fits-bound σ Γ (Marker (Transact d) l ∷ es) h = (h.0, h.1, fits-bound σ (entry d Choosing ∷ h.0) es h.2)
fits-bound σ Γ (Raise b ∷ es) h = fits-bound σ Γ es h
fits-bound σ Γ (Asking (Erase x) ∷ es) h = fits-bound σ Γ es h
fits-bound σ Γ (Asking q ∷ es) h = absurd h

pub fits-first : (Γ : List Entry) (x : State) (es : List Element) → Fits Γ es → FitsFirst Γ x es
unfolding Fits FitsFirst
fits-first Γ x (Asking (Erase y) ∷ es) h = h
fits-first Γ x (Asking q ∷ es) h = absurd h
fits-first Γ x es h = h
