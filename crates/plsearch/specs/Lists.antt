-- Goal lists.
use Rattle.std.specs.Prelude.{ℕ, List, [], ◌∷◌, map}
use Rattle.plterm.specs.Tree.{Tree}
use Rattle.plsubst.specs.Subst.{bind}
use Rattle.plsearch.specs.Types.{Kind, Commit, Never, Until, Collect, Transact, Lookup, ToCall, ToRetrieve, ToRetract, ToRetractAll, Question, Look, Begin, Await, Erase, Element, Goal, Marker, Raise, Asking}

abbrev pub bind_lookup : (ℕ → Tree) → Lookup → Lookup
bind_lookup σ (ToCall t) = ToCall (bind σ t)
bind_lookup σ (ToRetrieve h b) = ToRetrieve (bind σ h) (bind σ b)
bind_lookup σ (ToRetract h b) = ToRetract (bind σ h) (bind σ b)
bind_lookup σ (ToRetractAll h) = ToRetractAll (bind σ h)

abbrev pub bind_question : (ℕ → Tree) → Question → Question
bind_question σ (Look u) = Look (bind_lookup σ u)
bind_question σ (Begin i g) = Begin i (bind σ g)
bind_question σ (Await q next) = Await q next
bind_question σ (Erase x) = Erase x

abbrev pub bind_kind : (ℕ → Tree) → Kind → Kind
bind_kind σ Commit = Commit
bind_kind σ Never = Never
bind_kind σ Until = Until
bind_kind σ (Collect t) = Collect (bind σ t)
bind_kind σ (Transact d) = Transact d

-- an element under a substitution
abbrev pub bind_element : (ℕ → Tree) → Element → Element
bind_element σ (Goal k t) = Goal k (bind σ t)
bind_element σ (Marker m l) = Marker (bind_kind σ m) l
bind_element σ (Raise b) = Raise b
bind_element σ (Asking q) = Asking (bind_question σ q)

abbrev pub bind_goals : (ℕ → Tree) → List Element → List Element
bind_goals σ = map (bind_element σ)

-- the levels of the markers of a list
abbrev pub levels : List Element → List ℕ
levels [] = []
levels (Goal k t ∷ es) = levels es
levels (Marker m l ∷ es) = l ∷ levels es
levels (Raise b ∷ es) = levels es
levels (Asking q ∷ es) = levels es
