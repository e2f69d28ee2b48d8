-- What is called, by the table of names.
use Rattle.std.proofs.Common.{◌≡◌, ℕ, Bool, true, false, ◌==◌, ◌&&◌, List, [], ◌∷◌, Some, refl, ap, ap₂, ◌∙◌, eqb-true, bytes_eq}
use Rattle.std.specs.Prelude.{codes, if◌then◌else◌}
use Rattle.std.specs.List.{list_all}
use Rattle.std.proofs.lemmas.Slice.Eq.{bytes_eq-Decides}
use Rattle.plterm.specs.declared.indicator.Indicator.{Indicator}
use Rattle.plnames.specs.declared.kind.Kind.{Kind}
use Rattle.plnames.specs.declared.kind.Kind.TheVariants as kinds
use Rattle.plnames.specs.declared.kind.Control.TheVariants as controls
use Rattle.plnames.specs.Names.{rows, kind_of, kind_in, Row}
use Rattle.plprogram.specs.Program.{Program}
use Rattle.platoms.specs.Names.{Table, IsTable, Extends}
use Rattle.plcode.specs.declared.callee.Callee.{Callee}
use Rattle.plcode.specs.declared.callee.Callee.TheVariants.{Control, BuiltIn, Static, Unknown}
use Rattle.plcode.specs.declared.clause.ClauseCode.{ClauseCode}
use Rattle.plcode.specs.Steps.{Text}
use Rattle.plcode.specs.Callees.{callee_at, Compiled, IsCallee, IsProgramCode}
use Rattle.plgoals.specs.Callables.{kind_by, HasKinds}

-- ---- rows

both : (a b : Bool) → (a && b) ≡ true → (a ≡ true) × (b ≡ true)
both true true e = (refl, refl)
both true false e = cc
both false b e = cc

of_row : (Q : Row → Bool) (s : List ℕ) (k : ℕ) (kind : Kind) (r : Row) (rs : List Row) → Q r ≡ true → (kind_in rs s k ≡ Some kind → Q (record { name = s; arity = k; kind = kind }) ≡ true)
    → (a b : Bool) → bytes_eq s r.name ≡ a → (k == r.arity) ≡ b → (if a && b then Some r.kind else kind_in rs s k) ≡ Some kind → Q (record { name = s; arity = k; kind = kind }) ≡ true
of_row Q s k kind r rs is next true true name arity e =
    let named : s ≡ r.name = (bytes_eq-Decides s r.name).0 name in
    let many : k ≡ r.arity = eqb-true k r.arity arity in
    let kept : kind ≡ r.kind = cc in
    ap₂ (λ n a. let x : Row = record { name = n; arity = a; kind = kind } in Q x) named many
    ∙ ap (λ x. let y : Row = record { name = r.name; arity = r.arity; kind = x } in Q y) kept
    ∙ is
of_row Q s k kind r rs is next true false name arity e = next e
of_row Q s k kind r rs is next false b name arity e = next e

-- what holds of each row holds of what is found
found_row : (Q : Row → Bool) (rs : List Row) (s : List ℕ) (k : ℕ) (kind : Kind) → list_all Q rs ≡ true → kind_in rs s k ≡ Some kind → Q (record { name = s; arity = k; kind = kind }) ≡ true
found_row Q [] s k kind all e = cc
found_row Q (r ∷ rs) s k kind all e =
    let parts = both (Q r) (list_all Q rs) all in
    of_row Q s k kind r rs parts.0 (found_row Q rs s k kind parts.1) (bytes_eq s r.name) (k == r.arity) refl refl e

-- of the kind of `->`/2 there is nothing else
abbrev is_arrow_if : Kind → Bool → Bool
is_arrow_if (kinds.Control controls.IfThen) b = b
is_arrow_if k b = true

arrow_row : (s : List ℕ) (k : ℕ) → kind_of s k ≡ Some (kinds.Control controls.IfThen) → (bytes_eq s (codes "->") && (k == 2)) ≡ true
unfolding rows
arrow_row s k e = found_row (λ r. is_arrow_if r.kind (bytes_eq r.name (codes "->") && (r.arity == 2))) rows s k (kinds.Control controls.IfThen) refl e

pub arrow_named : (s : List ℕ) (k : ℕ) → kind_of s k ≡ Some (kinds.Control controls.IfThen) → (s ≡ codes "->") × (k ≡ 2)
arrow_named s k e =
    let parts = both (bytes_eq s (codes "->")) (k == 2) (arrow_row s k e) in
    ((bytes_eq-Decides s (codes "->")).0 parts.0, eqb-true k 2 parts.1)

-- ---- callees

pub by_arrow : (k : Callee) → kind_by k ≡ Some (kinds.Control controls.IfThen) → k ≡ Control controls.IfThen
by_arrow (Control c) e = cc
by_arrow (BuiltIn b) e = cc
by_arrow (Static i) e = cc
by_arrow Unknown e = cc

by_callee : (c : Text) (kss : List (List ClauseCode)) (P : Program) (p : Indicator) (k : Callee) → IsCallee c kss P p k → kind_of p.name p.arity ≡ kind_by k
by_callee c kss P p (Control k) is = is
by_callee c kss P p (BuiltIn b) is = is
by_callee c kss P p (Static i) is = is.free
by_callee c kss P p Unknown is = is.0

-- a program's code knows the kinds of all numbers
pub code-kinds : (P : Program) (m : Compiled) (u : Table) → IsProgramCode P m → Extends m.text.names u → IsTable u → HasKinds u m.callees
code-kinds P m u is more table n p number = by_callee _ _ P p (callee_at m.callees n) (is.callees u more table n p number)
