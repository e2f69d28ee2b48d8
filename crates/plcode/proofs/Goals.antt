-- The pieces that goals come to.
use Rattle.std.proofs.Common.{◌≡◌, ◌==◌, ℕ, ◌≤◌, Bool, true, false, Option, Some, None, List, [], ◌∷◌, length, take, drop, refl, subst, ap, ◌∙◌, sym, arith, codes, if◌then◌else◌, ◌&&◌, bytes_eq, length-append, length-take}
use Rattle.std.specs.List.{list_all, flat_map}
use Rattle.std.proofs.lemmas.Bool.{eqb-true}
use Rattle.std.proofs.lemmas.List.{take-append-drop}
use Rattle.std.proofs.lemmas.List.Concat.{flat_map-append}
use Rattle.std.proofs.lemmas.Slice.Eq.{bytes_eq-Decides}
use Rattle.plterm.specs.Tree.{Tree, var, int, atom, compound, trees}
use Rattle.plterm.proofs.Forests.{list_of-trees}
use Rattle.plnames.specs.Names.{rows, kind_of, kind_in, Row}
use Rattle.plnames.specs.declared.kind.Kind.{Kind}
use Rattle.plnames.specs.declared.kind.Kind.TheVariants as kinds
use Rattle.plnames.specs.declared.kind.Control.TheVariants as controls
use Rattle.plsearch.specs.Forms.{Either, IfThenElse, form, form_by}
use Rattle.plterm.specs.Reading.{arity, read, spelling}
use Rattle.plterm.specs.declared.node.Node.{Node}
use Rattle.plterm.specs.declared.node.Node.TheVariants.{Var, Int, Atom, Compound}
use Rattle.plcode.specs.declared.body.Piece.{Piece}
use Rattle.plcode.specs.declared.body.Piece.TheVariants.{And, Or, IfThen, Single}
use Rattle.plcode.specs.Nodes.{row}
use Rattle.plcode.specs.Laying.{IsRow}
use Rattle.plcode.specs.Steps.{Text, Args}
use Rattle.plcode.specs.Bodies.{Holds, IsNoArrow, Means, Splits}
use Rattle.plcode.specs.Goals.{holder_of, piece_at, piece_for}

-- ---- forms

pub form_compound : (s : List ℕ) (us : List Tree) → form (compound s (trees us)) ≡ form_by (kind_of s (length us)) (record { name = s; arity = length us }) us
form_compound s us = ap (λ v. form_by (kind_of s (length v)) (record { name = s; arity = length v }) v) (list_of-trees us)

-- ---- the names of control constructs of two goals

abbrev holder_name : Kind → Option (List ℕ)
holder_name (kinds.Control controls.And) = Some (codes ",")
holder_name (kinds.Control controls.Or) = Some (codes ";")
holder_name (kinds.Control controls.IfThen) = Some (codes "->")
holder_name k = None

abbrev is_named_by : Option (List ℕ) → List ℕ → Bool
is_named_by None s = true
is_named_by (Some n) s = bytes_eq s n

abbrev named_so : Row → Bool
named_so row = is_named_by (holder_name row.kind) row.name

both_true : (a b : Bool) → (a && b) ≡ true → (a ≡ true) × (b ≡ true)
both_true true true e = (refl, refl)
both_true true false e = cc
both_true false b e = cc

by_row : (s : List ℕ) (k : ℕ) (kind : Kind) (n : List ℕ) (r : Row) (rs : List Row) → holder_name kind ≡ Some n → named_so r ≡ true → (kind_in rs s k ≡ Some kind → s ≡ n)
    → (a b : Bool) → bytes_eq s r.name ≡ a → (if a && b then Some r.kind else kind_in rs s k) ≡ Some kind → s ≡ n
by_row s k kind n r rs is named next true true same e =
    let e' : r.kind ≡ kind = cc in
    let m : named_so r ≡ bytes_eq r.name n = ap (λ (o : Option (List ℕ)). is_named_by o r.name) (ap holder_name e' ∙ is) in
    (bytes_eq-Decides s r.name).0 same ∙ (bytes_eq-Decides r.name n).0 (sym m ∙ named)
by_row s k kind n r rs is named next true false same e = next e
by_row s k kind n r rs is named next false b same e = next e

found_named : (rs : List Row) (s : List ℕ) (k : ℕ) (kind : Kind) (n : List ℕ) → list_all named_so rs ≡ true → holder_name kind ≡ Some n → kind_in rs s k ≡ Some kind → s ≡ n
found_named [] s k kind n all is e = cc
found_named (r ∷ rs) s k kind n all is e =
    let both = both_true (named_so r) (list_all named_so rs) all in
    by_row s k kind n r rs is both.0 (found_named rs s k kind n both.1 is) (bytes_eq s r.name) (k == r.arity) refl e

pub holder_named : (s : List ℕ) (k : ℕ) (kind : Kind) (n : List ℕ) → holder_name kind ≡ Some n → kind_of s k ≡ Some kind → s ≡ n
unfolding rows
holder_named s k kind n is e = found_named rows s k kind n refl is e

arrow_kind : kind_of (codes "->") 2 ≡ Some (kinds.Control controls.IfThen)
unfolding rows
arrow_kind = refl

-- what is no `->` is a branch of `;`
pub branch_of : (s : List ℕ) (us : List Tree) → (length us ≡ 2 → kind_of s 2 ≡ Some (kinds.Control controls.IfThen) → ⊥) → IsNoArrow (compound s (trees us))
branch_of s [] h b = refl
branch_of s (u ∷ []) h b = refl
branch_of s (u ∷ v ∷ w ∷ us) h b = refl
branch_of s (u ∷ v ∷ []) h b = go (bytes_eq s (codes "->")) refl
  where
    go : (t : Bool) → bytes_eq s (codes "->") ≡ t
        → (if t then IfThenElse u v b else Either (compound s (trees (u ∷ v ∷ []))) b) ≡ Either (compound s (trees (u ∷ v ∷ []))) b
    go true e = absurd (h refl (ap (λ (n : List ℕ). kind_of n 2) ((bytes_eq-Decides s (codes "->")).0 e) ∙ arrow_kind))
    go false e = refl

-- ---- pieces

-- two goals are held
holds_two : (s n : List ℕ) (a b : Tree) (rest : List Tree) → s ≡ n → Holds n (compound s (trees (a ∷ b ∷ []))) rest (a ∷ b ∷ rest)
holds_two s n a b rest e = record { first = a; second = b; is = ap (λ (m : List ℕ). compound m (trees (a ∷ b ∷ []))) e; next = refl }

two_kinds : (c : Text) (p : Piece) (s : List ℕ) (kind : Option Kind) (a b : Tree) (rest : List Tree) → kind_of s 2 ≡ kind → holder_of kind ≡ Some p
    → Means c p (compound s (trees (a ∷ b ∷ []))) rest (a ∷ b ∷ rest)
two_kinds c p s (Some (kinds.Control controls.And)) a b rest k h =
    let e : And ≡ p = cc in
    subst (λ q. Means c q (compound s (trees (a ∷ b ∷ []))) rest (a ∷ b ∷ rest)) e
    (holds_two s (codes ",") a b rest (holder_named s 2 (kinds.Control controls.And) (codes ",") refl k))
two_kinds c p s (Some (kinds.Control controls.Or)) a b rest k h =
    let e : Or ≡ p = cc in
    subst (λ q. Means c q (compound s (trees (a ∷ b ∷ []))) rest (a ∷ b ∷ rest)) e
    (holds_two s (codes ";") a b rest (holder_named s 2 (kinds.Control controls.Or) (codes ";") refl k))
two_kinds c p s (Some (kinds.Control controls.IfThen)) a b rest k h =
    let e : IfThen ≡ p = cc in
    subst (λ q. Means c q (compound s (trees (a ∷ b ∷ []))) rest (a ∷ b ∷ rest)) e
    (holds_two s (codes "->") a b rest (holder_named s 2 (kinds.Control controls.IfThen) (codes "->") refl k))
two_kinds c p s kind a b rest k h = absurd (cc)

-- a control construct of two goals, by its node
pub split_two : (c : Text) (p : Piece) (n : Node) (ts : List Tree) → arity n ≤ length ts → piece_at n ≡ Some p → Splits c p (read n ts) ts
split_two c p (Compound s k) ts room is = by_count (k == 2) refl is
  where
    pair : (ts : List Tree) → 2 ≤ length ts → holder_of (kind_of s 2) ≡ Some p → Splits c p (read (Compound s 2) ts) ts
    pair [] room h = absurd (omega arith)
    pair (a ∷ []) room h = absurd (omega arith)
    pair (a ∷ b ∷ rest) room h =
        record { goal = compound s (trees (a ∷ b ∷ [])); rest = rest; before = refl; means = two_kinds c p s (kind_of s 2) a b rest refl h }

    by_count : (t : Bool) → (k == 2) ≡ t → (if t then holder_of (kind_of s k) else None) ≡ Some p → Splits c p (read (Compound s k) ts) ts
    by_count true e h =
        let two : k ≡ 2 = eqb-true k 2 e in
        let P : ℕ → Type 0 = λ n. n ≤ length ts → holder_of (kind_of s n) ≡ Some p → Splits c p (read (Compound s n) ts) ts in
        subst P (sym two) (pair ts) room h
    by_count false e h = absurd (cc)
split_two c p n ts room is = absurd (cc)

-- any other goal, by the place where its own node was laid
alone : (c : Text) (at : ℕ) (g : Tree) (rest new : List Tree) → IsNoArrow g → Args c at (g ∷ []) → new ≡ rest → Splits c (Single at) (g ∷ rest) new
alone c at g rest new plain node gone = record { goal = g; rest = rest; before = refl; means = record { no_arrow = plain; node = node; next = gone } }

pub split_laid : (c : Text) (at : ℕ) (n : Node) (ts new : List Tree) → arity n ≤ length ts → None ≡ piece_at n → new ≡ drop (arity n) ts
    → IsRow c.names c.nodes at 1 (take 1 (read n ts)) → Splits c (Single at) (read n ts) new
split_laid c at (Var v) ts new room none gone laid = alone c at (var v) ts new (λ b. refl) laid gone
split_laid c at (Int i) ts new room none gone laid = alone c at (int i) ts new (λ b. refl) laid gone
split_laid c at (Atom s) ts new room none gone laid = alone c at (atom s) ts new (λ b. refl) laid gone
split_laid c at (Compound s k) ts new room none gone laid =
    let len : k ≡ length (take k ts) = omega (arith, length-take k ts) in
    let P : ℕ → Type 0 = λ n. None ≡ piece_for (kind_of s n) n in
    let plain : length (take k ts) ≡ 2 → None ≡ holder_of (kind_of s 2) = λ two. subst P (len ∙ two) none in
    alone c at (compound s (trees (take k ts))) (drop k ts) new (branch_of s (take k ts) (λ two e. let n = plain two ∙ ap holder_of e in cc)) laid gone

pub spelled_less : (k : ℕ) (ts : List Tree) → length (flat_map spelling (drop k ts)) ≤ length (flat_map spelling ts)
spelled_less k ts =
    omega (
      arith,
      ap (λ us. length (flat_map spelling us)) (take-append-drop k ts),
      ap length (flat_map-append spelling (take k ts) (drop k ts)),
      length-append (flat_map spelling (take k ts)) (flat_map spelling (drop k ts)),
    )

pub no_args : (c : Text) → Args c 0 []
unfolding row
no_args c = record { within = omega arith; terms = refl; whole = λ j le lt. absurd (omega (arith, lt)) }
