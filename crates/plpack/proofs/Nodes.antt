-- Nodes at the front of bytes.
use Rattle.std.proofs.Common.{◌≡◌, ◌≢◌, ℕ, ◌^◌, ◌<◌, ◌≤◌, List, ◌∷◌, ◌++◌, length, get_or, sym, ap, ◌∙◌, append_assoc, arith}
use Rattle.std.specs.Int.{w16, w64, to_be_bytes, cast_signed, cast_unsigned}
use Rattle.std.proofs.lemmas.Int.{to_z-of_z}
use Rattle.std.proofs.Math.Facts.{Fits-of_z}
use Rattle.plterm.specs.declared.node.Node.{Node}
use Rattle.plterm.specs.declared.node.Node.TheVariants.{Var, Int, Atom, Compound}
use Rattle.plterm.specs.Reading.{Fits}
use Rattle.plpack.specs.Packing.{item, name_item}
use Rattle.plpack.specs.Items.{IsNumberAt, IsLong, IsItemAt, NoItem, NoName}
use Rattle.plpack.proofs.Widths.{wide16, wide64, same_number}
use Rattle.plpack.proofs.Names.{same_name}

-- ---- no node stands at the front

pub no_tag : (bytes : List ℕ) → length bytes < 1 → NoItem bytes
unfolding NoItem
no_tag bytes short (Var v) rest h = omega (arith, ap length h.parts)
no_tag bytes short (Int i) rest h = omega (arith, ap length h.parts)
no_tag bytes short (Atom s) rest h = omega (arith, ap length h.parts)
no_tag bytes short (Compound s a) rest h = omega (arith, ap length h.parts)

-- the first byte is no tag
abbrev IsOther : List ℕ → Type 0
IsOther bytes = (get_or bytes 0 0 ≢ 0) × (get_or bytes 0 0 ≢ 1) × (get_or bytes 0 0 ≢ 2) × (get_or bytes 0 0 ≢ 3)

pub other_tag : (bytes : List ℕ) → IsOther bytes → NoItem bytes
unfolding NoItem
other_tag bytes other (Var v) rest h = other.0 (ap (λ (x : List ℕ). get_or x 0 0) h.parts)
other_tag bytes other (Int i) rest h = other.1 (ap (λ (x : List ℕ). get_or x 0 0) h.parts)
other_tag bytes other (Atom s) rest h = other.2 (ap (λ (x : List ℕ). get_or x 0 0) h.parts)
other_tag bytes other (Compound s a) rest h = other.3 (ap (λ (x : List ℕ). get_or x 0 0) h.parts)

pub no_variable : (bytes : List ℕ) → length bytes < 8 → NoItem (0 ∷ bytes)
unfolding NoItem
no_variable bytes short (Var v) rest h = omega (arith, ap length h.parts)
no_variable bytes short (Int i) rest h = absurd cc
no_variable bytes short (Atom s) rest h = absurd cc
no_variable bytes short (Compound s a) rest h = absurd cc

pub no_integer : (bytes : List ℕ) → length bytes < 8 → NoItem (1 ∷ bytes)
unfolding NoItem
no_integer bytes short (Var v) rest h = absurd cc
no_integer bytes short (Int i) rest h = omega (arith, ap length h.parts)
no_integer bytes short (Atom s) rest h = absurd cc
no_integer bytes short (Compound s a) rest h = absurd cc

pub no_atom : (bytes : List ℕ) → NoName bytes → NoItem (2 ∷ bytes)
unfolding NoItem NoName
no_atom bytes none (Var v) rest h = absurd cc
no_atom bytes none (Int i) rest h = absurd cc
no_atom bytes none (Atom s) rest h = none s rest (record { name = h.fits; parts = cc })
no_atom bytes none (Compound s a) rest h = absurd cc

pub no_arity : (bytes : List ℕ) → length bytes < 2 → NoItem (3 ∷ bytes)
unfolding NoItem
no_arity bytes short (Var v) rest h = absurd cc
no_arity bytes short (Int i) rest h = absurd cc
no_arity bytes short (Atom s) rest h = absurd cc
no_arity bytes short (Compound s a) rest h = omega (arith, ap length h.parts)

-- behind the arity at the front stands the name
module _ (arity : ℕ) (bytes behind : List ℕ) (at : IsNumberAt w16 bytes arity behind) where
  arity_of_node : (s rest : List ℕ) (a : ℕ) → IsItemAt (3 ∷ bytes) (Compound s a) rest → (arity ≡ a) × (behind ≡ name_item s ++ rest)
  arity_of_node s rest a h =
      let parts : bytes ≡ (to_be_bytes w16 a ++ name_item s) ++ rest = cc in
      same_number w16 (2 ^ 16) wide16 arity a behind (name_item s ++ rest) (omega (arith, at.fits)) (omega (arith, h.fits.2)) (sym at.parts ∙ parts ∙ append_assoc (to_be_bytes w16 a) (name_item s) rest)

  pub bad_arity : ((0 < arity) × (arity ≤ 1024) → ⊥) → NoItem (3 ∷ bytes)
  unfolding NoItem
  bad_arity bad (Var v) rest h = absurd cc
  bad_arity bad (Int i) rest h = absurd cc
  bad_arity bad (Atom s) rest h = absurd cc
  bad_arity bad (Compound s a) rest h = let n = arity_of_node s rest a h in bad (omega (arith, n.0, h.fits.1), omega (arith, n.0, h.fits.2))

  pub no_functor : NoName behind → NoItem (3 ∷ bytes)
  unfolding NoItem NoName
  no_functor none (Var v) rest h = absurd cc
  no_functor none (Int i) rest h = absurd cc
  no_functor none (Atom s) rest h = absurd cc
  no_functor none (Compound s a) rest h = let n = arity_of_node s rest a h in none s rest (record { name = h.fits.0; parts = n.1 })

-- ---- the same bytes

-- at the front of the same bytes stands the same node
pub same_item : (m n : Node) (r q : List ℕ) → Fits m → Fits n → IsLong m → IsLong n → item m ++ r ≡ item n ++ q → (m ≡ n) × (r ≡ q)
same_item (Var v) (Var w) r q f g long long' e =
    let at : to_be_bytes w64 v ++ r ≡ to_be_bytes w64 w ++ q = cc in
    let n = same_number w64 (2 ^ 64) wide64 v w r q long long' at in
    (ap Var n.0, n.1)
same_item (Int i) (Int j) r q f g long long' e =
    let at : to_be_bytes w64 (cast_unsigned w64 i) ++ r ≡ to_be_bytes w64 (cast_unsigned w64 j) ++ q = cc in
    let n = same_number w64 (2 ^ 64) wide64 (cast_unsigned w64 i) (cast_unsigned w64 j) r q (omega (arith, Fits-of_z {w = w64} {z = i} f)) (omega (arith, Fits-of_z {w = w64} {z = j} g)) at in
    (ap Int (sym (to_z-of_z w64 i f) ∙ ap (cast_signed w64) n.0 ∙ to_z-of_z w64 j g), n.1)
same_item (Atom s) (Atom t) r q f g long long' e =
    let at : name_item s ++ r ≡ name_item t ++ q = cc in
    let n = same_name s t r q f g at in
    (ap Atom n.0, n.1)
same_item (Compound s a) (Compound t b) r q f g long long' e =
    let at : (to_be_bytes w16 a ++ name_item s) ++ r ≡ (to_be_bytes w16 b ++ name_item t) ++ q = cc in
    let n = same_number w16 (2 ^ 16) wide16 a b (name_item s ++ r) (name_item t ++ q) (omega (arith, f.2)) (omega (arith, g.2))
    (sym (append_assoc (to_be_bytes w16 a) (name_item s) r) ∙ at ∙ append_assoc (to_be_bytes w16 b) (name_item t) q) in
    let m = same_name s t r q f.0 g.0 n.1 in
    (ap (λ (x : List ℕ). Compound x a) m.0 ∙ ap (Compound t) n.0, m.1)
same_item (Var v) (Int j) r q f g long long' e = absurd cc
same_item (Var v) (Atom t) r q f g long long' e = absurd cc
same_item (Var v) (Compound t b) r q f g long long' e = absurd cc
same_item (Int i) (Var w) r q f g long long' e = absurd cc
same_item (Int i) (Atom t) r q f g long long' e = absurd cc
same_item (Int i) (Compound t b) r q f g long long' e = absurd cc
same_item (Atom s) (Var w) r q f g long long' e = absurd cc
same_item (Atom s) (Int j) r q f g long long' e = absurd cc
same_item (Atom s) (Compound t b) r q f g long long' e = absurd cc
same_item (Compound s a) (Var w) r q f g long long' e = absurd cc
same_item (Compound s a) (Int j) r q f g long long' e = absurd cc
same_item (Compound s a) (Atom t) r q f g long long' e = absurd cc
