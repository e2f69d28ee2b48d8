-- What is known of the parts that can be unified with the arguments of a call.
use Rattle.std.specs.Prelude.{◌≡◌, ℕ, ◌+◌, List, length, take, drop, Some}
use Rattle.std.specs.Bool.{⊤}
use Rattle.std.specs.Str.{encode_utf8_all}
use Rattle.plterm.specs.Tree.{Tree}
use Rattle.plbuiltin.specs.Pieces.{part}
use Rattle.plgenerator.specs.declared.part.Wanted.{Wanted}
use Rattle.plgenerator.specs.declared.part.Lengths.{Lengths}
use Rattle.plgenerator.specs.declared.part.Lengths.TheVariants as lengths
use Rattle.plgenerator.specs.Fitting.{Misses}

abbrev pub Allows : Lengths → ℕ → Type 0
Allows lengths.All l = ⊤
Allows (lengths.One m) l = l ≡ m
Allows lengths.None l = ⊥

-- of the parts of a text that begin at one place, those of other lengths have no unifier with the terms
abbrev pub AreAllowed : List Tree → List ℕ → ℕ → ℕ → Lengths → Type 0
AreAllowed us cs b room ls = (l r : ℕ) → l + r ≡ room → (Allows ls l → ⊥) → Misses (part cs us b l r)

-- none of them has one
abbrev pub NoneBegins : List Tree → List ℕ → ℕ → ℕ → Type 0
NoneBegins us cs b room = (l r : ℕ) → l + r ≡ room → Misses (part cs us b l r)

-- a part with another number of characters before it, in it or behind it has none, nor has another text
pub record AreWanted (us : List Tree) (w : Wanted) : Type 0 where
  pub before : (n : ℕ) → w.before ≡ Some n → (cs : List ℕ) (b l r : ℕ) → (b ≡ n → ⊥) → Misses (part cs us b l r)
  pub length : (n : ℕ) → w.length ≡ Some n → (cs : List ℕ) (b l r : ℕ) → b + (l + r) ≡ length cs → (l ≡ n → ⊥) → Misses (part cs us b l r)
  pub after : (n : ℕ) → w.after ≡ Some n → (cs : List ℕ) (b l r : ℕ) → (r ≡ n → ⊥) → Misses (part cs us b l r)
  pub text : (s : List ℕ) → w.text ≡ Some s → (cs : List ℕ) (b l r : ℕ) → (encode_utf8_all (take l (drop b cs)) ≡ s → ⊥) → Misses (part cs us b l r)
