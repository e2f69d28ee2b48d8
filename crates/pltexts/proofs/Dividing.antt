-- The parts of a text and the ways to divide it: one of the empty text, and several of any other.
use Rattle.std.proofs.Common.{◌≡◌, ℕ, ℤ, Ok, List, [], ◌∷◌, length, refl, sym, ap, ◌∙◌, arith}
use Rattle.std.specs.Str.{chars, encode_utf8_all, IsUtf8}
use Rattle.std.proofs.lemmas.Str.{encodes-chars}
use Rattle.plterm.specs.Tree.{Tree}
use Rattle.plcells.specs.Store.{Store}
use Rattle.plorder.specs.Shapes.{IsOfShape}
use Rattle.plorder.specs.declared.shape.Shape.{Shape}
use Rattle.plorder.specs.declared.shape.Shape.TheVariants.{Variable, Integer, Atom, Compound}
use Rattle.plprogram.specs.declared.settings.Settings.{Settings}
use Rattle.plbuiltin.specs.Solution.{unifies}
use Rattle.plbuiltin.specs.Pieces.{part, parts, parts_from, split, splits, splits_from, whole}
use Rattle.plgenerator.specs.declared.turn.Part.{Part}
use Rattle.plgenerator.specs.declared.turn.Split.{Split}
use Rattle.plgenerator.specs.Turns.{IsPart, IsSplit}
use Rattle.plgenerator.proofs.Offsets.{chars-le}
use Rattle.planswers.specs.Answers.{IsMany}

-- by the characters
module _ (us : List Tree) where
  many-parts : (cs : List ℕ) → (cs ≡ [] → ⊥) → IsMany (parts cs us)
  many-parts [] some = absurd (some refl)
  many-parts (c ∷ []) some = tt
  many-parts (c ∷ d ∷ cs) some = tt

  many-splits : (cs : List ℕ) → (cs ≡ [] → ⊥) → IsMany (splits cs us)
  many-splits [] some = absurd (some refl)
  many-splits (c ∷ []) some = tt
  many-splits (c ∷ d ∷ cs) some = tt

-- by the bytes
module _ (bs : List ℕ) (u : IsUtf8 bs) (us : List Tree) where
  none : length bs ≡ 0 → length (chars bs) ≡ 0
  none e = omega (arith, chars-le bs u, e)

  some : (length bs ≡ 0 → ⊥) → chars bs ≡ [] → ⊥
  some full e = full (ap length (sym (encodes-chars bs u) ∙ ap encode_utf8_all e))

  pub one-part : (p : Part) → length bs ≡ 0 → IsPart (chars bs) p → part (chars bs) us p.offset.characters p.length p.after ∷ [] ≡ parts (chars bs) us
  one-part p empty is =
      let cs = chars bs in
      let before : p.offset.characters ≡ 0 = omega (arith, none empty, is.all) in
      let here : p.length ≡ 0 = omega (arith, none empty, is.all) in
      let after : p.after ≡ 0 = omega (arith, none empty, is.all) in
      ap (λ b. part cs us b p.length p.after ∷ []) before
      ∙ ap (λ l. part cs us 0 l p.after ∷ []) here
      ∙ ap (λ r. part cs us 0 0 r ∷ []) after
      ∙ sym (ap (parts_from cs us 0) (none empty))

  pub several-parts : (length bs ≡ 0 → ⊥) → IsMany (parts (chars bs) us)
  several-parts full = many-parts us (chars bs) (some full)

  pub one-split : (s : Split) → length bs ≡ 0 → IsSplit (chars bs) s → split (chars bs) us s.offset.characters ∷ [] ≡ splits (chars bs) us
  one-split s empty is =
      let before : s.offset.characters ≡ 0 = omega (arith, none empty, is.all) in
      ap (λ a. split (chars bs) us a ∷ []) before ∙ sym (ap (splits_from (chars bs) us 0) (none empty))

  pub several-splits : (length bs ≡ 0 → ⊥) → IsMany (splits (chars bs) us)
  several-splits full = many-splits us (chars bs) (some full)

-- a term that is no integer stands for itself
pub whole-term : (h : Store) (v t : Tree) (s : Settings) (shape : Shape) → IsOfShape h v shape → ((i : ℤ) → shape ≡ Integer i → ⊥) → unifies v t s ≡ whole (Ok t) v s
whole-term h v t s (Variable x) is other = ap (λ u. unifies u t s) is ∙ sym (ap (λ u. whole (Ok t) u s) is)
whole-term h v t s (Integer i) is other = absurd (other i refl)
whole-term h v t s (Atom a) is other = ap (λ u. unifies u t s) is.2 ∙ sym (ap (λ u. whole (Ok t) u s) is.2)
whole-term h v t s (Compound b) is other = let e = is.2 ∙ is.1.is in ap (λ u. unifies u t s) e ∙ sym (ap (λ u. whole (Ok t) u s) e)
