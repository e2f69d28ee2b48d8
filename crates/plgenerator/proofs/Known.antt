-- What the terms of arguments say of parts.
use Rattle.std.proofs.Common.{◌≡◌, ℕ, ◌+◌, ℤ, pos, Option, Some, None, List, [], ◌∷◌, length, take, drop, refl, sym, ap, ◌∙◌, arith, subst}
use Rattle.std.specs.Prelude.{IfSome, IfNone}
use Rattle.std.specs.Str.{chars, encode_utf8_all, IsUtf8}
use Rattle.std.proofs.lemmas.List.{length-drop, length-take-le}
use Rattle.std.proofs.lemmas.Str.{encodes_same, encodes-chars}
use Rattle.plterm.specs.Tree.{Tree, int, atom}
use Rattle.plcells.specs.Store.{Store}
use Rattle.plorder.specs.declared.shape.Shape.{Shape}
use Rattle.plorder.specs.declared.shape.Shape.TheVariants.{Variable, Integer, Atom, Compound}
use Rattle.plorder.specs.Shapes.{IsOfShape}
use Rattle.plbuiltin.specs.Pieces.{part, as_text}
use Rattle.plgenerator.specs.declared.part.Wanted.{Wanted}
use Rattle.plgenerator.specs.Fitting.{Misses}
use Rattle.plgenerator.specs.Wanting.{AreWanted}
use Rattle.plgenerator.proofs.Missing.{missing-before, missing-length, missing-after, missing-text}

at-some : {A : Type 0} (P : A → Type 0) (o : Option A) (a : A) → IfSome o P → o ≡ Some a → P a
at-some P o a h e = subst (λ x. IfSome x P) e h

at-none : {A : Type 0} (P : Type 0) (o : Option A) → IfNone o P → o ≡ None → P
at-none P o h e = subst (λ x. IfNone x P) e h

-- a part that is a text has as many characters
as-long : (cs s : List ℕ) (b l r : ℕ) → IsUtf8 s → b + (l + r) ≡ length cs → encode_utf8_all (take l (drop b cs)) ≡ s → l ≡ length (chars s)
as-long cs s b l r u all e =
    let same : take l (drop b cs) ≡ chars s = encodes_same (take l (drop b cs)) (chars s) (e ∙ sym (encodes-chars s u)) in
    sym (length-take-le l (drop b cs) (omega (arith, all, length-drop b cs))) ∙ ap length same

module _ (x y z t : Tree) (w : Wanted)
    (before : IfSome w.before (λ n. x ≡ int (pos n)))
    (after : IfSome w.after (λ n. z ≡ int (pos n)))
    (text : IfSome w.text (λ s. t ≡ atom s))
    (known : IfSome w.text (λ s. IsUtf8 s × IfSome w.length (λ n. n ≡ length (chars s))))
    (other : IfNone w.text (IfSome w.length (λ n. y ≡ int (pos n)))) where
  length_misses : (o : Option (List ℕ)) → w.text ≡ o → (n : ℕ) → w.length ≡ Some n → (cs : List ℕ) (b l r : ℕ) → b + (l + r) ≡ length cs → (l ≡ n → ⊥) → Misses (part cs (x ∷ y ∷ z ∷ t ∷ []) b l r)
  length_misses None e n f cs b l r all apart =
      let number = at-none (IfSome w.length (λ m. y ≡ int (pos m))) w.text other e in
      missing-length cs b l r x y z t n (at-some (λ m. y ≡ int (pos m)) w.length n number f) apart
  length_misses (Some s) e n f cs b l r all apart =
      let spelled = at-some (λ u. IsUtf8 u × IfSome w.length (λ m. m ≡ length (chars u))) w.text s known e in
      let long = at-some (λ m. m ≡ length (chars s)) w.length n spelled.1 f in
      missing-text cs b l r x y z t s (at-some (λ u. t ≡ atom u) w.text s text e) (λ same. apart (as-long cs s b l r spelled.0 all same ∙ sym long))

  pub wanted-are : AreWanted (x ∷ y ∷ z ∷ t ∷ []) w
  wanted-are = record {
    before = λ n e cs b l r apart. missing-before cs b l r x y z t n (at-some (λ m. x ≡ int (pos m)) w.before n before e) apart;
    length = λ n e cs b l r all apart. length_misses w.text refl n e cs b l r all apart;
    after = λ n e cs b l r apart. missing-after cs b l r x y z t n (at-some (λ m. z ≡ int (pos m)) w.after n after e) apart;
    text = λ s e cs b l r apart. missing-text cs b l r x y z t s (at-some (λ u. t ≡ atom u) w.text s text e) apart;
  }

-- what is no integer is not changed where a text stands for it
pub text-other : (h : Store) (t : Tree) (s : Shape) → IsOfShape h t s → ((i : ℤ) → s ≡ Integer i → ⊥) → as_text t ≡ t
text-other h t (Variable n) is other = ap as_text is ∙ sym is
text-other h t (Integer i) is other = absurd (other i refl)
text-other h t (Atom a) is other = ap as_text is.2 ∙ sym is.2
text-other h t (Compound b) is other = let e = is.2 ∙ is.1.is in ap as_text e ∙ sym e
