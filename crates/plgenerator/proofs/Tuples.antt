-- Four nodes that spell a term each, as one term.
use Rattle.std.proofs.Common.{◌≡◌, ◌∙◌, ◌≤◌, ap, refl, length, zero, suc, List, [], ◌∷◌, codes, arith, lit<}
use Rattle.std.specs.Str.{IsAscii}
use Rattle.std.proofs.lemmas.Str.{is_utf8-from_IsUtf8, IsUtf8-from_ascii}
use Rattle.plterm.specs.Tree.{Tree}
use Rattle.plterm.specs.declared.node.Node.{Node}
use Rattle.plterm.specs.declared.node.Node.TheVariants.{Var, Int, Atom, Compound}
use Rattle.plterm.specs.Reading.{arity, read, reading, Fits, IsName, IsTerm}
use Rattle.plbuiltin.specs.Solution.{together}
use Rattle.plgenerator.specs.Alone.{alone, IsAlone}

reads : (n : Node) (ts : List Tree) → IsAlone n → read n ts ≡ alone n ∷ ts
reads (Var n) ts w = refl
reads (Int i) ts w = refl
reads (Atom s) ts w = refl
reads (Compound s k) ts w = absurd w

fits : (n : Node) → IsAlone n → Fits n
fits (Var n) w = w
fits (Int i) w = w
fits (Atom s) w = w
fits (Compound s k) w = absurd w

bare : (n : Node) → IsAlone n → arity n ≡ 0
bare (Var n) w = refl
bare (Int i) w = refl
bare (Atom s) w = refl
bare (Compound s k) w = absurd w

dash : IsAscii (codes "-")
dash zero = lit< tt
dash (suc i) = lit< tt

IsName-dash : IsName (codes "-")
IsName-dash = (omega arith, is_utf8-from_IsUtf8 (codes "-") (IsUtf8-from_ascii (codes "-") dash))

module _ (a b c d : Node) (p : IsAlone a) (q : IsAlone b) (r : IsAlone c) (s : IsAlone d) where
  last : reading (d ∷ []) ≡ alone d ∷ []
  last = reads d [] s

  two : reading (c ∷ d ∷ []) ≡ alone c ∷ alone d ∷ []
  two = reads c (reading (d ∷ [])) r ∙ ap (λ ts. alone c ∷ ts) last

  three : reading (b ∷ c ∷ d ∷ []) ≡ alone b ∷ alone c ∷ alone d ∷ []
  three = reads b (reading (c ∷ d ∷ [])) q ∙ ap (λ ts. alone b ∷ ts) two

  all : reading (a ∷ b ∷ c ∷ d ∷ []) ≡ alone a ∷ alone b ∷ alone c ∷ alone d ∷ []
  all = reads a (reading (b ∷ c ∷ d ∷ [])) p ∙ ap (λ ts. alone a ∷ ts) three

  pub four-read : reading (Compound (codes "-") 4 ∷ a ∷ b ∷ c ∷ d ∷ []) ≡ together (alone a ∷ alone b ∷ alone c ∷ alone d ∷ []) ∷ []
  four-read = ap (read (Compound (codes "-") 4)) all

  none : (n : Node) (m : List Node) → IsAlone n → arity n ≤ length (reading m)
  none n m w = omega (arith, bare n w)

  pub four-term : IsTerm (Compound (codes "-") 4 ∷ a ∷ b ∷ c ∷ d ∷ [])
  four-term =
      record {
        forest = ((IsName-dash, omega arith, omega arith), omega (arith, ap length all), (fits a p, none a (b ∷ c ∷ d ∷ []) p, (fits b q, none b (c ∷ d ∷ []) q, (fits c r, none c (d ∷ []) r, (fits d s, none d [] s, tt)))));
        one = ap length four-read;
      }
