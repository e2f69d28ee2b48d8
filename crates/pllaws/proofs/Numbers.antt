-- The variables of a written term are numbered by first occurrence where they are read.
use Rattle.std.proofs.Common.{◌≡◌, ◌≤◌, ◌<◌, ◌==◌, eqb, ◌+◌, ◌^◌, max, min, ℕ, zero, suc, Bool, true, false, cond, List, [], ◌∷◌, ◌++◌, length, decimal, length-append, refl, sym, ap, subst, ◌∙◌, arith}
use Rattle.std.specs.List.{position_or_len}
use Rattle.std.specs.Str.{bytes_eq}
use Rattle.std.proofs.lemmas.Bool.{cond_both, cond-false, eqb-true, eqb-false}
use Rattle.std.proofs.lemmas.Bool.Decides.{nat_tests}
use Rattle.std.proofs.lemmas.Fmt.{decimal_nonempty, decimal_injective}
use Rattle.std.proofs.lemmas.List.Sums.{prefix_len-le-length}
use Rattle.std.proofs.lemmas.List.Folds.{position_or_len_push}
use Rattle.std.proofs.lemmas.Slice.Eq.{bytes_eq-Decides}
use Rattle.plterm.specs.declared.node.Node.{Node}
use Rattle.plterm.specs.declared.node.Node.TheVariants.{Var, Int, Atom, Compound}
use Rattle.plterm.specs.Tree.{Tree, Trees, var, int, atom, compound, none, more}
use Rattle.plterm.specs.Reading.{spelling, spellings}
use Rattle.plterm.specs.Variables.{place, added, seen_after, variables, copied}
use Rattle.plterm.proofs.Spellings.{place-added, place-seen_after}
use Rattle.plops.specs.declared.table.OpTable.{OpTable}
use Rattle.plops.proofs.Names.{other_name}
use Rattle.plread.specs.Signs.{Sign}
use Rattle.plread.specs.Signs as tok
use Rattle.plread.specs.Spelling.{anonymous, number_of, seen_with}
use Rattle.plwrite.specs.declared.style.Style.{Style}
use Rattle.pllaws.specs.Written.{clause_signs}
use Rattle.pllaws.specs.Numbered.{written_name, numbered, seen_behind, all_numbered}
use Rattle.pllaws.proofs.Alike.{IsNoVariable, Alike, alike_end, alike_sign, alike_variable, numbers, all_numbers, clause_alike}

-- ---- the places of a tree's variables

-- Numbers by first occurrence behind some that were used: each is below the top, and one of those used or the next.
abbrev pub InOrder : ℕ → ℕ → List ℕ → Type 0
InOrder top used [] = Unit {0}
InOrder top used (p ∷ ps) = (p ≤ used) × (p < top) × InOrder top (max used (p + 1)) ps

-- the numbers of the nodes' variables, before others
abbrev pub node_numbers : (ℕ → ℕ) → List Node → List ℕ → List ℕ
node_numbers number [] ps = ps
node_numbers number (Var v ∷ ns) ps = number v ∷ node_numbers number ns ps
node_numbers number (Int i ∷ ns) ps = node_numbers number ns ps
node_numbers number (Atom s ∷ ns) ps = node_numbers number ns ps
node_numbers number (Compound s k ∷ ns) ps = node_numbers number ns ps

node_numbers-append : (number : ℕ → ℕ) (ns ms : List Node) (ps : List ℕ) → node_numbers number (ns ++ ms) ps ≡ node_numbers number ns (node_numbers number ms ps)
node_numbers-append number [] ms ps = refl
node_numbers-append number (Var v ∷ ns) ms ps = ap (λ l. number v ∷ l) (node_numbers-append number ns ms ps)
node_numbers-append number (Int i ∷ ns) ms ps = node_numbers-append number ns ms ps
node_numbers-append number (Atom s ∷ ns) ms ps = node_numbers-append number ns ms ps
node_numbers-append number (Compound s k ∷ ns) ms ps = node_numbers-append number ns ms ps

mutual
  numbers-spelling : (number : ℕ → ℕ) (t : Tree) (ps : List ℕ) → numbers number t ps ≡ node_numbers number (spelling t) ps
  numbers-spelling number (var v) ps = refl
  numbers-spelling number (int i) ps = refl
  numbers-spelling number (atom s) ps = refl
  numbers-spelling number (compound s ts) ps = numbers-spellings number ts ps

  numbers-spellings : (number : ℕ → ℕ) (ts : Trees) (ps : List ℕ) → all_numbers number ts ps ≡ node_numbers number (spellings ts) ps
  numbers-spellings number none ps = refl
  numbers-spellings number (more t ts) ps =
      ap (numbers number t) (numbers-spellings number ts ps) ∙ numbers-spelling number t (node_numbers number (spellings ts) ps) ∙ sym (node_numbers-append number (spelling t) (spellings ts) ps)

place_within : (v : ℕ) (seen : List ℕ) → place v seen ≤ length seen
place_within v seen = prefix_len-le-length _ seen

length-added : (v : ℕ) (seen : List ℕ) → length (added seen v) ≡ max (length seen) (place v seen + 1)
length-added v seen =
    let few = place_within v seen in
    cond_both (place v seen == length seen) (seen ++ v ∷ []) seen (λ l. length l ≡ max (length seen) (place v seen + 1))
    (λ b. let e = eqb-true (place v seen) (length seen) b in omega (arith, length-append seen (v ∷ [])))
    (λ b. let e = eqb-false (place v seen) (length seen) b in omega arith)

added_longer : (v : ℕ) (seen : List ℕ) → length seen ≤ length (added seen v)
added_longer v seen = let e = length-added v seen in omega arith

longer : (ns : List Node) (seen : List ℕ) → length seen ≤ length (seen_after seen ns)
longer [] seen = omega arith
longer (Var v ∷ ns) seen = let h = longer ns (added seen v) in let k = added_longer v seen in omega arith
longer (Int i ∷ ns) seen = longer ns seen
longer (Atom s ∷ ns) seen = longer ns seen
longer (Compound s k ∷ ns) seen = longer ns seen

pub in_order : (all : List ℕ) (ns : List Node) (seen : List ℕ) → seen_after seen ns ≡ all → InOrder (length all) (length seen) (node_numbers (λ v. place v all) ns [])
in_order all [] seen e = tt
in_order all (Var v ∷ ns) seen e =
    let here = place-added v seen in
    let less : place v (added seen v) < length (added seen v) = rw here.0 here.1 in
    let whole : place v all ≡ place v seen = ap (place v) (sym e) ∙ place-seen_after ns v (added seen v) less ∙ here.0 in
    let few = place_within v seen in
    let enough : length (added seen v) ≤ length all = subst (λ l. length (added seen v) ≤ length l) e (longer ns (added seen v)) in
    let used : length (added seen v) ≡ max (length seen) (place v all + 1) = length-added v seen ∙ ap (λ p. max (length seen) (p + 1)) (sym whole) in
    (omega arith, omega (arith, here.1), subst (λ n. InOrder (length all) n (node_numbers (λ w. place w all) ns [])) used (in_order all ns (added seen v) e))
in_order all (Int i ∷ ns) seen e = in_order all ns seen e
in_order all (Atom s ∷ ns) seen e = in_order all ns seen e
in_order all (Compound s k ∷ ns) seen e = in_order all ns seen e

-- ---- the names, as they are read

-- the first names
abbrev names : ℕ → List (List ℕ)
names zero = []
names (suc m) = names m ++ written_name (1 + m) ∷ []

length-names : (m : ℕ) → length (names m) ≡ m
length-names zero = refl
length-names (suc m) = let h = length-names m in omega (arith, length-append (names m) (written_name (1 + m) ∷ []))

same_number : (p q : ℕ) → 1 + p < 2 ^ 64 → 1 + q < 2 ^ 64 → written_name (1 + p) ≡ written_name (1 + q) → p ≡ q
same_number p q h k e = let digits : decimal (1 + p) ≡ decimal (1 + q) = cc in let n : 1 + p ≡ 1 + q = decimal_injective (1 + p) (1 + q) h k digits in omega arith

name_test : (p q : ℕ) → 1 + p < 2 ^ 64 → 1 + q < 2 ^ 64 → bytes_eq (written_name (1 + p)) (written_name (1 + q)) ≡ eqb p q
name_test p q h k = by (eqb p q) refl where
  by : (b : Bool) → eqb p q ≡ b → bytes_eq (written_name (1 + p)) (written_name (1 + q)) ≡ b
  by true e = (bytes_eq-Decides (written_name (1 + p)) (written_name (1 + q))).1 (ap (λ n. written_name (1 + n)) (eqb-true p q e))
  by false e = other_name (written_name (1 + p)) (written_name (1 + q)) (λ s. eqb-false p q e (same_number p q h k s))

not_anonymous : (p : ℕ) → 1 + p < 2 ^ 64 → bytes_eq (written_name (1 + p)) anonymous ≡ false
not_anonymous p h = other_name (written_name (1 + p)) anonymous (λ e. let n = decimal_nonempty (1 + p) h in let digits : decimal (1 + p) ≡ [] = cc in let none_left : length (decimal (1 + p)) ≡ 0 = ap length digits in omega arith)

next_place : (p m : ℕ) → cond (eqb (min p m) m) (m + cond (eqb p m) 0 1) (min p m) ≡ min p (suc m)
next_place p m = grind (arith, nat_tests)

position_of_name : (m p : ℕ) → 1 + p < 2 ^ 64 → m < 2 ^ 64 → position_or_len (bytes_eq (written_name (1 + p))) (names m) ≡ min p m
position_of_name zero p h k = omega arith
position_of_name (suc m) p h k =
    let before : position_or_len (bytes_eq (written_name (1 + p))) (names m) ≡ min p m = position_of_name m p h (omega arith) in
    position_or_len_push (bytes_eq (written_name (1 + p))) (names m) (written_name (1 + m))
    ∙ ap (λ q. cond (eqb q (length (names m))) (length (names m) + cond (bytes_eq (written_name (1 + p)) (written_name (1 + m))) 0 1) q) before
    ∙ ap (λ l. cond (eqb (min p m) l) (l + cond (bytes_eq (written_name (1 + p)) (written_name (1 + m))) 0 1) (min p m)) (length-names m)
    ∙ ap (λ b. cond (eqb (min p m) m) (m + cond b 0 1) (min p m)) (name_test p m h (omega arith)) ∙ next_place p m

number_is : (m p : ℕ) → p ≤ m → 1 + p < 2 ^ 64 → m < 2 ^ 64 → number_of (names m) (written_name (1 + p)) ≡ p
number_is m p low h k =
    let least : min p m ≡ p = omega arith in
    cond-false (bytes_eq (written_name (1 + p)) anonymous) _ _ (not_anonymous p h) ∙ position_of_name m p h k ∙ least

seen_is : (m p : ℕ) → p ≤ m → 1 + p < 2 ^ 64 → m < 2 ^ 64 → seen_with (names m) (written_name (1 + p)) ≡ names (max m (p + 1))
seen_is m p low h k =
    ap (λ q. cond (eqb q (length (names m))) (names m ++ written_name (1 + p) ∷ []) (names m)) (number_is m p low h k)
    ∙ ap (λ l. cond (eqb p l) (names m ++ written_name (1 + p) ∷ []) (names m)) (length-names m)
    ∙ cond_both (eqb p m) (names m ++ written_name (1 + p) ∷ []) (names m) (λ l. l ≡ names (max m (p + 1)))
    (λ b.
    let e : p ≡ m = eqb-true p m b in
    let next : suc m ≡ max m (p + 1) = omega arith in
    ap (λ q. names m ++ written_name (1 + q) ∷ []) e ∙ ap names next)
    (λ b.
    let e = eqb-false p m b in
    let here : m ≡ max m (p + 1) = omega arith in
    ap names here)

numbered_other : (seen : List (List ℕ)) (s : Sign) → IsNoVariable s → numbered seen s ≡ s
numbered_other seen (tok.Variable n) h = absurd h
numbered_other seen s h = refl

seen_behind_other : (seen : List (List ℕ)) (s : Sign) → IsNoVariable s → seen_behind seen s ≡ seen
seen_behind_other seen (tok.Variable n) h = absurd h
seen_behind_other seen s h = refl

read_numbers : {xs ys : List Sign} {ps : List ℕ} (top : ℕ) → top < 2 ^ 64 → Alike xs ys ps → (m : ℕ) → m ≤ top → InOrder top m ps → all_numbered (names m) xs ≡ ys
read_numbers top h alike_end m k o = refl
read_numbers top h (alike_sign {xs} {ys} {ps} s no_variable a) m k o =
    ap (λ x. x ∷ all_numbered (seen_behind (names m) s) xs) (numbered_other (names m) s no_variable)
    ∙ ap (λ l. s ∷ all_numbered l xs) (seen_behind_other (names m) s no_variable) ∙ ap (λ l. s ∷ l) (read_numbers top h a m k o)
read_numbers top h (alike_variable {xs} {ys} {ps} p a) m k o =
    let fits : 1 + p < 2 ^ 64 = omega (arith, o.1) in
    let number : number_of (names m) (written_name (1 + p)) ≡ 0 + p = number_is m p o.0 fits (omega arith) ∙ omega arith in
    ap (λ n. tok.Variable n ∷ all_numbered (seen_with (names m) (written_name (1 + p))) xs) number
    ∙ ap (λ l. tok.Variable (0 + p) ∷ all_numbered l xs) (seen_is m p o.0 fits (omega arith))
    ∙ ap (λ l. tok.Variable (0 + p) ∷ l) (read_numbers top h a (max m (p + 1)) (omega (arith, o.1)) o.2)

pub clause_numbered : (ops : OpTable) (style : Style) (t : Tree) → length (variables t) < 2 ^ 64 → all_numbered [] (clause_signs ops style (copied 1 t)) ≡ clause_signs ops style (copied 0 t)
clause_numbered ops style t h =
    let number : ℕ → ℕ = λ v. place v (variables t) in
    read_numbers (length (variables t)) h (clause_alike ops style number t) 0 (omega arith) (subst (InOrder (length (variables t)) 0) (sym (numbers-spelling number t [])) (in_order (variables t) (spelling t) [] refl))
