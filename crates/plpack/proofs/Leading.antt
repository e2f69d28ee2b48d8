-- What nodes lead to: how many terms are still to come, and how many variables were seen.
use Rattle.std.proofs.Common.{◌≡◌, ◌==◌, ℕ, zero, suc, ◌+◌, ◌-◌, ◌^◌, ◌<◌, ◌≤◌, min, Bool, true, false, cond, eqb, not, List, [], ◌∷◌, ◌++◌, length, refl, sym, ap, subst, ◌∙◌, arith, inl, inr, add-one, length-append}
use Rattle.std.proofs.lemmas.List.Sums.{prefix_len-le-length}
use Rattle.std.proofs.lemmas.Bool.Decides.{eqb_tells, nat_tests}
use Rattle.std.proofs.lemmas.List.Folds.{position_or_len_push}
use Rattle.plterm.specs.declared.node.Node.{Node}
use Rattle.plterm.specs.declared.node.Node.TheVariants.{Var, Int, Atom, Compound}
use Rattle.plterm.specs.Reading.{arity, reading, Fits, AllFit, IsForest, IsTerm}
use Rattle.plterm.specs.Variables.{place, added, with_node, seen_after, numbered}
use Rattle.plterm.proofs.Forests.{length-read, Fits-numbered}
use Rattle.plterm.proofs.Spellings.{numbering}
use Rattle.plpack.specs.Items.{IsLong, IsNumbered, after}

-- From where p terms are to come and k variables were seen, the nodes lead to q terms and m variables.
abbrev pub Leads : ℕ → ℕ → List Node → ℕ → ℕ → Type 0
Leads p k [] q m = (p ≡ q) × (k ≡ m)
Leads p k (n ∷ ns) q m = (0 < p) × Fits n × IsNumbered k n × Leads (p - 1 + arity n) (after k n) ns q m

pub Leads-append : (ms ns : List Node) (p k q m j l : ℕ) → Leads p k ms q m → Leads q m ns j l → Leads p k (ms ++ ns) j l
Leads-append [] ns p k q m j l h g = rw (h.0, h.1) g
Leads-append (x ∷ ms) ns p k q m j l h g = (h.0, h.1, h.2, Leads-append ms ns (p - 1 + arity x) (after k x) q m j l h.3 g)

-- what the first of the nodes lead to
pub record Parted (p k : ℕ) (ms ns : List Node) (j l : ℕ) : Type 0 where
  pub missing : ℕ
  pub seen : ℕ
  pub front : Leads p k ms missing seen
  pub back : Leads missing seen ns j l

pub Leads-parts : (ms ns : List Node) (p k j l : ℕ) → Leads p k (ms ++ ns) j l → Parted p k ms ns j l
Leads-parts [] ns p k j l h = record { missing = p; seen = k; front = (refl, refl); back = h }
Leads-parts (x ∷ ms) ns p k j l h =
    let r = Leads-parts ms ns (p - 1 + arity x) (after k x) j l h.3 in
    record { missing = r.missing; seen = r.seen; front = (h.0, h.1, h.2, r.front); back = r.back }

pub Leads-same : (ns : List Node) (p k q m j l : ℕ) → Leads p k ns q m → Leads p k ns j l → (q ≡ j) × (m ≡ l)
Leads-same [] p k q m j l h g = (sym h.0 ∙ g.0, sym h.1 ∙ g.1)
Leads-same (x ∷ ns) p k q m j l h g = Leads-same ns (p - 1 + arity x) (after k x) q m j l h.3 g.3

-- where no term is to come, no node does
pub Leads-none : (ns : List Node) (k q m : ℕ) → Leads 0 k ns q m → (q ≡ 0) × (ns ≡ [])
Leads-none [] k q m h = (sym h.0, refl)
Leads-none (x ∷ ns) k q m h = absurd (omega (arith, h.0))

-- ---- nodes that lead to the end are a forest

pub Leads-forest : (ns : List Node) (p k m : ℕ) → Leads p k ns 0 m → IsForest ns × (length (reading ns) ≡ p)
Leads-forest [] p k m h = (tt, sym h.0)
Leads-forest (n ∷ ns) p k m h =
    let f = Leads-forest ns (p - 1 + arity n) (after k n) m h.3 in
    let some : 0 < p = h.0 in
    let room : arity n ≤ length (reading ns) = omega (arith, f.1) in
    ((h.1, room, f.0), omega (arith, length-read n (reading ns) room, f.1))

pub Leads-term : (ns : List Node) (m : ℕ) → Leads 1 0 ns 0 m → IsTerm ns
Leads-term ns m h = let f = Leads-forest ns 1 0 m h in record { forest = f.0; one = f.1 }

pub Leads-fit : (ns : List Node) (p k q m : ℕ) → Leads p k ns q m → AllFit ns
Leads-fit [] p k q m h = tt
Leads-fit (n ∷ ns) p k q m h = (h.1, Leads-fit ns (p - 1 + arity n) (after k n) q m h.3)

-- ---- so many variables are seen

either_after : (b : Bool) (k : ℕ) → (k ≤ cond b (k + 1) k) × (cond b (k + 1) k ≤ k + 1)
either_after true k = (omega arith, omega arith)
either_after false k = (omega arith, omega arith)

pub after_le : (n : Node) (k : ℕ) → (k ≤ after k n) × (after k n ≤ k + 1)
after_le (Var v) k = either_after (v == k) k
after_le (Int i) k = (omega arith, omega arith)
after_le (Atom s) k = (omega arith, omega arith)
after_le (Compound s j) k = (omega arith, omega arith)

pub Leads-le : (ns : List Node) (p k q m : ℕ) → Leads p k ns q m → (k ≤ m) × (m ≤ k + length ns)
Leads-le [] p k q m h = (omega (arith, h.1), omega (arith, h.1))
Leads-le (n ∷ ns) p k q m h =
    let r = Leads-le ns (p - 1 + arity n) (after k n) q m h.3 in
    let a = after_le n k in
    (omega (arith, r.0, a.0), omega (arith, r.1, a.1))

new_or_old : (v k : ℕ) → v ≤ k → v < cond (v == k) (k + 1) k
new_or_old v k h = grind (arith, nat_tests)

-- a node of few variables is long enough
pub IsLong-after : (n : Node) (k m : ℕ) → IsNumbered k n → after k n ≤ m → m ≤ 2 ^ 64 → IsLong n
IsLong-after (Var v) k m h le few = omega (arith, new_or_old v k h)
IsLong-after (Int i) k m h le few = tt
IsLong-after (Atom s) k m h le few = tt
IsLong-after (Compound s j) k m h le few = tt

-- ---- their variables are 0, 1, ..

upto : ℕ → List ℕ
upto zero = []
upto (suc k) = upto k ++ k ∷ []

length-upto : (k : ℕ) → length (upto k) ≡ k
unfolding upto
length-upto zero = refl
length-upto (suc k) = omega (arith, length-append (upto k) (k ∷ []), length-upto k)

one_more : (v k : ℕ) → cond (eqb (min v k) k) (k + cond (k == v) 0 1) (min v k) ≡ min v (suc k)
one_more v k = grind (arith, nat_tests)

place-upto : (v k : ℕ) → place v (upto k) ≡ min v k
unfolding upto
place-upto v zero = omega arith
place-upto v (suc k) =
    position_or_len_push (λ x. x == v) (upto k) k
    ∙ ap (λ (l : ℕ). cond (eqb (place v (upto k)) l) (l + cond (k == v) 0 1) (place v (upto k))) (length-upto k)
    ∙ ap (λ (j : ℕ). cond (eqb j k) (k + cond (k == v) 0 1) j) (place-upto v k)
    ∙ one_more v k

numbered-upto : (n : Node) (k : ℕ) → IsNumbered k n → numbered (upto k) n ≡ n
numbered-upto (Var v) k h = ap Var (place-upto v k ∙ omega arith)
numbered-upto (Int i) k h = refl
numbered-upto (Atom s) k h = refl
numbered-upto (Compound s j) k h = refl

added-upto : (v k : ℕ) → v ≤ k → added (upto k) v ≡ upto (after k (Var v))
unfolding upto
added-upto v k h =
    let test : (place v (upto k) == length (upto k)) ≡ (v == k) = ap (λ (j : ℕ). eqb j (length (upto k))) (place-upto v k ∙ omega arith) ∙ ap (eqb v) (length-upto k) in
    ap (λ (b : Bool). cond b (upto k ++ v ∷ []) (upto k)) test
    ∙ elim (eqb_tells v k) [
      | inl (t, e) ↦ ap (λ (b : Bool). cond b (upto k ++ v ∷ []) (upto k)) t ∙ ap (λ (j : ℕ). upto k ++ j ∷ []) e ∙ ap upto (sym (add-one k)) ∙ ap (λ (b : Bool). upto (cond b (k + 1) k)) (sym t)
      | inr (t, e) ↦ ap (λ (b : Bool). cond b (upto k ++ v ∷ []) (upto k)) t ∙ ap (λ (b : Bool). upto (cond b (k + 1) k)) (sym t)
    ]

with_node-upto : (n : Node) (k : ℕ) → IsNumbered k n → with_node (upto k) n ≡ upto (after k n)
with_node-upto (Var v) k h = added-upto v k h
with_node-upto (Int i) k h = refl
with_node-upto (Atom s) k h = refl
with_node-upto (Compound s j) k h = refl

numbering-upto : (ns : List Node) (p k q m : ℕ) → Leads p k ns q m → numbering (upto k) ns ≡ ns
numbering-upto [] p k q m h = refl
numbering-upto (n ∷ ns) p k q m h =
    ap (λ (x : Node). x ∷ numbering (with_node (upto k) n) ns) (numbered-upto n k h.2)
    ∙ ap (λ (seen : List ℕ). n ∷ numbering seen ns) (with_node-upto n k h.2)
    ∙ ap (λ (ms : List Node). n ∷ ms) (numbering-upto ns (p - 1 + arity n) (after k n) q m h.3)

pub Leads-numbered : (ns : List Node) (q m : ℕ) → Leads 1 0 ns q m → numbering [] ns ≡ ns
unfolding upto
Leads-numbered ns q m h = numbering-upto ns 1 0 q m h

-- ---- the nodes of a copy lead to the end

arity-numbered : (n : Node) (seen : List ℕ) → arity (numbered seen n) ≡ arity n
arity-numbered (Var v) seen = refl
arity-numbered (Int i) seen = refl
arity-numbered (Atom s) seen = refl
arity-numbered (Compound s k) seen = refl

seen_more : (b : Bool) (v : ℕ) (seen : List ℕ) → cond b (length seen + 1) (length seen) ≡ length (cond b (seen ++ v ∷ []) seen)
seen_more true v seen = omega (arith, length-append seen (v ∷ []))
seen_more false v seen = refl

after-numbered : (n : Node) (seen : List ℕ) → after (length seen) (numbered seen n) ≡ length (with_node seen n)
after-numbered (Var v) seen = seen_more (place v seen == length seen) v seen
after-numbered (Int i) seen = refl
after-numbered (Atom s) seen = refl
after-numbered (Compound s k) seen = refl

IsNumbered-numbered : (n : Node) (seen : List ℕ) → IsNumbered (length seen) (numbered seen n)
IsNumbered-numbered (Var v) seen = prefix_len-le-length (λ x. not (x == v)) seen
IsNumbered-numbered (Int i) seen = tt
IsNumbered-numbered (Atom s) seen = tt
IsNumbered-numbered (Compound s k) seen = tt

pub Leads-numbering : (ns : List Node) (p : ℕ) (seen : List ℕ) → IsForest ns → p ≡ length (reading ns) → Leads p (length seen) (numbering seen ns) 0 (length (seen_after seen ns))
Leads-numbering [] p seen h e = (e, refl)
Leads-numbering (n ∷ ns) p seen h e =
    let l = length-read n (reading ns) h.1 in
    let room : arity n ≤ length (reading ns) = h.1 in
    let next : p - 1 + arity (numbered seen n) ≡ length (reading ns) = omega (arith, arity-numbered n seen, l, e) in
    let more = Leads-numbering ns (p - 1 + arity (numbered seen n)) (with_node seen n) h.2 next in (
      omega (arith, l, e),
      Fits-numbered seen n h.0,
      IsNumbered-numbered n seen,
      subst (λ (k : ℕ). Leads (p - 1 + arity (numbered seen n)) k (numbering (with_node seen n) ns) 0 (length (seen_after (with_node seen n) ns))) (sym (after-numbered n seen)) more,
    )
