-- Steps that wait, for goals, and the sequences that are made of them.
use Rattle.std.proofs.Common.{◌≡◌, ℕ, zero, suc, ◌+◌, ◌<◌, ◌≤◌, false, Option, Some, None, List, [], ◌∷◌, ◌++◌, length, take, drop, reverse, refl, subst, ap, ◌∙◌, sym, arith, length-take, length-drop, codes}
use Rattle.std.proofs.Math.Seq.{take-add}
use Rattle.std.proofs.lemmas.List.{drop-drop}
use Rattle.plterm.specs.Tree.{Tree, atom}
use Rattle.plnames.specs.Names.{rows}
use Rattle.plsearch.specs.Forms.{Either, IfThenElse, form}
use Rattle.plcode.specs.declared.op.Op.{Op}
use Rattle.plcode.specs.declared.op.Op.TheVariants as ops
use Rattle.plcode.specs.declared.op.Step.{Step}
use Rattle.plcode.specs.declared.body.Part.{Part}
use Rattle.plcode.specs.declared.body.Arrow.{Arrow}
use Rattle.plcode.specs.Steps.{Text, Extended, Args, of_two, ends, paired, joined, IsFor}
use Rattle.plcode.specs.Bodies.{arrow_of, charged, step, merged, Begins, AreFor, Segment, Awaits, Known, Made, Branches, HasTwo, IsNoArrow, IsCode}
use Rattle.plcode.proofs.Meanings.{length-joined}
use Rattle.plcode.proofs.Stays.{Extended-trans, IsBranch-more, steps_more}
use Rattle.plcode.proofs.Pushing.{with_steps, AreFor-more, sequence_code, sequence_begins, sequence_extended}

-- ---- one step

-- a step alone is for its goal
one_step : (c : Text) (op : Op) (at : ℕ) (g : Tree) → ends op ≡ false → IsFor c (length c.steps) op at g → Segment c g (step op at)
one_step c op at g live is rest = (rest, record { goal = g; lives = live; is = is; room = omega arith; goals_are = refl }, refl)

no_arrow : (l r : Tree) → IsNoArrow l → form (of_two (codes ";") l r) ≡ Either l r
unfolding rows
no_arrow l r h = h r

arrow_else : (i a b : Tree) → form (of_two (codes ";") (of_two (codes "->") i a) b) ≡ IfThenElse i a b
unfolding rows
arrow_else i a b = refl

arrow_alone : (i a : Tree) → form (of_two (codes "->") i a) ≡ IfThenElse i a (atom (codes "fail"))
unfolding rows
arrow_alone i a = refl

segment_either : (c : Text) (l r : ℕ) (g a b : Tree) → g ≡ of_two (codes ";") a b → IsNoArrow a → Begins c l a → Begins c r b → Segment c g (step (ops.Or l r) 0)
segment_either c l r g a b is plain left right =
    one_step c (ops.Or l r) 0 g refl (record { left = a; right = b; is = is; form_is = ap form is ∙ no_arrow a b plain; left_begins = left; right_begins = right })

segment_arrow : (c : Text) (i l : ℕ) (g t a : Tree) → IsCode c → g ≡ of_two (codes "->") t a → Begins c i t → Begins c l a → Segment c g (step (ops.IfThen i l) 0)
segment_arrow c i l g t a code is test then_there =
    one_step c (ops.IfThen i l) 0 g refl
    (record { condition = t; success = a; is = is; form_is = ap form is ∙ arrow_alone t a; condition_begins = test; success_begins = then_there; failure_begins = code.fails })

segment_else : (c : Text) (i l r : ℕ) (g t a b : Tree) → g ≡ of_two (codes ";") (of_two (codes "->") t a) b → Begins c i t → Begins c l a → Begins c r b
    → Segment c g (step (ops.IfThenElse i l r) 0)
segment_else c i l r g t a b is test left right =
    one_step c (ops.IfThenElse i l r) 0 g refl
    (record { condition = t; success = a; failure = b; is = is; form_is = ap form is ∙ arrow_else t a b; condition_begins = test; success_begins = left; failure_begins = right })

-- ---- conjunctions

AreFor-append : (c : Text) (xs ys : List Step) (rest mid gs : List Tree) → AreFor c ys rest mid → AreFor c xs mid gs → AreFor c (xs ++ ys) rest gs
AreFor-append c [] ys rest mid gs h k = let P : List Tree → Type 0 = AreFor c ys rest in subst P (sym k) h
AreFor-append c (x ∷ xs) ys rest mid gs h k = (k.0, k.1, AreFor-append c xs ys rest mid k.0 h k.2)

AreFor-charged : (c : Text) (xs : List Step) (rest : List Tree) (a b : Tree) (gs : List Tree) → 0 < length xs → AreFor c xs rest (a ∷ b ∷ gs)
    → AreFor c (charged 1 xs) rest (of_two (codes ",") a b ∷ gs)
AreFor-charged c [] rest a b gs some h = absurd (omega arith)
AreFor-charged c (x ∷ xs) rest a b gs some h =
    let i = h.1 in
    let len = length-joined x.conjunctions (i.goal ∷ h.0) (omega (arith, i.room)) in
    let next : x.conjunctions + 1 ≡ suc x.conjunctions = omega arith in (
      h.0,
      record {
        goal = i.goal;
        lives = i.lives;
        is = i.is;
        room = omega (arith, len, ap length i.goals_are);
        goals_are = ap paired i.goals_are ∙ sym (ap (λ (n : ℕ). joined n (i.goal ∷ h.0)) next);
      },
      h.2,
    )

segment_join : (c : Text) (g a b : Tree) (xs ys : List Step) → g ≡ of_two (codes ",") a b → 0 < length xs → Segment c a xs → Segment c b ys → Segment c g (charged 1 xs ++ ys)
segment_join c g a b xs ys is some first second rest =
    let P : Tree → Type 0 = λ u. AreFor c (charged 1 xs ++ ys) rest (u ∷ rest) in
    subst P (sym is) (AreFor-append c (charged 1 xs) ys rest (b ∷ rest) (of_two (codes ",") a b ∷ rest) (second rest)
    (AreFor-charged c xs (b ∷ rest) a b rest some (first (b ∷ rest))))

-- ---- more code

pub Begins-more : (c d : Text) (place : ℕ) (g : Tree) → IsCode c → Extended c d → Begins c place g → Begins d place g
Begins-more c d place g code more h = IsBranch-more c d code more (length c.steps) (length d.steps) place g (omega arith) (steps_more c d more) h

Known-more : (c d : Text) (g : Tree) (arrow : Option Arrow) (len : ℕ) → IsCode c → Extended c d → Known c g arrow len → Known d g arrow len
Known-more c d g (Some arrow) len code more h = record {
  one = h.one;
  first = h.first;
  second = h.second;
  is = h.is;
  condition_begins = Begins-more c d arrow.condition h.first code more h.condition_begins;
  then_begins = Begins-more c d arrow.then h.second code more h.then_begins;
}
Known-more c d g None len code more h = h

Segment-more : (c d : Text) (g : Tree) (xs : List Step) → IsCode c → Extended c d → Segment c g xs → Segment d g xs
Segment-more c d g xs code more h rest = AreFor-more c d xs rest (g ∷ rest) code more (h rest)

pub Made-more : (c d : Text) (ps : List Part) (xs : List Step) (gs : List Tree) → IsCode c → Extended c d → Made c ps xs gs → Made d ps xs gs
Made-more c d [] xs [] code more h = tt
Made-more c d [] xs (g ∷ gs) code more h = h
Made-more c d (p ∷ ps) xs [] code more h = h
Made-more c d (p ∷ ps) xs (g ∷ gs) code more h = (
  h.0,
  h.1,
  Known-more c d g p.arrow p.len code more h.2,
  Segment-more c d g (take p.len xs) code more h.3,
  Made-more c d ps (drop p.len xs) gs code more h.4,
)

-- ---- two sequences are put

module _ (c : Text) (code : IsCode c) (s1 s2 : List Step) (p q : Part) (ps : List Part) (xs ys zs : List Step) (l r : ℕ)
    (left_put : s1 ≡ c.steps ++ (step ops.Proceed 0 ++ reverse (take p.len xs))) (left_at : l ≡ length c.steps + p.len) (left_rest : ys ≡ drop p.len xs)
    (right_put : s2 ≡ s1 ++ (step ops.Proceed 0 ++ reverse (take q.len ys))) (right_at : r ≡ length s1 + q.len) (right_rest : zs ≡ drop q.len ys)
  where
    abbrev between : Text
    between = with_steps c s1

    abbrev after : Text
    after = with_steps c s2

    module _ (a b : Tree) (gs : List Tree) (h : Made c (p ∷ q ∷ ps) xs (a ∷ b ∷ gs)) where
      behind : Made c (q ∷ ps) ys (b ∷ gs)
      behind = let P : List Step → Type 0 = λ v. Made c (q ∷ ps) v (b ∷ gs) in subst P (sym left_rest) h.4

      first_at : l ≡ length c.steps + length (take p.len xs)
      first_at = omega (arith, left_at, h.1, length-take p.len xs)

      second_at : r ≡ length s1 + length (take q.len ys)
      second_at = let k = behind in omega (arith, right_at, k.1, length-take q.len ys)

      first_extended : Extended c between
      first_extended = sequence_extended c code a (take p.len xs) s1 l h.3 left_put first_at

      first_code : IsCode between
      first_code = sequence_code c code a (take p.len xs) s1 l h.3 left_put first_at

      second_segment : Segment between b (take q.len ys)
      second_segment = let k = behind in Segment-more c between b (take q.len ys) code first_extended k.3

      second_extended : Extended between after
      second_extended = sequence_extended between first_code b (take q.len ys) s2 r second_segment right_put second_at

      pub branches_extended : Extended c after
      branches_extended = Extended-trans c between after first_extended second_extended

      pub branches_code : IsCode after
      branches_code = sequence_code between first_code b (take q.len ys) s2 r second_segment right_put second_at

      pub branches_put : Branches a b gs after l r ps zs
      branches_put =
          let k = behind in
          let Q : List Step → Type 0 = λ v. Made after ps v gs in
          record {
            left_begins = Begins-more between after l a first_code second_extended (sequence_begins c code a (take p.len xs) s1 l h.3 left_put first_at);
            right_begins = sequence_begins between first_code b (take q.len ys) s2 r second_segment right_put second_at;
            rest = subst Q (sym right_rest) (Made-more c after ps (drop q.len ys) gs code branches_extended k.4);
          }

-- ---- two parts are joined

length-charged : (n : ℕ) (xs : List Step) → length (charged n xs) ≡ length xs
length-charged n [] = refl
length-charged n (x ∷ xs) = refl

take-charged : (m n : ℕ) (xs : List Step) → 0 < m → m ≤ length xs → take (m + n) (charged 1 xs) ≡ charged 1 (take m xs) ++ take n (drop m xs)
take-charged zero n xs some room = absurd (omega arith)
take-charged (suc m) n [] some room = absurd (omega arith)
take-charged (suc m) n (x ∷ xs) some room =
    let e : suc m + n ≡ suc (m + n) = omega arith in
    let y : Step = record { op = x.op; conjunctions = x.conjunctions + 1; goal = x.goal } in
    ap (λ k. take k (y ∷ xs)) e ∙ ap (λ ss. y ∷ ss) (take-add m n xs)

drop-charged : (m n : ℕ) (xs : List Step) → 0 < m → m ≤ length xs → drop (m + n) (charged 1 xs) ≡ drop n (drop m xs)
drop-charged zero n xs some room = absurd (omega arith)
drop-charged (suc m) n [] some room = absurd (omega arith)
drop-charged (suc m) n (x ∷ xs) some room =
    let e : suc m + n ≡ suc (m + n) = omega arith in
    let y : Step = record { op = x.op; conjunctions = x.conjunctions + 1; goal = x.goal } in
    ap (λ k. drop k (y ∷ xs)) e ∙ sym (drop-drop n m xs)

pair_no_arrow : (g a b : Tree) → g ≡ of_two (codes ",") a b → IsNoArrow g
pair_no_arrow g a b is = subst IsNoArrow (sym is) (λ e. refl)

either_no_arrow : (g a b : Tree) → g ≡ of_two (codes ";") a b → IsNoArrow g
either_no_arrow g a b is = subst IsNoArrow (sym is) (λ e. refl)

pub made_joined : (c : Text) (ps : List Part) (xs : List Step) (g a b : Tree) (rest : List Tree) → g ≡ of_two (codes ",") a b
    → Made c ps xs (a ∷ b ∷ rest) → Made c (merged ps) (charged 1 xs) (g ∷ rest)
made_joined c [] xs g a b rest is h = absurd h
made_joined c (p ∷ []) xs g a b rest is h = absurd h.4
made_joined c (p ∷ q ∷ ps) xs g a b rest is h =
    let behind = h.4 in
    let P : List Step → Type 0 = Segment c g in
    let Q : List Step → Type 0 = λ v. Made c ps v rest in (
      omega (arith, h.0),
      omega (arith, h.1, behind.1, length-charged 1 xs, length-drop p.len xs),
      pair_no_arrow g a b is,
      subst P (sym (take-charged p.len q.len xs h.0 h.1))
          (segment_join c g a b (take p.len xs) (take q.len (drop p.len xs)) is (omega (arith, h.0, h.1, length-take p.len xs)) h.3 behind.3),
      subst Q (sym (drop-charged p.len q.len xs h.0 h.1)) behind.4,
    )

-- ---- parts of which there are two

pub two_none : (ps : List Part) (n : ℕ) → HasTwo (reverse ps) n → ps ≡ [] → ⊥
two_none ps n two none = let P : List Part → Type 0 = λ v. HasTwo (reverse v) n in subst P none two

pub two_one : (ps less : List Part) (p : Part) (n : ℕ) → HasTwo (reverse ps) n → ps ≡ less ++ p ∷ [] → less ≡ [] → ⊥
two_one ps less p n two top none =
    let P : List Part → Type 0 = λ v. HasTwo (reverse v) n in
    let Q : List Part → Type 0 = λ v. HasTwo (reverse (v ++ p ∷ [])) n in
    subst Q none (subst P top two)

some_steps : (ps : List Part) (n : ℕ) → HasTwo ps n → 0 < n
some_steps [] n two = absurd two
some_steps (p ∷ []) n two = absurd two
some_steps (p ∷ q ∷ ps) n two = omega (arith, two.0, two.1)

pub two_steps : (ps : List Part) (steps : List Step) → HasTwo ps (length steps) → steps ≡ [] → ⊥
two_steps ps steps two none = omega (arith, some_steps ps (length steps) two, ap length none)

-- ---- one part more

made_one : (c : Text) (arrow : Option Arrow) (op : Op) (at : ℕ) (ps : List Part) (xs : List Step) (g : Tree) (rest : List Tree)
    → Known c g arrow 1 → Segment c g (step op at) → Made c ps xs rest → Made c (record { len = 1; arrow = arrow } ∷ ps) (record { op = op; conjunctions = 0; goal = at } ∷ xs) (g ∷ rest)
made_one c arrow op at ps xs g rest known segment h = (omega arith, omega arith, known, segment, h)

pub made_goal : (c : Text) (at : ℕ) (ps : List Part) (xs : List Step) (g : Tree) (rest : List Tree)
    → IsNoArrow g → Args c at (g ∷ []) → Made c ps xs rest → Made c (record { len = 1; arrow = None } ∷ ps) (record { op = ops.Goal; conjunctions = 0; goal = at } ∷ xs) (g ∷ rest)
made_goal c at ps xs g rest plain node h = made_one c None ops.Goal at ps xs g rest plain (one_step c ops.Goal at g refl node) h

-- ---- `;` and `->`

pub either_put : (d : Text) (l r : ℕ) (g a b : Tree) (rest : List Tree) (ps : List Part) (zs : List Step) → g ≡ of_two (codes ";") a b → IsNoArrow a
    → Branches a b rest d l r ps zs → Made d (record { len = 1; arrow = None } ∷ ps) (record { op = ops.Or l r; conjunctions = 0; goal = 0 } ∷ zs) (g ∷ rest)
either_put d l r g a b rest ps zs is plain h =
    made_one d None (ops.Or l r) 0 ps zs g rest (either_no_arrow g a b is) (segment_either d l r g a b is plain h.left_begins h.right_begins) h.rest

-- the topmost part is no `->`
pub made_branch : (c : Text) (ps : List Part) (xs : List Step) (a : Tree) (gs : List Tree) → arrow_of ps ≡ None → Made c ps xs (a ∷ gs) → IsNoArrow a
made_branch c [] xs a gs none h = absurd h
made_branch c (p ∷ ps) xs a gs none h =
    let P : Option Arrow → Type 0 = λ o. Known c a o p.len in
    subst P none h.2

pub arrow_put : (d : Text) (l r : ℕ) (g a b : Tree) (rest : List Tree) (ps : List Part) (zs : List Step) → IsCode d → g ≡ of_two (codes "->") a b
    → Branches a b rest d l r ps zs
    → Made d (record { len = 1; arrow = Some (record { condition = l; then = r }) } ∷ ps) (record { op = ops.IfThen l r; conjunctions = 0; goal = 0 } ∷ zs) (g ∷ rest)
arrow_put d l r g a b rest ps zs code is h =
    made_one d (Some (record { condition = l; then = r })) (ops.IfThen l r) 0 ps zs g rest
    (record { one = refl; first = a; second = b; is = is; condition_begins = h.left_begins; then_begins = h.right_begins })
    (segment_arrow d l r g a b code is h.left_begins h.right_begins) h.rest

module _ (c : Text) (code : IsCode c) (s1 : List Step) (arrow : Arrow) (p q : Part) (ps : List Part) (xs ys zs : List Step) (e : ℕ)
    (top : p.arrow ≡ Some arrow) (popped : ys ≡ drop 1 xs)
    (put : s1 ≡ c.steps ++ (step ops.Proceed 0 ++ reverse (take q.len ys))) (at : e ≡ length c.steps + q.len) (behind : zs ≡ drop q.len ys)
    (g a b : Tree) (rest : List Tree) (is : g ≡ of_two (codes ";") a b) (h : Made c (p ∷ q ∷ ps) xs (a ∷ b ∷ rest))
  where
    waits : Awaits c a arrow p.len
    waits = let P : Option Arrow → Type 0 = λ o. Known c a o p.len in subst P top h.2

    next : Made c (q ∷ ps) ys (b ∷ rest)
    next =
        let w = waits in
        let Q : List Step → Type 0 = λ v. Made c (q ∷ ps) v (b ∷ rest) in
        let rest_is : drop p.len xs ≡ ys = ap (λ n. drop n xs) w.one ∙ sym popped in
        subst Q rest_is h.4

    else_at : e ≡ length c.steps + length (take q.len ys)
    else_at = let n = next in omega (arith, at, n.1, length-take q.len ys)

    pub else_extended : Extended c (with_steps c s1)
    else_extended = let n = next in sequence_extended c code b (take q.len ys) s1 e n.3 put else_at

    pub else_code : IsCode (with_steps c s1)
    else_code = let n = next in sequence_code c code b (take q.len ys) s1 e n.3 put else_at

    pub else_put : Made (with_steps c s1) (record { len = 1; arrow = None } ∷ ps) (record { op = ops.IfThenElse arrow.condition arrow.then e; conjunctions = 0; goal = 0 } ∷ zs) (g ∷ rest)
    else_put =
        let d = with_steps c s1 in
        let w = waits in
        let n = next in
        let R : List Step → Type 0 = λ v. Made d ps v rest in
        made_one d None (ops.IfThenElse arrow.condition arrow.then e) 0 ps zs g rest (either_no_arrow g a b is)
        (segment_else d arrow.condition arrow.then e g w.first w.second b (is ∙ ap (λ (t : Tree). of_two (codes ";") t b) w.is)
        (Begins-more c d arrow.condition w.first code else_extended w.condition_begins)
        (Begins-more c d arrow.then w.second code else_extended w.then_begins)
        (sequence_begins c code b (take q.len ys) s1 e n.3 put else_at))
        (subst R (sym behind) (Made-more c d ps (drop q.len ys) rest code else_extended n.4))
