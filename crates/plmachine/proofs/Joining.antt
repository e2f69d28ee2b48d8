-- Values of terms without variables, behind others.
use Rattle.std.proofs.Common.{◌≡◌, ℕ, zero, suc, ◌+◌, ◌<◌, Bool, true, List, [], ◌∷◌, ◌++◌, length, map, take, drop, get_or, sym, ap, ap₂, ◌∙◌, subst, arith, append-nil}
use Rattle.std.specs.List.{list_all}
use Rattle.std.proofs.lemmas.Bool.{and_parts}
use Rattle.std.proofs.lemmas.List.{append_assoc}
use Rattle.std.proofs.Math.Seq.{take-append_seam, drop-append_seam}
use Rattle.plbuiltin.specs.Solution.{against}
use Rattle.plterm.specs.Tree.{Tree}
use Rattle.plterm.specs.Ground.{is_ground}
use Rattle.plterm.specs.Variables.{variables}
use Rattle.plcells.specs.declared.cell.Cell.{Cell}
use Rattle.plcells.specs.Store.{value, IsValue, AreValues}
use Rattle.plstack.specs.State.{State, Extends}
use Rattle.plmachine.specs.Lists.{Grown}
use Rattle.plmachine.proofs.Gathering.{values-kept, values-pushed}
use Rattle.plmachine.proofs.Ground.{variables-ground}
use Rattle.plmachine.proofs.Lists.{grown-trans, lengthened-grown, lengthened-same}

pub passes-at : {A : Type 0} (p : A → Bool) (xs : List A) (i : ℕ) (d : A) → i < length xs → list_all p xs ≡ true → p (get_or xs i d) ≡ true
passes-at p [] i d lt all = absurd (omega (arith, lt))
passes-at p (x ∷ xs) zero d lt all = (and_parts _ _ all).0
passes-at p (x ∷ xs) (suc i) d lt all = passes-at p xs i d (omega (arith, lt)) (and_parts _ _ all).1

-- a copy of a term without variables is put
pub grown-ground : (s t : State) (x : Tree) → is_ground x ≡ true → Extends s t → t.env.count ≡ s.env.count + length (variables x) → Grown s t
grown-ground s t x ground e count = record { extends = e; count = omega (arith, count, ap length (variables-ground x ground)) }

-- the values of some terms stand behind others
pub record Joins (old new : State) (vs all : List Cell) (ts : List Tree) : Type 0 where
  pub there : AreValues new.env.heap all
  pub are : map (value new.env.heap) all ≡ map (value old.env.heap) vs ++ ts
  pub grown : Grown old new

pub joins-none : (s : State) (vs : List Cell) → AreValues s.env.heap vs → Joins s s vs vs []
joins-none s vs fit = record { there = fit; are = sym (append-nil (map (value s.env.heap) vs)); grown = lengthened-grown s s (lengthened-same s) }

pub joins-more : (old st new : State) (vs all after : List Cell) (ts us : List Tree) (t : Tree) (v : Cell) → Joins old st vs all ts → Grown st new → IsValue new.env.heap v → value new.env.heap v ≡ t →
    us ≡ ts ++ t ∷ [] → after ≡ all ++ v ∷ [] → Joins old new vs after us
joins-more old st new vs all after ts us t v j g fits is made pushed =
    let kept = values-kept st.env.heap new.env.heap g.extends.values all j.there in
    let more = values-pushed new.env.heap all v kept.0 fits in
    let are : map (value new.env.heap) (all ++ v ∷ []) ≡ map (value old.env.heap) vs ++ (ts ++ t ∷ []) =
    more.1 ∙ ap₂ (λ xs x. xs ++ x ∷ []) (kept.1 ∙ j.are) is ∙ append_assoc (map (value old.env.heap) vs) ts (t ∷ []) in
    subst (λ xs. Joins old new vs after xs) (sym made) (subst (λ ws. Joins old new vs ws (ts ++ t ∷ [])) (sym pushed) (record { there = more.0; are = are; grown = grown-trans old st new j.grown g }))

-- the groups that are left of a call are the terms behind its values
pub groups-left : (us xs ts : List Tree) (k : ℕ) → us ≡ xs ++ ts → k ≡ length xs → map (against (take k us)) (drop (k + 0) us) ≡ map (against xs) ts
groups-left us xs ts k is many =
    let same : length xs + 0 ≡ length xs = omega arith in
    ap₂ (λ vs n. map (against (take n vs)) (drop (n + 0) vs)) is many
    ∙ ap₂ (λ ys n. map (against ys) (drop n (xs ++ ts))) (take-append_seam xs ts) same
    ∙ ap (map (against xs)) (drop-append_seam xs ts)
