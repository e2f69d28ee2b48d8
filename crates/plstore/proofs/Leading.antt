-- Where links and runs lead, on either side: a walk comes to no clause between that is seen.
use Rattle.std.proofs.Common.{◌≡◌, ◌+◌, ◌-◌, inl, inr, refl, sym, ◌∙◌, ap, subst, arith, ℕ, suc, ◌<◌, ◌≤◌, Bool, true, false, List, Option, Some, None, length, get_or, drop, nat_lt}
use Rattle.std.specs.Prelude.{IfSome}
use Rattle.std.specs.Option.{option_or}
use Rattle.std.proofs.lemmas.List.{length-drop, length-map}
use Rattle.std.proofs.lemmas.Bool.Decides.{nat_tests}
use Rattle.plevent.specs.Alive.{change_if}
use Rattle.plrecords.specs.declared.ends.Ends.{Ends}
use Rattle.plrecords.specs.declared.links.Links.{Links}
use Rattle.plrecords.specs.declared.record.Record.{Record}
use Rattle.plrecords.specs.declared.runs.ErasedRun.{ErasedRun}
use Rattle.plrecords.specs.declared.runs.RecordNotes.{RecordNotes}
use Rattle.plstore.specs.Chains.{IsChain}
use Rattle.plrecords.specs.Kept.{seen}
use Rattle.plrecords.specs.Links.{last_below, first_from, first_end, front_of, back_of, fronts, backs, Class, IsIndexed, IsLinked, Marked}
use Rattle.plstore.specs.Merged.{MayStand}
use Rattle.plrecords.specs.Parts.{after, left, marks}
use Rattle.plrecords.specs.Runs.{end_at, no_place, AllGone, HasRuns}
use Rattle.plrecords.proofs.Bits.{LastIs, cases, get-drop, last-none, last-some, none-first}
use Rattle.plrecords.proofs.Chains.{mark-within, up-some}
use Rattle.plrecords.proofs.Passing.{first-above, hidden, linked}
use Rattle.plstore.proofs.Visible.{front-is, back-is}

-- which records are of c, on one side
abbrev pub side_of : Bool → Class → Record → Bool
side_of true c r = front_of c r
side_of false c r = back_of c r

pub marks-is : (f : Bool) (c : Class) (rs : List Record) (j : ℕ) (d : Record) → j < length rs → get_or (marks f c rs) j false ≡ side_of f c (get_or rs j d)
marks-is true c rs j d l = front-is c rs j d l
marks-is false c rs j d l = back-is c rs j d l

pub mark-in : (f : Bool) (c : Class) (rs : List Record) (i : ℕ) → get_or (marks f c rs) i false ≡ true → i < length rs
mark-in true c rs i h = mark-within (front_of c) rs i h
mark-in false c rs i h = mark-within (back_of c) rs i h

pub after-within : (f : Bool) (n i : ℕ) → i < n → after f n i < n
after-within true n i l = omega arith
after-within false n i l = omega arith

-- the first mark within the last m of a walk
pub record LeadsTo (f : Bool) (c : Class) (rs : List Record) (m : ℕ) (to : Option ℕ) : Type 0 where
  pub mark : Marked (marks f c rs) to
  pub order : left f (length rs) to ≤ m
  pub passed : (j : ℕ) → get_or (marks f c rs) j false ≡ true → after f (length rs) j < m → after f (length rs) j < left f (length rs) to

last-leads : (c : Class) (rs : List Record) (m : ℕ) (to : Option ℕ) → to ≡ last_below (fronts c rs) m → LeadsTo true c rs m to
last-leads c rs m None e = record { mark = tt; order = omega arith; passed = λ j h l. let z : get_or (fronts c rs) j false ≡ false = last-none (fronts c rs) m (sym e) j l in absurd (cc) }
last-leads c rs m (Some k) e =
    let b : LastIs (fronts c rs) m k = last-some (fronts c rs) m k (sym e) in
    record {
      mark = b.here;
      order = omega (arith, b.within);
      passed = λ j h l. elim (cases k j) [
        | inl lt ↦ let z : get_or (fronts c rs) j false ≡ false = b.above j lt l in absurd (cc)
        | inr o ↦ elim o [ inl q ↦ omega arith | inr gt ↦ omega arith ]
      ];
    }

first-leads : (c : Class) (rs : List Record) (k : ℕ) (to : Option ℕ) → k ≤ length rs → to ≡ first_from k (drop k (backs c rs)) → LeadsTo false c rs (length rs - k) to
first-leads c rs k None b e = record { mark = tt; order = omega arith; passed = λ j h l. absurd (none j h l) }
  where
    none : (j : ℕ) → get_or (backs c rs) j false ≡ true → length rs - suc j < length rs - k → ⊥
    none j h l =
        let in-list = mark-within (back_of c) rs j h in
        let lo : k ≤ j = omega (arith, l, in-list) in
        let len : j - k < length (drop k (backs c rs)) = omega (arith, lo, in-list, length-drop k (backs c rs), length-map rs (back_of c)) in
        let at : k + (j - k) ≡ j = omega (arith, lo) in
        let z : get_or (backs c rs) j false ≡ false = ap (λ n. get_or (backs c rs) n false) (sym at) ∙ sym (get-drop k (backs c rs) (j - k)) ∙ none-first k (drop k (backs c rs)) (sym e) (j - k) len in
        absurd (cc)
first-leads c rs k (Some i) b e =
    let u = up-some c rs (length rs - k) k i (omega (arith, b)) (sym e) in
    record {
      mark = u.mark;
      order = omega (arith, u.above, u.within);
      passed = λ j h l. let in-list = mark-within (back_of c) rs j h in elim (cases j i) [
        | inl lt ↦ absurd (first-above (backs c rs) (length (backs c rs) - k) k i (omega (arith, b, length-map rs (back_of c))) (sym e) j (omega (arith, l, in-list)) lt h)
        | inr o ↦ elim o [ inl q ↦ omega arith | inr gt ↦ omega (arith, u.within) ]
      ];
    }

pub next-leads : (f : Bool) (c : Class) (rs : List Record) (next : List (Option ℕ)) (i : ℕ) (to : Option ℕ) → IsLinked c rs next → get_or (marks f c rs) i false ≡ true → to ≡ get_or next i None →
    LeadsTo f c rs (after f (length rs) i) to
next-leads true c rs next i to links h e = last-leads c rs i to (e ∙ links.older i h)
next-leads false c rs next i to links h e = let l = mark-in false c rs i h in first-leads c rs (suc i) to (omega (arith, l)) (e ∙ links.newer i h)

head-leads : (f : Bool) (c : Class) (rs : List Record) (next : List (Option ℕ)) (e : Ends) → IsIndexed c rs next e → LeadsTo f c rs (length rs) (first_end f e)
head-leads true c rs next e ix = last-leads c rs (length rs) e.newest_front ix.front
head-leads false c rs next e ix = let q : length rs - 0 ≡ length rs = omega arith in subst (λ m. LeadsTo false c rs m e.oldest_back) q (first-leads c rs 0 e.oldest_back (omega arith) ix.oldest)

-- where a run ends that a walk at g passes over
pub record EndsAt (f : Bool) (c : Class) (g : ℕ) (rs : List Record) (i n : ℕ) : Type 0 where
  pub order : after f (length rs) n ≤ after f (length rs) i
  pub mark : get_or (marks f c rs) n false ≡ true
  pub passed : (j : ℕ) (d : Record) → j < length rs → get_or (marks f c rs) j false ≡ true → seen g (get_or rs j d) ≡ true → after f (length rs) j < after f (length rs) i → after f (length rs) j < after f (length rs) n

lt-below : (a b : ℕ) → nat_lt a b ≡ true → a < b
lt-below a b e = grind (arith, nat_tests)

gone-over : (bs : List Bool) (g b : ℕ) (rs : List Record) (low high j : ℕ) (d : Record) → b < g → AllGone bs rs b low high → low ≤ j → j ≤ high → get_or bs j false ≡ true → seen g (get_or rs j d) ≡ true → ⊥
gone-over bs g b rs low high j d l gone lo hi h s = let z : seen g (get_or rs j d) ≡ false = hidden b g (get_or rs j d) l (gone j d lo hi h) in absurd (cc)

run-ends : (f : Bool) (c : Class) (g : ℕ) (rs : List Record) (places : List RecordNotes) (i : ℕ) (r : ErasedRun) → HasRuns c rs places → get_or (marks f c rs) i false ≡ true → (get_or places i no_place).run ≡ Some r → r.latest < g → EndsAt f c g rs i r.last
run-ends true c g rs places i r runs h k l =
    let a = (runs.each i r k).down h in
    record {
      order = a.order;
      mark = a.mark;
      passed = λ j d w m s b. elim (cases j r.last) [
        | inl lt ↦ lt
        | inr o ↦ absurd (gone-over (fronts c rs) g r.latest rs r.last i j d l a.gone (elim o [ inl q ↦ omega arith | inr gt ↦ omega arith ]) (omega (arith, b)) m s)
      ];
    }
run-ends false c g rs places i r runs h k l =
    let a = (runs.each i r k).up h in
    let w = mark-within (back_of c) rs r.last a.mark in
    let wi = mark-within (back_of c) rs i h in
    record {
      order = omega (arith, a.order);
      mark = a.mark;
      passed = λ j d wj m s b. elim (cases r.last j) [
        | inl lt ↦ omega (arith, w, wj)
        | inr o ↦ absurd (gone-over (backs c rs) g r.latest rs i r.last j d l a.gone (omega (arith, b, wi, wj)) (elim o [ inl q ↦ omega arith | inr gt ↦ omega arith ]) m s)
      ];
    }

pub ends-at : (f : Bool) (c : Class) (g : ℕ) (rs : List Record) (places : List RecordNotes) (i n : ℕ) → HasRuns c rs places → get_or (marks f c rs) i false ≡ true → n ≡ end_at g i (get_or places i no_place).run → EndsAt f c g rs i n
ends-at f c g rs places i n runs h e = subst (EndsAt f c g rs i) (sym e) (by-run (get_or places i no_place).run refl)
  where
    here : EndsAt f c g rs i i
    here = record { order = omega arith; mark = h; passed = λ j d w m s b. b }

    by-test : (r : ErasedRun) → (get_or places i no_place).run ≡ Some r → (v : Bool) → nat_lt r.latest g ≡ v → EndsAt f c g rs i (change_if v r.last i)
    by-test r k false t = here
    by-test r k true t = run-ends f c g rs places i r runs h k (lt-below r.latest g t)

    by-run : (o : Option ErasedRun) → (get_or places i no_place).run ≡ o → EndsAt f c g rs i (end_at g i o)
    by-run None k = here
    by-run (Some r) k = by-test r k (nat_lt r.latest g) refl

-- a walk may begin at the first record of all
pub stand-first : (f : Bool) (c : Class) (g : ℕ) (rs : List Record) (next : List (Option ℕ)) (e : Ends) (m : ℕ) → IsIndexed c rs next e → MayStand f c g rs m (first_end f e)
stand-first f c g rs next e m ix =
    let a = head-leads f c rs next e ix in
    record { mark = a.mark; passed = λ j d w h s l. a.passed j h (after-within f (length rs) j w) }

-- what the link behind a run leads to
module _ (f : Bool) (c : Class) (g : ℕ) (rs : List Record) (links : Links) (e : Ends) (ch : IsChain c rs links e) (i : ℕ) (h : get_or (marks f c rs) i false ≡ true) where
  over : EndsAt f c g rs i (end_at g i (get_or links.places.items i no_place).run)
  over = ends-at f c g rs links.places.items i _ ch.runs h refl

  pub over-within : end_at g i (get_or links.places.items i no_place).run < length links.next.items
  over-within = let l = mark-in f c rs _ over.mark in omega (arith, l, ch.indexed.count)

  module _ (to : Option ℕ) (t : to ≡ get_or links.next.items (end_at g i (get_or links.places.items i no_place).run) None) where
    leads : LeadsTo f c rs (after f (length rs) (end_at g i (get_or links.places.items i no_place).run)) to
    leads = next-leads f c rs links.next.items _ to (linked c rs links.next.items e ch.indexed) over.mark t

    pub step-order : left f (length rs) to ≤ after f (length rs) i
    step-order = omega (arith, leads.order, over.order)

    pub step-stands : (m : ℕ) → m ≤ after f (length rs) i → MayStand f c g rs m to
    step-stands m l = record { mark = leads.mark; passed = λ j d w k s b. leads.passed j k (over.passed j d w k s (omega (arith, l, b))) }

-- one that is found, or else the other
pub either : (P : Option ℕ → Type 0) (o q : Option ℕ) → IfSome o (λ i. P (Some i)) → P q → P (option_or o q)
either P None q h k = k
either P (Some i) q h k = h
