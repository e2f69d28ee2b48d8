-- One more entry of a world.
use Rattle.std.proofs.Common.{◌≡◌, ◌++◌, ◌+◌, ◌<◌, ◌≤◌, ℕ, suc, true, false, List, [], ◌∷◌, refl, sym, ◌∙◌, ap, ap₂, subst, arith, length, length-append, fold}
use Rattle.std.proofs.lemmas.List.{append-nil, take-append-drop, take-append-le, length-take-le}
use Rattle.std.proofs.lemmas.List.Sums.{fold-append}
use Rattle.std.proofs.Math.Seq.{take-length}
use Rattle.plevent.specs.declared.update.Update.{Update}
use Rattle.plevent.specs.declared.update.ClauseName.{ClauseName}
use Rattle.plevent.specs.declared.act.Entry.{Entry}
use Rattle.plevent.specs.declared.standing.Standing.{Standing}
use Rattle.std.specs.Prelude.{nat_lt, cond, take, drop}
use Rattle.std.proofs.lemmas.List.Elements.{filter-append}
use Rattle.std.proofs.lemmas.Bool.Decides.{nat_tests}
use Rattle.plevent.specs.Alive.{Stamped, stamped, named, before, living, exists, is_alive}
use Rattle.plevent.specs.Reading.{Reading, read, reading, stand, updates_of, blank}
use Rattle.plrecords.specs.Kept.{Kept, keep, nothing, walk, is_there, here}
use Rattle.plrecords.specs.Rising.{AllBelowPlace, Rises, AllUnder, Ordered}
use Rattle.plstore.proofs.Search.{place-keep}
use Rattle.plstore.proofs.Whole.{walk-is, there-is, here-is}
use Rattle.plstore.specs.declared.query.Query.{Query}
use Rattle.plstore.specs.Looking.{found, found_in}
use Rattle.plstore.proofs.Looking.{look-is}
use Rattle.plterm.specs.declared.indicator.Indicator.{Indicator}
use Rattle.plworld.specs.Worlds.{IsWorld}
use Rattle.plworld.proofs.Names.{ordered-append}

rises-stamped : (a b k : ℕ) (vs : List Update) → a ≤ b → Rises a (stamped b k vs)
rises-stamped a b k [] h = tt
rises-stamped a b k (v ∷ vs) h = (h, rises-stamped b b (suc k) vs (omega arith))

rises-append : (a b k : ℕ) (us : List Stamped) (vs : List Update) → a ≤ b → Rises a us → AllUnder b us → Rises a (us ++ stamped b k vs)
rises-append a b k [] vs h up un = rises-stamped a b k vs h
rises-append a b k (s ∷ us) vs h up un = let l : s.at.place ≤ b = omega (arith, un.0) in (up.0, rises-append s.at.place b k us vs l up.1 un.1)

under-stamped : (b k : ℕ) (vs : List Update) → AllUnder (suc b) (stamped b k vs)
under-stamped b k [] = tt
under-stamped b k (v ∷ vs) = (omega arith, under-stamped b (suc k) vs)

under-append : (b k : ℕ) (us : List Stamped) (vs : List Update) → AllUnder b us → AllUnder (suc b) (us ++ stamped b k vs)
under-append b k [] vs un = under-stamped b k vs
under-append b k (s ∷ us) vs un = let l : s.at.place < suc b = omega (arith, un.0) in (l, under-append b k us vs un.1)

pub record Placed (r : Reading) : Type 0 where
  pub rises : Rises 0 r.updates
  pub names : Ordered r.updates
  pub under : AllUnder r.standing.size r.updates

placed-read : (r : Reading) (e : Entry) → Placed r → Placed (read r e)
placed-read r e o = record {
  rises = rises-append 0 r.standing.size 0 r.updates (updates_of e.act) (omega arith) o.rises o.under;
  names = ordered-append r.standing.size 0 r.updates (updates_of e.act) o.under o.names;
  under = under-append r.standing.size 0 r.updates (updates_of e.act) o.under;
}

placed-fold : (r : Reading) (es : List Entry) → Placed r → Placed (fold read r es)
placed-fold r [] o = o
placed-fold r (e ∷ es) o = placed-fold (read r e) es (placed-read r e o)

pub ordered : (h : List Entry) → Placed (reading h)
unfolding reading
ordered h = placed-fold blank h (record { rises = tt; names = tt; under = tt })

-- the reading of one more entry
pub reading-push : (h : List Entry) (e : Entry) → reading (h ++ e ∷ []) ≡ read (reading h) e
unfolding reading
reading-push h e = fold-append read blank h (e ∷ [])

below-fold : (g : ℕ) (us : List Stamped) (rs : Kept) → AllUnder g us → AllBelowPlace g rs.records → AllBelowPlace g (fold keep rs us).records
below-fold g [] rs un all = all
below-fold g (s ∷ us) rs un all = below-fold g us (keep rs s) un.1 (place-keep g s rs.records un.0 all)

pub IsWorld-push : (h : List Entry) (s : Standing) (rs : Kept) (e : Entry) (s2 : Standing) (rs2 : Kept) → IsWorld h s rs →
    s2 ≡ stand s e → rs2 ≡ fold keep rs (stamped s.size 0 (updates_of e.act)) → IsWorld (h ++ e ∷ []) s2 rs2
IsWorld-push h s rs e s2 rs2 w es er =
    let st : s2 ≡ (reading (h ++ e ∷ [])).standing = es ∙ ap (λ x. stand x e) w.standing ∙ sym (ap (λ r. r.standing) (reading-push h e)) in
    let sr : rs2 ≡ fold keep nothing (reading (h ++ e ∷ [])).updates =
    er ∙ ap₂ (λ a b. fold keep a (stamped b 0 (updates_of e.act))) w.store (ap (λ x. x.size) w.standing)
    ∙ sym (fold-append keep nothing (reading h).updates (stamped (reading h).standing.size 0 (updates_of e.act)))
    ∙ sym (ap (λ r. fold keep nothing r.updates) (reading-push h e)) in
    let sz : s2.size ≡ suc s.size = ap (λ x. x.size) es in
    record {
      standing = st;
      store = sr;
      size = omega (arith, sz, w.size, length-append h (e ∷ []));
      below = subst (λ x. AllBelowPlace x rs2.records) (sym (ap (λ x. x.size) st))
          (subst (λ k. AllBelowPlace (reading (h ++ e ∷ [])).standing.size k.records) (sym sr)
          (below-fold (reading (h ++ e ∷ [])).standing.size (reading (h ++ e ∷ [])).updates nothing (ordered (h ++ e ∷ [])).under (λ k d l. absurd (omega arith))));
    }

-- the batches below g are those of the first g entries
before-append : (g : ℕ) (us vs : List Stamped) → before g (us ++ vs) ≡ before g us ++ before g vs
unfolding before
before-append g us vs = filter-append (λ s. nat_lt s.at.place g) us vs

before-stamped : (g b k : ℕ) (vs : List Update) → g ≤ b → before g (stamped b k vs) ≡ []
unfolding before
before-stamped g b k [] h = refl
before-stamped g b k (v ∷ vs) h = let e : nat_lt b g ≡ false = grind (arith, nat_tests) in ap (λ t. cond t (record { at = named b k; update = v } ∷ before g (stamped b (suc k) vs)) (before g (stamped b (suc k) vs))) e ∙ before-stamped g b (suc k) vs h

before-under : (g : ℕ) (us : List Stamped) → AllUnder g us → before g us ≡ us
unfolding before
before-under g [] h = refl
before-under g (s ∷ us) h = let l : s.at.place < g = h.0 in let e : nat_lt s.at.place g ≡ true = grind (arith, nat_tests) in ap (λ t. cond t (s ∷ before g us) (before g us)) e ∙ ap (λ l. s ∷ l) (before-under g us h.1)

before-fold : (g : ℕ) (r : Reading) (es : List Entry) → g ≤ r.standing.size → before g (fold read r es).updates ≡ before g r.updates
before-fold g r [] h = refl
before-fold g r (e ∷ es) h =
    before-fold g (read r e) es (omega arith)
    ∙ before-append g r.updates (stamped r.standing.size 0 (updates_of e.act))
    ∙ ap (λ l. before g r.updates ++ l) (before-stamped g r.standing.size 0 (updates_of e.act) h)
    ∙ append-nil (before g r.updates)

size-fold : (r : Reading) (es : List Entry) → (fold read r es).standing.size ≡ r.standing.size + length es
size-fold r [] = omega arith
size-fold r (e ∷ es) = let h = size-fold (read r e) es in omega (arith, h)

size-is : (h : List Entry) → (reading h).standing.size ≡ length h
unfolding reading
size-is h = let e = size-fold blank h in omega (arith, e)

reading-take : (g : ℕ) (h : List Entry) → reading h ≡ fold read (reading (take g h)) (drop g h)
unfolding reading
reading-take g h = ap (λ l. fold read blank l) (sym (take-append-drop g h)) ∙ fold-append read blank (take g h) (drop g h)

pub before-is : (g : ℕ) (h : List Entry) → g ≤ length h → before g (reading h).updates ≡ (reading (take g h)).updates
before-is g h l =
    let z : (reading (take g h)).standing.size ≡ g = size-is (take g h) ∙ length-take-le g h l in
    ap (λ r. before g r.updates) (reading-take g h)
    ∙ before-fold g (reading (take g h)) (drop g h) (omega (arith, z))
    ∙ before-under g (reading (take g h)).updates (subst (λ n. AllUnder n (reading (take g h)).updates) z (ordered (take g h)).under)

empty : IsWorld [] blank.standing nothing
unfolding reading
empty = record { standing = refl; store = refl; size = refl; below = λ k d l. absurd (omega arith) }

pub IsWorld-blank : (h : List Entry) (s : Standing) (rs : Kept) → h ≡ [] → s ≡ blank.standing → rs ≡ nothing → IsWorld h s rs
IsWorld-blank h s rs eh es er = subst (λ h. IsWorld h s rs) (sym eh) (subst (λ s. IsWorld [] s rs) (sym es) (subst (λ rs. IsWorld [] blank.standing rs) (sym er) empty))

pub under-is : (h : List Entry) → AllUnder (length h) (reading h).updates
under-is h = subst (λ n. AllUnder n (reading h).updates) (size-is h) (ordered h).under

pub walk-at : (g : ℕ) (p : Indicator) (h : List Entry) → g ≤ length h → walk g p (fold keep nothing (reading h).updates).records ≡ living (reading (take g h)).updates p
walk-at g p h l = walk-is g p (reading h).updates (ordered h).rises ∙ ap (λ us. living us p) (before-is g h l)

pub there-at : (g : ℕ) (p : Indicator) (h : List Entry) → g ≤ length h → is_there g p (fold keep nothing (reading h).updates) ≡ exists (reading (take g h)).updates p
there-at g p h l = there-is g p (reading h).updates ∙ ap (λ us. exists us p) (before-is g h l)

pub alive-at : (g : ℕ) (x : ClauseName) (h : List Entry) → g ≤ length h → here g x (fold keep nothing (reading h).updates) ≡ is_alive x (reading (take g h)).updates
alive-at g x h l = here-is g x (reading h).updates (ordered h).rises ∙ ap (is_alive x) (before-is g h l)

-- a clause that the store sees now is alive
pub alive-now : (h : List Entry) (s : Standing) (k : Kept) (x : ClauseName) → IsWorld h s k → here s.size x k ≡ is_alive x (reading h).updates
alive-now h s k x w = ap₂ (λ g k. here g x k) w.size w.store ∙ alive-at (length h) x h (omega arith) ∙ ap (λ l. is_alive x (reading l).updates) (take-length h)

-- what a query finds in the store is what it finds in the journal's updates
pub look-now : (g : ℕ) (q : Query) (h : List Entry) (s : Standing) (k : Kept) → IsWorld h s k → found_in g q k ≡ found (before g (reading h).updates) q
look-now g q h s k w = ap (found_in g q) w.store ∙ look-is g q (reading h).updates (ordered h).rises

-- later entries change nothing below an earlier place
pub view-stays : (g : ℕ) (h more : List Entry) → g ≤ length h → before g (reading (h ++ more)).updates ≡ before g (reading h).updates
view-stays g h more l =
    let w : g ≤ length (h ++ more) = omega (arith, length-append h more) in
    before-is g (h ++ more) w ∙ ap (λ es. (reading es).updates) (take-append-le g h more l) ∙ sym (before-is g h l)

pub names-rise : (h : List Entry) → Ordered (reading h).updates
names-rise h = (ordered h).names
