-- What the items of a run come to: each adds an answer, and at most one entry, which stands at its place.
use Rattle.std.proofs.Common.{◌≡◌, ℕ, suc, ◌+◌, ◌<◌, ◌≤◌, Bool, true, false, List, [], ◌∷◌, ◌++◌, length, take, Option, Some, None, refl, sym, ap, ◌∙◌, subst, arith, append_assoc, append-nil, length-append, ltb-true}
use Rattle.std.specs.Option.{option_and_then}
use Rattle.std.proofs.lemmas.List.{append_cancel_left}
use Rattle.std.proofs.lemmas.List.Elements.{All-nil, All-cons, All-append}
use Rattle.plevent.specs.declared.request.Reply.{Reply}
use Rattle.plevent.specs.declared.act.Act.{Act}
use Rattle.plevent.specs.declared.act.Entry.{Entry}
use Rattle.plevent.specs.Reading.{reading}
use Rattle.plevent.specs.Rows.{served}
use Rattle.plevent.specs.Search.{Item, View, Ask, Answer, Seen, Got, Next, item_of}
use Rattle.plhist.specs.Follows.{Taken, is_not_yet, noted, guarded, not_below, answered, answer_at, item_at, takes}
use Rattle.plrunlaws.specs.Standing.{AreBelow, AreFrom}
use Rattle.plrunlaws.proofs.Lists.{heads, all-more}

pub the-same : {A : Type 0} (a b : A) → Some a ≡ Some b → a ≡ b
the-same a b is = cc

pub none-some : {A B : Type 0} (a : A) → ◌≡◌ {A = Option A} None (Some a) → B
none-some {A} {B} a is = absurd (never is)
  where
    never : ◌≡◌ {A = Option A} None (Some a) → ⊥
    never is = cc

pub below-more : (g g' : ℕ) (xs : List (ℕ × Act)) → g ≤ g' → AreBelow g xs → AreBelow g' xs
below-more g g' xs le all = all-more (λ x. x.0 < g) (λ x. x.0 < g') xs (λ x lt. omega (arith, le, lt)) all

pub from-more : (g g' : ℕ) (xs : List (ℕ × Act)) → g ≤ g' → AreFrom g' xs → AreFrom g xs
from-more g g' xs le all = all-more (λ x. g' ≤ x.0) (λ x. g ≤ x.0) xs (λ x at. omega (arith, le, at)) all

-- what some items add
pub record Adds (s s' : Taken) : Type 0 where
  pub answers : List Answer
  pub answered : s'.answers ≡ s.answers ++ answers
  pub new : List (ℕ × Act)
  pub made : s'.made ≡ s.made ++ new
  pub below : AreBelow s'.low new
  pub from : AreFrom s.low new
  pub rises : s.low ≤ s'.low

adds-none : (s : Taken) → Adds s s
adds-none s = record {
  answers = [];
  answered = sym (append-nil s.answers);
  new = [];
  made = sym (append-nil s.made);
  below = All-nil (λ x. x.0 < s.low);
  from = All-nil (λ x. s.low ≤ x.0);
  rises = omega arith;
}

adds-both : (s m s' : Taken) → Adds s m → Adds m s' → Adds s s'
adds-both s m s' a b =
    let first = a.rises in
    let second = b.rises in record {
      answers = a.answers ++ b.answers;
      answered = b.answered ∙ ap (λ l. l ++ b.answers) a.answered ∙ append_assoc s.answers a.answers b.answers;
      new = a.new ++ b.new;
      made = b.made ∙ ap (λ l. l ++ b.new) a.made ∙ append_assoc s.made a.new b.new;
      below = All-append (λ x. x.0 < s'.low) a.new b.new (below-more m.low s'.low a.new second a.below) b.below;
      from = All-append (λ x. s.low ≤ x.0) a.new b.new a.from (from-more s.low m.low b.new first b.from);
      rises = omega (arith, first, second);
    }

-- what one item adds, at its place
pub record AddsOne (g : ℕ) (s s' : Taken) : Type 0 where
  pub adds : Adds s s'
  pub answer : Answer
  pub only : adds.answers ≡ answer ∷ []
  pub behind : s.low ≤ g
  pub before : g ≤ s'.low

guarded-is : {A : Type 0} (b : Bool) (o : Option A) (x : A) → guarded b o ≡ Some x → (b ≡ true) × (o ≡ Some x)
guarded-is true o x is = (refl, is)
guarded-is false o x is = none-some x is

adds-answer : (g : ℕ) (a : Answer) (s : Taken) → s.low ≤ g → AddsOne g s (record { answers = s.answers ++ a ∷ []; low = g; made = s.made })
adds-answer g a s le = record {
  adds = record {
    answers = a ∷ [];
    answered = refl;
    new = [];
    made = sym (append-nil s.made);
    below = All-nil (λ x. x.0 < g);
    from = All-nil (λ x. s.low ≤ x.0);
    rises = le;
  };
  answer = a;
  only = refl;
  behind = le;
  before = omega arith;
}

adds-entry : (g : ℕ) (a : Answer) (x : Act) (s : Taken) → s.low ≤ g → AddsOne g s (record { answers = s.answers ++ a ∷ []; low = suc g; made = s.made ++ (g, x) ∷ [] })
adds-entry g a x s le = record {
  adds = record {
    answers = a ∷ [];
    answered = refl;
    new = (g, x) ∷ [];
    made = refl;
    below = All-cons (λ x. x.0 < suc g) (g, x) [] (omega arith) (All-nil (λ x. x.0 < suc g));
    from = All-cons (λ x. s.low ≤ x.0) (g, x) [] le (All-nil (λ x. s.low ≤ x.0));
    rises = omega (arith, le);
  };
  answer = a;
  only = refl;
  behind = le;
  before = omega arith;
}

noted-adds : (b : Bool) (g : ℕ) (s s' : Taken) (q : Reply) (a : Option (ℕ × Act)) → s.low ≤ g → noted b g s q a ≡ Some s' → AddsOne g s s'
noted-adds true g s s' q a le is = none-some s' is
noted-adds false g s s' q None le is = subst (AddsOne g s) (the-same _ s' is) (adds-answer g (Got q) s le)
noted-adds false g s s' q (Some a) le is = subst (AddsOne g s) (the-same _ s' is) (adds-entry g (Got q) a.1 s le)

answered-adds : (h : List Entry) (t : ℕ) (q : Item) (g : ℕ) (s s' : Taken) → s.low ≤ g → answered h t q g s ≡ Some s' → AddsOne g s s'
answered-adds h t View g s s' le is = subst (AddsOne g s) (the-same _ s' is) (adds-answer g (Seen g (reading (take g h)).updates) s le)
answered-adds h t (Ask q) g s s' le is =
    let row = served q t (reading (take g h)) in noted-adds (is_not_yet row.0) g s s' row.0 row.1 le is

-- an item that is answered is so at a place not below those before
pub answer-is : (h : List Entry) (t : ℕ) (q : Item) (g : ℕ) (s s' : Taken) → answer_at h t q g s ≡ Some s' → (s.low ≤ g) × (answered h t q g s ≡ Some s')
unfolding answer_at
answer-is h t q g s s' is =
    let inside = guarded-is (not_below g (length h)) (guarded (not_below s.low g) (answered h t q g s)) s' is in
    let lower = guarded-is (not_below s.low g) (answered h t q g s) s' inside.1 in
    (omega (arith, ltb-true s.low (suc g) lower.0), lower.1)

pub answer-adds : (h : List Entry) (t : ℕ) (q : Item) (g : ℕ) (s s' : Taken) → answer_at h t q g s ≡ Some s' → AddsOne g s s'
answer-adds h t q g s s' is = let at = answer-is h t q g s s' is in answered-adds h t q g s s' at.0 at.1

-- the first of some items, and those behind it
pub takes-first : (asks : List Answer → Next) (h : List Entry) (t g : ℕ) (gs : List ℕ) (s s' : Taken) → takes asks h t (g ∷ gs) s ≡ Some s' →
    (m : Taken) × (item_at h t (item_of (asks s.answers)) g s ≡ Some m) × (takes asks h t gs m ≡ Some s')
unfolding takes
takes-first asks h t g gs s s' is = go (item_at h t (item_of (asks s.answers)) g s) refl
  where
    go : (o : Option Taken) → item_at h t (item_of (asks s.answers)) g s ≡ o → (m : Taken) × (item_at h t (item_of (asks s.answers)) g s ≡ Some m) × (takes asks h t gs m ≡ Some s')
    go None at = none-some s' (sym (ap (option_and_then (λ s. takes asks h t gs s)) at) ∙ is)
    go (Some m) at = (m, at, sym (ap (option_and_then (λ s. takes asks h t gs s)) at) ∙ is)

pub takes-more : (asks : List Answer → Next) (h : List Entry) (t g : ℕ) (gs : List ℕ) (s m s' : Taken) →
    item_at h t (item_of (asks s.answers)) g s ≡ Some m → takes asks h t gs m ≡ Some s' → takes asks h t (g ∷ gs) s ≡ Some s'
unfolding takes
takes-more asks h t g gs s m s' at is = ap (option_and_then (λ s. takes asks h t gs s)) at ∙ is

pub takes-nothing : (asks : List Answer → Next) (h : List Entry) (t : ℕ) (s : Taken) → takes asks h t [] s ≡ Some s
unfolding takes
takes-nothing asks h t s = refl

pub takes-none : (asks : List Answer → Next) (h : List Entry) (t : ℕ) (s s' : Taken) → takes asks h t [] s ≡ Some s' → s ≡ s'
unfolding takes
takes-none asks h t s s' is = the-same s s' is

pub takes-both : (asks : List Answer → Next) (h : List Entry) (t : ℕ) (gs ks : List ℕ) (s m s' : Taken) → takes asks h t gs s ≡ Some m → takes asks h t ks m ≡ Some s' → takes asks h t (gs ++ ks) s ≡ Some s'
takes-both asks h t [] ks s m s' first is = subst (λ x. takes asks h t ks x ≡ Some s') (sym (takes-none asks h t s m first)) is
takes-both asks h t (g ∷ gs) ks s m s' first is =
    let one = takes-first asks h t g gs s m first in
    takes-more asks h t g (gs ++ ks) s one.0 s' one.1 (takes-both asks h t gs ks one.0 m s' one.2 is)

pub item-adds : (h : List Entry) (t : ℕ) (o : Option Item) (g : ℕ) (s s' : Taken) → item_at h t o g s ≡ Some s' → AddsOne g s s'
item-adds h t None g s s' is = none-some s' is
item-adds h t (Some q) g s s' is = answer-adds h t q g s s' is

pub takes-adds : (asks : List Answer → Next) (h : List Entry) (t : ℕ) (gs : List ℕ) (s s' : Taken) → takes asks h t gs s ≡ Some s' → Adds s s'
takes-adds asks h t [] s s' is = subst (Adds s) (takes-none asks h t s s' is) (adds-none s)
takes-adds asks h t (g ∷ gs) s s' is =
    let one = takes-first asks h t g gs s s' is in
    adds-both s one.0 s' (item-adds h t (item_of (asks s.answers)) g s one.0 one.1).adds (takes-adds asks h t gs one.0 s' one.2)

-- as many answers come as there are places
pub takes-count : (asks : List Answer → Next) (h : List Entry) (t : ℕ) (gs : List ℕ) (s s' : Taken) → takes asks h t gs s ≡ Some s' → length s'.answers ≡ length s.answers + length gs
takes-count asks h t [] s s' is = let same = ap (λ s. length s.answers) (takes-none asks h t s s' is) in omega (arith, same)
takes-count asks h t (g ∷ gs) s s' is =
    let one = takes-first asks h t g gs s s' is in
    let more = item-adds h t (item_of (asks s.answers)) g s one.0 one.1 in
    let first : length one.0.answers ≡ length s.answers + 1 = ap length (more.adds.answered ∙ ap (λ l. s.answers ++ l) more.only) ∙ length-append s.answers (more.answer ∷ []) in
    let rest = takes-count asks h t gs one.0 s' one.2 in
    omega (arith, first, rest)

-- the items whose answers come first
pub record Splits (asks : List Answer → Next) (h : List Entry) (t : ℕ) (gs : List ℕ) (s s' : Taken) (xs : List Answer) : Type 0 where
  pub earlier : List ℕ
  pub later : List ℕ
  pub split : gs ≡ earlier ++ later
  pub so_far : Taken
  pub items : takes asks h t earlier s ≡ Some so_far
  pub rest : takes asks h t later so_far ≡ Some s'
  pub answers : so_far.answers ≡ s.answers ++ xs

-- where one answer comes first, and then others, and the first and some of them are known
answers-part : (old new all others : List Answer) (x a : Answer) (xs rest : List Answer) → new ≡ old ++ a ∷ [] → all ≡ new ++ others → all ≡ old ++ (x ∷ (xs ++ rest)) →
    (all ≡ new ++ (xs ++ rest)) × (new ++ xs ≡ old ++ (x ∷ xs))
answers-part old new all others x a xs rest new_is all_is whole =
    let joined : x ∷ (xs ++ rest) ≡ a ∷ others =
    append_cancel_left old (x ∷ (xs ++ rest)) (a ∷ others) (sym whole ∙ all_is ∙ ap (λ l. l ++ others) new_is ∙ append_assoc old (a ∷ []) others) in
    let same = heads x a (xs ++ rest) others joined in
    (all_is ∙ ap (λ l. new ++ l) (sym same.1), ap (λ l. l ++ xs) (new_is ∙ ap (λ a. old ++ a ∷ []) (sym same.0)) ∙ append_assoc old (x ∷ []) xs)

splits-more : (asks : List Answer → Next) (h : List Entry) (t g : ℕ) (gs : List ℕ) (s m s' : Taken) (x : Answer) (xs : List Answer) → item_at h t (item_of (asks s.answers)) g s ≡ Some m →
    m.answers ++ xs ≡ s.answers ++ (x ∷ xs) → Splits asks h t gs m s' xs → Splits asks h t (g ∷ gs) s s' (x ∷ xs)
splits-more asks h t g gs s m s' x xs one all found = record {
  earlier = g ∷ found.earlier;
  later = found.later;
  split = ap (λ l. g ∷ l) found.split;
  so_far = found.so_far;
  items = takes-more asks h t g found.earlier s m found.so_far one found.items;
  rest = found.rest;
  answers = found.answers ∙ all;
}

pub takes-split : (asks : List Answer → Next) (h : List Entry) (t : ℕ) (gs : List ℕ) (s s' : Taken) (xs rest : List Answer) → takes asks h t gs s ≡ Some s' → s'.answers ≡ s.answers ++ (xs ++ rest) → Splits asks h t gs s s' xs
unfolding takes
takes-split asks h t gs s s' [] rest is all = record { earlier = []; later = gs; split = refl; so_far = s; items = refl; rest = is; answers = sym (append-nil s.answers) }
takes-split asks h t [] s s' (x ∷ xs) rest is all = absurd (never (append_cancel_left s.answers [] (x ∷ (xs ++ rest)) (append-nil s.answers ∙ ap (λ s. s.answers) (takes-none asks h t s s' is) ∙ all)))
  where
    never : ◌≡◌ {A = List Answer} [] (x ∷ (xs ++ rest)) → ⊥
    never is = cc
takes-split asks h t (g ∷ gs) s s' (x ∷ xs) rest is all =
    let one = takes-first asks h t g gs s s' is in
    let m = one.0 in
    let first = item-adds h t (item_of (asks s.answers)) g s m one.1 in
    let others = takes-adds asks h t gs m s' one.2 in
    let m_is : m.answers ≡ s.answers ++ first.answer ∷ [] = first.adds.answered ∙ ap (λ l. s.answers ++ l) first.only in
    let both = answers-part s.answers m.answers s'.answers others.answers x first.answer xs rest m_is others.answered all in
    splits-more asks h t g gs s m s' x xs one.1 both.1 (takes-split asks h t gs m s' xs rest one.2 both.0)

pub takes-behind : (asks : List Answer → Next) (h : List Entry) (t : ℕ) (gs ks : List ℕ) (s m s' : Taken) → takes asks h t gs s ≡ Some m → takes asks h t (gs ++ ks) s ≡ Some s' → takes asks h t ks m ≡ Some s'
takes-behind asks h t [] ks s m s' first is = subst (λ x. takes asks h t ks x ≡ Some s') (takes-none asks h t s m first) is
takes-behind asks h t (g ∷ gs) ks s m s' first is =
    let one = takes-first asks h t g gs s m first in
    let other = takes-first asks h t g (gs ++ ks) s s' is in
    let same : one.0 ≡ other.0 = the-same one.0 other.0 (sym one.1 ∙ other.1) in
    takes-behind asks h t gs ks one.0 m s' one.2 (subst (λ x. takes asks h t (gs ++ ks) x ≡ Some s') (sym same) other.2)
