-- Activations that end, go on and begin, in one call after another.
use Rattle.std.proofs.Common.{◌≡◌, ◌⊎◌, inl, inr, ℕ, suc, ◌+◌, ◌≤◌, ◌<◌, List, [], ◌∷◌, ◌++◌, length, length-append, map, refl, sym, ap, ap₂, ◌∙◌, subst, append_assoc, arith}
use Rattle.std.proofs.lemmas.List.{map-append}
use Rattle.std.specs.List.{AllByRecursion}
use Rattle.plcells.specs.Store.{Store, value}
use Rattle.plviews.specs.declared.view.View.{View}
use Rattle.plstore.specs.declared.query.Query.{Query}
use Rattle.plstack.specs.declared.frame.Walk.{Walk}
use Rattle.plstack.specs.Places.{head_in}
use Rattle.plstack.specs.State.{State, walks_in, EndsWalks}
use Rattle.plmachine.specs.declared.machine.Find.{Find}
use Rattle.plmachine.specs.declared.machine.Mode.{Mode as Going}
use Rattle.plmachine.specs.declared.machine.Mode.TheVariants as modes
use Rattle.plmachine.specs.declared.machine.Machine.{Machine as Reached}
use Rattle.plmachine.specs.Machine.{IsPlain}
use Rattle.plsolver.specs.Asking.{activations, find_asks, in_cases, in_hand, spot_asks, Activation, AllGone, BecomesWalk, Further, GoesFurther, GoesOnAs, InCase, InHand, IsPart, LooksOn, MayBegin, Onward, SeeksOn, SeesOwn}

-- ---- lists of what goes on

module _ {A : Type 0} (R : A → A → Type 0) where
  pub all_same : ((a : A) → R a a) → (ws : List A) → AllGone R ws ws
  all_same same [] = tt
  all_same same (w ∷ ws) = (same w, all_same same ws)

  all_trans : ((a b c : A) → R a b → R b c → R a c) → (ws xs ys : List A) → AllGone R ws xs → AllGone R xs ys → AllGone R ws ys
  all_trans trans [] [] [] f g = tt
  all_trans trans [] [] (y ∷ ys) f g = absurd g
  all_trans trans [] (x ∷ xs) ys f g = absurd f
  all_trans trans (w ∷ ws) [] ys f g = absurd f
  all_trans trans (w ∷ ws) (x ∷ xs) [] f g = absurd g
  all_trans trans (w ∷ ws) (x ∷ xs) (y ∷ ys) f g = (trans w x y f.0 g.0, all_trans trans ws xs ys f.1 g.1)

-- what stands behind the first of some
record BehindFirst {A : Type 0} (R : A → A → Type 0) (ws kept : List A) : Type 0 where
  first : List A
  others : List A
  is : ws ≡ first ++ others
  further : AllGone R others kept

behind_first : {A : Type 0} (R : A → A → Type 0) (ws ended kept : List A) → AllGone R ws (ended ++ kept) → BehindFirst R ws kept
behind_first R ws [] kept f = record { first = []; others = ws; is = refl; further = f }
behind_first R [] (e ∷ es) kept f = absurd f
behind_first R (w ∷ ws) (e ∷ es) kept f =
    let r = behind_first R ws es kept f.1 in
    record { first = w ∷ r.first; others = r.others; is = ap (λ xs. w ∷ xs) r.is; further = r.further }

-- two ways to divide a list
abbrev Divides : {A : Type 0} → List A → List A → List A → List A → Type 0
Divides {A} a b c d = ((m : List A) × (c ≡ a ++ m) × (b ≡ m ++ d)) ⊎ ((m : List A) × (a ≡ c ++ m) × (d ≡ m ++ b))

divides : {A : Type 0} (a b c d : List A) → a ++ b ≡ c ++ d → Divides a b c d
divides [] b c d e = inl (c, refl, e)
divides (x ∷ a) b [] d e = inr (x ∷ a, refl, sym e)
divides (x ∷ a) b (y ∷ c) d e =
    let head : x ≡ y = cc in
    let tail : a ++ b ≡ c ++ d = cc in
    by-way (divides a b c d tail) head
  where
    by-way : Divides a b c d → x ≡ y → Divides (x ∷ a) b (y ∷ c) d
    by-way (inl w) h = inl (w.0, ap₂ (λ z zs. z ∷ zs) (sym h) w.1, w.2)
    by-way (inr w) h = inr (w.0, ap₂ (λ z zs. z ∷ zs) h w.1, w.2)

-- ---- walks

walk_same : (w : Walk) → GoesFurther w w
walk_same w = record { goal = refl; uses = refl; view = refl; asks = λ v h. ([], refl) }

walk_trans : (a b c : Walk) → GoesFurther a b → GoesFurther b c → GoesFurther a c
walk_trans a b c f g = record {
  goal = g.goal ∙ f.goal;
  uses = g.uses ∙ f.uses;
  view = g.view ∙ f.view;
  asks = λ v h.
      let x = f.asks v h in
      let y = g.asks v h in
      (x.0 ++ y.0, x.1 ∙ ap (λ qs. x.0 ++ qs) y.1 ∙ sym (append_assoc x.0 y.0 (spot_asks v h c.spot)));
}

pub walks_same : (ws : List Walk) → AllGone GoesFurther ws ws
walks_same ws = all_same GoesFurther walk_same ws

pub further_ends : (s t : State) → EndsWalks s t → Further s t
further_ends s t e = record { ended = e.0; kept = walks_in t; was = e.1; further = walks_same (walks_in t) }

pub further_same : (s t : State) → walks_in t ≡ walks_in s → Further s t
further_same s t e = further_ends s t ([], sym e)

pub further_refl : (s : State) → Further s s
further_refl s = further_same s s refl

pub further_trans : (r s t : State) → Further r s → Further s t → Further r t
further_trans r s t f g =
    let b = behind_first GoesFurther f.kept g.ended g.kept (subst (AllGone GoesFurther f.kept) g.was f.further) in
    record {
      ended = f.ended ++ b.first;
      kept = b.others;
      was = f.was ∙ ap (λ ws. f.ended ++ ws) b.is ∙ sym (append_assoc f.ended b.first b.others);
      further = all_trans GoesFurther walk_trans b.others g.kept (walks_in t) b.further g.further;
    }

-- ---- activations

pub looks_same : (s : Store) (f : Find) → LooksOn s f s f
looks_same s f = record { first = λ x b e. (refl, refl); asks = λ v. ([], refl) }

pub looks_trans : (s t u : Store) (f g h : Find) → LooksOn s f t g → LooksOn t g u h → LooksOn s f u h
looks_trans s t u f g h x y = record {
  first = λ k b e.
      let last = y.first k b e in
      let before = x.first k b (last.0 ∙ e) in
      (before.0 ∙ last.0, last.1 ∙ before.1);
  asks = λ v.
      let m = x.asks v in
      let n = y.asks v in
      (m.0 ++ n.0, m.1 ∙ ap (λ qs. m.0 ++ qs) n.1 ∙ sym (append_assoc m.0 n.0 (find_asks v u h)));
}

part_behind : (all part : List Query) (gone qs : List Query) → all ≡ gone ++ qs → IsPart qs part → IsPart all part
part_behind all part gone qs is p = record {
  before = gone ++ p.before;
  behind = p.behind;
  is = is ∙ ap (λ xs. gone ++ xs) p.is ∙ sym (append_assoc gone p.before (part ++ p.behind));
}

part_of_part : (all qs gone part : List Query) → IsPart all qs → qs ≡ gone ++ part → IsPart all part
part_of_part all qs gone part p is = record {
  before = p.before ++ gone;
  behind = p.behind;
  is = p.is ∙ ap (λ xs. p.before ++ (xs ++ p.behind)) is ∙ ap (λ xs. p.before ++ xs) (append_assoc gone part p.behind) ∙ sym (append_assoc p.before gone (part ++ p.behind));
}

becomes_later : (s t : Store) (f g : Find) (w : Walk) → LooksOn s f t g → BecomesWalk t g w → BecomesWalk s f w
becomes_later s t f g w x b =
    let first = x.first b.sought b.view b.first in
    record {
      sought = b.sought;
      view = b.view;
      first = first.0 ∙ b.first;
      goal = b.goal;
      uses = b.uses;
      seen = b.seen;
      own = b.own;
      asks = λ v.
          let m = x.asks v in
          part_behind (find_asks v s f) (spot_asks v (head_in b.sought.uses (value s b.sought.goal)) w.spot) m.0 (find_asks v t g) m.1
          (subst (λ h. IsPart (find_asks v t g) (spot_asks v (head_in b.sought.uses h) w.spot)) first.1 (b.asks v));
    }

sees : (a b : Walk) → GoesFurther a b → SeesOwn a → SeesOwn b
sees a b f own = subst (λ (v : View). 0 < v.count) (sym f.view) own

becomes_further : (s : Store) (f : Find) (w x : Walk) → BecomesWalk s f w → GoesFurther w x → BecomesWalk s f x
becomes_further s f w x b g = record {
  sought = b.sought;
  view = b.view;
  first = b.first;
  goal = g.goal ∙ b.goal;
  uses = g.uses ∙ b.uses;
  seen = g.view ∙ b.seen;
  own = sees w x g b.own;
  asks = λ v.
      let h = head_in b.sought.uses (value s b.sought.goal) in
      let m = g.asks v h in
      part_of_part (find_asks v s f) (spot_asks v h w.spot) m.0 (spot_asks v h x.spot) (b.asks v) m.1;
}

gone_same : (a : Activation) → GoesOnAs a a
gone_same (InHand s f) = looks_same s f
gone_same (InCase w) = walk_same w

gone_trans : (a b c : Activation) → GoesOnAs a b → GoesOnAs b c → GoesOnAs a c
gone_trans (InHand s f) (InHand t g) (InHand u h) x y = looks_trans s t u f g h x y
gone_trans (InHand s f) (InHand t g) (InCase w) x y = becomes_later s t f g w x y
gone_trans (InHand s f) (InCase w) (InHand u h) x y = absurd y
gone_trans (InHand s f) (InCase w) (InCase z) x y = becomes_further s f w z x y
gone_trans (InCase w) (InHand t g) c x y = absurd x
gone_trans (InCase w) (InCase z) (InHand u h) x y = absurd y
gone_trans (InCase w) (InCase z) (InCase k) x y = walk_trans w z k x y

begin_on : (a b : Activation) → GoesOnAs a b → MayBegin a → MayBegin b
begin_on (InHand s f) (InHand t g) x own = tt
begin_on (InHand s f) (InCase w) x own = x.own
begin_on (InCase w) (InHand t g) x own = absurd x
begin_on (InCase w) (InCase z) x own = sees w z x own

-- the first of some activations, which have begun, and the others
record BegunFirst (bs ls cs : List Activation) : Type 0 where
  first : List Activation
  others : List Activation
  is : cs ≡ first ++ others
  own : AllByRecursion MayBegin first
  count : length first ≡ length bs
  further : AllGone GoesOnAs ls others

begun_first : (bs ls cs : List Activation) → AllByRecursion MayBegin bs → AllGone GoesOnAs (bs ++ ls) cs → BegunFirst bs ls cs
begun_first [] ls cs own f = record { first = []; others = cs; is = refl; own = tt; count = refl; further = f }
begun_first (b ∷ bs) ls [] own f = absurd f
begun_first (b ∷ bs) ls (c ∷ cs) own f =
    let r = begun_first bs ls cs own.1 f.1 in
    record { first = c ∷ r.first; others = r.others; is = ap (λ ws. c ∷ ws) r.is; own = (begin_on b c f.0 own.0, r.own); count = ap suc r.count; further = r.further }

begun_both : (xs ys : List Activation) → AllByRecursion MayBegin xs → AllByRecursion MayBegin ys → AllByRecursion MayBegin (xs ++ ys)
begun_both [] ys a b = b
begun_both (x ∷ xs) ys a b = (a.0, begun_both xs ys a.1 b)

begun_last : (xs ys : List Activation) → AllByRecursion MayBegin (xs ++ ys) → AllByRecursion MayBegin ys
begun_last [] ys a = a
begun_last (x ∷ xs) ys a = begun_last xs ys a.1

-- where nothing has begun
onward_from : (n : ℕ) (xs ended ys : List Activation) → xs ≡ ended ++ ys → Onward n xs ys
onward_from n xs ended ys was = record { ended = ended; kept = ys; begun = []; left = ys; was = was; now = refl; further = all_same GoesOnAs gone_same ys; own = tt; few = omega arith }

pub onward_refl : (n : ℕ) (xs : List Activation) → Onward n xs xs
onward_refl n xs = onward_from n xs [] xs refl

pub onward_trans : (m n k : ℕ) (xs ys zs : List Activation) → m + n ≤ k → Onward m xs ys → Onward n ys zs → Onward k xs zs
onward_trans m n k xs ys zs most f g = by-way (divides f.begun f.left g.ended g.kept (sym f.now ∙ g.was))
  where
    by-way : Divides f.begun f.left g.ended g.kept → Onward k xs zs
    -- those that had begun have ended, and maybe others
    by-way (inl w) =
        let b = behind_first GoesOnAs f.kept w.0 g.kept (subst (AllGone GoesOnAs f.kept) w.2 f.further) in
        record {
          ended = f.ended ++ b.first;
          kept = b.others;
          begun = g.begun;
          left = g.left;
          was = f.was ∙ ap (λ ws. f.ended ++ ws) b.is ∙ sym (append_assoc f.ended b.first b.others);
          now = g.now;
          further = all_trans GoesOnAs gone_trans b.others g.kept g.left b.further g.further;
          own = g.own;
          few = omega (arith, g.few, most);
        }
    -- some that had begun are still there
    by-way (inr w) =
        let o = begun_first w.0 f.left g.left (begun_last g.ended w.0 (subst (AllByRecursion MayBegin) w.1 f.own)) (subst (λ ks. AllGone GoesOnAs ks g.left) w.2 g.further) in
        let there : length f.begun ≡ length g.ended + length w.0 = ap length w.1 ∙ length-append g.ended w.0 in
        record {
          ended = f.ended;
          kept = f.kept;
          begun = g.begun ++ o.first;
          left = o.others;
          was = f.was;
          now = g.now ∙ ap (λ ws. g.begun ++ ws) o.is ∙ sym (append_assoc g.begun o.first o.others);
          further = all_trans GoesOnAs gone_trans f.kept f.left o.others f.further o.further;
          own = begun_both g.begun o.first g.own o.own;
          few = omega (arith, length-append g.begun o.first, o.count, there, f.few, g.few, most);
        }

-- ---- of machines

plain_hand : (s : Store) (m : Going) → IsPlain m → in_hand s m ≡ []
plain_hand s modes.Visit plain = refl
plain_hand s (modes.Ask q) plain = refl
plain_hand s (modes.Find f) plain = absurd plain
plain_hand s (modes.Back r) plain = refl

-- where nothing is sought, the walks are all
pub plain_cases : (s : Reached) → IsPlain s.mode → activations s ≡ in_cases s.stack
plain_cases s plain = ap (λ xs. xs ++ in_cases s.stack) (plain_hand s.stack.env.heap s.mode plain)

cases_gone : (ws xs : List Walk) → AllGone GoesFurther ws xs → AllGone GoesOnAs (map InCase ws) (map InCase xs)
cases_gone [] [] f = tt
cases_gone [] (x ∷ xs) f = absurd f
cases_gone (w ∷ ws) [] f = absurd f
cases_gone (w ∷ ws) (x ∷ xs) f = (f.0, cases_gone ws xs f.1)

-- walks that end and go on
pub onward_further : (s t : State) → Further s t → Onward 0 (in_cases s) (in_cases t)
onward_further s t f = record {
  ended = map InCase f.ended;
  kept = map InCase f.kept;
  begun = [];
  left = in_cases t;
  was = ap (map InCase) f.was ∙ map-append InCase f.ended f.kept;
  now = refl;
  further = cases_gone f.kept (walks_in t) f.further;
  own = tt;
  few = omega arith;
}

-- and a look-up in hand that has ended with some of them
pub onward_ends : (s : Reached) (t : State) → EndsWalks s.stack t → Onward 0 (activations s) (in_cases t)
onward_ends s t e =
    onward_from 0 (activations s) (in_hand s.stack.env.heap s.mode ++ map InCase e.0) (in_cases t)
    (ap (λ xs. in_hand s.stack.env.heap s.mode ++ xs) (ap (map InCase) e.1 ∙ map-append InCase e.0 (walks_in t)) ∙ sym (append_assoc (in_hand s.stack.env.heap s.mode) (map InCase e.0) (in_cases t)))

pub onward_plain : (s t : Reached) → IsPlain t.mode → EndsWalks s.stack t.stack → Onward 0 (activations s) (activations t)
onward_plain s t plain e = subst (Onward 0 (activations s)) (sym (plain_cases t plain)) (onward_ends s t.stack e)

-- a look-up goes on as another one
pub onward_seeks : (s t : Reached) → walks_in t.stack ≡ walks_in s.stack → SeeksOn s t → Onward 0 (activations s) (activations t)
onward_seeks s t walks seeks = by-mode t.mode refl
  where
    ends : IsPlain t.mode → Onward 0 (activations s) (activations t)
    ends plain = onward_plain s t plain ([], sym walks)

    by-mode : (m : Going) → t.mode ≡ m → Onward 0 (activations s) (activations t)
    by-mode (modes.Find g) is =
        let f = seeks g is in
        record {
          ended = [];
          kept = InHand s.stack.env.heap f.0 ∷ in_cases s.stack;
          begun = [];
          left = InHand t.stack.env.heap g ∷ in_cases s.stack;
          was = ap (λ m. in_hand s.stack.env.heap m ++ in_cases s.stack) f.1;
          now = ap₂ (λ m ws. in_hand t.stack.env.heap m ++ map InCase ws) is walks;
          further = (f.2, all_same GoesOnAs gone_same (in_cases s.stack));
          own = tt;
          few = omega arith;
        }
    by-mode modes.Visit is = ends (subst IsPlain (sym is) tt)
    by-mode (modes.Ask q) is = ends (subst IsPlain (sym is) tt)
    by-mode (modes.Back r) is = ends (subst IsPlain (sym is) tt)

-- or has become a walk
pub onward_becomes : (s t : Reached) (f : Find) (w : Walk) → s.mode ≡ modes.Find f → IsPlain t.mode → walks_in t.stack ≡ w ∷ walks_in s.stack → BecomesWalk s.stack.env.heap f w → Onward 0 (activations s) (activations t)
onward_becomes s t f w at plain walks becomes = record {
  ended = [];
  kept = InHand s.stack.env.heap f ∷ in_cases s.stack;
  begun = [];
  left = InCase w ∷ in_cases s.stack;
  was = ap (λ m. in_hand s.stack.env.heap m ++ in_cases s.stack) at;
  now = plain_cases t plain ∙ ap (map InCase) walks;
  further = (becomes, all_same GoesOnAs gone_same (in_cases s.stack));
  own = tt;
  few = omega arith;
}

-- a step: a look-up may have begun
pub onward_step : (s t : Reached) → IsPlain s.mode → EndsWalks s.stack t.stack → Onward 1 (activations s) (activations t)
onward_step s t plain e = record {
  ended = map InCase e.0;
  kept = in_cases t.stack;
  begun = in_hand t.stack.env.heap t.mode;
  left = in_cases t.stack;
  was = plain_cases s plain ∙ ap (map InCase) e.1 ∙ map-append InCase e.0 (walks_in t.stack);
  now = refl;
  further = all_same GoesOnAs gone_same (in_cases t.stack);
  own = may_begin t.mode;
  few = one t.mode;
}
  where
    may_begin : (m : Going) → AllByRecursion MayBegin (in_hand t.stack.env.heap m)
    may_begin modes.Visit = tt
    may_begin (modes.Ask q) = tt
    may_begin (modes.Find f) = (tt, tt)
    may_begin (modes.Back r) = tt

    one : (m : Going) → length (in_hand t.stack.env.heap m) ≤ 1
    one modes.Visit = omega arith
    one (modes.Ask q) = omega arith
    one (modes.Find f) = omega arith
    one (modes.Back r) = omega arith
