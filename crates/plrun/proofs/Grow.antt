-- What stays as the journal grows.
use Rattle.std.proofs.Common.{◌≡◌, ℕ, zero, suc, ◌+◌, ◌≤◌, Bool, true, false, List, [], ◌∷◌, ◌++◌, length, fold, Option, Some, None, refl, sym, ap, ◌∙◌, subst, arith, nat_eq, length-append, lt-ltb, ltb-true}
use Rattle.std.specs.List.{All}
use Rattle.std.specs.Option.{option_and_then}
use Rattle.std.proofs.lemmas.List.{take-append-le}
use Rattle.std.proofs.lemmas.List.Elements.{All-append}
use Rattle.plevent.specs.declared.act.Act.{Act}
use Rattle.plevent.specs.declared.act.Entry.{Entry}
use Rattle.plevent.specs.declared.update.Update.{Update}
use Rattle.plevent.specs.Reading.{Reading, reading, read}
use Rattle.plevent.specs.Rows.{served}
use Rattle.plevent.specs.Search.{Item, View, Ask, Answer, Next, item_of}
use Rattle.plhist.specs.Legal.{IsDue, AllDue, Legal, ByOneWorker, opening}
use Rattle.plrun.specs.Going.{IsSound}
use Rattle.plhist.specs.Follows.{own, own_from, own_if, Taken, guarded, not_below, replied, answered, answer_at, item_at, takes}

due-push : (r : Reading) (es : List Entry) (e : Entry) → AllDue r es → IsDue (fold read r es) e → AllDue r (es ++ e ∷ [])
due-push r [] e all due = (due, tt)
due-push r (x ∷ xs) e all due = (all.0, due-push (read r x) xs e all.1 due)

legal-push : (first : List Update) (h : List Entry) (e : Entry) → Legal first h → IsDue (reading h) e → Legal first (h ++ e ∷ [])
unfolding reading
legal-push first h e legal due = record {
  later = legal.later ++ e ∷ [];
  opens = ap (λ l. l ++ e ∷ []) legal.opens;
  due = due-push (reading (opening first ∷ [])) legal.later e legal.due (subst (λ l. IsDue (reading l) e) legal.opens due);
}

pub one-worker : (e : Entry) → e.worker ≡ 1 → All (λ e. e.worker ≡ 1) (e ∷ [])
one-worker e one zero d lt = one
one-worker e one (suc k) d lt = absurd (omega arith)

-- a journal with one more entry that is due, by worker 1
pub sound-push : (first : List Update) (h : List Entry) (e : Entry) → IsSound first h → IsDue (reading h) e → e.worker ≡ 1 → IsSound first (h ++ e ∷ [])
sound-push first h e sound due one =
    let legal = sound.legal in record {
      legal = legal-push first h e legal due;
      workers = subst (λ l. ByOneWorker (l ++ e ∷ [])) (sym legal.opens) (All-append (λ e. e.worker ≡ 1) legal.later (e ∷ []) (subst ByOneWorker legal.opens sound.workers) (one-worker e one));
    }

own_if-append : (b : Bool) (i : ℕ) (a : Act) (xs ys : List (ℕ × Act)) → own_if b i a (xs ++ ys) ≡ own_if b i a xs ++ ys
own_if-append true i a xs ys = refl
own_if-append false i a xs ys = refl

own_from-push : (i t : ℕ) (es : List Entry) (e : Entry) → own_from i t (es ++ e ∷ []) ≡ own_from i t es ++ own_if (nat_eq e.thread t) (i + length es) e.act []
own_from-push i t [] e = let same : i ≡ i + 0 = omega arith in ap (λ j. own_if (nat_eq e.thread t) j e.act []) same
own_from-push i t (x ∷ xs) e =
    let same : suc i + length xs ≡ i + suc (length xs) = omega arith in
    ap (λ l. own_if (nat_eq x.thread t) i x.act l) (own_from-push (suc i) t xs e ∙ ap (λ j. own_from (suc i) t xs ++ own_if (nat_eq e.thread t) j e.act []) same)
    ∙ own_if-append (nat_eq x.thread t) i x.act (own_from (suc i) t xs) (own_if (nat_eq e.thread t) (i + suc (length xs)) e.act [])

-- an entry is its thread's, at its place
pub own-push : (t : ℕ) (h : List Entry) (e : Entry) → own t (h ++ e ∷ []) ≡ own t h ++ own_if (nat_eq e.thread t) (length h) e.act []
unfolding own
own-push t h e = let same : 0 + length h ≡ length h = omega arith in own_from-push 0 t h e ∙ ap (λ j. own_from 0 t h ++ own_if (nat_eq e.thread t) j e.act []) same

answered-grow : (h more : List Entry) (t : ℕ) (q : Item) (g : ℕ) (s : Taken) → g ≤ length h → answered (h ++ more) t q g s ≡ answered h t q g s
answered-grow h more t View g s within = rw (take-append-le g h more within) refl
answered-grow h more t (Ask q) g s within = ap (λ front. replied (served q t (reading front)) g s) (take-append-le g h more within)

guarded_is : {A : Type 0} (b : Bool) (a : Option A) (x : A) → guarded b a ≡ Some x → b ≡ true
guarded_is true a x is = refl
guarded_is false a x is = absurd (grind (arith, is))

-- an item that was answered is answered so in each longer journal
pub answer-grow : (h more : List Entry) (t : ℕ) (q : Item) (g : ℕ) (s s' : Taken) → answer_at h t q g s ≡ Some s' → answer_at (h ++ more) t q g s ≡ Some s'
unfolding answer_at
answer-grow h more t q g s s' is =
    let within : g ≤ length h = omega (arith, ltb-true g (suc (length h)) (guarded_is (not_below g (length h)) (guarded (not_below s.low g) (answered h t q g s)) s' is)) in
    let still : not_below g (length (h ++ more)) ≡ true = lt-ltb g (suc (length (h ++ more))) (omega (arith, within, length-append h more)) in
    let was : not_below g (length h) ≡ true = lt-ltb g (suc (length h)) (omega (arith, within)) in
    ap (λ b. guarded b (guarded (not_below s.low g) (answered (h ++ more) t q g s))) (still ∙ sym was)
    ∙ ap (λ a. guarded (not_below g (length h)) (guarded (not_below s.low g) a)) (answered-grow h more t q g s within)
    ∙ is

item-grow : (h more : List Entry) (t : ℕ) (q : Option Item) (g : ℕ) (s s' : Taken) → item_at h t q g s ≡ Some s' → item_at (h ++ more) t q g s ≡ Some s'
item-grow h more t None g s s' is = is
item-grow h more t (Some q) g s s' is = answer-grow h more t q g s s' is

-- the items so far are answered as before
pub takes-grow : (asks : List Answer → Next) (h more : List Entry) (t : ℕ) (gs : List ℕ) (s s' : Taken) → takes asks h t gs s ≡ Some s' → takes asks (h ++ more) t gs s ≡ Some s'
unfolding takes
takes-grow asks h more t [] s s' is = is
takes-grow asks h more t (g ∷ gs) s s' is = go (λ m. takes-grow asks h more t gs m s') (item_at h t (item_of (asks s.answers)) g s) refl
  where
    go : ((m : Taken) → takes asks h t gs m ≡ Some s' → takes asks (h ++ more) t gs m ≡ Some s') → (x : Option Taken) → item_at h t (item_of (asks s.answers)) g s ≡ x →
        option_and_then (λ s. takes asks (h ++ more) t gs s) (item_at (h ++ more) t (item_of (asks s.answers)) g s) ≡ Some s'
    go next None at = absurd (grind (arith, sym (ap (option_and_then (λ s. takes asks h t gs s)) at) ∙ is))
    go next (Some m) at =
        ap (option_and_then (λ s. takes asks (h ++ more) t gs s)) (item-grow h more t (item_of (asks s.answers)) g s m at)
        ∙ next m (sym (ap (option_and_then (λ s. takes asks h t gs s)) at) ∙ is)

-- one more item
pub takes-push : (asks : List Answer → Next) (h : List Entry) (t : ℕ) (gs : List ℕ) (g : ℕ) (s m : Taken) → takes asks h t gs s ≡ Some m →
    takes asks h t (gs ++ g ∷ []) s ≡ option_and_then (λ s. Some s) (item_at h t (item_of (asks m.answers)) g m)
unfolding takes
takes-push asks h t [] g s m is = ap (λ x. option_and_then (λ s. option_and_then (λ s. Some s) (item_at h t (item_of (asks s.answers)) g s)) x) is
takes-push asks h t (x ∷ xs) g s m is = go (λ y. takes-push asks h t xs g y m) (item_at h t (item_of (asks s.answers)) x s) refl
  where
    go : ((y : Taken) → takes asks h t xs y ≡ Some m → takes asks h t (xs ++ g ∷ []) y ≡ option_and_then (λ s. Some s) (item_at h t (item_of (asks m.answers)) g m)) → (o : Option Taken) → item_at h t (item_of (asks s.answers)) x s ≡ o →
        option_and_then (λ s. takes asks h t (xs ++ g ∷ []) s) (item_at h t (item_of (asks s.answers)) x s) ≡ option_and_then (λ s. Some s) (item_at h t (item_of (asks m.answers)) g m)
    go next None at = absurd (grind (arith, sym (ap (option_and_then (λ s. takes asks h t xs s)) at) ∙ is))
    go next (Some y) at =
        ap (option_and_then (λ s. takes asks h t (xs ++ g ∷ []) s)) at
        ∙ next y (sym (ap (option_and_then (λ s. takes asks h t xs s)) at) ∙ is)
