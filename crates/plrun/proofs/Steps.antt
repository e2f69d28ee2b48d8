-- The invariant of a thread, turn by turn.
use Rattle.std.proofs.Common.{◌≡◌, ℕ, suc, ◌≤◌, Bool, true, false, cond, filter, nat_lt, ltb-true, List, [], ◌∷◌, ◌++◌, length, Some, None, refl, sym, ap, ◌∙◌, subst, arith, length-append, append_assoc, append-nil, lt-ltb, eq-eqb}
use Rattle.std.specs.Option.{option_and_then}
use Rattle.std.proofs.Math.Seq.{take-append_seam}
use Rattle.plevent.specs.declared.request.Request.{Request}
use Rattle.plevent.specs.declared.request.Reply.{Reply}
use Rattle.plevent.specs.declared.act.Act.{Act}
use Rattle.plevent.specs.declared.act.Entry.{Entry}
use Rattle.plevent.specs.Alive.{Stamped, before}
use Rattle.plevent.specs.Reading.{reading}
use Rattle.plevent.specs.Rows.{served}
use Rattle.plevent.specs.Search.{Item, View, Ask, Answer, Seen, Got, Next, Wants, Search, item_of}
use Rattle.plhist.specs.Follows.{own, own_if, Taken, is_not_yet, noted, guarded, not_below, replied, answered, answer_at, item_at, takes, from_start, asks_of}
use Rattle.plsearch.specs.Solving.{Goes, TakesOne}
use Rattle.plstore.specs.Looking.{Views}
use Rattle.plrecords.specs.Rising.{AllUnder}
use Rattle.plstore.proofs.Names.{before-ordered}
use Rattle.plviews.specs.Views.{AreOrdered}
use Rattle.plworld.proofs.Push.{names-rise, view-stays}
use Rattle.plrun.specs.Going.{AreViews, Going, views_of}
use Rattle.plsearch.specs.Halts.{IsCommon, AreCommon}
use Rattle.plrun.proofs.Grow.{own-push, takes-grow, takes-push}
use Rattle.plrun.proofs.Free.{free-plain, is_plain}

-- what holds of two searches where the views are those of a journal
abbrev pub GoesAt : List Entry → ℕ → (Views → Search) → ℕ → (Views → Search) → ℕ → Type 0
GoesAt h limit old before new used = (v : Views) → AreViews h v → Goes limit (old v) before (new v) used

abbrev pub TakesAt : List Entry → Answer → (Views → Search) → ℕ → (Views → Search) → ℕ → Type 0
TakesAt h a old before new used = (v : Views) → AreViews h v → TakesOne a (old v) before (new v) used

-- the batches of a view are below its place
under_before : (g : ℕ) (us : List Stamped) → AllUnder g (before g us)
unfolding before
under_before g [] = tt
under_before g (s ∷ us) = go (nat_lt s.at.place g) refl (under_before g us)
  where
    go : (b : Bool) → nat_lt s.at.place g ≡ b → AllUnder g (filter (λ s. nat_lt s.at.place g) us) → AllUnder g (cond b (s ∷ filter (λ s. nat_lt s.at.place g) us) (filter (λ s. nat_lt s.at.place g) us))
    go true lt under = (ltb-true s.at.place g lt, under)
    go false lt under = under

-- a journal's views are in order
views_ordered : (h : List Entry) → AreOrdered (views_of h)
views_ordered h = record { ordered = λ g. before-ordered g (reading h).updates (names-rise h); under = λ g. under_before g (reading h).updates }

pub own-views : (h : List Entry) → AreViews h (views_of h)
own-views h = record { as_far = λ g le. refl; ordered = views_ordered h }

-- those of a longer journal are its views
pub older-views : (h : List Entry) (e : Entry) (v : Views) → AreViews (h ++ e ∷ []) v → AreViews h v
older-views h e v are = record { as_far = λ g le. are.as_far g (omega (arith, le, length-append h (e ∷ []))) ∙ view-stays g h (e ∷ []) le; ordered = are.ordered }

-- the solver's own steps
pub going-goes : (search : Search) (limit : ℕ) (old new : Views → Search) (before used : ℕ) (h : List Entry) (t : ℕ) (places : List ℕ) →
    GoesAt h limit old before new used → Going search limit old before h t places → Going search limit new used h t places
going-goes search limit old new before used h t places goes g = record {
  start = g.start;
  state = g.state;
  common = g.common;
  owns = g.owns;
  items = λ n le. g.items n (omega (arith, le, (goes (views_of h) (own-views h)).0));
  rests = λ v are n answers le. g.rests v are n answers (omega (arith, le, (goes v are).0)) ∙ (goes v are).2 n answers le;
  within = (goes (views_of h) (own-views h)).1 g.within;
  low = g.low;
  free = g.free;
}

let_in : (low g : ℕ) → low ≤ g → not_below low g ≡ true
let_in low g le = lt-ltb low (suc g) (omega (arith, le))

-- an item that is answered at the length of a journal
answer-now : (h more : List Entry) (t : ℕ) (q : Item) (s : Taken) → s.low ≤ length h → answer_at (h ++ more) t q (length h) s ≡ answered (h ++ more) t q (length h) s
unfolding answer_at
answer-now h more t q s low =
    let g = length h in
    ap (λ b. guarded b (guarded (not_below s.low g) (answered (h ++ more) t q g s))) (let_in g (length (h ++ more)) (omega (arith, length-append h more)))
    ∙ ap (λ b. guarded b (answered (h ++ more) t q g s)) (let_in s.low g low)

pub answer-view : (h more : List Entry) (t : ℕ) (s : Taken) → s.low ≤ length h →
    answer_at (h ++ more) t View (length h) s ≡ Some (record { answers = s.answers ++ Seen (length h) (reading h).updates ∷ []; low = length h; made = s.made })
answer-view h more t s low =
    answer-now h more t View s low
    ∙ ap (λ front. Some (record { answers = s.answers ++ Seen (length h) (reading front).updates ∷ []; low = length h; made = s.made })) (take-append_seam h more)

pub answer-ask : (h more : List Entry) (t : ℕ) (q : Request) (s : Taken) → s.low ≤ length h → answer_at (h ++ more) t (Ask q) (length h) s ≡ replied (served q t (reading h)) (length h) s
answer-ask h more t q s low =
    answer-now h more t (Ask q) s low ∙ ap (λ front. replied (served q t (reading front)) (length h) s) (take-append_seam h more)

-- what the thread asks is what its search asks
pub asks-same : (search ends : Search) (n used : ℕ) (answers : List Answer) (next : Next) →
    ((n : ℕ) (more : List Answer) → used ≤ n → search n (answers ++ more) ≡ ends n more) → used ≤ n → (ends n []).next ≡ next → (search n answers).next ≡ next
asks-same search ends n used answers next rest le is = ap (λ l. (search n l).next) (sym (append-nil answers)) ∙ ap (λ e. e.next) (rest n [] le) ∙ is

-- the rest behind one more answer
rest-behind : (search old new : Search) (before used n : ℕ) (answers more : List Answer) (a : Answer) →
    ((n : ℕ) (more : List Answer) → before ≤ n → search n (answers ++ more) ≡ old n more) → TakesOne a old before new used → used ≤ n →
    search n ((answers ++ a ∷ []) ++ more) ≡ new n more
rest-behind search old new before used n answers more a rest takes_one le =
    ap (search n) (append_assoc answers (a ∷ []) more) ∙ rest n (a ∷ more) (omega (arith, le, takes_one.0)) ∙ takes_one.1 n more le

-- the items with one more at its place, in a longer journal
pub items-push : (search : Search) (n : ℕ) (h more : List Entry) (t : ℕ) (places : List ℕ) (k g : ℕ) (s s' : Taken) (q : Item) →
    takes (asks_of search n) h t places (from_start k) ≡ Some s → item_of (search n s.answers).next ≡ Some q → answer_at (h ++ more) t q g s ≡ Some s' →
    takes (asks_of search n) (h ++ more) t (places ++ g ∷ []) (from_start k) ≡ Some s'
items-push search n h more t places k g s s' q items asks at =
    takes-push (asks_of search n) (h ++ more) t places g (from_start k) s (takes-grow (asks_of search n) h more t places (from_start k) s items)
    ∙ ap (λ o. option_and_then (λ s. Some s) (item_at (h ++ more) t o g s)) asks
    ∙ ap (option_and_then (λ s. Some s)) at

common-push : (xs : List Answer) (a : Answer) → AreCommon xs → IsCommon a → AreCommon (xs ++ a ∷ [])
common-push [] a all one = (one, tt)
common-push (x ∷ xs) a all one = (all.0, common-push xs a all.1 one)

-- a view at the journal's length
pub going-view : (search : Search) (limit : ℕ) (old new : Views → Search) (before used : ℕ) (h : List Entry) (t : ℕ) (places : List ℕ) →
    ((n : ℕ) → before ≤ n → (old (views_of h) n []).next ≡ Wants View) → TakesAt h (Seen (length h) (reading h).updates) old before new used →
    Going search limit old before h t places → Going search limit new used h t (places ++ length h ∷ [])
going-view search limit old new before used h t places asks one g =
    let s = g.state in
    let after : Taken = record { answers = s.answers ++ Seen (length h) (reading h).updates ∷ []; low = length h; made = s.made } in record {
      start = g.start;
      state = after;
      common = common-push s.answers (Seen (length h) (reading h).updates) g.common tt;
      owns = g.owns;
      items = λ n le.
          let from : before ≤ n = omega (arith, le, (one (views_of h) (own-views h)).0) in
          subst (λ l. takes (asks_of search n) l t (places ++ length h ∷ []) (from_start g.start) ≡ Some after) (append-nil h)
          (items-push search n h [] t places g.start (length h) s after View (g.items n from) (ap item_of (asks-same search (old (views_of h)) n before s.answers (Wants View) (g.rests (views_of h) (own-views h)) from (asks n from))) (answer-view h [] t s g.low));
      rests = λ v are n more le. rest-behind search (old v) (new v) before used n s.answers more (Seen (length h) (reading h).updates) (g.rests v are) (one v are) le;
      within = omega (arith, g.within, (one (views_of h) (own-views h)).0);
      low = omega arith;
      free = g.free;
    }

-- the thread's own entry, at the journal's length
pub own-grows : (h : List Entry) (t w : ℕ) (x : Act) (k : ℕ) (made : List (ℕ × Act)) → own t h ≡ (k, Act.Start) ∷ made →
    own t (h ++ record { worker = w; thread = t; act = x } ∷ []) ≡ (k, Act.Start) ∷ made ++ (length h, x) ∷ []
own-grows h t w x k made is =
    own-push t h (record { worker = w; thread = t; act = x })
    ∙ ap (λ b. own t h ++ own_if b (length h) x []) (eq-eqb t t refl)
    ∙ ap (λ l. l ++ (length h, x) ∷ []) is

-- a request that makes no entry
pub going-reply : (search : Search) (limit : ℕ) (old new : Views → Search) (before used : ℕ) (h : List Entry) (t : ℕ) (places : List ℕ) (q : Request) (reply : Reply) →
    ((n : ℕ) → before ≤ n → (old (views_of h) n []).next ≡ Wants (Ask q)) → TakesAt h (Got reply) old before new used →
    served q t (reading h) ≡ (reply, None) → is_not_yet reply ≡ false → IsCommon (Got reply) →
    Going search limit old before h t places → Going search limit new used h t (places ++ length h ∷ [])
going-reply search limit old new before used h t places q reply asks one row some common g =
    let s = g.state in
    let after : Taken = record { answers = s.answers ++ Got reply ∷ []; low = length h; made = s.made } in record {
      start = g.start;
      state = after;
      common = common-push s.answers (Got reply) g.common common;
      owns = g.owns;
      items = λ n le.
          let from : before ≤ n = omega (arith, le, (one (views_of h) (own-views h)).0) in
          subst (λ l. takes (asks_of search n) l t (places ++ length h ∷ []) (from_start g.start) ≡ Some after) (append-nil h)
          (items-push search n h [] t places g.start (length h) s after (Ask q) (g.items n from)
          (ap item_of (asks-same search (old (views_of h)) n before s.answers (Wants (Ask q)) (g.rests (views_of h) (own-views h)) from (asks n from)))
          (answer-ask h [] t q s g.low ∙ ap (λ r. replied r (length h) s) row ∙ ap (λ b. noted b (length h) s reply None) some));
      rests = λ v are n more le. rest-behind search (old v) (new v) before used n s.answers more (Got reply) (g.rests v are) (one v are) le;
      within = omega (arith, g.within, (one (views_of h) (own-views h)).0);
      low = omega arith;
      free = g.free;
    }

-- a request that makes an entry
pub going-act : (search : Search) (limit : ℕ) (old new : Views → Search) (before used : ℕ) (h : List Entry) (t w : ℕ) (places : List ℕ) (q : Request) (reply : Reply) (x : Act) →
    ((n : ℕ) → before ≤ n → (old (views_of h) n []).next ≡ Wants (Ask q)) → TakesAt h (Got reply) old before new used →
    served q t (reading h) ≡ (reply, Some (t, x)) → is_not_yet reply ≡ false → is_plain x ≡ true → IsCommon (Got reply) →
    Going search limit old before h t places → Going search limit new used (h ++ record { worker = w; thread = t; act = x } ∷ []) t (places ++ length h ∷ [])
going-act search limit old new before used h t w places q reply x asks one row some plain common g =
    let s = g.state in
    let e : Entry = record { worker = w; thread = t; act = x } in
    let after : Taken = record { answers = s.answers ++ Got reply ∷ []; low = suc (length h); made = s.made ++ (length h, x) ∷ [] } in record {
      start = g.start;
      state = after;
      common = common-push s.answers (Got reply) g.common common;
      owns = own-grows h t w x g.start s.made g.owns;
      items = λ n le.
          let from : before ≤ n = omega (arith, le, (one (views_of h) (own-views h)).0) in
          items-push search n h (e ∷ []) t places g.start (length h) s after (Ask q) (g.items n from)
          (ap item_of (asks-same search (old (views_of h)) n before s.answers (Wants (Ask q)) (g.rests (views_of h) (own-views h)) from (asks n from)))
          (answer-ask h (e ∷ []) t q s g.low ∙ ap (λ r. replied r (length h) s) row ∙ ap (λ b. noted b (length h) s reply (Some (t, x))) some);
      rests = λ v are n more le.
          let was = older-views h e v are in
          rest-behind search (old v) (new v) before used n s.answers more (Got reply) (g.rests v was) (one v was) le;
      within = omega (arith, g.within, (one (views_of h) (own-views h)).0);
      low = omega (arith, length-append h (e ∷ []));
      free = free-plain t h e plain g.free;
    }
