-- What the walks among frames see.
use Rattle.std.proofs.Common.{◌≡◌, ℕ, ◌≤◌, List, [], ◌∷◌, ◌++◌, length, map, take, drop, get_or, refl, sym, ap, ap₂, ◌∙◌, arith, le_refl, le_trans, reverse}
use Rattle.std.proofs.lemmas.List.{reverse-append, take-take}
use Rattle.plterm.specs.Tree.{Tree}
use Rattle.plevent.specs.declared.update.Update.{Update}
use Rattle.plcells.specs.declared.cell.Cell.{Cell}
use Rattle.plcells.specs.Store.{value}
use Rattle.plclause.specs.Indicators.{indicator}
use Rattle.plsearch.specs.Types.{Choice}
use Rattle.plsearch.specs.Engine.{deeper}
use Rattle.plviews.specs.Lookups.{rest_at}
use Rattle.plviews.specs.declared.view.View.{View}
use Rattle.plenv.specs.Env.{Env, cut}
use Rattle.pllinks.specs.declared.item.Portion.{Portion}
use Rattle.pllinks.specs.declared.link.Link.{Link}
use Rattle.pllinks.specs.declared.link.Continuation.{Continuation}
use Rattle.pllinks.specs.Lists.{Goals, all_elements}
use Rattle.pllinks.specs.Links.{items_of}
use Rattle.plstack.specs.declared.frame.Use.{Use}
use Rattle.plstack.specs.declared.frame.Spot.{Spot}
use Rattle.plstack.specs.declared.frame.Spot.TheVariants as spots
use Rattle.plstack.specs.declared.frame.Resume.{Resume}
use Rattle.plstack.specs.declared.frame.Handler.TheVariants as handlers
use Rattle.plstack.specs.declared.frame.Resume.TheVariants as resumes
use Rattle.plstack.specs.declared.frame.Frame.{Frame}
use Rattle.plstack.specs.declared.frame.Frame.TheVariants.{Plain, Open}
use Rattle.plstack.specs.Basis.{Basis, IsShown, counting, Ends}
use Rattle.plstack.specs.Places.{Database, IsOwnSoFar, alive_as, candidate_of, candidates_left, head_in, onward, onward_if, sight_at, left_at, kept_values, case_of, plain, cases}
use Rattle.plstack.specs.Frames.{IsSpotSeen, IsSeen, IsFrameSeen, Since, BehindFrame, AreSeen}
use Rattle.plstack.specs.Levels.{kinds_of, undoings}
use Rattle.plstack.specs.State.{State, IsUndo, WalksSee, goals_in, cases_of}
use Rattle.plstack.proofs.Undoing.{undoings-choices, undoings-append}

shown-more : (v a b : View) → IsShown a b → IsShown v a → IsShown v b
shown-more v a b le s = record { place = le_trans s.place le.place; count = le_trans s.count le.count; own = λ some. s.own some ∙ le.own (omega (arith, some, s.count)) }

spot-more : (a b : View) → IsShown a b → (x : Spot) → IsSpotSeen a x → IsSpotSeen b x
spot-more a b le (spots.Text k) s = tt
spot-more a b le (spots.Seek v r) s = shown-more v a b le s
spot-more a b le (spots.At v x r) s = shown-more v a b le s
spot-more a b le (spots.Known v x y) s = shown-more v a b le s

frame-more : (a b : View) → IsShown a b → (f : Frame) → IsFrameSeen a f → IsFrameSeen b f
frame-more a b le (Plain k) s = tt
frame-more a b le (Open p (resumes.Clauses c)) s = tt
frame-more a b le (Open p (resumes.Walk w)) s = spot-more a b le w.spot s
frame-more a b le (Open p (resumes.Answers x)) s = tt
frame-more a b le (Open p resumes.List) s = tt
frame-more a b le (Open p (resumes.Handle x)) s = tt

counting-more : (k : ℕ) (a b : View) → k ≤ a.count → IsShown a b → IsShown (counting k a) (counting k b)
counting-more k a b low le = record { place = le.place; count = le_refl _; own = λ some. le.own (omega (arith, some, low)) }

since-more : (starts : List ℕ) (a b : View) (P : List ℕ → View → Type 0) → IsShown a b → ((ss : List ℕ) (x y : View) → IsShown x y → P ss x → P ss y) → Since starts a P → Since starts b P
since-more [] a b P le more s = absurd s
since-more (k ∷ starts) a b P le more s = (le_trans s.0 le.count, more starts (counting k a) (counting k b) (counting-more k a b s.0 le) s.1)

behind-more : (f : Frame) (starts : List ℕ) (a b : View) (P : List ℕ → View → Type 0) → IsShown a b → ((ss : List ℕ) (x y : View) → IsShown x y → P ss x → P ss y) → BehindFrame f starts a P → BehindFrame f starts b P
behind-more (Plain k) starts a b P le more s = more starts a b le s
behind-more (Open p (resumes.Clauses c)) starts a b P le more s = more starts a b le s
behind-more (Open p (resumes.Walk w)) starts a b P le more s = more starts a b le s
behind-more (Open p (resumes.Answers x)) starts a b P le more s = more starts a b le s
behind-more (Open p resumes.List) starts a b P le more s = more starts a b le s
behind-more (Open p (resumes.Handle (handlers.Catch c))) starts a b P le more s = more starts a b le s
behind-more (Open p (resumes.Handle (handlers.Gather v))) starts a b P le more s = more starts a b le s
behind-more (Open p (resumes.Handle handlers.Undo)) starts a b P le more s = since-more starts a b P le more s

-- a later view
pub seen-more : (starts : List ℕ) (a b : View) → IsShown a b → (fs : List Frame) → AreSeen starts a fs → AreSeen starts b fs
seen-more starts a b le [] s = s
seen-more starts a b le (f ∷ fs) s =
    (frame-more a b le f s.0, behind-more f starts a b (λ older seen. AreSeen older seen fs) le (λ ss x y shown. seen-more ss x y shown fs) s.1)

-- but at an end of a transaction, all is as before behind a frame
pub behind-stays : (f : Frame) (starts : List ℕ) (latest : View) (P : List ℕ → View → Type 0) → (IsUndo f → ⊥) → P starts latest → BehindFrame f starts latest P
behind-stays (Plain k) starts latest P not s = s
behind-stays (Open p (resumes.Clauses c)) starts latest P not s = s
behind-stays (Open p (resumes.Walk w)) starts latest P not s = s
behind-stays (Open p (resumes.Answers x)) starts latest P not s = s
behind-stays (Open p resumes.List) starts latest P not s = s
behind-stays (Open p (resumes.Handle (handlers.Catch c))) starts latest P not s = s
behind-stays (Open p (resumes.Handle (handlers.Gather v))) starts latest P not s = s
behind-stays (Open p (resumes.Handle handlers.Undo)) starts latest P not s = absurd (not tt)

pub stays-behind : (f : Frame) (starts : List ℕ) (latest : View) (P : List ℕ → View → Type 0) → (IsUndo f → ⊥) → BehindFrame f starts latest P → P starts latest
stays-behind (Plain k) starts latest P not s = s
stays-behind (Open p (resumes.Clauses c)) starts latest P not s = s
stays-behind (Open p (resumes.Walk w)) starts latest P not s = s
stays-behind (Open p (resumes.Answers x)) starts latest P not s = s
stays-behind (Open p resumes.List) starts latest P not s = s
stays-behind (Open p (resumes.Handle (handlers.Catch c))) starts latest P not s = s
stays-behind (Open p (resumes.Handle (handlers.Gather v))) starts latest P not s = s
stays-behind (Open p (resumes.Handle handlers.Undo)) starts latest P not s = absurd (not tt)

-- the first start, and what is seen behind its transaction
pub record SeenSince (starts : List ℕ) (latest : View) (fs : List Frame) : Type 0 where
  pub start : ℕ
  pub older : List ℕ
  pub is : starts ≡ start ∷ older
  pub low : start ≤ latest.count
  pub seen : AreSeen older (counting start latest) fs

pub seen-since : (starts : List ℕ) (latest : View) (fs : List Frame) → Since starts latest (λ older seen. AreSeen older seen fs) → SeenSince starts latest fs
seen-since [] latest fs s = absurd s
seen-since (k ∷ starts) latest fs s = record { start = k; older = starts; is = refl; low = s.0; seen = s.1 }

-- frames among which no transaction ends are given up
pub seen-append : (xs ys : List Frame) (starts : List ℕ) (latest : View) → undoings (kinds_of ys) ≡ undoings (kinds_of (xs ++ ys)) → AreSeen starts latest (xs ++ ys) → AreSeen starts latest ys
seen-append [] ys starts latest same s = s
seen-append (Plain n ∷ xs) ys starts latest same s = seen-append xs ys starts latest (same ∙ undoings-choices n (kinds_of (xs ++ ys))) s.1
seen-append (Open p (resumes.Clauses c) ∷ xs) ys starts latest same s = seen-append xs ys starts latest same s.1
seen-append (Open p (resumes.Walk w) ∷ xs) ys starts latest same s = seen-append xs ys starts latest same s.1
seen-append (Open p (resumes.Answers x) ∷ xs) ys starts latest same s = seen-append xs ys starts latest same s.1
seen-append (Open p resumes.List ∷ xs) ys starts latest same s = seen-append xs ys starts latest same s.1
seen-append (Open p (resumes.Handle (handlers.Catch c)) ∷ xs) ys starts latest same s = seen-append xs ys starts latest same s.1
seen-append (Open p (resumes.Handle (handlers.Gather v)) ∷ xs) ys starts latest same s = seen-append xs ys starts latest same s.1
seen-append (Open p (resumes.Handle handlers.Undo) ∷ xs) ys starts latest same s = absurd (omega (arith, ap length same, undoings-append xs ys))

-- and where one does
pub seen-ended : (xs ys : List Frame) (starts : List ℕ) (latest : View) (l : ℕ) → undoings (kinds_of (xs ++ ys)) ≡ l ∷ undoings (kinds_of ys) → AreSeen starts latest (xs ++ ys) → SeenSince starts latest ys
seen-ended [] ys starts latest l one s = absurd (omega (arith, ap length one))
seen-ended (Plain n ∷ xs) ys starts latest l one s = seen-ended xs ys starts latest l (sym (undoings-choices n (kinds_of (xs ++ ys))) ∙ one) s.1
seen-ended (Open p (resumes.Clauses c) ∷ xs) ys starts latest l one s = seen-ended xs ys starts latest l one s.1
seen-ended (Open p (resumes.Walk w) ∷ xs) ys starts latest l one s = seen-ended xs ys starts latest l one s.1
seen-ended (Open p (resumes.Answers x) ∷ xs) ys starts latest l one s = seen-ended xs ys starts latest l one s.1
seen-ended (Open p resumes.List ∷ xs) ys starts latest l one s = seen-ended xs ys starts latest l one s.1
seen-ended (Open p (resumes.Handle (handlers.Catch c)) ∷ xs) ys starts latest l one s = seen-ended xs ys starts latest l one s.1
seen-ended (Open p (resumes.Handle (handlers.Gather v)) ∷ xs) ys starts latest l one s = seen-ended xs ys starts latest l one s.1
seen-ended (Open p (resumes.Handle handlers.Undo) ∷ xs) ys starts latest l one s =
    let b = seen-since starts latest (xs ++ ys) s.1 in
    record { start = b.start; older = b.older; is = b.is; low = b.low; seen = seen-append xs ys b.older (counting b.start latest) (sym (ap (drop 1) one)) b.seen }

-- the innermost start is taken off
pub taken-start : (b : Basis) (fs : List Frame) (start : ℕ) (older : List ℕ) → b.starts ≡ older ++ start ∷ [] → SeenSince (reverse b.starts) b.latest fs → AreSeen (reverse older) (counting start b.latest) fs
taken-start b fs start older is s =
    let e : start ∷ reverse older ≡ s.start ∷ s.older = sym (reverse-append older (start ∷ [])) ∙ sym (ap reverse is) ∙ s.is in
    let one : start ≡ s.start = ap (λ ks. get_or ks 0 0) e in
    let all : reverse older ≡ s.older = ap (drop 1) e in
    rw (one, all) s.seen

pub ends-taken : (b : Basis) (fs : List Frame) (start : ℕ) (older : List ℕ) → b.starts ≡ older ++ start ∷ [] → SeenSince (reverse b.starts) b.latest fs →
    Ends b (record { code = b.code; latest = counting start b.latest; starts = older })
ends-taken b fs start older is s =
    let e : start ∷ reverse older ≡ s.start ∷ s.older = sym (reverse-append older (start ∷ [])) ∙ sym (ap reverse is) ∙ s.is in
    let one : start ≡ s.start = ap (λ ks. get_or ks 0 0) e in
    record { start = start; older = older; was = is; rises = omega (arith, one, s.low); is = refl }

pub no-start : (b : Basis) (fs : List Frame) → b.starts ≡ [] → SeenSince (reverse b.starts) b.latest fs → ⊥
no-start b fs none s = let e : s.start ∷ s.older ≡ reverse [] = sym s.is ∙ ap reverse none in cc

-- ---- own updates that no walk sees

so-far : (db : Database) (own : List Update) (v latest : View) → IsShown v latest → IsOwnSoFar latest db own → take v.count own ≡ take v.count db.own
so-far db own v latest s same =
    sym (take-take v.count latest.count own s.count) ∙ ap (take v.count) same ∙ take-take v.count latest.count db.own s.count

module _ (db : Database) (own : List Update) where
  abbrev with-own : Database
  with-own = record { statics = db.statics; text = db.text; views = db.views; own = own }

  seen-same : (latest v : View) → IsOwnSoFar latest db own → IsShown v latest → sight_at with-own v ≡ sight_at db v
  seen-same latest v same s = ap (λ us. record { below = db.views v.place; place = v.place; on_top = us }) (so-far db own v latest s same)

  left-same : (latest : View) (u : Use) (t : Tree) (x : Spot) → IsOwnSoFar latest db own → IsSpotSeen latest x → left_at with-own u t x ≡ left_at db u t x
  left-same latest u t (spots.Text k) same s = refl
  left-same latest u t (spots.Seek v r) same s = ap (λ x. map (candidate_of u) (rest_at x (indicator (head_in u t)) r)) (seen-same latest v same s)
  left-same latest u t (spots.At v x r) same s = ap (λ y. map (candidate_of u) (onward y (indicator (head_in u t)) x r)) (seen-same latest v same s)
  left-same latest u t (spots.Known v x y) same s = ap (λ z. map (candidate_of u) (alive_as z x ++ onward_if z (indicator (head_in u t)) y)) (seen-same latest v same s)

  case-same : (latest : View) (code : Goals) (d : ℕ) (e : Env) (xs : List Portion) (vs : List Cell) (r : Resume) → IsOwnSoFar latest db own → IsSeen latest r → case_of with-own code d e xs vs r ≡ case_of db code d e xs vs r
  case-same latest code d e xs vs (resumes.Clauses c) same s = refl
  case-same latest code d e xs vs (resumes.Walk w) same s = ap (λ ys. Choice (candidates_left d e (value e.heap w.goal) (all_elements code e xs) ys)) (left-same latest w.uses (value e.heap w.goal) w.spot same s)
  case-same latest code d e xs vs (resumes.Answers a) same s = refl
  case-same latest code d e xs vs resumes.List same s = refl
  case-same latest code d e xs vs (resumes.Handle x) same s = refl

  so-far-counting : (k : ℕ) (latest : View) → k ≤ latest.count → IsOwnSoFar latest db own → IsOwnSoFar (counting k latest) db own
  so-far-counting k latest le same = so-far db own (counting k latest) latest (record { place = le_refl _; count = le; own = λ some. refl }) same

  module _ (code : Goals) (e : Env) (links : List Link) (saved : List Cell) where
    since-same : (fs : List Frame) → ((starts : List ℕ) (latest : View) → IsOwnSoFar latest db own → AreSeen starts latest fs → cases with-own code e links saved fs ≡ cases db code e links saved fs) →
        (f : Frame) (starts : List ℕ) (latest : View) → IsOwnSoFar latest db own → BehindFrame f starts latest (λ older seen. AreSeen older seen fs) → cases with-own code e links saved fs ≡ cases db code e links saved fs
    since-same fs all (Plain n) starts latest same s = all starts latest same s
    since-same fs all (Open p (resumes.Clauses c)) starts latest same s = all starts latest same s
    since-same fs all (Open p (resumes.Walk w)) starts latest same s = all starts latest same s
    since-same fs all (Open p (resumes.Answers a)) starts latest same s = all starts latest same s
    since-same fs all (Open p resumes.List) starts latest same s = all starts latest same s
    since-same fs all (Open p (resumes.Handle (handlers.Catch c))) starts latest same s = all starts latest same s
    since-same fs all (Open p (resumes.Handle (handlers.Gather v))) starts latest same s = all starts latest same s
    since-same fs all (Open p (resumes.Handle handlers.Undo)) starts latest same s =
        let b = seen-since starts latest fs s in
        all b.older (counting b.start latest) (so-far-counting b.start latest b.low same) b.seen

    cases-same : (fs : List Frame) (starts : List ℕ) (latest : View) → IsOwnSoFar latest db own → AreSeen starts latest fs → cases with-own code e links saved fs ≡ cases db code e links saved fs
    cases-same [] starts latest same s = refl
    cases-same (Plain n ∷ fs) starts latest same s = ap (plain n) (cases-same fs starts latest same s.1)
    cases-same (Open p r ∷ fs) starts latest same s =
        ap₂ (λ c cs. c ∷ cs)
        (case-same latest code (deeper (cases with-own code e links saved fs) 0) (cut p.marks.env e) (items_of links p.list) (kept_values saved p r) r same s.0
        ∙ ap (λ cs. case_of db code (deeper cs 0) (cut p.marks.env e) (items_of links p.list) (kept_values saved p r) r) (since-same fs (cases-same fs) (Open p r) starts latest same s.1))
        (since-same fs (cases-same fs) (Open p r) starts latest same s.1)

  pub own-same : (s : State) → WalksSee s.basis s.frames → IsOwnSoFar s.basis.latest db own → cases_of with-own s ≡ cases_of db s
  unfolding cases_of
  own-same s seen same = cases-same (goals_in s) s.env s.links s.saved (reverse s.frames) (reverse s.basis.starts) s.basis.latest same seen

  -- whatever list is visited
  pub own-visiting : (s new : State) (l : Continuation) → new ≡ record s { goals = l } → (IsOwnSoFar s.basis.latest db own → cases_of with-own s ≡ cases_of db s) → IsOwnSoFar new.basis.latest db own → cases_of with-own new ≡ cases_of db new
  unfolding cases_of
  own-visiting s new l is same = rw is same
