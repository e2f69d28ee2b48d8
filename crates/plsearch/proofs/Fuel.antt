-- The search is a fixed point: a list is visited by one walk, and what comes behind a step or an answer by the search again.
use Rattle.std.proofs.Common.{◌≡◌, ℕ, zero, suc, ◌+◌, ◌<◌, ◌≤◌, List, [], ◌∷◌, length, refl, sym, ap, ◌∙◌, subst, arith, le_trans, le_refl}
use Rattle.plevent.specs.Search.{Item, Ask, Answer}
use Rattle.plevent.specs.declared.request.Request.TheVariants.{Publish}
use Rattle.plevent.specs.declared.update.Update.{Update}
use Rattle.plprogram.specs.Program.{Program}
use Rattle.plsearch.specs.Types.{Result, Fail, Spent, GoesOn, Await, Element, Asking, Resolvent, Case, Choice, Mark, Handle, Local, Move, Give, Go, Meeting, Select, Asks, End, Pass, Marked, Return, Keep, Again, Anew, Supply}
use Rattle.plsearch.specs.Rows.{select, meet}
use Rattle.plsearch.specs.Replies.{answered, founded}
use Rattle.plsearch.specs.Handlers.{resume}
use Rattle.plsearch.specs.Engine.{Ended, Visitor, deeper, choice, returned, out, outs, moved, stepped, asks, publishes, met, walk, visit_in, left, Visit}

-- below k the two visit alike, and no visit makes steps or answers
unfoldable pub Agree : Visitor → Visitor → ℕ → Type 0
Agree f g k = (d : ℕ) (p : Resolvent) (run : Supply) → left run < k → (f d p run ≡ g d p run) × (left (f d p run).1 ≤ left run)

pub choice-agree : (f g : Visitor) (k : ℕ) → Agree f g k → (ps : List Resolvent) (d : ℕ) (r : Result) (run : Supply) → left run < k →
    (choice f d ps r run ≡ choice g d ps r run) × (left (choice f d ps r run).1 ≤ left run)
unfolding choice Agree
choice-agree f g k h (p ∷ ps) d Fail run lt =
    let one = h (suc d) p run lt in
    let e = f (suc d) p run in
    let more = choice-agree f g k h ps d e.0 e.1 (omega (arith, one.1, lt)) in
    (more.0 ∙ ap (λ e. choice g d ps e.0 e.1) one.0, le_trans more.1 one.1)
choice-agree f g k h [] d Fail run lt = (refl, le_refl _)
choice-agree f g k h ps d r run lt = (refl, le_refl _)

unfoldable pub Same : Ended → Ended → ℕ → Type 0
Same e e' k = (e ≡ e') × (left e.1 ≤ k)

returned-agree : (f g : Visitor) (k : ℕ) → Agree f g k → (d : ℕ) (b : Return) (run : Supply) → left run < k →
    Same (returned f d b run) (returned g d b run) (left run)
unfolding Agree Same choice
returned-agree f g k h d (Keep r w) run lt = (refl, le_refl _)
returned-agree f g k h d (Again p w) run lt = h d p (record run { local = w }) lt
returned-agree f g k h d (Anew p w) run lt =
    let one = h (suc d) p (record run { local = w }) lt in
    let e = f (suc d) p (record run { local = w }) in
    let more = choice-agree f g k h [] d e.0 e.1 (omega (arith, one.1, lt)) in
    (more.0 ∙ ap (λ e. choice g d [] e.0 e.1) one.0, le_trans more.1 one.1)

pub out-agree : (f g : Visitor) (k : ℕ) → Agree f g k → (d : ℕ) (c : Case) (e : Ended) → left e.1 < k →
    Same (out f d c e) (out g d c e) (left e.1)
unfolding Same out
out-agree f g k h d (Choice ps) e lt = choice-agree f g k h ps d e.0 e.1 lt
out-agree f g k h d (Mark l) e lt = (refl, le_refl _)
out-agree f g k h d (Handle x p) e lt = returned-agree f g k h d (resume x p d e.0 e.1.local) e.1 lt

pub outs-agree : (f g : Visitor) (k : ℕ) → Agree f g k → (d : ℕ) (cs : List Case) (e : Ended) → left e.1 < k →
    Same (outs f d cs e) (outs g d cs e) (left e.1)
unfolding Same outs
outs-agree f g k h d [] e lt = (refl, le_refl _)
outs-agree f g k h d (c ∷ cs) e lt =
    let one = out-agree f g k h (deeper cs d) c e lt in
    let more = outs-agree f g k h d cs (out f (deeper cs d) c e) (omega (arith, one.1, lt)) in
    (more.0 ∙ ap (outs g d cs) one.0, le_trans more.1 one.1)

moved-agree : (f g : Visitor) (k : ℕ) → Agree f g k → (d : ℕ) (m : Move) (run : Supply) → left run < k →
    Same (moved f d m run) (moved g d m run) (left run)
unfolding Agree Same moved
moved-agree f g k h d (Give r w) run lt = (refl, le_refl _)
moved-agree f g k h d (Go cs p w) run lt =
    let one = h (deeper cs d) p (record run { local = w }) lt in
    let more = outs-agree f g k h d cs (f (deeper cs d) p (record run { local = w })) (omega (arith, one.1, lt)) in
    (more.0 ∙ ap (outs g d cs) one.0, le_trans more.1 one.1)

stepped-agree : (f g : Visitor) (k : ℕ) → Agree f g k → (row : Local → Move) (d : ℕ) (run : Supply) (n : ℕ) → n + length run.answers ≤ k →
    Same (stepped f row d (record run { steps = n }) n) (stepped g row d (record run { steps = n }) n) (n + length run.answers)
unfolding Same
stepped-agree f g k h row d run zero le = (refl, le_refl _)
stepped-agree f g k h row d run (suc n) le =
    let one = moved-agree f g k h d (row run.local) (record run { steps = n }) (omega (arith, le)) in
    (one.0, omega (arith, one.1))

asks-agree : (f g : Visitor) (k : ℕ) → Agree f g k → (e : Element) (es : List Element) (n : ℕ) (q : Item) (d : ℕ) (run : Supply) (xs : List Answer) → run.steps + length xs ≤ k →
    Same (asks f e es n q d (record run { answers = xs }) xs) (asks g e es n q d (record run { answers = xs }) xs) (run.steps + length xs)
unfolding Same
asks-agree f g k h e es n q d run [] le = (refl, le_refl _)
asks-agree f g k h e es n q d run (a ∷ xs) le =
    let one = moved-agree f g k h d (answered e a d es n run.local) (record run { answers = xs; below = founded e a run.below }) (omega (arith, le)) in
    (one.0, omega (arith, one.1))

publishes-agree : (f g : Visitor) (k : ℕ) → Agree f g k → (f' g' : ℕ → Supply → Ended) →
    ((d : ℕ) (run : Supply) → left run ≤ k → Same (f' d run) (g' d run) (left run)) →
    (es : List Element) (n : ℕ) (us : List Update) (d : ℕ) (run : Supply) → left run ≤ k →
    Same (publishes f f' es n us d run) (publishes g g' es n us d run) (left run)
publishes-agree f g k h f' g' on es n [] d run le = on d run le
publishes-agree f g k h f' g' on es n (u ∷ us) d run le = asks-agree f g k h (Asking (Await (Publish (u ∷ us)) GoesOn)) es n (Ask (Publish (u ∷ us))) d run run.answers le

met-agree : (P : Program) (f g : Visitor) (k : ℕ) → Agree f g k → (f' g' : ℕ → Supply → Ended) →
    ((d : ℕ) (run : Supply) → left run ≤ k → Same (f' d run) (g' d run) (left run)) →
    (e : Element) (es : List Element) (n d : ℕ) (run : Supply) (m : Meeting) → left run ≤ k →
    Same (met P f f' e es n d run m) (met P g g' e es n d run m) (left run)
unfolding Same out
met-agree P f g k h f' g' on e es n d run (Select j t) le = stepped-agree f g k h (select P run.below j t d es n) d run run.steps le
met-agree P f g k h f' g' on e es n d run (Asks q) le = asks-agree f g k h e es n q d run run.answers le
met-agree P f g k h f' g' on e es n d run (End r w) le = (refl, le_refl _)
met-agree P f g k h f' g' on e es n d run (Pass w) le = on d (record run { local = w }) le
met-agree P f g k h f' g' on e es n d run (Marked l us w) le =
    let one = publishes-agree f g k h f' g' on es n us (suc d) (record run { local = w }) le in
    (ap (out g d (Mark l)) one.0, one.1)

pub walk-agree : (P : Program) (f g : Visitor) (k : ℕ) → Agree f g k → (es : List Element) (n d : ℕ) (run : Supply) → left run ≤ k →
    Same (walk P f es n d run) (walk P g es n d run) (left run)
unfolding Same walk
walk-agree P f g k h [] n d run le = (refl, le_refl _)
walk-agree P f g k h (e ∷ es) n d run le =
    met-agree P f g k h (walk P f es n) (walk P g es n) (walk-agree P f g k h es n) e es n d run (meet e es run.local) le

pub visit-agree : (P : Program) (k m : ℕ) → k ≤ m → Agree (visit_in P k) (visit_in P m) (suc k)
unfolding visit_in Agree Same
visit-agree P zero zero le d p run lt = walk-agree P (λ d p run. (Spent, run)) (λ d p run. (Spent, run)) zero (λ d p run lt. absurd (omega arith)) p.goals p.variables d run (omega arith)
visit-agree P zero (suc m) le d p run lt = walk-agree P (λ d p run. (Spent, run)) (visit_in P m) zero (λ d p run lt. absurd (omega arith)) p.goals p.variables d run (omega arith)
visit-agree P (suc k) zero le d p run lt = absurd (omega arith)
visit-agree P (suc k) (suc m) le d p run lt = walk-agree P (visit_in P k) (visit_in P m) (suc k) (visit-agree P k m (omega arith)) p.goals p.variables d run (omega arith)

-- the search, unfolded once
pub Visit-walk : (P : Program) (d : ℕ) (p : Resolvent) (run : Supply) → Visit P d p run ≡ walk P (Visit P) p.goals p.variables d run
unfolding Visit visit_in Agree Same
Visit-walk P d p run = go (left run) refl
  where
    go : (l : ℕ) → left run ≡ l → Visit P d p run ≡ walk P (Visit P) p.goals p.variables d run
    go zero is = rw is ((walk-agree P (λ d p run. (Spent, run)) (Visit P) zero (λ d p run lt. absurd (omega arith)) p.goals p.variables d run (omega arith)).0)
    go (suc k) is = rw is ((walk-agree P (visit_in P k) (Visit P) (suc k) (λ d p run lt. let one = visit-agree P (left run) k (omega arith) d p run (omega arith) in (sym one.0, subst (λ e. left e.1 ≤ left run) one.0 one.1)) p.goals p.variables d run (omega arith)).0)

pub ruleset laws = (Visit-walk)
