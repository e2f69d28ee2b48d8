-- What makes a batch in a journal that is legal.
use Rattle.std.proofs.Common.{◌≡◌, ℕ, Bool, true, false, ◌||◌, IsTrue, not, ◌&&◌, is_some, List, [], ◌∷◌, ◌++◌, fold, find, Option, Some, None, refl, sym, ap, ◌∙◌, subst}
use Rattle.plevent.specs.declared.request.ThreadEnd.{ThreadEnd}
use Rattle.plevent.specs.declared.request.Request.{Request}
use Rattle.plevent.specs.declared.request.Reply.{Reply}
use Rattle.plevent.specs.declared.update.Update.{Update}
use Rattle.plevent.specs.declared.act.Act.{Act}
use Rattle.plevent.specs.declared.act.Entry.{Entry}
use Rattle.plevent.specs.declared.standing.Thread.{Thread}
use Rattle.plevent.specs.Alive.{change_if, is_alive}
use Rattle.plevent.specs.Reading.{Reading, reading, read}
use Rattle.plevent.specs.Rows.{Row, is_over, is_halted, is_new, stays, is_workers, is_leave, runs, start_row, finish_row, erase_row, leave_row, row, served}
use Rattle.plhist.specs.Legal.{worker_of, MayAsk, IsDue, AllDue, opening}
use Rattle.plrunlaws.proofs.Items.{none-some}
use Rattle.plrunlaws.specs.Batches.{MakesBatch, IsAskedBatch, EachBatchIsAsked}
use Rattle.plrunlaws.proofs.Served.{served-as}
use Rattle.plrunlaws.proofs.Lists.{heads}

-- a row whose act is a batch of a thread
abbrev pub Makes : Row → ℕ → List Update → Type 0
Makes x t us = x.1 ≡ Some (t, Act.Batch us)

abbrev owner_in : Option (ℕ × Act) → ℕ
owner_in None = 0
owner_in (Some x) = x.0

abbrev act_in : Option (ℕ × Act) → Act
act_in None = Act.Start
act_in (Some x) = x.1

-- what is behind such a row
pub record Behind (q : Request) (t : ℕ) (r : Reading) (owner : ℕ) (us : List Update) : Type 0 where
  pub own : t ≡ owner
  pub remains : is_leave q ≡ false
  pub makes : MakesBatch r q us
  pub worker : (w : ℕ) → MayAsk r.standing w t q → worker_of t r.standing.threads ≡ Some w
  pub running : IsTrue (runs t r.standing)

start-makes : (q : Request) (t : ℕ) (r : Reading) (owner : ℕ) (us : List Update) (x : Option Thread) → Makes (start_row r.standing x) owner us → Behind q t r owner us
start-makes q t r owner us None is = none-some (owner, Act.Batch us) is
start-makes q t r owner us (Some x) is = absurd (never is)
  where
    never : ◌≡◌ {A = Option (ℕ × Act)} (Some (x.number, Act.Start)) (Some (owner, Act.Batch us)) → ⊥
    never is = let same : Act.Start ≡ Act.Batch us = ap act_in is in cc

finish-makes : (q : Request) (e : ThreadEnd) (t : ℕ) (r : Reading) (owner : ℕ) (us : List Update) → Makes (finish_row e t) owner us → Behind q t r owner us
finish-makes q e t r owner us is = absurd (go e is)
  where
    end-made : (e : ThreadEnd) → ◌≡◌ {A = Option (ℕ × Act)} (Some (t, Act.End e)) (Some (owner, Act.Batch us)) → ⊥
    end-made e is = let same : Act.End e ≡ Act.Batch us = ap act_in is in cc

    go : (e : ThreadEnd) → Makes (finish_row e t) owner us → ⊥
    go ThreadEnd.True is = end-made ThreadEnd.True is
    go ThreadEnd.False is = end-made ThreadEnd.False is
    go (ThreadEnd.Exception b) is = end-made (ThreadEnd.Exception b) is
    go ThreadEnd.Budget is = end-made ThreadEnd.Budget is
    go (ThreadEnd.Halt n) is = none-some (owner, Act.Batch us) is

leave-makes : (q : Request) (t : ℕ) (r : Reading) (owner : ℕ) (us : List Update) → Makes (leave_row r.standing t) owner us → Behind q t r owner us
leave-makes q t r owner us is = absurd (over (is_over r.standing) is)
  where
    left : ◌≡◌ {A = Option (ℕ × Act)} (Some (t, Act.Left)) (Some (owner, Act.Batch us)) → ⊥
    left is = let same : Act.Left ≡ Act.Batch us = ap act_in is in cc

    stood : (b : Bool) → change_if {A = Option (ℕ × Act)} b (Some (t, Act.Left)) None ≡ Some (owner, Act.Batch us) → ⊥
    stood true is = left is
    stood false is = none-some (owner, Act.Batch us) is

    over : (b : Bool) → Makes (change_if b (Reply.Done, change_if (stays t r.standing) (Some (t, Act.Left)) None) (Reply.NotYet Request.Leave, None)) owner us → ⊥
    over true is = stood (stays t r.standing) is
    over false is = none-some (owner, Act.Batch us) is

batch-owner : (t owner : ℕ) (us vs : List Update) → ◌≡◌ {A = Option (ℕ × Act)} (Some (t, Act.Batch vs)) (Some (owner, Act.Batch us)) → t ≡ owner
batch-owner t owner us vs is = ap owner_in is

batch-updates : (t owner : ℕ) (us vs : List Update) → ◌≡◌ {A = Option (ℕ × Act)} (Some (t, Act.Batch vs)) (Some (owner, Act.Batch us)) → us ≡ vs
batch-updates t owner us vs is = let same : Act.Batch vs ≡ Act.Batch us = ap act_in is in cc

row-makes : (q : Request) (t : ℕ) (r : Reading) (owner : ℕ) (us : List Update) → IsTrue (is_workers q || runs t r.standing) → Makes (row q t r) owner us → Behind q t r owner us
row-makes Request.Start t r owner us runs is = start-makes Request.Start t r owner us (find is_new r.standing.threads) is
row-makes (Request.Publish vs) t r owner us runs is =
    record { own = batch-owner t owner us vs is; remains = refl; makes = batch-updates t owner us vs is; worker = λ w may. may; running = runs }
row-makes (Request.EraseOne x) t r owner us runs is = go (is_alive x r.updates) refl is
  where
    go : (b : Bool) → is_alive x r.updates ≡ b → Makes (erase_row b x t) owner us → Behind (Request.EraseOne x) t r owner us
    go true alive is = record {
      own = batch-owner t owner us (Update.Erase x ∷ []) is;
      remains = refl;
      makes = (batch-updates t owner us (Update.Erase x ∷ []) is, alive);
      worker = λ w may. may;
      running = runs;
    }
    go false gone is = none-some (owner, Act.Batch us) is
row-makes (Request.Finish e) t r owner us runs is = finish-makes (Request.Finish e) e t r owner us is
row-makes (Request.HaltRun n) t r owner us runs is = absurd (never is)
  where
    never : ◌≡◌ {A = Option (ℕ × Act)} (Some (t, Act.Halt n)) (Some (owner, Act.Batch us)) → ⊥
    never is = let same : Act.Halt n ≡ Act.Batch us = ap act_in is in cc
row-makes Request.Leave t r owner us runs is = leave-makes Request.Leave t r owner us is

not-halted : (o : Option ℕ) → is_some o ≡ false → o ≡ None
not-halted None is = refl
not-halted (Some n) is = absurd (never is)
  where
    never : true ≡ false → ⊥
    never is = cc

pub served-makes : (q : Request) (t : ℕ) (r : Reading) (owner : ℕ) (us : List Update) → Makes (served q t r) owner us → Behind q t r owner us × (r.standing.halted ≡ None)
served-makes q t r owner us is =
    served-as q t r (λ x. Makes x owner us → Behind q t r owner us × (r.standing.halted ≡ None)) (λ is. none-some (owner, Act.Batch us) is) (λ is. none-some (owner, Act.Batch us) is)
    (λ may on is. let behind = row-makes q t r owner us may is in (behind, not-halted r.standing.halted (goes (is_halted r.standing) on behind.remains))) is
  where
    goes : (b : Bool) → (b && not (is_leave q)) ≡ false → is_leave q ≡ false → b ≡ false
    goes true is remains = sym (ap not remains) ∙ is
    goes false is remains = refl

asked-batch : (r : Reading) (e : Entry) (us : List Update) → IsDue r e → e.act ≡ Act.Batch us → IsAskedBatch r e us
asked-batch r e us due batch =
    let found = served-makes due.asked due.thread r e.thread us (due.made ∙ ap (λ a. Some (e.thread, a)) batch) in
    let behind = found.0 in record {
      asked = due.asked;
      makes = behind.makes;
      worker = subst (λ t. worker_of t r.standing.threads ≡ Some e.worker) behind.own (behind.worker e.worker due.may);
      running = subst (λ t. IsTrue (runs t r.standing)) behind.own behind.running;
      going = found.1;
    }

due-at : (r : Reading) (xs : List Entry) (e : Entry) (ys : List Entry) → AllDue r (xs ++ e ∷ ys) → IsDue (fold read r xs) e
due-at r [] e ys all = all.0
due-at r (x ∷ xs) e ys all = due-at (read r x) xs e ys all.1

pub each-batch-is-asked : EachBatchIsAsked
unfolding reading
each-batch-is-asked first h [] behind e us legal is some batch = absurd (some refl)
each-batch-is-asked first h (b ∷ bs) behind e us legal is some batch =
    let same : opening first ∷ legal.later ≡ b ∷ (bs ++ e ∷ behind) = sym legal.opens ∙ is in
    let all = subst (AllDue (reading (opening first ∷ []))) ((heads (opening first) b legal.later (bs ++ e ∷ behind) same).1) legal.due in
    subst (λ x. IsAskedBatch (reading (x ∷ bs)) e us) (heads (opening first) b legal.later (bs ++ e ∷ behind) same).0
    (asked-batch (reading (opening first ∷ bs)) e us (due-at (reading (opening first ∷ [])) bs e behind all) batch)

pub ruleset laws = (each-batch-is-asked)
