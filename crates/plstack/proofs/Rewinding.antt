-- A stack that goes back to the opening of its newest case, a call, which stays open.
use Rattle.std.proofs.Common.{◌≡◌, ℕ, zero, suc, ◌+◌, ◌-◌, List, [], ◌∷◌, ◌++◌, length, take, drop, refl, sym, ap, ap₂, ◌∙◌, subst, arith, reverse, append-nil, le_refl, length-take-le}
use Rattle.plcells.specs.declared.cell.Cell.{Cell}
use Rattle.plsearch.specs.Engine.{deeper}
use Rattle.plenv.specs.Env.{Env, cut}
use Rattle.plenv.proofs.Cuts.{cut-cut, IsMark-cut}
use Rattle.plenv.proofs.Keeping.{Keeps-refl}
use Rattle.pllinks.specs.Lists.{AreItems}
use Rattle.pllinks.specs.Links.{items_of, alone}
use Rattle.plstack.specs.declared.frame.Point.{Point}
use Rattle.plstack.specs.declared.frame.Clauses.{Clauses}
use Rattle.plstack.specs.declared.frame.Resume.{Resume}
use Rattle.plstack.specs.declared.frame.Resume.TheVariants as resumes
use Rattle.plstack.specs.declared.frame.Frame.{Frame}
use Rattle.plstack.specs.declared.frame.Frame.TheVariants.{Open}
use Rattle.plstack.specs.Places.{Database, kept, kept_values, case_of, cases}
use Rattle.plstack.specs.Frames.{IsOpen, IsResume, AreFrames}
use Rattle.plstack.specs.State.{State, IsStack, goals_in, cases_of, IsList, IsUndo, goals_of}
use Rattle.plstack.specs.StaticCalls.{AtCall}
use Rattle.plstack.specs.Levels.{kinds_of, FitsIn}
use Rattle.plstack.proofs.Naming.{fits-env}
use Rattle.plstack.proofs.Frames.{run-take, cases-kept, AreFrames-kept, reverse-push}
use Rattle.plstack.proofs.Stacks.{opened-cases, opened-state, popped-cases, popped-seen}
use Rattle.plstack.proofs.Returning.{older-same, at-frame, back-depth, back-env, back-frames, back-stack, back-cases, back-list, same-items}

take-nil : (k : ℕ) → take {A = Cell} k [] ≡ []
take-nil zero = refl
take-nil (suc k) = refl

split-at : (m k : ℕ) (xs : List Cell) → take (m + k) xs ≡ take m xs ++ take k (drop m xs)
split-at zero k xs = let same : 0 + k ≡ k = omega arith in ap (λ n. take n xs) same
split-at (suc m) k [] = take-nil (suc m + k) ∙ sym (take-nil k)
split-at (suc m) k (x ∷ xs) = let more : suc m + k ≡ suc (m + k) = omega arith in ap (λ n. take n (x ∷ xs)) more ∙ ap (λ ys. x ∷ ys) (split-at m k xs)

module _ (s : State) (d : ℕ) (is : IsStack s d) (rest : List Frame) (p : Point) (r : Resume) (popped : s.frames ≡ rest ++ Open p r ∷ []) where
  abbrev e : Env
  e = cut p.marks.env s.env

  abbrev values : List Cell
  values = take (p.marks.saved + kept r) s.saved

  -- without the case, and with its values
  abbrev pub without : State
  without = record { basis = s.basis; env = cut p.marks.env s.env; links = take p.marks.links s.links; saved = take (p.marks.saved + kept r) s.saved; frames = rest; goals = alone 0 }

  the-frame : IsOpen (goals_in s) s.env s.links s.saved p r (reverse rest)
  the-frame = at-frame s d is rest p r popped

  split : values ≡ take p.marks.saved s.saved ++ take (kept r) (drop p.marks.saved s.saved)
  split = split-at p.marks.saved (kept r) s.saved

  frames-then : AreFrames (goals_in s) e (take p.marks.links s.links) values (reverse rest)
  frames-then =
      subst (λ vs. AreFrames (goals_in s) e (take p.marks.links s.links) vs (reverse rest)) (sym split)
      (subst (λ ks. AreFrames (goals_in s) e ks (take p.marks.saved s.saved ++ take (kept r) (drop p.marks.saved s.saved)) (reverse rest)) (append-nil (take p.marks.links s.links))
      (AreFrames-kept (goals_in s) e e (take p.marks.links s.links) [] (take p.marks.saved s.saved) (take (kept r) (drop p.marks.saved s.saved)) (Keeps-refl e) (back-env s d is rest p r popped).heap.names (reverse rest) (back-frames s d is rest p r popped)))

  pub without-stack : (IsUndo (Open p r) → ⊥) → IsStack without (d - 1)
  without-stack stays = let was = back-stack s d is rest p r popped stays in (
    record { env = was.0.env; names = was.0.names; none = was.0.none; chain = was.0.chain; frames = frames-then; seen = was.0.seen; goals = record { there = was.0.goals.there; items = was.0.goals.items }; fits = was.0.fits },
    was.1,
  )

  pub without-cases : (db : Database) → cases_of db without ≡ cases_of db (record s { frames = rest })
  unfolding cases_of
  without-cases db =
      ap₂ (λ ks vs. cases db (goals_in s) e ks vs (reverse rest)) (sym (append-nil (take p.marks.links s.links))) split
      ∙ cases-kept (goals_in s) e e (take p.marks.links s.links) [] (take p.marks.saved s.saved) (take (kept r) (drop p.marks.saved s.saved)) (Keeps-refl e) (back-env s d is rest p r popped).heap.names db (reverse rest) (back-frames s d is rest p r popped)
      ∙ back-cases s d is rest p r popped db

  pub now : cut p.marks.env e ≡ e
  now = cut-cut p.marks.env p.marks.env s.env (older-same p)

  pub kept-then : kept_values values p r ≡ kept_values s.saved p r
  kept-then = run-take (p.marks.saved + kept r) p.marks.saved (kept r) s.saved (le_refl _)

  pub frame-then : IsOpen (goals_in s) e (take p.marks.links s.links) values p r (reverse rest)
  frame-then = record {
    mark = IsMark-cut p.marks.env p.marks.env s.env the-frame.mark the-frame.mark (older-same p);
    links_room = omega (arith, length-take-le p.marks.links s.links the-frame.links_room);
    list = the-frame.list;
    saved_room = omega (arith, length-take-le (p.marks.saved + kept r) s.saved the-frame.saved_room);
    older = the-frame.older;
    items = subst (λ (x : Env). AreItems (goals_in s) x.heap (length x.slots) (items_of (take p.marks.links s.links) p.list)) (sym now) (back-list s d is rest p r popped).items;
    resume = subst (λ (x : Env). IsResume x.heap (kept_values values p r) r) (sym now) (subst (λ vs. IsResume e.heap vs r) (sym kept-then) the-frame.resume);
    fits = fits-env (kinds_of (reverse rest)) (goals_in s) s.env e (items_of s.links p.list) (items_of (take p.marks.links s.links) p.list) (same-items s d is rest p r popped) the-frame.fits;
  }

  abbrev pub rewound : State
  rewound = record { basis = s.basis; env = cut p.marks.env s.env; links = take p.marks.links s.links; saved = take (p.marks.saved + kept r) s.saved; frames = s.frames; goals = alone 0 }

  pub rewound-stack : (IsUndo (Open p r) → ⊥) → IsStack rewound d
  rewound-stack stays =
      let o = opened-state without (d - 1) s.frames (Open p r) popped (without-stack stays) frame-then stays (popped-seen s d rest (Open p r) popped is stays).0 in
      (o.0, omega (arith, o.1, back-depth s d is rest p r popped))

  pub rewound-cases : (db : Database) → cases_of db rewound ≡ cases_of db s
  rewound-cases db =
      opened-cases db without s.frames (Open p r) popped
      ∙ ap (λ x. case_of db (goals_in s) (deeper (cases_of db without) 0) x (items_of (take p.marks.links s.links) p.list) (kept_values values p r) r ∷ cases_of db without) now
      ∙ ap₂ (λ xs vs. case_of db (goals_in s) (deeper (cases_of db without) 0) e xs vs r ∷ cases_of db without) (same-items s d is rest p r popped) kept-then
      ∙ ap (λ cs. case_of db (goals_in s) (deeper cs 0) e (items_of s.links p.list) (kept_values s.saved p r) r ∷ cs) (without-cases db)
      ∙ sym (popped-cases db s rest (Open p r) popped)

  pub list-then : IsList without p.list
  list-then = let l = back-list s d is rest p r popped in record { there = l.there; items = l.items }

  -- the case, over those below it
  pub was-open : (db : Database) → cases_of db s ≡ case_of db (goals_in s) (deeper (cases_of db without) 0) e (items_of (take p.marks.links s.links) p.list) (kept_values s.saved p r) r ∷ cases_of db without
  was-open db =
      popped-cases db s rest (Open p r) popped
      ∙ ap (λ cs. case_of db (goals_in s) (deeper cs 0) e (items_of s.links p.list) (kept_values s.saved p r) r ∷ cs) (sym (without-cases db))
      ∙ ap (λ xs. case_of db (goals_in s) (deeper (cases_of db without) 0) e xs (kept_values s.saved p r) r ∷ cases_of db without) (sym (same-items s d is rest p r popped))

module _ (s : State) (d : ℕ) (is : IsStack s d) (rest : List Frame) (p : Point) (c : Clauses) (popped : s.frames ≡ rest ++ Open p (resumes.Clauses c) ∷ []) where
  pub at-call : AtCall (rewound s d is rest p (resumes.Clauses c) popped) p c
  at-call = record {
    calling = record { rest = rest; top = popped };
    now = now s d is rest p (resumes.Clauses c) popped;
    list = let l = list-then s d is rest p (resumes.Clauses c) popped in record { there = l.there; items = l.items };
    fits = subst (λ fs. FitsIn (drop 1 (kinds_of fs)) (goals_of (without s d is rest p (resumes.Clauses c) popped) p.list)) (sym (ap reverse popped ∙ reverse-push rest (Open p (resumes.Clauses c)))) (frame-then s d is rest p (resumes.Clauses c) popped).fits;
  }
