-- A stack that comes back to where its newest case was opened.
use Rattle.std.proofs.Common.{◌≡◌, ℕ, suc, ◌-◌, ◌+◌, ◌≤◌, drop, List, [], ◌∷◌, ◌++◌, length, take, refl, sym, ap, ap₂, ◌∙◌, subst, arith, reverse, le_refl, length-take-le, inl}
use Rattle.platoms.specs.Names.{Extends as ExtendsNames}
use Rattle.plsearch.specs.Types.{Case, Choice, Handle}
use Rattle.plenv.specs.Env.{Env, IsEnv, IsWithin, cut}
use Rattle.plenv.specs.Marks.{IsOlder as IsEnvOlder}
use Rattle.plenv.proofs.Cuts.{cut-cut, cut-names, IsMark-cut}
use Rattle.pllinks.specs.declared.link.Continuation.{Continuation}
use Rattle.pllinks.specs.Lists.{AreItems, all_elements}
use Rattle.pllinks.specs.Links.{items_of, alone}
use Rattle.pllinks.proofs.Arena.{chain-take}
use Rattle.plstack.specs.declared.frame.Point.{Point}
use Rattle.plstack.specs.declared.frame.Resume.{Resume}
use Rattle.plstack.specs.declared.frame.Resume.TheVariants as resumes
use Rattle.plstack.specs.declared.frame.Handler.{Handler}
use Rattle.plstack.specs.declared.frame.Frame.{Frame}
use Rattle.plstack.specs.declared.frame.Frame.TheVariants.{Open}
use Rattle.plstack.specs.Places.{Database, handled, case_of, depth_of}
use Rattle.plstack.specs.Frames.{IsOpen, AreOlder, IsResume, AreFrames}
use Rattle.plstack.specs.State.{State, IsStack, goals_in, goals_of, kinds_in, cases_of, IsFit, IsList, CountsUp, Retries, AtHandler, Leaves, Recovers, Guards, IsHandler, IsUndo}
use Rattle.plstack.specs.Cutting.{Settles}
use Rattle.plstack.proofs.Frames.{items-take, cases-cut, AreFrames-cut, reverse-push}
use Rattle.plstack.specs.Levels.{Choosing, kinds_of, FitsIn}
use Rattle.plstack.proofs.Naming.{fits-env}
use Rattle.plstack.proofs.Undoing.{guards-frame}
use Rattle.plstack.proofs.Lists.{empty-list, no-elements}
use Rattle.plstack.proofs.Stacks.{visiting, opened-cases, opened-state, counted, counted-cases, popped-cases, popped-frames, popped-seen, popped-stack, has-last}

-- marks are not older than themselves
pub older-same : (p : Point) → IsEnvOlder p.marks.env p.marks.env
older-same p = record {
  heap = record { cells = le_refl _; trail = le_refl _; numbers = le_refl _; wide = le_refl _ };
  slots = le_refl _;
  noted = le_refl _;
}

-- the newest case comes back to something
module _ (s : State) (d : ℕ) (is : IsStack s d) (rest : List Frame) (p : Point) (r : Resume) (popped : s.frames ≡ rest ++ Open p r ∷ []) where
  pub at-frame : IsOpen (goals_in s) s.env s.links s.saved p r (reverse rest)
  at-frame = (popped-frames s d rest (Open p r) popped is).0

  -- the stack as it was, without that case
  abbrev pub back : State
  back = record { basis = s.basis; env = cut p.marks.env s.env; links = take p.marks.links s.links; saved = take p.marks.saved s.saved; frames = rest; goals = alone 0 }

  pub back-depth : d ≡ suc (depth_of (reverse rest))
  back-depth = omega (arith, (popped-frames s d rest (Open p r) popped is).2)

  pub back-env : IsEnv (cut p.marks.env s.env)
  back-env = at-frame.mark.env

  back-names : ExtendsNames s.basis.code.text.names (cut p.marks.env s.env).heap.names
  back-names = subst (ExtendsNames s.basis.code.text.names) (sym (cut-names p.marks.env s.env)) is.0.names

  saved-room : p.marks.saved ≤ length s.saved
  saved-room = omega (arith, at-frame.saved_room)

  pub back-frames : AreFrames (goals_in s) (cut p.marks.env s.env) (take p.marks.links s.links) (take p.marks.saved s.saved) (reverse rest)
  back-frames = AreFrames-cut (goals_in s) s.env s.links s.saved p.marks at-frame.mark at-frame.links_room saved-room (reverse rest) at-frame.older (popped-frames s d rest (Open p r) popped is).1

  pub back-stack : (IsUndo (Open p r) → ⊥) → IsStack back (d - 1)
  back-stack stays = (
    record {
      env = back-env;
      names = back-names;
      none = is.0.none;
      chain = chain-take s.links p.marks.links is.0.chain at-frame.links_room;
      frames = back-frames;
      seen = (popped-seen s d rest (Open p r) popped is stays).1;
      goals = empty-list (goals_in s) is.0.none (cut p.marks.env s.env) (take p.marks.links s.links);
      fits = inl (no-elements (goals_in s) is.0.none (cut p.marks.env s.env) (take p.marks.links s.links));
    },
    omega (arith, back-depth),
  )

  pub back-cases : (db : Database) → cases_of db back ≡ cases_of db (record s { frames = rest })
  unfolding cases_of
  back-cases db = cases-cut (goals_in s) s.env s.links s.saved p.marks at-frame.mark at-frame.links_room saved-room db (reverse rest) at-frame.older (popped-frames s d rest (Open p r) popped is).1

  pub same-items : items_of (take p.marks.links s.links) p.list ≡ items_of s.links p.list
  same-items = items-take s.links p.marks.links p.list at-frame.list at-frame.links_room

  pub back-list : IsList back p.list
  back-list = record {
    there = omega (arith, at-frame.list, length-take-le p.marks.links s.links at-frame.links_room);
    items = subst (AreItems (goals_in s) (cut p.marks.env s.env).heap (length (cut p.marks.env s.env).slots)) (sym same-items) at-frame.items;
  }

  pub back-fits : IsFit back p.list
  back-fits = fits-env (kinds_of (reverse rest)) (goals_in s) s.env (cut p.marks.env s.env) (items_of s.links p.list) (items_of (take p.marks.links s.links) p.list) same-items at-frame.fits

  pub back-goals : goals_of back p.list ≡ all_elements (goals_in s) (cut p.marks.env s.env) (items_of s.links p.list)
  back-goals = ap (all_elements (goals_in s) (cut p.marks.env s.env)) same-items

pub same-cases : (db : Database) (s : State) (l : Continuation) → cases_of db (record s { goals = l }) ≡ cases_of db s
unfolding cases_of
same-cases db s l = refl

-- the list of a choice is visited
module _ (s : State) (d : ℕ) (is : IsStack s d) (rest : List Frame) (p : Point) (popped : s.frames ≡ rest ++ Open p resumes.List ∷ []) (frames : List Frame) (up : CountsUp 1 (reverse rest) (reverse frames)) where
  abbrev was : State
  was = back s d is rest p resumes.List popped

  abbrev taken-state : State
  taken-state = record { basis = s.basis; env = cut p.marks.env s.env; links = take p.marks.links s.links; saved = take p.marks.saved s.saved; frames = frames; goals = p.list }

  pub taken-stack : IsStack taken-state d
  taken-stack =
      let v = visiting was (d - 1) p.list (back-stack s d is rest p resumes.List popped (λ i. i)) (back-list s d is rest p resumes.List popped) (back-fits s d is rest p resumes.List popped) in
      let c = counted 1 (record was { goals = p.list }) (d - 1) frames up v in
      (c.0, omega (arith, c.1, back-depth s d is rest p resumes.List popped))

  pub taken : (db : Database) → Retries db s taken-state
  taken db = record {
    others = [];
    older = cases_of db (record s { frames = rest });
    was =
        popped-cases db s rest (Open p resumes.List) popped
        ∙ ap (λ gs. Choice (record { goals = gs; variables = (cut p.marks.env s.env).count } ∷ []) ∷ cases_of db (record s { frames = rest })) (sym (back-goals s d is rest p resumes.List popped));
    cases =
        counted-cases 1 db (record was { goals = p.list }) frames up
        ∙ ap (λ cs. Choice [] ∷ cs) (same-cases db was p.list ∙ back-cases s d is rest p resumes.List popped db);
  }

-- all is as it was where a handler of a ball or of what was kept was opened, which stays open
module _ (s : State) (d : ℕ) (is : IsStack s d) (rest : List Frame) (p : Point) (x : Handler) (guards : Guards x) (popped : s.frames ≡ rest ++ Open p (resumes.Handle x) ∷ []) where
  abbrev none-visited : State
  none-visited = back s d is rest p (resumes.Handle x) popped

  abbrev rewound : State
  rewound = record { basis = s.basis; env = cut p.marks.env s.env; links = take p.marks.links s.links; saved = take p.marks.saved s.saved; frames = s.frames; goals = alone 0 }

  the-frame : IsOpen (goals_in s) s.env s.links s.saved p (resumes.Handle x) (reverse rest)
  the-frame = at-frame s d is rest p (resumes.Handle x) popped

  now : cut p.marks.env (cut p.marks.env s.env) ≡ cut p.marks.env s.env
  now = cut-cut p.marks.env p.marks.env s.env (older-same p)

  frame-then : IsOpen (goals_in s) (cut p.marks.env s.env) (take p.marks.links s.links) (take p.marks.saved s.saved) p (resumes.Handle x) (reverse rest)
  frame-then = record {
    mark = IsMark-cut p.marks.env p.marks.env s.env the-frame.mark the-frame.mark (older-same p);
    links_room = omega (arith, length-take-le p.marks.links s.links the-frame.links_room);
    list = the-frame.list;
    saved_room = omega (arith, the-frame.saved_room, length-take-le p.marks.saved s.saved (saved-room s d is rest p (resumes.Handle x) popped));
    older = the-frame.older;
    items = subst (λ (x : Env). AreItems (goals_in s) x.heap (length x.slots) (items_of (take p.marks.links s.links) p.list)) (sym now) (back-list s d is rest p (resumes.Handle x) popped).items;
    resume = subst (λ (e : Env). IsResume e.heap [] (resumes.Handle x)) (sym now) the-frame.resume;
    fits = back-fits s d is rest p (resumes.Handle x) popped;
  }

  pub rewound-stack : IsStack rewound d
  rewound-stack =
      let o = opened-state none-visited (d - 1) s.frames (Open p (resumes.Handle x)) popped (back-stack s d is rest p (resumes.Handle x) popped (guards-frame p x guards)) frame-then (guards-frame p x guards) tt in
      (o.0, omega (arith, o.1, back-depth s d is rest p (resumes.Handle x) popped))

  rewound-open : (db : Database) → cases_of db rewound ≡
      Handle (handled (cut p.marks.env s.env).heap x) (record { goals = goals_of none-visited p.list; variables = (cut p.marks.env s.env).count }) ∷ cases_of db none-visited
  rewound-open db =
      opened-cases db none-visited s.frames (Open p (resumes.Handle x)) popped
      ∙ ap (λ e. case_of db (goals_in s) 0 e (items_of (take p.marks.links s.links) p.list) [] (resumes.Handle x) ∷ cases_of db none-visited) now

  pub rewound-cases : (db : Database) → cases_of db rewound ≡ cases_of db s
  rewound-cases db =
      rewound-open db
      ∙ ap₂ (λ gs cs. Handle (handled (cut p.marks.env s.env).heap x) (record { goals = gs; variables = (cut p.marks.env s.env).count }) ∷ cs)
      (back-goals s d is rest p (resumes.Handle x) popped) (back-cases s d is rest p (resumes.Handle x) popped db)
      ∙ sym (popped-cases db s rest (Open p (resumes.Handle x)) popped)

  pub rewound-at : AtHandler rewound x p.list
  rewound-at = record {
    below = λ db. cases_of db none-visited;
    cases = rewound-open;
    guards = guards;
    there = the-frame.resume;
    list_there = let l = back-list s d is rest p (resumes.Handle x) popped in record { there = l.there; items = l.items };
    list_fits = subst (λ fs. FitsIn (drop 1 (kinds_of fs)) (goals_of none-visited p.list)) (sym (ap reverse popped ∙ reverse-push rest (Open p (resumes.Handle x)))) (back-fits s d is rest p (resumes.Handle x) popped);
    has = has-last IsHandler s.frames rest (Open p (resumes.Handle x)) popped guards;
  }

tail_is : (x y : Case) (xs ys : List Case) → x ∷ xs ≡ y ∷ ys → xs ≡ ys
tail_is x y xs ys e = cc

-- a list is visited in a choice in place of such a handler
module _ (s : State) (d : ℕ) (is : IsStack s d) (rest : List Frame) (p : Point) (x : Handler) (guards : Guards x) (popped : s.frames ≡ rest ++ Open p (resumes.Handle x) ∷ []) (frames : List Frame) (up : CountsUp 1 (reverse rest) (reverse frames))
    (list : Continuation) (l : IsList s list) (f : FitsIn (Choosing ∷ drop 1 (kinds_in s)) (goals_of s list)) where
  abbrev without : State
  without = record { basis = s.basis; env = s.env; links = s.links; saved = s.saved; frames = rest; goals = list }

  pub recovered-stack : IsStack (record s { frames = frames; goals = list }) d
  recovered-stack =
      let q = popped-frames s d rest (Open p (resumes.Handle x)) popped is in
      let u = counted 1 (record s { frames = rest; goals = alone 0 }) (d - 1) frames up (popped-stack s d rest (Open p (resumes.Handle x)) popped is (guards-frame p x guards)) in
      let same : Choosing ∷ drop 1 (kinds_in s) ≡ kinds_of (reverse frames) = ap (λ fs. Choosing ∷ drop 1 (kinds_of fs)) (ap reverse popped ∙ reverse-push rest (Open p (resumes.Handle x))) ∙ sym up.kinds in
      let v = visiting (record s { frames = frames; goals = alone 0 }) (d - 1 + 1) list u (record { there = l.there; items = l.items }) (subst (λ ks. FitsIn ks (goals_of s list)) same f) in
      (v.0, omega (arith, v.1, q.2))

  pub recovers : Recovers s (record s { frames = frames; goals = list }) list
  recovers = record {
    cases = λ db h below was.
        let split = sym (popped-cases db s rest (Open p (resumes.Handle x)) popped) ∙ was in
        counted-cases 1 db without frames up ∙ ap (λ cs. Choice [] ∷ cs) (same-cases db (record s { frames = rest }) list ∙ tail_is _ _ _ _ split);
    place = refl;
  }

-- a list is visited where such a handler was taken off
module _ (s : State) (d : ℕ) (is : IsStack s d) (rest : List Frame) (p : Point) (x : Handler) (guards : Guards x) (popped : s.frames ≡ rest ++ Open p (resumes.Handle x) ∷ []) (list : Continuation) (l : IsList s list) (f : FitsIn (drop 1 (kinds_in s)) (goals_of s list)) where
  pub left-stack : IsStack (record s { frames = rest; goals = list }) (d - 1)
  left-stack =
      let q = popped-frames s d rest (Open p (resumes.Handle x)) popped is in
      let same : drop 1 (kinds_in s) ≡ kinds_of (reverse rest) = ap (λ fs. drop 1 (kinds_of fs)) (ap reverse popped ∙ reverse-push rest (Open p (resumes.Handle x))) in
      let v = visiting (record s { frames = rest; goals = alone 0 }) (d - 1) list (popped-stack s d rest (Open p (resumes.Handle x)) popped is (guards-frame p x guards)) (record { there = l.there; items = l.items }) (subst (λ ks. FitsIn ks (goals_of s list)) same f) in
      (v.0, omega (arith, q.2))

  pub leaves : Leaves s (record s { frames = rest; goals = list }) list
  leaves = record {
    cases = λ db h below was.
        same-cases db (record s { frames = rest }) list ∙ tail_is _ _ _ _ (sym (popped-cases db s rest (Open p (resumes.Handle x)) popped) ∙ was);
    place = refl;
  }

-- so they are where less is old
pub retries_settled : (db : Database) (s mid new : State) → Retries db s mid → Settles mid new → Retries db s new
retries_settled db s mid new r y = record {
  others = r.others;
  older = r.older;
  was = r.was ∙ ap (λ p. Choice (p ∷ r.others) ∷ r.older) (sym y.place);
  cases = y.cases db ∙ r.cases;
}

pub recovers_settled : (s mid new : State) (list : Continuation) → Recovers s mid list → Settles mid new → Recovers s new list
recovers_settled s mid new list r y = record {
  cases = λ db h below was. y.cases db ∙ r.cases db h below was;
  place = y.place ∙ r.place;
}

pub leaves_settled : (s mid new : State) (list : Continuation) → Leaves s mid list → Settles mid new → Leaves s new list
leaves_settled s mid new list r y = record {
  cases = λ db h below was. y.cases db ∙ r.cases db h below was;
  place = y.place ∙ r.place;
}

-- the marks of a case that was taken off
module _ (s : State) (d : ℕ) (is : IsStack s d) (rest : List Frame) (p : Point) (r : Resume) (popped : s.frames ≡ rest ++ Open p r ∷ []) where
  pub within-now : IsWithin p.marks.env s.env
  within-now = (at-frame s d is rest p r popped).mark.within

  pub within-then : IsWithin p.marks.env (cut p.marks.env s.env)
  within-then = (IsMark-cut p.marks.env p.marks.env s.env (at-frame s d is rest p r popped).mark (at-frame s d is rest p r popped).mark (older-same p)).within

  pub older-rest : AreOlder p.marks (reverse rest)
  older-rest = (at-frame s d is rest p r popped).older

  pub older-then : (frames : List Frame) → CountsUp 1 (reverse rest) (reverse frames) → AreOlder p.marks (reverse frames)
  older-then frames up = up.older p.marks older-rest
