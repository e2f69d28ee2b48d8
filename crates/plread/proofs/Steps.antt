-- One step of the machine keeps what is spelled, in both directions.
use Rattle.std.proofs.Common.{◌≡◌, ◌≤◌, ◌<◌, ◌+◌, nat_lt, Bool, true, false, cond, lt-ltb, arith, ℕ, zero, suc, List, [], ◌∷◌, drop, Option, Some, None, inl, inr, refl, sym, subst}
use Rattle.std.proofs.lemmas.Bool.{ltb-true}
use Rattle.plterm.specs.Tree.{Tree, Trees, atom, compound, none, more}
use Rattle.plterm.specs.Building.{gather}
use Rattle.plops.specs.declared.table.OpTable.{OpTable}
use Rattle.plread.specs.Signs.{Sign}
use Rattle.plread.specs.Signs as tok
use Rattle.plread.specs.Levels.{Level}
use Rattle.plread.specs.Levels as frames
use Rattle.plread.specs.Texts.{nil, curly, list_term}
use Rattle.plread.specs.Reading.{count, Start, Stands, Opens, OpensList, OpensCurly, Calls, Before, NoStart, Next, Between, Behind, Stop, start_of, next_of, Reads, reads, Begins, leaf, bracket, list, braces, call, before_op, Extends, stop, between_op, behind_op, Arguments, last, another, Elements, closed, tailed, element}
use Rattle.plread.specs.Machine.{max_of, After, Fails, wants, goes_on, stops, closes, curls, argues, lists, tails, ends, step_at}
use Rattle.plread.proofs.Meeting.{Extended, Completes, Follow, FollowList, with_list, Wanted, Given, Meets_at, MeetsAfter}

first_of_few : (args : Trees) → suc (count args) ≤ 1024 → suc 0 + count args ≤ 1024
first_of_few args h = omega arith

few_with_first : (args : Trees) → suc 0 + count args ≤ 1024 → suc (count args) ≤ 1024
few_with_first args h = omega arith

one_more : (k c : ℕ) → suc k + suc c ≤ 1024 → suc (suc k) + c ≤ 1024
one_more k c h = omega arith

one_less : (k c : ℕ) → suc (suc k) + c ≤ 1024 → suc k + suc c ≤ 1024
one_less k c h = omega arith

-- where an operand is given there is its tree
abbrev pub Ready : List Tree → Option ℕ → Type 0
Ready trees None = Unit {0}
Ready [] (Some p) = ⊥
Ready (t ∷ trees) (Some p) = Unit {0}

module _ (ops : OpTable) (whole : Tree) where
  -- an operand that begins like this, and is then extended
  abbrev Began : ℕ → List Level → List Tree → Start → Type 0
  Began room stack trees start =
      (t : Tree) × (p : ℕ) × (mid : List Sign) × Begins ops room start t p mid × Extended ops room (max_of stack) (t ∷ trees) p mid (Completes ops room stack whole)

  wanted_began : (room : ℕ) (stack : List Level) (trees : List Tree) (ts : List Sign) → Wanted ops room stack whole trees ts → Began room stack trees (start_of ops (max_of stack) ts)
  wanted_began room stack trees ts (t, p, rest, reads b e, c) = (_, _, _, b, (t, p, rest, e, c))

  began_wanted : (room : ℕ) (stack : List Level) (trees : List Tree) (ts : List Sign) → Began room stack trees (start_of ops (max_of stack) ts) → Wanted ops room stack whole trees ts
  began_wanted room stack trees ts (t, p, mid, b, (u, q, rest, e, c)) = (u, q, rest, reads b e, c)

  began_after : (room : ℕ) (stack : List Level) (trees : List Tree) (start : Start) → Began room stack trees start → MeetsAfter ops (wants room stack trees start) whole
  began_after room stack trees (Stands x ts) (t, p, mid, leaf, h) = h
  began_after (suc room) stack trees (Opens ts) (t, p, mid, bracket r, h) = (_, _, _, r, (_, refl, h))
  began_after (suc room) stack trees (OpensList ts) (t, p, mid, list (closed r), h) = (_, _, _, r, (_, _, _, inl (refl, refl, refl), h))
  began_after (suc room) stack trees (OpensList ts) (t, p, mid, list (tailed r a), h) = (_, _, _, r, (_, _, _, inr (inl (_, _, refl, refl, a)), h))
  began_after (suc room) stack trees (OpensList ts) (t, p, mid, list (element r a), h) = (_, _, _, r, (_, _, _, inr (inr (_, refl, a)), h))
  began_after (suc room) stack trees (OpensCurly ts) (t, p, mid, braces r, h) = (_, _, _, r, (_, refl, h))
  began_after (suc room) stack trees (Calls n ts) (t, p, mid, call (last r) few, h) = (_, _, _, r, (_, _, inl (refl, refl), first_of_few none few, h))
  began_after (suc room) stack trees (Calls n ts) (t, p, mid, call (another r a) few, h) = (_, _, _, r, (_, _, inr (_, refl, a), first_of_few _ few, h))
  began_after (suc room) stack trees (Before n op ts) (t, p, mid, before_op r, h) = (_, _, _, r, h)
  began_after zero stack trees (Opens ts) (t, p, mid, b, h) = elim b [ ]
  began_after zero stack trees (OpensList ts) (t, p, mid, b, h) = elim b [ ]
  began_after zero stack trees (OpensCurly ts) (t, p, mid, b, h) = elim b [ ]
  began_after zero stack trees (Calls n ts) (t, p, mid, b, h) = elim b [ ]
  began_after zero stack trees (Before n op ts) (t, p, mid, b, h) = elim b [ ]
  began_after room stack trees NoStart (t, p, mid, b, h) = elim b [ ]

  before_close : {room max p : ℕ} {ts rest : List Sign} (from : List Sign) {t : Tree} → Reads ops room max ts t p from → from ≡ rest → Reads ops room max ts t p rest
  before_close {room} {max} {p} {ts} from {t} r e = subst (λ l. Reads ops room max ts t p l) e r

  argued : (room p : ℕ) (ts from rest : List Sign) (t : Tree) (args : Trees) → Reads ops room 999 ts t p from → Follow ops room from args rest → Arguments ops room ts (more t args) rest
  argued room p ts from rest t args r (inl (e, z)) = subst (λ a. Arguments ops room ts (more t a) rest) (sym z) (last (before_close from r e))
  argued room p ts from rest t args r (inr (mid, e, a)) = another (before_close from r e) a

  listed : (room p : ℕ) (ts from rest : List Sign) (t : Tree) (items : Trees) (tail : Tree) → Reads ops room 999 ts t p from → FollowList ops room from items tail rest → Elements ops room ts (more t items) tail rest
  listed room p ts from rest t items tail r (inl (e, z, n)) =
      subst (λ l. Elements ops room ts (more t items) l rest) (sym n) (subst (λ a. Elements ops room ts (more t a) (atom nil) rest) (sym z) (closed (before_close from r e)))
  listed room p ts from rest t items tail r (inr (inl (mid, q, e, z, a))) = subst (λ l. Elements ops room ts (more t l) tail rest) (sym z) (tailed (before_close from r e) a)
  listed room p ts from rest t items tail r (inr (inr (mid, e, a))) = element (before_close from r e) a

  after_began : (room : ℕ) (stack : List Level) (trees : List Tree) (start : Start) → MeetsAfter ops (wants room stack trees start) whole → Began room stack trees start
  after_began room stack trees (Stands x ts) h = (_, 0, ts, leaf, h)
  after_began (suc room) stack trees (Opens ts) (t, p, from, r, (rest, e, h)) = (t, 0, rest, bracket (before_close from r e), h)
  after_began (suc room) stack trees (OpensList ts) (t, p, from, r, (items, tail, rest, f, h)) = (list_term (more t items) tail, 0, rest, list (listed room p ts from rest t items tail r f), h)
  after_began (suc room) stack trees (OpensCurly ts) (t, p, from, r, (rest, e, h)) = (compound curly (more t none), 0, rest, braces (before_close from r e), h)
  after_began (suc room) stack trees (Calls n ts) (t, p, from, r, (args, rest, f, few, h)) = (compound n (more t args), 0, rest, call (argued room p ts from rest t args r f) (few_with_first args few), h)
  after_began (suc room) stack trees (Before n op ts) (t, p, mid, r, h) = (compound n (more t none), op.priority, mid, before_op r, h)
  after_began zero stack trees (Opens ts) h = absurd h
  after_began zero stack trees (OpensList ts) h = absurd h
  after_began zero stack trees (OpensCurly ts) h = absurd h
  after_began zero stack trees (Calls n ts) h = absurd h
  after_began zero stack trees (Before n op ts) h = absurd h
  after_began room stack trees NoStart h = absurd h

  -- an operand that is extended as this says
  abbrev Going : ℕ → List Level → Tree → List Tree → ℕ → List Sign → Next → Type 0
  Going room stack t trees p ts next =
      (u : Tree) × (q : ℕ) × (rest : List Sign) × Extends ops room (max_of stack) next t p ts u q rest × Completes ops room stack whole (u ∷ trees) q rest

  completes_after : (room : ℕ) (stack : List Level) (t : Tree) (trees : List Tree) (p : ℕ) (ts : List Sign) → Completes ops room stack whole (t ∷ trees) p ts → MeetsAfter ops (stops room stack (t ∷ trees) ts) whole
  completes_after room [] t trees p ts (e, h) = subst (λ l. MeetsAfter ops (ends (t ∷ trees) l) whole) (sym e) h
  completes_after room (frames.Bracket ∷ stack) t trees p ts (rest, e, h) = subst (λ l. MeetsAfter ops (closes room stack (t ∷ trees) l) whole) (sym e) h
  completes_after room (frames.Curly ∷ stack) t trees p ts (rest, e, h) = subst (λ l. MeetsAfter ops (curls room stack (t ∷ trees) l) whole) (sym e) h
  completes_after room (frames.Tail k ∷ stack) t trees p ts (rest, e, h) = subst (λ l. MeetsAfter ops (tails k room stack (t ∷ trees) l) whole) (sym e) h
  completes_after room (frames.Elements k ∷ stack) t trees p ts (items, tail, rest, inl (e, z, n), h) =
      subst (λ l. MeetsAfter ops (lists k room stack (t ∷ trees) l) whole) (sym e)
      (subst (λ a. Given ops (suc room) stack whole (with_list (suc k) none a (t ∷ trees)) 0 rest) n (subst (λ a. Given ops (suc room) stack whole (with_list (suc k) a tail (t ∷ trees)) 0 rest) z h))
  completes_after room (frames.Elements k ∷ stack) t trees p ts (items, tail, rest, inr (inl (mid, q, e, z, a)), h) =
      subst (λ l. MeetsAfter ops (lists k room stack (t ∷ trees) l) whole) (sym e)
      (tail, q, _, a, (rest, refl, subst (λ l. Given ops (suc room) stack whole (with_list (suc k) l tail (t ∷ trees)) 0 rest) z h))
  completes_after room (frames.Elements k ∷ stack) t trees p ts (items, tail, rest, inr (inr (mid, e, closed r)), h) =
      subst (λ l. MeetsAfter ops (lists k room stack (t ∷ trees) l) whole) (sym e) (_, _, _, r, (_, _, _, inl (refl, refl, refl), h))
  completes_after room (frames.Elements k ∷ stack) t trees p ts (items, tail, rest, inr (inr (mid, e, tailed r a)), h) =
      subst (λ l. MeetsAfter ops (lists k room stack (t ∷ trees) l) whole) (sym e) (_, _, _, r, (_, _, _, inr (inl (_, _, refl, refl, a)), h))
  completes_after room (frames.Elements k ∷ stack) t trees p ts (items, tail, rest, inr (inr (mid, e, element r a)), h) =
      subst (λ l. MeetsAfter ops (lists k room stack (t ∷ trees) l) whole) (sym e) (_, _, _, r, (_, _, _, inr (inr (_, refl, a)), h))
  completes_after room (frames.Call n k ∷ stack) t trees p ts (args, rest, inl (e, z), few, h) =
      let all : k < 1024 = omega arith in
      subst (λ l. MeetsAfter ops (argues n k room stack (t ∷ trees) l) whole) (sym e)
      (rw (lt-ltb k 1024 all) (subst (λ a. Extended ops (suc room) (max_of stack) (compound n (gather k trees (more t a)) ∷ drop k trees) 0 rest (Completes ops (suc room) stack whole)) z h))
  completes_after room (frames.Call n k ∷ stack) t trees p ts (args, rest, inr (mid, e, last r), few, h) =
      let all : k < 1023 = omega arith in
      subst (λ l. MeetsAfter ops (argues n k room stack (t ∷ trees) l) whole) (sym e)
      (rw (lt-ltb k 1023 all) (_, _, _, r, (none, rest, inl (refl, refl), one_more k 0 few, h)))
  completes_after room (frames.Call n k ∷ stack) t trees p ts (args, rest, inr (mid, e, another {args = others} r a), few, h) =
      let all : k < 1023 = omega arith in
      subst (λ l. MeetsAfter ops (argues n k room stack (t ∷ trees) l) whole) (sym e)
      (rw (lt-ltb k 1023 all) (_, _, _, r, (_, rest, inr (_, refl, a), one_more k (count others) few, h)))
  completes_after room (frames.Before n op ∷ stack) t trees p ts h = h
  completes_after room (frames.Between n op ∷ stack) t trees p ts h = h

  after_closes : (room : ℕ) (stack : List Level) (t : Tree) (trees : List Tree) (p : ℕ) (ts : List Sign) → MeetsAfter ops (closes room stack (t ∷ trees) ts) whole → Completes ops room (frames.Bracket ∷ stack) whole (t ∷ trees) p ts
  after_closes room stack t trees p (tok.Close ∷ ts) h = (ts, refl, h)
  after_closes room stack t trees p ts h = absurd h

  after_curls : (room : ℕ) (stack : List Level) (t : Tree) (trees : List Tree) (p : ℕ) (ts : List Sign) → MeetsAfter ops (curls room stack (t ∷ trees) ts) whole → Completes ops room (frames.Curly ∷ stack) whole (t ∷ trees) p ts
  after_curls room stack t trees p (tok.CloseCurly ∷ ts) h = (ts, refl, h)
  after_curls room stack t trees p ts h = absurd h

  after_tails : (k room : ℕ) (stack : List Level) (t : Tree) (trees : List Tree) (p : ℕ) (ts : List Sign) → MeetsAfter ops (tails k room stack (t ∷ trees) ts) whole → Completes ops room (frames.Tail k ∷ stack) whole (t ∷ trees) p ts
  after_tails k room stack t trees p (tok.CloseSquare ∷ ts) h = (ts, refl, h)
  after_tails k room stack t trees p ts h = absurd h

  after_lists : (k room : ℕ) (stack : List Level) (t : Tree) (trees : List Tree) (p : ℕ) (ts : List Sign) → MeetsAfter ops (lists k room stack (t ∷ trees) ts) whole → Completes ops room (frames.Elements k ∷ stack) whole (t ∷ trees) p ts
  after_lists k room stack t trees p (tok.CloseSquare ∷ ts) h = (none, atom nil, ts, inl (refl, refl, refl), h)
  after_lists k room stack t trees p (tok.Bar ∷ ts) (tail, q, from, r, (rest, e, h)) = (none, tail, rest, inr (inl (ts, q, refl, refl, before_close from r e)), h)
  after_lists k room stack t trees p (tok.Comma ∷ ts) (u, q, from, r, (items, tail, rest, f, h)) = (more u items, tail, rest, inr (inr (ts, refl, listed room q ts from rest u items tail r f)), h)
  after_lists k room stack t trees p ts h = absurd h

  -- a test that chooses between a state and a failure was true where the tree is spelled
  tested : (b : Bool) (after : After) → MeetsAfter ops (cond b after Fails) whole → (b ≡ true) × MeetsAfter ops after whole
  tested true after h = (refl, h)
  tested false after h = absurd h

  next_argument : (n : List ℕ) (k room : ℕ) (stack : List Level) (t : Tree) (trees : List Tree) (p : ℕ) (ts : List Sign) → Wanted ops room (frames.Call n (suc k) ∷ stack) whole (t ∷ trees) ts → Completes ops room (frames.Call n k ∷ stack) whole (t ∷ trees) p (tok.Comma ∷ ts)
  next_argument n k room stack t trees p ts (u, q, from, r, (args, rest, f, few, h)) = (more u args, rest, inr (ts, refl, argued room q ts from rest u args r f), one_less k (count args) few, h)

  after_argues : (n : List ℕ) (k room : ℕ) (stack : List Level) (t : Tree) (trees : List Tree) (p : ℕ) (ts : List Sign) → MeetsAfter ops (argues n k room stack (t ∷ trees) ts) whole → Completes ops room (frames.Call n k ∷ stack) whole (t ∷ trees) p ts
  after_argues n k room stack t trees p (tok.Close ∷ ts) h =
      let few = tested (nat_lt k 1024) _ h in
      let all : suc k + 0 ≤ 1024 = omega (arith, ltb-true k 1024 few.0) in
      (none, ts, inl (refl, refl), all, few.1)
  after_argues n k room stack t trees p (tok.Comma ∷ ts) h = let few = tested (nat_lt k 1023) _ h in next_argument n k room stack t trees p ts few.1
  after_argues n k room stack t trees p ts h = absurd h

  after_ends : (room : ℕ) (t : Tree) (trees : List Tree) (p : ℕ) (ts : List Sign) → MeetsAfter ops (ends (t ∷ trees) ts) whole → Completes ops room [] whole (t ∷ trees) p ts
  after_ends room t trees p (tok.End ∷ []) h = (refl, h)
  after_ends room t trees p ts h = absurd h

  after_completes : (room : ℕ) (stack : List Level) (t : Tree) (trees : List Tree) (p : ℕ) (ts : List Sign) → MeetsAfter ops (stops room stack (t ∷ trees) ts) whole → Completes ops room stack whole (t ∷ trees) p ts
  after_completes room [] t trees p ts h = after_ends room t trees p ts h
  after_completes room (frames.Bracket ∷ stack) t trees p ts h = after_closes room stack t trees p ts h
  after_completes room (frames.Curly ∷ stack) t trees p ts h = after_curls room stack t trees p ts h
  after_completes room (frames.Elements k ∷ stack) t trees p ts h = after_lists k room stack t trees p ts h
  after_completes room (frames.Tail k ∷ stack) t trees p ts h = after_tails k room stack t trees p ts h
  after_completes room (frames.Call n k ∷ stack) t trees p ts h = after_argues n k room stack t trees p ts h
  after_completes room (frames.Before n op ∷ stack) t trees p ts h = h
  after_completes room (frames.Between n op ∷ stack) t trees p ts h = h

  going_after : (room : ℕ) (stack : List Level) (t : Tree) (trees : List Tree) (p : ℕ) (ts : List Sign) (next : Next) → Going room stack t trees p ts next → MeetsAfter ops (goes_on room stack (t ∷ trees) ts next) whole
  going_after (suc room) stack t trees p ts (Between n op inside) (u, q, rest, between_op r e, c) = (_, _, _, r, (u, q, rest, e, c))
  going_after zero stack t trees p ts (Between n op inside) (u, q, rest, e, c) = elim e [ ]
  going_after room stack t trees p ts (Behind n op mid) (u, q, rest, behind_op e, c) = (u, q, rest, e, c)
  going_after room stack t trees p ts Stop (u, q, rest, stop, c) = completes_after room stack _ trees _ _ c

  after_going : (room : ℕ) (stack : List Level) (t : Tree) (trees : List Tree) (p : ℕ) (ts : List Sign) (next : Next) → MeetsAfter ops (goes_on room stack (t ∷ trees) ts next) whole → Going room stack t trees p ts next
  after_going (suc room) stack t trees p ts (Between n op inside) (u, q, mid, r, (v, w, rest, e, c)) = (v, w, rest, between_op r e, c)
  after_going zero stack t trees p ts (Between n op inside) h = absurd h
  after_going room stack t trees p ts (Behind n op mid) (u, q, rest, e, c) = (u, q, rest, behind_op e, c)
  after_going room stack t trees p ts Stop h = (t, p, ts, stop, after_completes room stack t trees p ts h)

  -- what a state spells, the state after it spells
  pub kept : (room : ℕ) (stack : List Level) (trees : List Tree) (given : Option ℕ) (ts : List Sign) → Meets_at ops room stack whole trees given ts → MeetsAfter ops (step_at ops room stack trees given ts) whole
  kept room stack trees None ts h = began_after room stack trees (start_of ops (max_of stack) ts) (wanted_began room stack trees ts h)
  kept room stack (t ∷ trees) (Some p) ts h = going_after room stack t trees p ts (next_of ops (max_of stack) p ts) h
  kept room stack [] (Some p) ts h = absurd h

  -- and no more
  pub only : (room : ℕ) (stack : List Level) (trees : List Tree) (given : Option ℕ) (ts : List Sign) → Ready trees given → MeetsAfter ops (step_at ops room stack trees given ts) whole → Meets_at ops room stack whole trees given ts
  only room stack trees None ts ready h = began_wanted room stack trees ts (after_began room stack trees (start_of ops (max_of stack) ts) h)
  only room stack (t ∷ trees) (Some p) ts ready h = after_going room stack t trees p ts (next_of ops (max_of stack) p ts) h
  only room stack [] (Some p) ts ready h = absurd ready
