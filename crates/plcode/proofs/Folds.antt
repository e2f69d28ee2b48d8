-- The pieces of a body, from the last to the first.
use Rattle.std.proofs.Common.{◌≡◌, ℕ, List, [], ◌∷◌, ◌++◌, ◌+◌, length, take, reverse, refl, subst, sym, arith, length-drop, length-take, codes}
use Rattle.plterm.specs.Tree.{Tree}
use Rattle.plcode.specs.declared.op.Op.TheVariants as ops
use Rattle.plcode.specs.declared.op.Step.{Step}
use Rattle.plcode.specs.declared.body.Part.{Part}
use Rattle.plcode.specs.declared.body.Piece.{Piece}
use Rattle.plcode.specs.declared.body.Piece.TheVariants.{And, Or, IfThen, Single}
use Rattle.plcode.specs.Laying.{IsLaid}
use Rattle.plcode.specs.Steps.{Text, Extended}
use Rattle.plcode.specs.Bodies.{step, AreForTwo, HasTwo, Holds, IsCode, IsNext, Made, Means, Splits, Leads, Ready, Begins}
use Rattle.plcode.proofs.Stays.{Args-more}
use Rattle.plcode.proofs.Pushing.{with_steps, sequence_code, sequence_begins, sequence_extended}

-- the parts made are for goals to which the pieces that are left lead
pub record Folding (c : Text) (g : Tree) (left : List Piece) (ps : List Part) (made : List Step) : Type 0 where
  pub goals : List Tree
  pub leads : Leads c left (g ∷ []) goals
  pub parts : Made c ps made goals

-- ---- more code

Means-more : (c d : Text) (p : Piece) (g : Tree) (rest new : List Tree) → IsLaid c.names c.nodes → Extended c d → Means c p g rest new → Means d p g rest new
Means-more c d And g rest new laid more h = h
Means-more c d Or g rest new laid more h = h
Means-more c d IfThen g rest new laid more h = h
Means-more c d (Single at) g rest new laid more h = record { no_arrow = h.no_arrow; node = Args-more c d laid more at (g ∷ []) h.node; next = h.next }

pub Splits-more : (c d : Text) (p : Piece) (gs hs : List Tree) → IsLaid c.names c.nodes → Extended c d → Splits c p gs hs → Splits d p gs hs
Splits-more c d p gs hs laid more h =
    record { goal = h.goal; rest = h.rest; before = h.before; means = Means-more c d p h.goal h.rest hs laid more h.means }

pub Leads-more : (c d : Text) (ps : List Piece) (gs ks : List Tree) → IsLaid c.names c.nodes → Extended c d → Leads c ps gs ks → Leads d ps gs ks
Leads-more c d [] gs ks laid more h = h
Leads-more c d (p ∷ ps) gs ks laid more h = (h.0, Splits-more c d p gs h.0 laid more h.1, Leads-more c d ps h.0 ks laid more h.2)

-- ---- the last piece

pub record Last (c : Text) (ls : List Piece) (p : Piece) (gs ks : List Tree) : Type 0 where
  pub between : List Tree
  pub leads : Leads c ls gs between
  pub splits : Splits c p between ks

pub Leads-last : (c : Text) (ls : List Piece) (p : Piece) (gs ks : List Tree) → Leads c (ls ++ p ∷ []) gs ks → Last c ls p gs ks
Leads-last c [] p gs ks h =
    let P : List Tree → Type 0 = Splits c p gs in
    record { between = gs; leads = refl; splits = subst P h.2 h.1 }
Leads-last c (l ∷ ls) p gs ks h =
    let r = Leads-last c ls p h.0 ks h.2 in record { between = r.between; leads = (h.0, h.1, r.leads); splits = r.splits }

pub Leads-push : (c : Text) (ls : List Piece) (p : Piece) (gs ms ks : List Tree) → Leads c ls gs ms → Splits c p ms ks → Leads c (ls ++ p ∷ []) gs ks
Leads-push c [] p gs ms ks h s =
    let P : List Tree → Type 0 = λ v. Splits c p v ks in (ks, subst P (sym h) s, refl)
Leads-push c (l ∷ ls) p gs ms ks h s = (h.0, h.1, Leads-push c ls p h.0 ms ks h.2 s)

-- ---- its parts

two : (c : Text) (ps : List Part) (xs : List Step) (a b : Tree) (rest : List Tree) → Made c ps xs (a ∷ b ∷ rest) → HasTwo ps (length xs)
two c [] xs a b rest h = h
two c (p ∷ []) xs a b rest h = h.4
two c (p ∷ q ∷ ps) xs a b rest h = let behind = h.4 in (h.0, omega (arith, h.1, behind.1, length-drop p.len xs))

two_of : (c : Text) (ps : List Part) (xs : List Step) (a b : Tree) (rest hs : List Tree) → hs ≡ a ∷ b ∷ rest → Made c ps xs hs → HasTwo ps (length xs)
two_of c ps xs a b rest hs e h = let P : List Tree → Type 0 = Made c ps xs in two c ps xs a b rest (subst P e h)

ready : (c : Text) (p : Piece) (g : Tree) (rest hs : List Tree) (ps : List Part) (xs : List Step) → Means c p g rest hs → Made c ps xs hs → Ready p ps (length xs)
ready c And g rest hs ps xs m h = let w = m in two_of c ps xs w.first w.second rest hs w.next h
ready c Or g rest hs ps xs m h = let w = m in two_of c ps xs w.first w.second rest hs w.next h
ready c IfThen g rest hs ps xs m h = let w = m in two_of c ps xs w.first w.second rest hs w.next h
ready c (Single at) g rest hs ps xs m h = tt

-- a control construct finds the parts of its two goals
two_held : (c : Text) (name : List ℕ) (g : Tree) (rest hs : List Tree) (ps : List Part) (xs : List Step) → Holds name g rest hs → Made c ps xs hs → AreForTwo c ps xs
two_held c name g rest hs ps xs holds h =
    let P : List Tree → Type 0 = Made c ps xs in record { first = holds.first; second = holds.second; rest = rest; made = subst P holds.next h }

pub two_either : (c : Text) (ps : List Part) (xs : List Step) → IsNext c Or ps xs → AreForTwo c ps xs
two_either c ps xs n = let s = n.splits in two_held c (codes ";") s.goal s.rest n.after ps xs s.means n.made

pub two_arrow : (c : Text) (ps : List Part) (xs : List Step) → IsNext c IfThen ps xs → AreForTwo c ps xs
two_arrow c ps xs n = let s = n.splits in two_held c (codes "->") s.goal s.rest n.after ps xs s.means n.made

-- ---- a loop over the pieces

module _ (c : Text) (g : Tree) (old left : List Piece) (p : Piece) (ps : List Part) (xs : List Step) (taken : old ≡ left ++ p ∷ []) (h : Folding c g old ps xs) where
  last : Last c left p (g ∷ []) h.goals
  last = let P : List Piece → Type 0 = λ v. Leads c v (g ∷ []) h.goals in Leads-last c left p (g ∷ []) h.goals (subst P taken h.leads)

  pub fold_ready : Ready p ps (length xs)
  fold_ready = let s = last in ready c p s.splits.goal s.splits.rest h.goals ps xs s.splits.means h.parts

  pub fold_next_is : IsNext c p ps xs
  fold_next_is = let s = last in record { goals = s.between; after = h.goals; splits = s.splits; made = h.parts }

  pub fold_next : (d : Text) (ps' : List Part) (xs' : List Step) → IsLaid c.names c.nodes → Extended c d
      → ((gs hs : List Tree) → Splits c p gs hs → Made c ps xs hs → Made d ps' xs' gs) → Folding d g left ps' xs'
  fold_next d ps' xs' laid more step =
      let s = last in
      record { goals = s.between; leads = Leads-more c d left (g ∷ []) s.between laid more s.leads; parts = step s.between h.goals s.splits h.parts }

fold_whole : (c : Text) (g : Tree) (left : List Piece) (ps : List Part) (xs : List Step) → left ≡ [] → Folding c g left ps xs → Made c ps xs (g ∷ [])
fold_whole c g left ps xs none h =
    let P : List Piece → Type 0 = λ v. Leads c v (g ∷ []) h.goals in
    let Q : List Tree → Type 0 = Made c ps xs in
    subst Q (sym (subst P none h.leads)) h.parts

module _ (c : Text) (code : IsCode c) (g : Tree) (left : List Piece) (p : Part) (qs ps : List Part) (xs ss : List Step) (place : ℕ) (none : left ≡ []) (is : qs ≡ p ∷ ps) (h : Folding c g left qs xs)
    (put : ss ≡ c.steps ++ (step ops.Proceed 0 ++ reverse (take p.len xs))) (at : place ≡ length c.steps + p.len)
  where
    made : Made c (p ∷ ps) xs (g ∷ [])
    made = let P : List Part → Type 0 = λ v. Made c v xs (g ∷ []) in subst P is (fold_whole c g left qs xs none h)

    end_at : place ≡ length c.steps + length (take p.len xs)
    end_at = let m = made in omega (arith, at, m.1, length-take p.len xs)

    pub fold_code : IsCode (with_steps c ss)
    fold_code = let m = made in sequence_code c code g (take p.len xs) ss place m.3 put end_at

    pub fold_extended : Extended c (with_steps c ss)
    fold_extended = let m = made in sequence_extended c code g (take p.len xs) ss place m.3 put end_at

    pub fold_begins : Begins (with_steps c ss) place g
    fold_begins = let m = made in sequence_begins c code g (take p.len xs) ss place m.3 put end_at
