-- What a search for the first clause that fits makes of a stack.
use Rattle.std.proofs.Common.{◌≡◌, ℕ, ◌+◌, ◌-◌, ◌<◌, List, [], ◌∷◌, length, map, take, drop, get_or, zero, suc, false, refl, sym, ap, subst, arith, Option, Some, None, IfSome, IfNone, slice_index_or}
use Rattle.std.proofs.lemmas.List.{drop_all}
use Rattle.platoms.specs.Names.{Table, IsTable, Extends}
use Rattle.plclause.specs.Clause.{Clause}
use Rattle.plcells.specs.declared.cell.Cell.{Cell}
use Rattle.plcells.specs.Store.{value}
use Rattle.plcode.specs.declared.key.Key.{Key}
use Rattle.plcode.specs.declared.key.Key.TheVariants.{Any}
use Rattle.plcode.specs.declared.node.Node.{Node}
use Rattle.plcode.specs.declared.clause.ClauseCode.{ClauseCode}
use Rattle.plcode.specs.Keys.{IsFirstKey}
use Rattle.plcode.specs.Laying.{IsLaid}
use Rattle.plcode.specs.Steps.{Text}
use Rattle.plcode.specs.Clauses.{IsCodeOf}
use Rattle.plenv.specs.Env.{Env, IsEnv, renamed}
use Rattle.plenv.specs.Changes.{Keeps}
use Rattle.plstack.specs.declared.fit.Hit.{Hit}
use Rattle.plstack.specs.declared.fit.Found.{Found}
use Rattle.plstack.specs.declared.frame.Point.{Point}
use Rattle.plstack.specs.declared.frame.Clauses.{Clauses}
use Rattle.plstack.specs.declared.frame.Resume.TheVariants as resumes
use Rattle.plstack.specs.Places.{Database, called, kept_values}
use Rattle.plstack.specs.Fits.{Finds, FindsNone}
use Rattle.plstack.specs.Attempts.{IsAttempt}
use Rattle.plstack.specs.State.{State, IsStack, place_of, cases_of, Extends as ExtendsStack}
use Rattle.plstack.specs.StaticCalls.{AreStatics, AtCall, further, Binds, FindsHit, Hits}
use Rattle.plstack.proofs.Found.{renamed-kept}
use Rattle.plstack.proofs.Growing.{extends-env}
use Rattle.plstack.proofs.Searching.{own-length}
use Rattle.plstack.proofs.Hitting.{extends-renamed, renamed-stack, cases-stay, attempt, none-left, list-bound, fitted-stack, code-is, slots-there, left}

pub if_some : {A : Type 0} (P Q : A → Type 0) (o : Option A) → ((a : A) → P a → Q a) → IfSome o P → IfSome o Q
if_some P Q (Some a) f i = f a i
if_some P Q None f i = i

pub if_none : {A : Type 0} (P Q : Type 0) (o : Option A) → (P → Q) → IfNone o P → IfNone o Q
if_none P Q (Some a) f i = i
if_none P Q None f i = f i

-- the code at a place that is there
pub index-any : (ks : List ClauseCode) (i : ℕ) (d e : ClauseCode) → i < length ks → slice_index_or ks i d ≡ slice_index_or ks i e
index-any [] i d e lt = absurd (omega arith)
index-any (k ∷ ks) zero d e lt = refl
index-any (k ∷ ks) (suc i) d e lt = index-any ks i d e (omega (arith, lt))

pub found-within : (c : Text) (e new : Env) (n : List ℕ) (vs : List Cell) (key : Key) (nodes : List Node) (ks : List ClauseCode) (xs : List Clause) (from : ℕ) (found : Found) → IsAttempt c e n vs key nodes ks xs →
    Finds e new (called e.heap n vs) xs from found → found.place < length ks
found-within c e new n vs key nodes ks xs from found a f = omega (arith, f.within, own-length c n ks xs a.own)

-- a run of values by its ends
pub run-kept : (a k : ℕ) (xs : List Cell) → take (a + k - a) (drop a xs) ≡ take k (drop a xs)
run-kept a k xs = let same : a + k - a ≡ k = omega arith in ap (λ n. take n (drop a xs)) same

nothing : ClauseCode
nothing = record { head = 0; arity = 0; key = Any; body = 0; variables = 0; is_fact = false }

module _ (s : State) (d : ℕ) (is : IsStack s d) (p : Point) (c : Clauses) (at : AtCall s p c) where
  abbrev vs : List Cell
  vs = kept_values s.saved p (resumes.Clauses c)

  -- more names alone
  module _ (t : Table) (table : IsTable t) (more : Extends s.env.heap.names t) (env : IsEnv (renamed s.env t)) where
    pub undone-stack : IsStack (record s { env = renamed s.env t }) d
    undone-stack = renamed-stack s d is p c at t table more env

    pub undone-cases : (db : Database) → cases_of db (record s { env = renamed s.env t }) ≡ cases_of db s
    undone-cases db = cases-stay s d is p c at (renamed s.env t) (renamed-kept s.env t more) env db

    pub undone-place : place_of (record s { env = renamed s.env t }) ≡ place_of s
    undone-place =
        let x : ExtendsStack s (record s { env = renamed s.env t }) = extends-env s d (renamed s.env t) (extends-renamed s.env t is.0.env table more) env is in
        ap (λ gs. record { goals = gs; variables = s.env.count }) x.visited

  module _ (db : Database) (own : AreStatics s.basis.code db) (lt : c.procedure < length s.basis.code.procedures) where
    -- no clause is left
    pub past-all : length (get_or s.basis.code.procedures c.procedure []) < c.next → (l : ℕ) → further db s l p c (drop c.next (db.statics c.procedure).clauses) ≡ []
    past-all past l =
        let xs = (db.statics c.procedure).clauses in
        let many = own-length s.basis.code.text (db.statics c.procedure).name (get_or s.basis.code.procedures c.procedure []) xs (own.own c.procedure lt) in
        ap (λ cs. further db s l p c cs) (drop_all c.next xs (omega (arith, past, many)))

    module _ (key : Key) (key_is : IsFirstKey s.env.heap.names key (map (value s.env.heap) vs)) (laid : IsLaid s.basis.code.text.names s.basis.code.text.nodes) where
      abbrev name : List ℕ
      name = (db.statics c.procedure).name

      abbrev xs : List Clause
      xs = (db.statics c.procedure).clauses

      abbrev ks : List ClauseCode
      ks = get_or s.basis.code.procedures c.procedure []

      pub the-attempt : IsAttempt s.basis.code.text s.env name vs key s.basis.code.text.nodes ks xs
      the-attempt = attempt s d is p c at db own key key_is lt laid

      module _ (e : Env) (keeps : Keeps s.env e) (env : IsEnv e) where
        pub nothing-left : FindsNone s.env (called s.env.heap name vs) xs c.next → (l : ℕ) → further db (record s { env = e }) l p c (drop c.next xs) ≡ []
        nothing-left = none-left s d is p c at db own key key_is lt laid e keeps env

        module _ (hit : Hit) (h : FindsHit s.env e (called s.env.heap name vs) key ks xs c.next hit) where
          pub hit-stack : IsStack (record s { env = e }) d
          hit-stack = fitted-stack s d is p c at db own key key_is lt laid e keeps env h.found h.finds

          pub hit-binds : Binds s (record s { env = e })
          hit-binds = record { unifier = h.finds.fitted.unifier; lists = list-bound s d is p c at db own key key_is lt laid e keeps env h.found h.finds }

          hit-code : IsCodeOf s.basis.code.text hit.clause h.finds.clause
          hit-code = subst (λ k. IsCodeOf s.basis.code.text k h.finds.clause) (h.clause nothing) (code-is s d is p c at db own key key_is lt laid e keeps env h.found h.finds nothing hit.next h.next)

          pub hits : Hits db s (record s { env = e }) p c hit
          hits = record {
            clause = h.finds.clause;
            code = hit-code;
            slots = rw (h.base, ← h.clause nothing) (slots-there s d is p c at db own key key_is lt laid e keeps env h.found h.finds nothing hit.next h.next);
            left = rw h.base (left s d is p c at db own key key_is lt laid e keeps env h.found h.finds nothing hit.next h.next);
          }

        -- whether one was found or not
        pub found-stack : (o : Option Hit) → IfSome o (FindsHit s.env e (called s.env.heap name vs) key ks xs c.next) → IfNone o (e ≡ renamed s.env e.heap.names) → IsStack (record s { env = e }) d
        found-stack (Some hit) h n = hit-stack hit h
        found-stack None h n = subst (λ (x : Env). IsStack (record s { env = x }) d) (sym n) (undone-stack e.heap.names env.heap.names keeps.names (subst IsEnv n env))
