-- A text comes to one outcome, whatever is made of it.
use Rattle.std.proofs.Common.{◌≡◌, ℕ, List, [], Option, Some, None, refl, sym, ap, subst, ◌∙◌}
use Rattle.plterm.specs.Tree.{Tree}
use Rattle.pllex.specs.declared.token.Token.{Token}
use Rattle.pllex.specs.Tokens.{IsOver}
use Rattle.pllex.proofs.Clauses.{one_clause, no_fault, not_over, one_fault, fault_not_over}
use Rattle.plread.specs.Signs.{Sign}
use Rattle.plread.specs.Spelling.{signs_of}
use Rattle.plread.proofs.Unique.{spelled_once}
use Rattle.plread.specs.Refusals.{start_of}
use Rattle.plload.specs.declared.error.RefusalKind.{RefusalKind}
use Rattle.plprogram.specs.declared.settings.Settings.{Settings}
use Rattle.plprogram.specs.Settings.{iso_settings}
use Rattle.plload.specs.Taking.{Takes, Refuses as Judged}
use Rattle.plload.specs.Position.{line_of, column_of}
use Rattle.plload.specs.Draft.{empty_draft, with_term}
use Rattle.plload.specs.Loading.{levels, Spelled, Reads, judged, Stops, lexical, unread, refused, Goes, Ending, Fails, Runs, over, stops, goes, Outcome, Refuses, outcome_of, Comes, Loads}
use Rattle.plload.specs.Listing.{with_line, Lists}

-- ---- a clause

-- the signs have one answer
one_answer : (s : Settings) (signs : List Sign) (a b : Option Tree) → Spelled s signs a → Spelled s signs b → a ≡ b
one_answer s signs None None h k = refl
one_answer s signs None (Some u) h k = absurd (h u k)
one_answer s signs (Some t) None h k = absurd (k t h)
one_answer s signs (Some t) (Some u) h k = ap (λ (x : Tree). Some x) (spelled_once s.operators levels signs t u h k)

pub record Same (ts us : List Token) (a b : ℕ) (x y : Option Tree) : Type 0 where
  pub tokens : ts ≡ us
  pub after : a ≡ b
  pub term : x ≡ y

pub one_reading : (text : List ℕ) (from : ℕ) (s : Settings) (ts us : List Token) (a b : ℕ) (x y : Option Tree) → Reads text from s ts a x → Reads text from s us b y → Same ts us a b x y
one_reading text from s ts us a b x y h k =
    let same = one_clause text from ts us a b h.clause k.clause in
    record {
      tokens = same.0;
      after = same.1;
      term = one_answer s (signs_of s.quotes text us) x y (subst (λ vs. Spelled s (signs_of s.quotes text vs) x) same.0 h.term) k.term;
    }

module _ (text : List ℕ) (from : ℕ) (s : Settings) where
  stops_not_over : (p : ℕ) (k : RefusalKind) → Stops text from s p k → IsOver text from → ⊥
  stops_not_over p k (lexical {fault} {place} h) o = fault_not_over text from fault place h o
  stops_not_over p k (unread {ts} {after} r) o = not_over text from ts after r.clause o
  stops_not_over p k (refused {ts} {after} r j) o = not_over text from ts after r.clause o

  goes_not_over : (t : Tree) (after : ℕ) (new : Settings) → Goes text from s t after new → IsOver text from → ⊥
  goes_not_over t after new g o = not_over text from g.tokens after g.reads.clause o

  -- an accepted term is not refused
  stops_not_goes : (p : ℕ) (k : RefusalKind) (t : Tree) (after : ℕ) (new : Settings) → Stops text from s p k → Goes text from s t after new → ⊥
  stops_not_goes p k t after new (lexical {fault} {place} h) g = no_fault text from g.tokens after fault place g.reads.clause h
  stops_not_goes p k t after new (unread {ts} {after = end} r) g =
      let same = (one_reading text from s ts g.tokens end after None (Some t) r g.reads).term in cc
  stops_not_goes p k t after new (refused {ts} {after = end} {t = u} {kind} r j) g =
      let same = (one_reading text from s ts g.tokens end after (Some u) (Some t) r g.reads).term in
      let term : u ≡ t = cc in
      let takes : judged s t ≡ Takes new = g.takes in
      let refuses : judged s t ≡ Judged kind = ap (judged s) (sym term) ∙ j in cc

  pub record OneStop (p q : ℕ) (k l : RefusalKind) : Type 0 where
    pub place : p ≡ q
    pub kind : k ≡ l

  one_stop : (p q : ℕ) (k l : RefusalKind) → Stops text from s p k → Stops text from s q l → OneStop p q k l
  one_stop p q k l (lexical {fault} {place} h) (lexical {fault = g} {place = r} m) = record { place = (one_fault text from fault g place r h m).1; kind = refl }
  one_stop p q k l (lexical {fault} {place} h) (unread {ts} {after} r) = absurd (no_fault text from ts after fault place r.clause h)
  one_stop p q k l (lexical {fault} {place} h) (refused {ts} {after} r j) = absurd (no_fault text from ts after fault place r.clause h)
  one_stop p q k l (unread {ts} {after} r) (lexical {fault} {place} h) = absurd (no_fault text from ts after fault place r.clause h)
  one_stop p q k l (unread {ts} {after} r) (unread {ts = us} {after = end} m) =
      record { place = ap start_of (one_reading text from s ts us after end None None r m).tokens; kind = refl }
  one_stop p q k l (unread {ts} {after} r) (refused {ts = us} {after = end} {t} m j) =
      let same = (one_reading text from s ts us after end None (Some t) r m).term in absurd cc
  one_stop p q k l (refused {ts} {after} r j) (lexical {fault} {place} h) = absurd (no_fault text from ts after fault place r.clause h)
  one_stop p q k l (refused {ts} {after} {t} r j) (unread {ts = us} {after = end} m) =
      let same = (one_reading text from s ts us after end (Some t) None r m).term in absurd cc
  one_stop p q k l (refused {ts} {after} {t} {kind} r j) (refused {ts = us} {after = end} {t = u} {kind = other} m i) =
      let both = one_reading text from s ts us after end (Some t) (Some u) r m in
      let same = both.term in
      let term : t ≡ u = cc in
      let first : judged s u ≡ Judged kind = ap (judged s) (sym term) ∙ j in
      record { place = ap start_of both.tokens; kind = cc }

  pub record OneGoing (t u : Tree) (after end : ℕ) (new other : Settings) : Type 0 where
    pub term : t ≡ u
    pub place : after ≡ end
    pub settings : new ≡ other

  pub one_going : (t u : Tree) (after end : ℕ) (new other : Settings) → Goes text from s t after new → Goes text from s u end other → OneGoing t u after end new other
  one_going t u after end new other g h =
      let both = one_reading text from s g.tokens h.tokens after end (Some t) (Some u) g.reads h.reads in
      let same = both.term in
      let term : t ≡ u = cc in
      let first : judged s u ≡ Takes new = ap (judged s) (sym term) ∙ g.takes in
      let second : judged s u ≡ Takes other = h.takes in
      record { term = term; place = both.after; settings = cc }

-- ---- the whole text

module _ {A : Type 0} (add : A → Settings → Tree → A) (text : List ℕ) where
  one_ending : (from : ℕ) (s : Settings) (a : A) (x y : Ending A) → Runs add text from s a x → Runs add text from s a y → x ≡ y
  one_ending from s a x y (over h) (over k) = refl
  one_ending from s a x y (over h) (stops {place} {kind} k) = absurd (stops_not_over text from s place kind k h)
  one_ending from s a x y (over h) (goes {after} {new} {t} k r) = absurd (goes_not_over text from s t after new k h)
  one_ending from s a x y (stops {place} {kind} h) (over k) = absurd (stops_not_over text from s place kind h k)
  one_ending from s a x y (stops {place} {kind} h) (stops {place = q} {kind = l} k) =
      let one = one_stop text from s place q kind l h k in
      ap (λ p. Fails p kind) one.place ∙ ap (λ m. Fails q m) one.kind
  one_ending from s a x y (stops {place} {kind} h) (goes {after} {new} {t} k r) = absurd (stops_not_goes text from s place kind t after new h k)
  one_ending from s a x y (goes {after} {new} {t} h r) (over k) = absurd (goes_not_over text from s t after new h k)
  one_ending from s a x y (goes {after} {new} {t} h r) (stops {place} {kind} k) = absurd (stops_not_goes text from s place kind t after new k h)
  one_ending from s a x y (goes {after} {new} {t} h r) (goes {after = end} {new = other} {t = u} k m) =
      let one = one_going text from s t u after end new other h k in
      one_ending after new (add a s t) x y r
      (subst (λ n. Runs add text n new (add a s t) y) (sym one.place)
      (subst (λ z. Runs add text end z (add a s t) y) (sym one.settings)
      (subst (λ v. Runs add text end other (add a s v) y) (sym one.term) m)))

  -- a text that is refused is refused whatever is made of it
  pub alike : {B : Type 0} (also : B → Settings → Tree → B) (from : ℕ) (s : Settings) (a : A) (end : Ending A) (p : ℕ) (k : RefusalKind) (b : B) →
      Runs add text from s a end → end ≡ Fails p k → Runs also text from s b (Fails p k)
  alike also from s a end p k b (over h) e = absurd cc
  alike {B} also from s a end p k b (stops {place} {kind} h) e =
      let place_is : place ≡ p = cc in
      let kind_is : kind ≡ k = cc in
      let fails : Ending B = Fails place kind in
      subst (λ q. Runs also text from s b (Fails q k)) place_is (subst (λ l. Runs also text from s b (Fails place l)) kind_is (stops h))
  alike also from s a end p k b (goes {after} {new} {t} g r) e = goes g (alike also after new (add a s t) end p k (also b s t) r e)

pub one_outcome : {A B : Type 0} (add : A → Settings → Tree → A) (start : A) (whole : Settings → A → B) (text : List ℕ) (a b : Outcome B) →
    Comes add start whole text a → Comes add start whole text b → a ≡ b
one_outcome add start whole text a b h k =
    h.told ∙ ap (outcome_of whole text) (one_ending add text 0 iso_settings start h.ending k.ending h.from_start k.from_start) ∙ sym k.told

-- where a text is refused
pub refused_at : {A : Type 0} (add : A → Settings → Tree → A) (start : A) (text : List ℕ) (p : ℕ) (k : RefusalKind) → Runs add text 0 iso_settings start (Fails p k) →
    Loads text (Refuses (line_of text p) (column_of text p) k) × Lists text (Refuses (line_of text p) (column_of text p) k)
refused_at add start text p k r = (
  record { ending = Fails p k; from_start = alike add text with_term 0 iso_settings start (Fails p k) p k empty_draft r refl; told = refl },
  record { ending = Fails p k; from_start = alike add text with_line 0 iso_settings start (Fails p k) p k [] r refl; told = refl },
)
