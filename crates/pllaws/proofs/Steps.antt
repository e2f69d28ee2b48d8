-- The clauses and directives of an accepted text, each with the settings under which it is read.
use Rattle.std.proofs.Common.{◌≡◌, ℕ, List, [], ◌∷◌, refl, sym, ap, subst, ◌∙◌}
use Rattle.plterm.specs.Tree.{Tree}
use Rattle.pllex.specs.Tokens.{IsOver}
use Rattle.pllex.proofs.Clauses.{not_over}
use Rattle.plprogram.specs.declared.settings.Settings.{Settings}
use Rattle.plprogram.specs.Settings.{iso_settings}
use Rattle.plload.proofs.Once.{one_going}
use Rattle.plload.specs.Loading.{Goes, Ending, Ends, Fails, Runs, over, stops, goes, Accepts, outcome_of, Comes}

-- from a place on the text has these, one behind the other, and nothing behind them, where these are the settings
pub data Path (text : List ℕ) : ℕ → Settings → List (Settings × Tree) → Settings → Type 0 where
  path_over : {from : ℕ} {s : Settings} → IsOver text from → Path text from s [] s
  path_on : {from after : ℕ} {s new end : Settings} {t : Tree} {steps : List (Settings × Tree)} →
      Goes text from s t after new → Path text after new steps end → Path text from s ((s, t) ∷ steps) end

-- what is made of them
abbrev pub total : {A : Type 0} → (A → Settings → Tree → A) → A → List (Settings × Tree) → A
total add a [] = a
total add a (x ∷ xs) = total add (add a x.0 x.1) xs

record Made {A : Type 0} (add : A → Settings → Tree → A) (text : List ℕ) (from : ℕ) (s : Settings) (a : A) (end : Settings) (b : A) : Type 0 where
  steps : List (Settings × Tree)
  path : Path text from s steps end
  made : b ≡ total add a steps

module _ {A : Type 0} (add : A → Settings → Tree → A) (text : List ℕ) where
  made_of : (from : ℕ) (s : Settings) (a : A) (x : Ending A) (end : Settings) (b : A) → Runs add text from s a x → x ≡ Ends end b → Made add text from s a end b
  made_of from s a x end b (over h) e =
      let same : s ≡ end = cc in
      let value : a ≡ b = cc in
      record { steps = []; path = subst (λ z. Path text from s [] z) same (path_over h); made = sym value }
  made_of from s a x end b (stops {place} {kind} h) e = absurd cc
  made_of from s a x end b (goes {after} {new} {t} g r) e =
      let m = made_of after new (add a s t) x end b r e in
      record { steps = (s, t) ∷ m.steps; path = path_on g m.path; made = m.made }

  runs_along : (from : ℕ) (s : Settings) (a : A) (steps : List (Settings × Tree)) (end : Settings) → Path text from s steps end → Runs add text from s a (Ends end (total add a steps))
  runs_along from s a steps end (path_over h) = over h
  runs_along from s a steps end (path_on {after} {new} {t} {steps = rest} g p) = goes g (runs_along after new (add a s t) rest end p)

record OnePath (xs ys : List (Settings × Tree)) (a b : Settings) : Type 0 where
  steps : xs ≡ ys
  end : a ≡ b

one_path : (text : List ℕ) (from : ℕ) (s : Settings) (xs ys : List (Settings × Tree)) (a b : Settings) → Path text from s xs a → Path text from s ys b → OnePath xs ys a b
one_path text from s xs ys a b (path_over h) (path_over k) = record { steps = refl; end = refl }
one_path text from s xs ys a b (path_over h) (path_on {after} {new} {t} g p) = absurd (not_over text from g.tokens after g.reads.clause h)
one_path text from s xs ys a b (path_on {after} {new} {t} g p) (path_over k) = absurd (not_over text from g.tokens after g.reads.clause k)
one_path text from s xs ys a b (path_on {after} {new} {t} {steps} g p) (path_on {after = other} {new = next} {t = u} {steps = rest} h q) =
    let one = one_going text from s t u after other new next g h in
    let moved : Path text other next steps a = subst (λ n. Path text n next steps a) one.place (subst (λ z. Path text after z steps a) one.settings p) in
    let same = one_path text other next steps rest a b moved q in
    record { steps = ap (λ v. (s, v) ∷ steps) one.term ∙ ap (λ l. (s, u) ∷ l) same.steps; end = same.end }

-- ---- whole texts

pub record From {A B : Type 0} (add : A → Settings → Tree → A) (start : A) (whole : Settings → A → B) (text : List ℕ) (b : B) : Type 0 where
  pub steps : List (Settings × Tree)
  pub end : Settings
  pub path : Path text 0 iso_settings steps end
  pub value : b ≡ whole end (total add start steps)

module _ {A B : Type 0} (add : A → Settings → Tree → A) (start : A) (whole : Settings → A → B) (text : List ℕ) where
  from_ending : (b : B) (x : Ending A) → Runs add text 0 iso_settings start x → Accepts b ≡ outcome_of whole text x → From add start whole text b
  from_ending b (Ends end a) r e =
      let m = made_of add text 0 iso_settings start (Ends end a) end a r refl in
      let value : b ≡ whole end a = cc in
      record { steps = m.steps; end = end; path = m.path; value = value ∙ ap (whole end) m.made }
  from_ending b (Fails place kind) r e = absurd cc

  -- the clauses and directives of an accepted text, and what is made of them
  pub from_outcome : (b : B) → Comes add start whole text (Accepts b) → From add start whole text b
  from_outcome b c = from_ending b c.ending c.from_start c.told

  pub outcome_from : (steps : List (Settings × Tree)) (end : Settings) → Path text 0 iso_settings steps end → Comes add start whole text (Accepts (whole end (total add start steps)))
  outcome_from steps end p = record { ending = Ends end (total add start steps); from_start = runs_along add text 0 iso_settings start steps end p; told = refl }

  -- of these clauses and directives comes this
  pub value_along : (steps : List (Settings × Tree)) (end : Settings) → Path text 0 iso_settings steps end → (b : B) → Comes add start whole text (Accepts b) → b ≡ whole end (total add start steps)
  value_along steps end p b c =
      let f = from_outcome b c in
      let one = one_path text 0 iso_settings f.steps steps f.end end f.path p in
      f.value ∙ ap (λ z. whole z (total add start f.steps)) one.end ∙ ap (λ l. whole end (total add start l)) one.steps
