-- A program's text, clause by clause, and what loading it comes to.
use Rattle.std.specs.Prelude.{◌≡◌, ◌<◌, ◌≤◌, ℕ, List, [], ◌∷◌, Option, Some, None}
use Rattle.plterm.specs.Tree.{Tree}
use Rattle.pllex.specs.declared.token.Token.{Token}
use Rattle.pllex.specs.declared.token.Fault.{Fault}
use Rattle.pllex.specs.Tokens.{IsClause, IsFault, IsOver}
use Rattle.plread.specs.Spelling.{signs_of}
use Rattle.plread.specs.Signs.{Sign}
use Rattle.plread.specs.Reading.{Spells}
use Rattle.plread.specs.Refusals.{start_of}
use Rattle.plload.specs.declared.error.RefusalKind.{RefusalKind}
use Rattle.plload.specs.declared.error.RefusalKind.TheVariants as kinds
use Rattle.plload.specs.declared.next.Next.{Next}
use Rattle.plload.specs.declared.next.Next.TheVariants as nexts
use Rattle.plprogram.specs.declared.settings.Settings.{Settings}
use Rattle.plload.specs.Meaning.{meaning}
use Rattle.plprogram.specs.Settings.{iso_settings}
use Rattle.plload.specs.Taking.{Taken, Takes, Refuses as Judged, taken}
use Rattle.plload.specs.Position.{line_of, column_of}
use Rattle.plprogram.specs.Program.{Program}
use Rattle.plload.specs.Draft.{empty_draft, with_term, program_of}

-- how many levels a clause may leave open
abbrev pub levels : ℕ
levels = 65536

-- the signs spell this term under the operators as they stand, or none
abbrev pub Spelled : Settings → List Sign → Option Tree → Type 0
Spelled s signs (Some t) = Spells s.operators levels signs t
Spelled s signs None = (t : Tree) → Spells s.operators levels signs t → ⊥

-- the next clause of the text has these tokens, and spells this term or none
pub record Reads (text : List ℕ) (from : ℕ) (s : Settings) (ts : List Token) (after : ℕ) (found : Option Tree) : Type 0 where
  pub clause : IsClause text from ts after
  pub term : Spelled s (signs_of s.quotes text ts) found

-- what a term does to the settings, or why it is refused
abbrev pub judged : Settings → Tree → Taken
judged s t = taken s (meaning t)

-- The next clause is refused: for a fault of its tokens, at its place; else at the place of its first token, for its
-- reading or for its meaning.
pub data Stops (text : List ℕ) (from : ℕ) (s : Settings) : ℕ → RefusalKind → Type 0 where
  lexical : {fault : Fault} {place : ℕ} → IsFault text from fault place → Stops text from s place kinds.Lex
  unread : {ts : List Token} {after : ℕ} → Reads text from s ts after None → Stops text from s (start_of ts) kinds.Syntax
  refused : {ts : List Token} {after : ℕ} {t : Tree} {kind : RefusalKind} →
      Reads text from s ts after (Some t) → judged s t ≡ Judged kind → Stops text from s (start_of ts) kind

-- the next clause spells a term, which the settings take
pub record Goes (text : List ℕ) (from : ℕ) (s : Settings) (t : Tree) (after : ℕ) (new : Settings) : Type 0 where
  pub tokens : List Token
  pub reads : Reads text from s tokens after (Some t)
  pub takes : judged s t ≡ Takes new

-- what is made of a whole text, with the settings at its end; or the place of the first clause refused and why
pub data Ending (A : Type 0) : Type 0 where
  Ends : Settings → A → Ending A
  Fails : ℕ → RefusalKind → Ending A

-- What comes of the text from a place on, where each clause adds to what the clauses so far made, under the operators
-- and flags by which it is read.
pub data Runs {A : Type 0} (add : A → Settings → Tree → A) (text : List ℕ) : ℕ → Settings → A → Ending A → Type 0 where
  over : {from : ℕ} {s : Settings} {a : A} → IsOver text from → Runs add text from s a (Ends s a)
  stops : {from place : ℕ} {s : Settings} {a : A} {kind : RefusalKind} → Stops text from s place kind → Runs add text from s a (Fails place kind)
  goes : {from after : ℕ} {s new : Settings} {a : A} {t : Tree} {end : Ending A} →
      Goes text from s t after new → Runs add text after new (add a s t) end → Runs add text from s a end

-- what stands next in the text
abbrev pub IsNext : List ℕ → ℕ → Settings → Next → Type 0
IsNext text from s nexts.Over = IsOver text from
IsNext text from s (nexts.Stops place kind) = Stops text from s place kind
IsNext text from s (nexts.Reads t first after) = (ts : List Token) × Reads text from s ts after (Some t) × (first ≡ start_of ts)

-- what a clause with these tokens comes to
abbrev pub Follows : List ℕ → Settings → List Token → ℕ → Next → Type 0
Follows text s ts after nexts.Over = ⊥
Follows text s ts after (nexts.Stops place kind) = (place ≡ start_of ts) × (kind ≡ kinds.Syntax) × Spelled s (signs_of s.quotes text ts) None
Follows text s ts after (nexts.Reads t first end) = (end ≡ after) × Spelled s (signs_of s.quotes text ts) (Some t) × (first ≡ start_of ts)

-- a clause that is passed lies between here and the end of the text
abbrev pub Moves : ℕ → ℕ → Next → Type 0
Moves from len nexts.Over = Unit {0}
Moves from len (nexts.Stops place kind) = Unit {0}
Moves from len (nexts.Reads t first after) = (from < after) × (after ≤ len)

-- what is made of a whole text, or the line, the column and the kind of a refusal
pub data Outcome (B : Type 0) : Type 0 where
  Accepts : B → Outcome B
  Refuses : ℕ → ℕ → RefusalKind → Outcome B

abbrev pub outcome_of : {A B : Type 0} → (Settings → A → B) → List ℕ → Ending A → Outcome B
outcome_of whole text (Ends s a) = Accepts (whole s a)
outcome_of whole text (Fails place kind) = Refuses (line_of text place) (column_of text place) kind

-- what reading a text comes to, from a start
pub record Comes {A B : Type 0} (add : A → Settings → Tree → A) (start : A) (whole : Settings → A → B) (text : List ℕ) (outcome : Outcome B) : Type 0 where
  pub ending : Ending A
  pub from_start : Runs add text 0 iso_settings start ending
  pub told : outcome ≡ outcome_of whole text ending

-- what loading a text comes to
abbrev pub Loads : List ℕ → Outcome Program → Type 0
Loads text outcome = Comes with_term empty_draft program_of text outcome
