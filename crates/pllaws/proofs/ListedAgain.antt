-- A listing has the clauses and directives that it lists.
use Rattle.std.proofs.Common.{◌≡◌, ◌≤◌, ◌<◌, ◌+◌, ◌^◌, ℕ, zero, suc, List, [], ◌∷◌, ◌++◌, length, drop, Bool, true, false, codes, append_assoc, append-nil, length-append, drop-drop, drop_at, refl, sym, ap, subst, ◌∙◌, arith}
use Rattle.plterm.specs.Tree.{Tree}
use Rattle.plterm.specs.Characters.{is_symbol}
use Rattle.plops.specs.declared.table.OpTable.{OpTable}
use Rattle.plops.specs.Checks.{IsTable}
use Rattle.plops.proofs.Checks.{is_sane}
use Rattle.plops.proofs.Given.{iso_is_table}
use Rattle.pllex.specs.Tokens.{next_item}
use Rattle.plread.specs.Spelling.{signs_of}
use Rattle.plread.specs.Reading.{Spells}
use Rattle.plwrite.specs.declared.style.Style.TheVariants.{Listed}
use Rattle.plwrite.specs.declared.place.Position.TheVariants.{At}
use Rattle.plwrite.specs.Places.{whole}
use Rattle.plwrite.specs.Words.{last_byte}
use Rattle.plwrite.specs.Writing.{written, end_text, clause_text}
use Rattle.pllaws.specs.Levels.{levels_of}
use Rattle.pllaws.proofs.Again.{listed_again}
use Rattle.plprogram.specs.declared.settings.Settings.{Settings}
use Rattle.plprogram.specs.Settings.{iso_settings}
use Rattle.plload.specs.Taking.{Takes}
use Rattle.plprogram.specs.Program.{Program}
use Rattle.plload.specs.Draft.{empty_draft, with_term, program_of}
use Rattle.plload.specs.Loading.{levels, judged, Goes, Accepts, Comes, Loads}
use Rattle.plload.specs.Listing.{with_line, whole_listing, Lists}
use Rattle.pllaws.specs.Needs.{with_levels, most_levels, Needs}
use Rattle.pllaws.proofs.Steps.{Path, path_over, path_on, total, outcome_from, from_outcome, value_along}
use Rattle.pllaws.proofs.Tables.{judged_table}
use Rattle.pllaws.proofs.Places.{newline_next, clause_from, over_at_end}
use Rattle.pllaws.proofs.Within.{WasRead, was_read}

-- ---- the lines

abbrev pub lines_of : List (Settings × Tree) → List ℕ
lines_of [] = []
lines_of (x ∷ xs) = clause_text x.0.operators x.1 ++ lines_of xs

pub total_lines : (bytes : List ℕ) (steps : List (Settings × Tree)) → total with_line bytes steps ≡ bytes ++ lines_of steps
total_lines bytes [] = sym (append-nil bytes)
total_lines bytes (x ∷ xs) = total_lines (with_line bytes x.0 x.1) xs ∙ append_assoc bytes (clause_text x.0.operators x.1) (lines_of xs)

-- a line is its text up to the full stop, and the line's end
record Line (ops : OpTable) (t : Tree) : Type 0 where
  front : List ℕ
  some : 0 < length front
  is : clause_text ops t ≡ front ++ 10 ∷ []

line_by : (bytes : List ℕ) (b : Bool) → (front : List ℕ) × (0 < length front) × (bytes ++ end_text b ≡ front ++ 10 ∷ [])
line_by bytes true = (bytes ++ codes " .", omega (arith, length-append bytes (codes " .")), sym (append_assoc bytes (codes " .") (10 ∷ [])))
line_by bytes false = (bytes ++ codes ".", omega (arith, length-append bytes (codes ".")), sym (append_assoc bytes (codes ".") (10 ∷ [])))

line : (ops : OpTable) (t : Tree) → Line ops t
line ops t =
    let bytes : List ℕ = written ops Listed t in
    let l = line_by bytes (is_symbol (last_byte bytes)) in
    record { front = l.0; some = l.1; is = l.2 }

-- ---- one clause

module _ (lines : List ℕ) (from : ℕ) (s new : Settings) (t : Tree) (table : IsTable s.operators) (takes : judged s t ≡ Takes new) (w : WasRead t) (few : levels_of s.operators Listed (At whole) t ≤ levels) where
  pub goes_again : (after : ℕ) (rest : List ℕ) → drop from lines ≡ clause_text s.operators t ++ rest → after + 1 ≡ from + length (clause_text s.operators t) → Goes lines from s t after new
  goes_again after rest here e =
      let r = listed_again s.operators (is_sane s.operators table) t w.limits s.quotes levels few lines from after rest here e in
      record {
        tokens = r.tokens;
        reads = record { clause = r.clause; term = subst (λ u. Spells s.operators levels (signs_of s.quotes lines r.tokens) u) w.numbered r.spelled };
        takes = takes;
      }

pub goes_from : (lines : List ℕ) (from other : ℕ) (s new : Settings) (t : Tree) (after : ℕ) → next_item lines other ≡ next_item lines from → Goes lines from s t after new → Goes lines other s t after new
goes_from lines from other s new t after e g =
    record { tokens = g.tokens; reads = record { clause = clause_from lines from other g.tokens after e g.reads.clause; term = g.reads.term }; takes = g.takes }

-- ---- all of them

pub more_levels : (most : ℕ) (steps : List (Settings × Tree)) → most ≤ total with_levels most steps
more_levels most [] = omega arith
more_levels most (x ∷ xs) = let h = more_levels (with_levels most x.0 x.1) xs in omega arith

-- where the line's text ends, and what stands there
pub record Ended (lines : List ℕ) (from size : ℕ) (rest : List ℕ) : Type 0 where
  pub after : ℕ
  pub last : after + 1 ≡ from + size
  pub onward : next_item lines after ≡ next_item lines (from + size)
  pub left : drop (from + size) lines ≡ rest

some_place : (n : ℕ) → 0 < n → (m : ℕ) × (n ≡ suc m)
some_place zero h = absurd (omega arith)
some_place (suc m) h = (m, refl)

pub ended : (lines : List ℕ) (from : ℕ) (ops : OpTable) (t : Tree) (rest : List ℕ) → drop from lines ≡ clause_text ops t ++ rest → Ended lines from (length (clause_text ops t)) rest
ended lines from ops t rest here =
    let l = line ops t in
    let size : length (clause_text ops t) ≡ length l.front + 1 = ap length l.is ∙ length-append l.front (10 ∷ []) in
    let there : drop (from + length l.front) lines ≡ 10 ∷ rest =
    sym (drop-drop (length l.front) from lines) ∙ ap (drop (length l.front)) (here ∙ ap (λ x. x ++ rest) l.is ∙ append_assoc l.front (10 ∷ []) rest) ∙ drop_at l.front (10 ∷ rest) (length l.front) refl in
    let p = some_place (from + length l.front) (let h = l.some in omega arith) in
    let same : from + length l.front ≡ suc p.0 = p.1 in
    let next : suc p.0 + 1 ≡ from + length (clause_text ops t) = omega arith in
    record {
      after = from + length l.front;
      last = omega arith;
      onward = ap (next_item lines) same ∙ newline_next lines p.0 rest (subst (λ n. drop n lines ≡ 10 ∷ rest) same there) ∙ ap (next_item lines) next;
      left = sym (drop-drop (length (clause_text ops t)) from lines) ∙ ap (drop (length (clause_text ops t))) here ∙ drop_at (clause_text ops t) rest (length (clause_text ops t)) refl;
    }

module _ (text : List ℕ) (size : length text < 2 ^ 64) (lines : List ℕ) where
  again : (place : ℕ) (s end : Settings) (steps : List (Settings × Tree)) → Path text place s steps end → IsTable s.operators → (most : ℕ) → total with_levels most steps ≤ levels →
      (from other : ℕ) → drop from lines ≡ lines_of steps → next_item lines other ≡ next_item lines from → Path lines other s steps end
  again place s end steps (path_over h) table most few from other here same = path_over (same ∙ over_at_end lines from here)
  again place s end steps (path_on {after} {new} {t} {steps = rest} g p) table most few from other here same =
      let deep : levels_of s.operators Listed (At whole) t ≤ levels = let h = more_levels (with_levels most s t) rest in omega arith in
      let e = ended lines from s.operators t (lines_of rest) here in
      let read = goes_again lines from s new t table g.takes (was_read text place s g.tokens after t size g.reads) deep e.after (lines_of rest) here e.last in
      path_on (goes_from lines from other s new t e.after same read)
      (again after new end rest p (judged_table s new t table g.takes) (with_levels most s t) few (from + length (clause_text s.operators t)) e.after e.left e.onward)

-- ---- the law

listing_path : (text : List ℕ) → length text < 2 ^ 64 → (end : Settings) (steps : List (Settings × Tree)) → Path text 0 iso_settings steps end → total with_levels 0 steps ≤ levels → (lines : List ℕ) → lines ≡ lines_of steps → Path lines 0 iso_settings steps end
listing_path text size end steps p few lines e = again text size lines 0 iso_settings end steps p iso_is_table 0 few 0 0 e refl

pub listed_alike : {A B : Type 0} (add : A → Settings → Tree → A) (start : A) (made : Settings → A → B) (text lines : List ℕ) (b : B) (most : ℕ) → length text < 2 ^ 64 →
    Comes add start made text (Accepts b) → Lists text (Accepts lines) → Needs text (Accepts most) → most ≤ levels → Comes add start made lines (Accepts b)
listed_alike {A} {B} add start made text lines b most size c l n few =
    let f = from_outcome add start made text b c in
    let needed : most ≡ total with_levels 0 f.steps = value_along with_levels 0 most_levels text f.steps f.end f.path most n in
    let listed : lines ≡ total with_line [] f.steps = value_along with_line [] whole_listing text f.steps f.end f.path lines l in
    let p = listing_path text size f.end f.steps f.path (omega arith) lines (listed ∙ total_lines [] f.steps) in
    subst (λ v. Comes add start made lines (Accepts v)) (sym f.value) (outcome_from add start made lines f.steps f.end p)

pub all_told : (text : List ℕ) (program : Program) → Loads text (Accepts program) → ((lines : List ℕ) × Lists text (Accepts lines)) × ((most : ℕ) × Needs text (Accepts most))
all_told text program c =
    let f = from_outcome with_term empty_draft program_of text program c in (
      (total with_line [] f.steps, outcome_from with_line [] whole_listing text f.steps f.end f.path),
      (total with_levels 0 f.steps, outcome_from with_levels 0 most_levels text f.steps f.end f.path),
    )
