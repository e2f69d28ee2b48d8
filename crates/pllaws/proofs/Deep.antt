-- A listing is refused at the first clause that needs more levels than may be open.
use Rattle.std.proofs.Common.{◌≡◌, ◌≤◌, ◌<◌, ◌+◌, ◌^◌, ◌⊎◌, inl, inr, ℕ, zero, suc, List, [], ◌∷◌, ◌++◌, length, drop, append_assoc, length-append, refl, sym, ap, subst, ◌∙◌, arith}
use Rattle.plterm.specs.Tree.{Tree}
use Rattle.plops.specs.Checks.{IsTable}
use Rattle.plops.proofs.Checks.{is_sane}
use Rattle.plops.proofs.Given.{iso_is_table}
use Rattle.pllex.specs.Tokens.{next_item}
use Rattle.plread.specs.Spelling.{signs_of}
use Rattle.plread.specs.Reading.{Spells}
use Rattle.plwrite.specs.declared.style.Style.TheVariants.{Listed}
use Rattle.plwrite.specs.declared.place.Position.TheVariants.{At}
use Rattle.plwrite.specs.Places.{whole}
use Rattle.plwrite.specs.Writing.{clause_text}
use Rattle.pllaws.specs.Levels.{levels_of}
use Rattle.pllaws.proofs.Again.{listed_signed, signed_needs}
use Rattle.plprogram.specs.declared.settings.Settings.{Settings}
use Rattle.plprogram.specs.Settings.{iso_settings}
use Rattle.plload.specs.declared.error.RefusalKind.TheVariants as kinds
use Rattle.plload.specs.Draft.{empty_draft, with_term, program_of}
use Rattle.plload.specs.Loading.{levels, Goes, Stops, unread, Runs, stops, goes, Fails, Accepts, Comes}
use Rattle.plload.specs.Listing.{with_line, whole_listing, Lists}
use Rattle.pllaws.specs.Needs.{with_levels, most_levels, Needs, refusal, IsTooDeep}
use Rattle.pllaws.proofs.Steps.{Path, path_on, total, from_outcome, value_along}
use Rattle.pllaws.proofs.Tables.{judged_table}
use Rattle.pllaws.proofs.Places.{clause_from}
use Rattle.pllaws.proofs.Within.{was_read}
use Rattle.pllaws.proofs.ListedAgain.{lines_of, total_lines, more_levels, goes_again, goes_from, ended}

either : (n m : ℕ) → (n ≤ m) ⊎ (m < n)
either zero m = inl (omega arith)
either (suc n) zero = inr (omega arith)
either (suc n) (suc m) = next (either n m) where
  next : (n ≤ m) ⊎ (m < n) → (suc n ≤ suc m) ⊎ (suc m < suc n)
  next (inl h) = inl (omega arith)
  next (inr h) = inr (omega arith)

abbrev needed : Settings × Tree → ℕ
needed x = levels_of x.0.operators Listed (At whole) x.1

-- the first clause that needs more, behind those that do not
record Split (most : ℕ) (steps : List (Settings × Tree)) : Type 0 where
  before : List (Settings × Tree)
  x : Settings × Tree
  behind : List (Settings × Tree)
  are : steps ≡ before ++ x ∷ behind
  few : total with_levels most before ≤ levels
  deep : levels < needed x

split : (most : ℕ) (steps : List (Settings × Tree)) → most ≤ levels → levels < total with_levels most steps → Split most steps
split most [] h k = absurd (omega arith)
split most (x ∷ xs) h k = at (either (needed x) levels) (λ few. split (with_levels most x.0 x.1) xs (omega (arith, h, few)) k) where
  at : (needed x ≤ levels) ⊎ (levels < needed x) → (needed x ≤ levels → Split (with_levels most x.0 x.1) xs) → Split most (x ∷ xs)
  at (inl few) next = let r = next few in record { before = x ∷ r.before; x = r.x; behind = r.behind; are = ap (λ l. x ∷ l) r.are; few = r.few; deep = r.deep }
  at (inr deep) next = record { before = []; x = x; behind = xs; are = refl; few = h; deep = deep }

lines_split : (before behind : List (Settings × Tree)) (x : Settings × Tree) → lines_of (before ++ x ∷ behind) ≡ lines_of before ++ (clause_text x.0.operators x.1 ++ lines_of behind)
lines_split [] behind x = refl
lines_split (y ∷ before) behind x =
    ap (λ l. clause_text y.0.operators y.1 ++ l) (lines_split before behind x) ∙ sym (append_assoc (clause_text y.0.operators y.1) (lines_of before) (clause_text x.0.operators x.1 ++ lines_of behind))

module _ (text : List ℕ) (size : length text < 2 ^ 64) (lines : List ℕ) {A : Type 0} (add : A → Settings → Tree → A) where
  -- a clause that needs more is not read
  stops_here : (place after : ℕ) (s new : Settings) (t : Tree) → Goes text place s t after new → IsTable s.operators → levels < levels_of s.operators Listed (At whole) t →
      (from other : ℕ) (rest : List ℕ) → drop from lines ≡ clause_text s.operators t ++ rest → next_item lines other ≡ next_item lines from → Stops lines other s from kinds.Syntax
  stops_here place after s new t g table deep from other rest here same =
      let w = was_read text place s g.tokens after t size g.reads in
      let e = ended lines from s.operators t rest here in
      let sane = is_sane s.operators table in
      let n = listed_signed s.operators sane t w.limits s.quotes lines from e.after rest here e.last in
      let none : (u : Tree) → Spells s.operators levels (signs_of s.quotes lines n.tokens) u → ⊥ =
      λ u h. absurd (omega (arith, deep, signed_needs s.operators sane Listed t w.limits s.quotes levels lines from e.after n u e.after (record { tokens = n.tokens; clause = n.clause; spelled = h }))) in
      subst (λ p. Stops lines other s p kinds.Syntax) n.first (unread {after = e.after} (record { clause = clause_from lines from other n.tokens e.after same n.clause; term = none }))

  stops_at : (before behind : List (Settings × Tree)) (x : Settings × Tree) (place : ℕ) (s end : Settings) → Path text place s (before ++ x ∷ behind) end → IsTable s.operators → (most : ℕ) → total with_levels most before ≤ levels → levels < needed x →
      (from other : ℕ) → drop from lines ≡ lines_of (before ++ x ∷ behind) → next_item lines other ≡ next_item lines from → (a : A) → Runs add lines other s a (Fails (from + length (lines_of before)) kinds.Syntax)
  stops_at [] behind x place s end (path_on {after} {new} {t} g p) table most few deep from other here same a =
      let none_before : from ≡ from + 0 = omega arith in
      subst (λ n. Runs add lines other s a (Fails n kinds.Syntax)) none_before (stops (stops_here place after s new t g table deep from other (lines_of behind) here same))
  stops_at (y ∷ before) behind x place s end (path_on {after} {new} {t} g p) table most few deep from other here same a =
      let enough : levels_of s.operators Listed (At whole) t ≤ levels = let h = more_levels (with_levels most s t) before in omega arith in
      let rest : List ℕ = lines_of (before ++ x ∷ behind) in
      let e = ended lines from s.operators t rest here in
      let read = goes_again lines from s new t table g.takes (was_read text place s g.tokens after t size g.reads) enough e.after rest here e.last in
      let there : from + length (clause_text s.operators t) + length (lines_of before) ≡ from + length (clause_text s.operators t ++ lines_of before) = omega (arith, length-append (clause_text s.operators t) (lines_of before)) in
      subst (λ n. Runs add lines other s a (Fails n kinds.Syntax)) there
      (goes (goes_from lines from other s new t e.after same read)
      (stops_at before behind x after new end p (judged_table s new t table g.takes) (with_levels most s t) few deep (from + length (clause_text s.operators t)) e.after e.left e.onward (add a s t)))

  refused : {B : Type 0} (start : A) (made : Settings → A → B) (steps : List (Settings × Tree)) (end : Settings) → Path text 0 iso_settings steps end → (d : Split 0 steps) → lines ≡ lines_of steps → Comes add start made lines (refusal lines (length (lines_of d.before)))
  refused start made steps end p d e =
      let first : 0 + length (lines_of d.before) ≡ length (lines_of d.before) = omega arith in
      let run = stops_at d.before d.behind d.x 0 iso_settings end (subst (λ l. Path text 0 iso_settings l end) d.are p) iso_is_table 0 d.few d.deep 0 0 (e ∙ ap lines_of d.are) refl start in
      record {
        ending = Fails (length (lines_of d.before)) kinds.Syntax;
        from_start = subst (λ n. Runs add lines 0 iso_settings start (Fails n kinds.Syntax)) first run;
        told = refl;
      }

pub listed_too_deep : (text lines : List ℕ) (most : ℕ) → length text < 2 ^ 64 → Lists text (Accepts lines) → Needs text (Accepts most) → levels < most → IsTooDeep lines
listed_too_deep text lines most size l n more =
    let f = from_outcome with_line [] whole_listing text lines l in
    let needs : most ≡ total with_levels 0 f.steps = value_along with_levels 0 most_levels text f.steps f.end f.path most n in
    let d = split 0 f.steps (omega arith) (omega (arith, more, needs)) in
    let same : lines ≡ lines_of f.steps = f.value ∙ total_lines [] f.steps in
    record {
      front = lines_of d.before;
      operators = d.x.0.operators;
      term = d.x.1;
      rest = lines_of d.behind;
      are = same ∙ ap lines_of d.are ∙ lines_split d.before d.behind d.x;
      deep = d.deep;
      loads = refused text size lines with_term empty_draft program_of f.steps f.end f.path d same;
      lists = refused text size lines with_line [] whole_listing f.steps f.end f.path d same;
    }
