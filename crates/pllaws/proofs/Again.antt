-- What is written is read again.
use Rattle.std.proofs.Common.{◌≡◌, ◌≤◌, ◌<◌, ◌+◌, ◌^◌, ℕ, List, [], ◌∷◌, ◌++◌, length, drop, Bool, true, false, None, codes, length-append, refl, sym, ap, subst, ◌∙◌, arith}
use Rattle.plterm.specs.Tree.{Tree}
use Rattle.plterm.specs.Variables.{place, variables, copied}
use Rattle.plterm.proofs.Belows.{AllBelow-copied}
use Rattle.plterm.specs.Characters.{is_symbol}
use Rattle.plops.specs.declared.table.OpTable.{OpTable}
use Rattle.plops.specs.Sane.{IsSane}
use Rattle.pllex.specs.declared.token.Token.{Token}
use Rattle.pllex.specs.Tokens.{ends_here, IsClause}
use Rattle.pllex.proofs.Clauses.{one_clause}
use Rattle.plops.specs.declared.flag.Quotes.{Quotes}
use Rattle.plread.specs.Spelling.{signs_of}
use Rattle.plread.specs.Reading.{Spells}
use Rattle.plread.specs.Refusals.{start_of}
use Rattle.plread.proofs.Unique.{spelled_once}
use Rattle.plwrite.specs.declared.style.Style.{Style}
use Rattle.plwrite.specs.declared.style.Style.TheVariants as styles
use Rattle.plwrite.specs.declared.place.Position.TheVariants.{At}
use Rattle.plwrite.specs.Places.{whole}
use Rattle.plwrite.specs.Styles.{has_letters}
use Rattle.plwrite.specs.Words.{last_byte, text_of}
use Rattle.plwrite.specs.Writing.{words, written, end_text, clause_text}
use Rattle.pllaws.specs.Pieces.{Piece, QuotesNames}
use Rattle.pllaws.specs.Tokens.{text, tokens, spaces, ending, end_at}
use Rattle.pllaws.specs.Read.{Stands}
use Rattle.pllaws.proofs.Spacing.{clause_read}
use Rattle.pllaws.proofs.Terms.{fit_renamed, below_more, line_end}
use Rattle.pllaws.specs.Written.{clause_signs}
use Rattle.pllaws.specs.Levels.{levels_of}
use Rattle.pllaws.specs.Told.{Tell}
use Rattle.pllaws.specs.Again.{IsWithinLimits, ReadsAs}
use Rattle.pllaws.proofs.Back.{clause_back}
use Rattle.pllaws.proofs.Needed.{clause_needs}
use Rattle.pllaws.proofs.Starts.{tokens_start, end_alone}
use Rattle.pllaws.proofs.Says.{clause_told}
use Rattle.pllaws.proofs.Numbers.{clause_numbered}
use Rattle.pllaws.proofs.Spoken.{spoken}
use Rattle.pllaws.proofs.Limits.{is_fit, whole_renamed, levels_renamed}

quotes_names : (style : Style) → has_letters style ≡ false → QuotesNames style
quotes_names styles.Plain e = absurd cc
quotes_names styles.Quoted e = tt
quotes_names styles.Canonical e = tt
quotes_names styles.Listed e = tt

-- the signs of a written term are those of the next clause's tokens, of which the first starts right here
pub record Signed (ops : OpTable) (style : Style) (quotes : Quotes) (all : List ℕ) (from after : ℕ) (t : Tree) : Type 0 where
  pub tokens : List Token
  pub clause : IsClause all from tokens after
  pub are : signs_of quotes all tokens ≡ clause_signs ops style (copied 0 t)
  pub first : start_of tokens ≡ from

module _ (ops : OpTable) (sane : IsSane ops) (style : Style) (t : Tree) (limits : IsWithinLimits t) where
  abbrev number : ℕ → ℕ
  number v = 0 + place v (variables t)

  same_levels : levels_of ops style (At whole) (copied 0 t) ≡ levels_of ops style (At whole) t
  same_levels = levels_renamed ops style number t (At whole)

  -- where as many levels may be open as the term needs, the signs spell it
  pub signed_spells : (quotes : Quotes) (levels : ℕ) → levels_of ops style (At whole) t ≤ levels → (all : List ℕ) (from after : ℕ) → Signed ops style quotes all from after t → ReadsAs ops quotes levels all from after (copied 0 t)
  signed_spells quotes levels enough all from after g =
      record {
        tokens = g.tokens;
        clause = g.clause;
        spelled = subst (λ l. Spells ops levels l (copied 0 t)) (sym g.are) (clause_back ops style sane (copied 0 t) (whole_renamed number t limits.fits) levels (omega (arith, same_levels)));
      }

  -- and where they spell a term, as many may be
  pub signed_needs : (quotes : Quotes) (levels : ℕ) (all : List ℕ) (from after : ℕ) → Signed ops style quotes all from after t → (u : Tree) (end : ℕ) → ReadsAs ops quotes levels all from end u → levels_of ops style (At whole) t ≤ levels
  signed_needs quotes levels all from after g u end k =
      let same = one_clause all from k.tokens g.tokens end after k.clause g.clause in
      let spelled = subst (λ l. Spells ops levels l u) (ap (signs_of quotes all) same.0 ∙ g.are) k.spelled in
      omega (arith, same_levels, clause_needs ops style sane (copied 0 t) (whole_renamed number t limits.fits) levels u spelled)

module _ (ops : OpTable) (sane : IsSane ops) (style : Style) (plain : has_letters style ≡ false) (t : Tree) (limits : IsWithinLimits t) where
  -- the term with the variables that are written
  told : Tell style None (words ops style (At whole) (copied 1 t) []) (clause_signs ops style (copied 1 t))
  told =
      clause_told ops style sane plain (copied 1 t) (fit_renamed (λ v. 1 + place v (variables t)) t (is_fit t limits.fits))
      (below_more (1 + length (variables t)) (2 ^ 64) (copied 1 t) (omega (arith, limits.few)) (AllBelow-copied 1 t))

  -- a term has a first word
  first_start : (quotes : Quotes) (all : List ℕ) (from : ℕ) (is_apart : Bool) (n : ℕ) (pieces : List Piece) → signs_of quotes all (tokens style from pieces ++ end_at is_apart n ∷ []) ≡ clause_signs ops style (copied 0 t) → start_of (tokens style from pieces ++ end_at is_apart n ∷ []) ≡ from
  first_start quotes all from is_apart n [] e =
      let spelled = clause_back ops style sane (copied 0 t) (whole_renamed (number ops sane style t limits) t limits.fits) (levels_of ops style (At whole) (copied 0 t)) (omega arith) in
      absurd (end_alone ops (levels_of ops style (At whole) (copied 0 t)) (copied 0 t) (subst (λ l. Spells ops (levels_of ops style (At whole) (copied 0 t)) l (copied 0 t)) (sym e) spelled))
  first_start quotes all from is_apart n (p ∷ ps) e = tokens_start style p ps from (end_at is_apart n ∷ [])

  -- the text of the term with a full stop behind it
  signed : (quotes : Quotes) (all : List ℕ) (from : ℕ) (is_apart : Bool) (rest : List ℕ) → drop from all ≡ written ops style t ++ ending is_apart rest →
      (is_symbol (last_byte (written ops style t)) ≡ true → is_apart ≡ true) → ends_here rest ≡ true → Signed ops style quotes all from (from + length (written ops style t) + spaces is_apart + 1) t
  signed quotes all from is_apart rest here apart over =
      let s = spoken style (quotes_names style plain) told in
      let e : written ops style t ≡ text style s.pieces = ap text_of s.are in
      let stands : Stands style s.pieces all from is_apart rest = record { here = here ∙ ap (λ l. l ++ ending is_apart rest) e; apart = λ k. apart (ap (λ l. is_symbol (last_byte l)) e ∙ k); over = over } in
      let n : ℕ = from + length (text style s.pieces) in
      let r = clause_read style (quotes_names style plain) s.pieces s.fit all from is_apart rest stands in
      let ts : List Token = tokens style from s.pieces ++ end_at is_apart n ∷ [] in
      let are : signs_of quotes all ts ≡ clause_signs ops style (copied 0 t) = s.says quotes all from [] is_apart n r.are ∙ clause_numbered ops style t limits.few in
      record {
        tokens = ts;
        clause = subst (λ l. IsClause all from ts (from + length l + spaces is_apart + 1)) (sym e) r.clause;
        are = are;
        first = first_start quotes all from is_apart n s.pieces are;
      }

length-end_text : (b : Bool) → length (end_text b) ≡ spaces b + 2
length-end_text true = refl
length-end_text false = refl

-- as a clause is listed
pub listed_signed : (ops : OpTable) → IsSane ops → (t : Tree) → IsWithinLimits t → (quotes : Quotes) (all : List ℕ) (from after : ℕ) (rest : List ℕ) → drop from all ≡ clause_text ops t ++ rest → after + 1 ≡ from + length (clause_text ops t) → Signed ops styles.Listed quotes all from after t
listed_signed ops sane t limits quotes all from after rest here e =
    let bytes : List ℕ = written ops styles.Listed t in
    let is_apart : Bool = is_symbol (last_byte bytes) in
    let last : from + length bytes + spaces is_apart + 1 ≡ after = omega (arith, length-append bytes (end_text is_apart), length-end_text is_apart, e) in
    subst (λ n. Signed ops styles.Listed quotes all from n t) last (signed ops sane styles.Listed refl t limits quotes all from is_apart (10 ∷ rest) (here ∙ line_end is_apart bytes rest) (λ k. k) refl)

-- and with ` .` behind it
apart_signed : (ops : OpTable) → IsSane ops → (style : Style) → has_letters style ≡ false → (t : Tree) → IsWithinLimits t → (quotes : Quotes) (all : List ℕ) (from after : ℕ) (rest : List ℕ) → drop from all ≡ written ops style t ++ (codes " ." ++ rest) → ends_here rest ≡ true → after ≡ from + length (written ops style t ++ codes " .") → Signed ops style quotes all from after t
apart_signed ops sane style plain t limits quotes all from after rest here over e =
    let bytes : List ℕ = written ops style t in
    let last : from + length bytes + 1 + 1 ≡ after = omega (arith, length-append bytes (codes " ."), e) in
    subst (λ n. Signed ops style quotes all from n t) last (signed ops sane style plain t limits quotes all from true rest here (λ k. refl) over)

pub listed_again : (ops : OpTable) → IsSane ops → (t : Tree) → IsWithinLimits t → (quotes : Quotes) (levels : ℕ) → levels_of ops styles.Listed (At whole) t ≤ levels → (all : List ℕ) (from after : ℕ) (rest : List ℕ) → drop from all ≡ clause_text ops t ++ rest → after + 1 ≡ from + length (clause_text ops t) → ReadsAs ops quotes levels all from after (copied 0 t)
listed_again ops sane t limits quotes levels enough all from after rest here e =
    signed_spells ops sane styles.Listed t limits quotes levels enough all from after (listed_signed ops sane t limits quotes all from after rest here e)

pub apart_again : (ops : OpTable) → IsSane ops → (style : Style) → has_letters style ≡ false → (t : Tree) → IsWithinLimits t → (quotes : Quotes) (levels : ℕ) → levels_of ops style (At whole) t ≤ levels → (all : List ℕ) (from after : ℕ) (rest : List ℕ) → drop from all ≡ written ops style t ++ (codes " ." ++ rest) → ends_here rest ≡ true → after ≡ from + length (written ops style t ++ codes " .") → ReadsAs ops quotes levels all from after (copied 0 t)
apart_again ops sane style plain t limits quotes levels enough all from after rest here over e =
    signed_spells ops sane style t limits quotes levels enough all from after (apart_signed ops sane style plain t limits quotes all from after rest here over e)

-- where a text of one byte at least has its last
full_stop : (from : ℕ) (bytes : List ℕ) → 0 < length bytes → (after : ℕ) × (after + 1 ≡ from + length bytes)
full_stop from [] h = absurd (omega arith)
full_stop from (x ∷ bytes) h = (from + length bytes, omega arith)

-- what is read from there is read where as many levels may be open as the written term needs
pub listed_needs : (ops : OpTable) → IsSane ops → (t : Tree) → IsWithinLimits t → (quotes : Quotes) (levels : ℕ) (all : List ℕ) (from end : ℕ) (rest : List ℕ) (u : Tree) → drop from all ≡ clause_text ops t ++ rest → ReadsAs ops quotes levels all from end u → levels_of ops styles.Listed (At whole) t ≤ levels
listed_needs ops sane t limits quotes levels all from end rest u here k =
    let bytes : List ℕ = written ops styles.Listed t in
    let is_apart : Bool = is_symbol (last_byte bytes) in
    let stop = full_stop from (clause_text ops t) (omega (arith, length-append bytes (end_text is_apart), length-end_text is_apart)) in
    signed_needs ops sane styles.Listed t limits quotes levels all from stop.0 (listed_signed ops sane t limits quotes all from stop.0 rest here stop.1) u end k

pub apart_needs : (ops : OpTable) → IsSane ops → (style : Style) → has_letters style ≡ false → (t : Tree) → IsWithinLimits t → (quotes : Quotes) (levels : ℕ) (all : List ℕ) (from end : ℕ) (rest : List ℕ) (u : Tree) → drop from all ≡ written ops style t ++ (codes " ." ++ rest) → ends_here rest ≡ true → ReadsAs ops quotes levels all from end u → levels_of ops style (At whole) t ≤ levels
apart_needs ops sane style plain t limits quotes levels all from end rest u here over k =
    let after : ℕ = from + length (written ops style t ++ codes " .") in
    signed_needs ops sane style t limits quotes levels all from after (apart_signed ops sane style plain t limits quotes all from after rest here over refl) u end k

-- it is read as nothing else
pub read_once : (ops : OpTable) (quotes : Quotes) (levels : ℕ) (all : List ℕ) (from a b : ℕ) (t u : Tree) → ReadsAs ops quotes levels all from a t → ReadsAs ops quotes levels all from b u → (a ≡ b) × (t ≡ u)
read_once ops quotes levels all from a b t u h k =
    let same = one_clause all from h.tokens k.tokens a b h.clause k.clause in
    (same.1, spelled_once ops levels (signs_of quotes all k.tokens) t u (subst (λ ts. Spells ops levels (signs_of quotes all ts) t) same.0 h.spelled) k.spelled)
