-- What is written is read back: whatever extends a term from behind its signs reads it from before them.
use Rattle.std.proofs.Common.{◌≡◌, ◌≤◌, max, ◌⊎◌, inl, inr, ◌&&◌, ◌||◌, Bool, true, false, cond, arith, ℕ, ℤ, pos, negsuc, zero, suc, List, [], ◌∷◌, Option, Some, None, is_some, refl, sym, ap, ◌∙◌, subst}
use Rattle.std.specs.Str.{bytes_eq}
use Rattle.std.proofs.lemmas.Bool.{false≢true}
use Rattle.plterm.specs.Tree.{Tree, Trees, var, int, atom, compound, none, more}
use Rattle.plops.specs.declared.operator.Prefix.{Prefix}
use Rattle.plops.specs.declared.operator.Infix.{Infix}
use Rattle.plops.specs.declared.operator.Postfix.{Postfix}
use Rattle.plops.specs.declared.operator.Operator.{Operator}
use Rattle.plops.specs.declared.operator.Operator.TheVariants as operators
use Rattle.plops.specs.declared.table.OpTable.{OpTable}
use Rattle.plops.specs.Tables.{prefix_of, infix_of, postfix_of}
use Rattle.plops.specs.Sane.{IsSane}
use Rattle.plops.proofs.Names.{named_itself}
use Rattle.plread.specs.Signs.{Sign}
use Rattle.plread.specs.Signs as tok
use Rattle.plread.specs.Texts.{nil, curly, dot, list_term}
use Rattle.plread.specs.Reading.{count, Start, Opens, OpensList, OpensCurly, Calls, Before, Stop, called, joined, signed, begins, square_start, curly_start, start_of, next_of, Reads, reads, Begins, leaf, bracket, list, braces, call, before_op, Extends, stop, between_op, behind_op, Arguments, last, another, Elements, closed, tailed, element, Spells}
use Rattle.plwrite.specs.declared.style.Style.{Style}
use Rattle.plwrite.specs.declared.text.Sign.TheVariants as marks
use Rattle.plwrite.specs.declared.place.TermPlace.{TermPlace}
use Rattle.plwrite.specs.declared.place.Position.TheVariants.{At, Tail}
use Rattle.plwrite.specs.declared.form.Alone.{Alone}
use Rattle.plwrite.specs.declared.form.Alone.TheVariants as alone
use Rattle.plwrite.specs.declared.form.Pair.{Pair}
use Rattle.plwrite.specs.declared.form.Pair.TheVariants as pair
use Rattle.plwrite.specs.Names.{is_bare}
use Rattle.plwrite.specs.Words.{Word, prefix, operator}
use Rattle.plwrite.specs.Places.{whole, argument, right_of_prefix, left_of, right_of, left_of_postfix, needs_brackets, is_operator, is_bracketed_atom}
use Rattle.plwrite.specs.Writing.{int_of, alone_form, pair_form}
use Rattle.pllaws.specs.Levels.{bracketed_levels, atom_levels, alone_levels, pair_levels, levels_of, other_levels}
use Rattle.pllaws.specs.Written.{is_direct, after, paren, opening, name_sign, functor_sign, operator_sign, integer_signs, atom_signs, position_signs, bracketed, alone_signs, pair_signs, signs, other_signs, clause_signs, Fits, IsWhole, AreWhole}
use Rattle.pllaws.proofs.Fronts.{no_sign, unsigned, bracket_apart, integer_apart, start_paren, start_variable, start_integer, start_call, start_before, start_atom, next_in, next_post, post_alone, called_op, joined_op, Ends, next_end, begins_end, next_comma, Stops, OpStops, op_priority, op_needs, SaneOp, below_max, left_stops, post_stops, end_stops, comma_stops, lower_stops}
use Rattle.pllaws.proofs.Forms.{Uses, plain_operator, alone_op, pair_op, op_of, AloneIs, PairIs, alone_is, pair_is, sane_op}

reads_from : {ops : OpTable} {room max : ℕ} {ts mid rest : List Sign} {t u : Tree} {p q : ℕ} (start : Start) → start_of ops max ts ≡ start → Begins ops room start t p mid → Extends ops room max (next_of ops max p mid) t p mid u q rest → Reads ops room max ts u q rest
reads_from {ops} {room} {max} {ts} {mid} {rest} {t} {u} {p} {q} start e b x = reads (subst (λ s. Begins ops room s t p mid) (sym e) b) x

stops_at : {ops : OpTable} {room max p : ℕ} {ts : List Sign} {t : Tree} → next_of ops max p ts ≡ Stop → Extends ops room max (next_of ops max p ts) t p ts t p ts
stops_at {ops} {room} {max} {p} {ts} {t} e = subst (λ n. Extends ops room max n t p ts t p ts) (sym e) stop

within_left : (a b room : ℕ) → max a b ≤ room → a ≤ room
within_left a b room h = omega arith

within_right : (a b room : ℕ) → max a b ≤ room → b ≤ room
within_right a b room h = omega arith

module _ (ops : OpTable) (style : Style) where
  -- behind a term no sign is taken by it
  abbrev pub Calm : Tree → List Sign → Type 0
  Calm (var n) rest = Unit {0}
  Calm (int i) rest = Unit {0}
  Calm (atom s) rest = (prefix_of ops s ≡ None) ⊎ (begins ops rest ≡ false)
  Calm (compound s args) rest = OpStops ops (op_of ops style s args) rest

  abbrev pub Quiet : Tree → List Sign → Type 0
  Quiet t rest = (called rest ≡ None) × (joined rest ≡ None) × Calm t rest

  abbrev pub OpQuiet : Option Operator → List Sign → Type 0
  OpQuiet o rest = (called rest ≡ None) × (joined rest ≡ None) × OpStops ops o rest

  abbrev pub priority_of : Tree → ℕ
  priority_of (var n) = 0
  priority_of (int i) = 0
  priority_of (atom s) = 0
  priority_of (compound s args) = op_priority (op_of ops style s args)

  abbrev pub needs : TermPlace → Tree → Bool
  needs place (var n) = false
  needs place (int i) = false
  needs place (atom s) = is_bracketed_atom ops style place s
  needs place (compound s args) = op_needs place (op_of ops style s args)

  abbrev Placed : Tree → ℕ → Bool → (List Sign → Type 0) → (Option Word → List Sign → List Sign) → ℕ → ℕ → Type 0
  Placed t p b Still body need m =
      ((o : Option Word) (room most : ℕ) (rest : List Sign) (u : Tree) (q : ℕ) (left : List Sign) →
      need ≤ room → m ≤ most → (b ≡ false → Still rest) →
      Extends ops room most (next_of ops most (cond b 0 p) rest) t (cond b 0 p) rest u q left →
      Reads ops room most (body o rest) u q left)

  abbrev Inner : Tree → ℕ → (List Sign → Type 0) → (Option Word → List Sign → List Sign) → ℕ → Type 0
  Inner t p Still body need =
      ((o : Option Word) (room most : ℕ) (rest : List Sign) (u : Tree) (q : ℕ) (left : List Sign) →
      need ≤ room → p ≤ most → Still rest →
      Extends ops room most (next_of ops most p rest) t p rest u q left →
      Reads ops room most (body o rest) u q left)

  abbrev AtBack : Tree → Type 0
  AtBack t = (place : TermPlace) → Placed t (priority_of t) (needs place t) (Quiet t) (λ o rest. signs ops style (At place) t o rest) (levels_of ops style (At place) t) place.most

  abbrev TailBack : Tree → Type 0
  TailBack b =
      ((room : ℕ) (rest ts : List Sign) (x : Tree) (p : ℕ) → levels_of ops style Tail b ≤ room → Reads ops room 999 ts x p (signs ops style Tail b None (tok.CloseSquare ∷ rest)) →
      (items : Trees) × (tail : Tree) × Elements ops room ts (more x items) tail rest × (list_term items tail ≡ b))

  calm_end : (t : Tree) (s : Sign) (rest : List Sign) → Ends s → Calm t (s ∷ rest)
  calm_end (var n) s rest h = tt
  calm_end (int i) s rest h = tt
  calm_end (atom a) s rest h = inr (begins_end ops s rest h).2
  calm_end (compound f args) s rest h = end_stops ops (op_of ops style f args) s rest h

  pub quiet_end : (t : Tree) (s : Sign) (rest : List Sign) → Ends s → Quiet t (s ∷ rest)
  quiet_end t s rest h = let b = begins_end ops s rest h in (b.0, b.1, calm_end t s rest h)

  pub op_quiet_close : (o : Option Operator) (rest : List Sign) → OpQuiet o (tok.Close ∷ rest)
  op_quiet_close o rest = (refl, refl, end_stops ops o tok.Close rest tt)

  pub calm_comma : IsSane ops → (t : Tree) (rest : List Sign) → priority_of t ≤ 999 → Calm t (tok.Comma ∷ rest)
  calm_comma s (var n) rest h = tt
  calm_comma s (int i) rest h = tt
  calm_comma s (atom a) rest h = inr refl
  calm_comma s (compound f args) rest h = comma_stops ops s (op_of ops style f args) rest (sane_op ops style f args s) h

  pub under : (place : TermPlace) (t : Tree) → needs place t ≡ false → priority_of t ≤ place.most
  under place (var n) e = omega arith
  under place (int i) e = omega arith
  under place (atom a) e = omega arith
  under place (compound f args) e = below_max place (op_of ops style f args) e

  -- brackets, where they are needed
  bracket_back : (t : Tree) (p : ℕ) (b : Bool) (Still : List Sign → Type 0) (body : Option Word → List Sign → List Sign) (d m : ℕ) → p ≤ 1200 → (b ≡ false → p ≤ m) → ((rest : List Sign) → Still (tok.Close ∷ rest)) → Inner t p Still body d → Placed t p b Still (bracketed b body) (bracketed_levels b d) m
  bracket_back t p false Still body d m top below quiet law = λ o room most rest u q left enough h still x. law o room most rest u q left (omega arith) (through (below refl) h) (still refl) x where
    through : {a c e : ℕ} → a ≤ c → c ≤ e → a ≤ e
    through h k = omega arith
  bracket_back t p true Still body d m top below quiet law = inside where
    inside : (o : Option Word) (room most : ℕ) (rest : List Sign) (u : Tree) (q : ℕ) (left : List Sign) →
        suc d ≤ room → m ≤ most → (true ≡ false → Still rest) →
        Extends ops room most (next_of ops most 0 rest) t 0 rest u q left →
        Reads ops room most (opening o ∷ body (after marks.Open) (tok.Close ∷ rest)) u q left
    inside o zero most rest u q left enough h still x = absurd (omega arith)
    inside o (suc room) most rest u q left enough h still x =
        reads_from (Opens _) (start_paren ops most (is_direct o 40) _)
        (bracket {p = p} (law (after marks.Open) room 1200 (tok.Close ∷ rest) t p (tok.Close ∷ rest) (omega arith) top (quiet rest) (stops_at (next_end ops 1200 p tok.Close rest tt))))
        x

  -- a term in its place before a sign that ends it, and as an argument before a comma
  place_end : (place : TermPlace) (t : Tree) → AtBack t → (o : Option Word) (room : ℕ) (s : Sign) (rest : List Sign) → Ends s → levels_of ops style (At place) t ≤ room → (p : ℕ) × Reads ops room place.most (signs ops style (At place) t o (s ∷ rest)) t p (s ∷ rest)
  place_end place t law o room s rest h enough =
      (_, law place o room place.most (s ∷ rest) t (cond (needs place t) 0 (priority_of t)) (s ∷ rest) enough (omega arith) (λ e. quiet_end t s rest h) (stops_at (next_end ops place.most _ s rest h)))

  argument_comma : IsSane ops → (t : Tree) → AtBack t → (o : Option Word) (room : ℕ) (rest : List Sign) → levels_of ops style (At argument) t ≤ room → (p : ℕ) × Reads ops room 999 (signs ops style (At argument) t o (tok.Comma ∷ rest)) t p (tok.Comma ∷ rest)
  argument_comma s t law o room rest enough =
      (_, law argument o room 999 (tok.Comma ∷ rest) t (cond (needs argument t) 0 (priority_of t)) (tok.Comma ∷ rest) enough (omega arith) (λ e. (refl, refl, calm_comma s t rest (under argument t e))) (stops_at (next_comma ops s 999 _ rest (omega arith))))

  abbrev AllBack : Trees → Type 0
  AllBack none = Unit {0}
  AllBack (more t ts) = AtBack t × AllBack ts

  arguments_back : IsSane ops → (a : Tree) (args : Trees) → AtBack a → AllBack args → (o : Option Word) (room : ℕ) (rest : List Sign) → max (levels_of ops style (At argument) a) (other_levels ops style args) ≤ room → Arguments ops room (signs ops style (At argument) a o (other_signs ops style args rest)) (more a args) rest
  unfolding other_signs other_levels
  arguments_back s a none law others o room rest enough = last (place_end argument a law o room tok.Close rest tt (within_left _ 0 room enough)).1
  arguments_back s a (more b args) law others o room rest enough =
      another (argument_comma s a law o room _ (within_left _ (max (levels_of ops style (At argument) b) (other_levels ops style args)) room enough)).1
      (arguments_back s b args others.0 others.1 (after marks.Comma) room rest (within_right (levels_of ops style (At argument) a) (max (levels_of ops style (At argument) b) (other_levels ops style args)) room enough))

  call_back : (s : List ℕ) (bare : Bool) (args : Trees) (inside : List Sign → List Sign) (d m : ℕ) (Still : List Sign → Type 0) → count args ≤ 1024 → ((room : ℕ) (rest : List Sign) → d ≤ room → Arguments ops room (inside rest) args rest) → Placed (compound s args) 0 false Still (λ o rest. tok.Name s bare ∷ tok.OpenCall ∷ inside rest) (suc d) m
  call_back s bare args inside d m Still few law = back where
    back : (o : Option Word) (room most : ℕ) (rest : List Sign) (u : Tree) (q : ℕ) (left : List Sign) →
        suc d ≤ room → m ≤ most → (false ≡ false → Still rest) →
        Extends ops room most (next_of ops most 0 rest) (compound s args) 0 rest u q left →
        Reads ops room most (tok.Name s bare ∷ tok.OpenCall ∷ inside rest) u q left
    back o zero most rest u q left enough h still x = absurd (omega arith)
    back o (suc room) most rest u q left enough h still x = reads_from (Calls s (inside rest)) (start_call ops most s bare _) (call (law room rest (omega arith)) few) x

  -- ---- what a term begins with

  pub start_curly : (most : ℕ) (ts : List Sign) → curly_start ts ≡ OpensCurly ts → start_of ops most (tok.OpenCurly ∷ ts) ≡ OpensCurly ts
  unfolding start_of
  start_curly most ts h = h

  pub start_square : (most : ℕ) (ts : List Sign) → square_start ts ≡ OpensList ts → start_of ops most (tok.OpenSquare ∷ ts) ≡ OpensList ts
  unfolding start_of
  start_square most ts h = h

  abbrev Opening : List Sign → Type 0
  Opening ts = (square_start ts ≡ OpensList ts) × (curly_start ts ≡ OpensCurly ts)

  opening_square : (d : Bool) (ts : List Sign) → square_start (paren d ∷ ts) ≡ OpensList (paren d ∷ ts)
  opening_square true ts = refl
  opening_square false ts = refl

  opening_curly : (d : Bool) (ts : List Sign) → curly_start (paren d ∷ ts) ≡ OpensCurly (paren d ∷ ts)
  opening_curly true ts = refl
  opening_curly false ts = refl

  opening_bracketed : (b : Bool) (body : Option Word → List Sign → List Sign) (o : Option Word) (rest : List Sign) → Opening (body o rest) → Opening (bracketed b body o rest)
  opening_bracketed true body o rest h = (opening_square (is_direct o 40) _, opening_curly (is_direct o 40) _)
  opening_bracketed false body o rest h = h

  opening_atom : (a b : Bool) (s : List ℕ) (rest : List Sign) → Opening (cond a (tok.OpenSquare ∷ tok.CloseSquare ∷ rest) (cond b (tok.OpenCurly ∷ tok.CloseCurly ∷ rest) (name_sign s ∷ rest)))
  opening_atom true b s rest = (refl, refl)
  opening_atom false true s rest = (refl, refl)
  opening_atom false false s rest = (refl, refl)

  abbrev Opens_at : Tree → Type 0
  Opens_at t = (place : TermPlace) (o : Option Word) (rest : List Sign) → Opening (signs ops style (At place) t o rest)

  opening_alone : (s : List ℕ) (a : Tree) → Opens_at a → (f : Alone) (place : TermPlace) (o : Option Word) (rest : List Sign) → Opening (alone_signs style (At place) s f (λ p q ws. signs ops style p a q ws) o rest)
  opening_alone s a law (alone.Letter n) place o rest = (refl, refl)
  opening_alone s a law alone.Curly place o rest = (refl, refl)
  opening_alone s a law (alone.Before op) place o rest = opening_bracketed (needs_brackets place (operators.Before op)) (λ q ws. name_sign s ∷ signs ops style (At (right_of_prefix op)) a (Some (prefix style s)) ws) o rest (refl, refl)
  opening_alone s a law (alone.Behind op) place o rest = opening_bracketed (needs_brackets place (operators.Behind op)) (λ q ws. signs ops style (At (left_of_postfix op)) a q (operator_sign s ∷ ws)) o rest (law (left_of_postfix op) o _)
  opening_alone s a law alone.Functional place o rest = (refl, refl)

  opening_pair : (s : List ℕ) (a b : Tree) → Opens_at a → (f : Pair) (place : TermPlace) (o : Option Word) (rest : List Sign) → Opening (pair_signs style (At place) s f (λ p q ws. signs ops style p a q ws) (λ p q ws. signs ops style p b q ws) o rest)
  opening_pair s a b law pair.List place o rest = (refl, refl)
  opening_pair s a b law (pair.Between op) place o rest = opening_bracketed (needs_brackets place (operators.Between op)) (λ q ws. signs ops style (At (left_of op)) a q (operator_sign s ∷ signs ops style (At (right_of op)) b (Some (operator style s)) ws)) o rest (law (left_of op) o _)
  opening_pair s a b law pair.Functional place o rest = (refl, refl)

  pub opens : (t : Tree) → Opens_at t
  unfolding signs
  opens (var n) place o rest = (refl, refl)
  opens (int (pos n)) place o rest = (refl, refl)
  opens (int (negsuc n)) place o rest = (refl, refl)
  opens (atom s) place o rest = opening_bracketed (is_bracketed_atom ops style place s) (λ p ws. atom_signs s ws) o rest (opening_atom (bytes_eq s nil) (bytes_eq s curly) s rest)
  opens (compound s none) place o rest = (refl, refl)
  opens (compound s (more a none)) place o rest = opening_alone s a (opens a) (alone_form ops style s (int_of a)) place o rest
  opens (compound s (more a (more b none))) place o rest = opening_pair s a b (opens a) (pair_form ops style s) place o rest
  opens (compound s (more a (more b (more c args)))) place o rest = (refl, refl)

  -- behind a prefix operator an operand begins a term, and is neither a bracket directly behind it nor an integer of
  -- which it is the sign
  abbrev Fronts : List ℕ → List Sign → Type 0
  Fronts n ts = (called ts ≡ None) × (signed n (is_bare n) ts ≡ None) × (begins ops ts ≡ true)

  fronts_here : (n : List ℕ) (ts : List Sign) → called ts ≡ None → joined ts ≡ None → begins ops ts ≡ true → Fronts n ts
  fronts_here n ts c j b = (c, no_sign n (is_bare n) ts j, b)

  fronts_bracketed : (n : List ℕ) (b : Bool) (body : Option Word → List Sign → List Sign) (rest : List Sign) → (b ≡ false → Fronts n (body (Some (prefix style n)) rest)) → Fronts n (bracketed b body (Some (prefix style n)) rest)
  fronts_bracketed n true body rest h =
      let inside : List Sign = body (after marks.Open) (tok.Close ∷ rest) in
      subst (λ d. Fronts n (paren d ∷ inside)) (sym (bracket_apart style n)) (fronts_here n (tok.Open ∷ inside) refl refl refl)
  fronts_bracketed n false body rest h = h refl

  name_ok : (a g p i q : Bool) → (p || (i || q)) ≡ false → (((a || g) || p) || cond i false (cond q false true)) ≡ true
  name_ok true g p i q h = refl
  name_ok false true p i q h = refl
  name_ok false false true i q h = refl
  name_ok false false false true q h = absurd (false≢true (sym h))
  name_ok false false false false true h = absurd (false≢true (sym h))
  name_ok false false false false false h = refl

  prefix_ok : (a g c : Bool) → (((a || g) || true) || c) ≡ true
  prefix_ok true g c = refl
  prefix_ok false true c = refl
  prefix_ok false false c = refl

  fronts_name : Uses style → (n s : List ℕ) (bare : Bool) (ts : List Sign) → is_operator ops style s ≡ false → Fronts n (tok.Name s bare ∷ ts)
  fronts_name uses n s bare ts h =
      fronts_here n (tok.Name s bare ∷ ts) refl refl
      (name_ok (is_some (called ts)) (is_some (signed s bare ts)) (is_some (prefix_of ops s)) (is_some (infix_of ops s)) (is_some (postfix_of ops s)) (sym (plain_operator ops style uses s) ∙ h))

  fronts_prefix : (n s : List ℕ) (bare : Bool) (op : Prefix) (ts : List Sign) → prefix_of ops s ≡ Some op → Fronts n (tok.Name s bare ∷ ts)
  fronts_prefix n s bare op ts e =
      let no_other : Bool = cond (is_some (infix_of ops s)) false (cond (is_some (postfix_of ops s)) false true) in
      fronts_here n (tok.Name s bare ∷ ts) refl refl
      (ap (λ o. ((is_some (called ts) || is_some (signed s bare ts)) || is_some o) || no_other) e ∙ prefix_ok (is_some (called ts)) (is_some (signed s bare ts)) no_other)

  fronts_atom : Uses style → (n : List ℕ) (a b : Bool) (s : List ℕ) (rest : List Sign) → is_operator ops style s ≡ false → Fronts n (cond a (tok.OpenSquare ∷ tok.CloseSquare ∷ rest) (cond b (tok.OpenCurly ∷ tok.CloseCurly ∷ rest) (name_sign s ∷ rest)))
  fronts_atom uses n true b s rest h = (refl, unsigned n, refl)
  fronts_atom uses n false true s rest h = (refl, unsigned n, refl)
  fronts_atom uses n false false s rest h = fronts_name uses n s _ rest h

  abbrev FrontsAt : Tree → Type 0
  FrontsAt t = (place : TermPlace) → place.is_operand ≡ true → (n : List ℕ) (rest : List Sign) → Fronts n (signs ops style (At place) t (Some (prefix style n)) rest)

  fronts_alone : (s : List ℕ) (a : Tree) → FrontsAt a → (f : Alone) → AloneIs ops style s f → (place : TermPlace) (n : List ℕ) (rest : List Sign) → Fronts n (alone_signs style (At place) s f (λ p q ws. signs ops style p a q ws) (Some (prefix style n)) rest)
  fronts_alone s a law (alone.Letter i) h place n rest = (refl, unsigned n, refl)
  fronts_alone s a law alone.Curly h place n rest = (refl, unsigned n, refl)
  fronts_alone s a law (alone.Before op) h place n rest =
      fronts_bracketed n (needs_brackets place (operators.Before op)) (λ q ws. name_sign s ∷ signs ops style (At (right_of_prefix op)) a (Some (prefix style s)) ws) rest (λ e. fronts_prefix n s _ op _ h.1)
  fronts_alone s a law (alone.Behind op) h place n rest =
      fronts_bracketed n (needs_brackets place (operators.Behind op)) (λ q ws. signs ops style (At (left_of_postfix op)) a q (operator_sign s ∷ ws)) rest (λ e. law (left_of_postfix op) refl n _)
  fronts_alone s a law alone.Functional h place n rest = (refl, unsigned n, refl)

  fronts_pair : (s : List ℕ) (a b : Tree) → FrontsAt a → (f : Pair) (place : TermPlace) (n : List ℕ) (rest : List Sign) → Fronts n (pair_signs style (At place) s f (λ p q ws. signs ops style p a q ws) (λ p q ws. signs ops style p b q ws) (Some (prefix style n)) rest)
  fronts_pair s a b law pair.List place n rest = (refl, unsigned n, refl)
  fronts_pair s a b law (pair.Between op) place n rest =
      fronts_bracketed n (needs_brackets place (operators.Between op)) (λ q ws. signs ops style (At (left_of op)) a q (operator_sign s ∷ signs ops style (At (right_of op)) b (Some (operator style s)) ws)) rest (λ e. law (left_of op) refl n _)
  fronts_pair s a b law pair.Functional place n rest = (refl, unsigned n, refl)

  pub fronts : Uses style → (t : Tree) → FrontsAt t
  unfolding signs
  fronts uses (var i) place e n rest = (refl, unsigned n, refl)
  fronts uses (int (pos i)) place e n rest = (refl, integer_apart style n i rest, refl)
  fronts uses (int (negsuc i)) place e n rest = (refl, unsigned n, refl)
  fronts uses (atom s) place e n rest =
      fronts_bracketed n (is_bracketed_atom ops style place s) (λ p ws. atom_signs s ws) rest (λ h. fronts_atom uses n (bytes_eq s nil) (bytes_eq s curly) s rest (sym (ap (λ b. b && is_operator ops style s) e) ∙ h))
  fronts uses (compound s none) place e n rest = (refl, unsigned n, refl)
  fronts uses (compound s (more a none)) place e n rest = fronts_alone s a (fronts uses a) (alone_form ops style s (int_of a)) (alone_is ops style s (int_of a)) place n rest
  fronts uses (compound s (more a (more b none))) place e n rest = fronts_pair s a b (fronts uses a) (pair_form ops style s) place n rest
  fronts uses (compound s (more a (more b (more c args)))) place e n rest = (refl, unsigned n, refl)

  no_prefix : (o : Option Prefix) (x : Bool) → (is_some o || x) ≡ false → o ≡ None
  no_prefix None x h = refl
  no_prefix (Some op) x h = absurd (false≢true (sym h))

  -- ---- operands

  -- an operand that is followed by nothing that it takes
  pub calm_operand : IsSane ops → Uses style → (place : TermPlace) → place.is_operand ≡ true → (t : Tree) → needs place t ≡ false → (rest : List Sign) → Stops ops place.most rest → Calm t rest
  calm_operand s uses place e (var n) h rest k = tt
  calm_operand s uses place e (int i) h rest k = tt
  calm_operand s uses place e (atom a) h rest k = inl (no_prefix (prefix_of ops a) _ (sym (plain_operator ops style uses a) ∙ sym (ap (λ b. b && is_operator ops style a) e) ∙ h))
  calm_operand s uses place e (compound f args) h rest k = lower_stops ops (op_of ops style f args) place.most rest (sane_op ops style f args s) (below_max place (op_of ops style f args) h) k

  pub calm_left : IsSane ops → Uses style → (n : List ℕ) (op : Infix) → infix_of ops n ≡ Some op → (t : Tree) → needs (left_of op) t ≡ false → (ts : List Sign) → Calm t (operator_sign n ∷ ts)
  calm_left s uses n op e (var m) h ts = tt
  calm_left s uses n op e (int i) h ts = tt
  calm_left s uses n op e (atom m) h ts = inl (no_prefix (prefix_of ops m) _ (sym (plain_operator ops style uses m) ∙ h))
  calm_left s uses n op e (compound m args) h ts = left_stops ops n op (op_of ops style m args) ts s e (sane_op ops style m args s) h

  pub calm_post : IsSane ops → Uses style → (n : List ℕ) (op : Postfix) → postfix_of ops n ≡ Some op → (t : Tree) → needs (left_of_postfix op) t ≡ false → (ts : List Sign) → Calm t (operator_sign n ∷ ts)
  calm_post s uses n op e (var m) h ts = tt
  calm_post s uses n op e (int i) h ts = tt
  calm_post s uses n op e (atom m) h ts = inl (no_prefix (prefix_of ops m) _ (sym (plain_operator ops style uses m) ∙ h))
  calm_post s uses n op e (compound m args) h ts = post_stops ops n op (op_of ops style m args) ts s e (sane_op ops style m args s) h

  pub placed_priority : (place : TermPlace) (t : Tree) (b : Bool) → (b ≡ false → priority_of t ≤ place.most) → cond b 0 (priority_of t) ≤ place.most
  placed_priority place t true h = omega arith
  placed_priority place t false h = h refl

  -- the right operand of an operator, before signs that the operator does not take
  operand_at : IsSane ops → Uses style → (place : TermPlace) → place.is_operand ≡ true → (t : Tree) → AtBack t → (o : Option Word) (room : ℕ) (rest : List Sign) → levels_of ops style (At place) t ≤ room → called rest ≡ None → joined rest ≡ None → Stops ops place.most rest → (p : ℕ) × Reads ops room place.most (signs ops style (At place) t o rest) t p rest
  operand_at s uses place e t law o room rest enough c j k = (
    _,
    law place o room place.most rest t (cond (needs place t) 0 (priority_of t)) rest enough (omega arith) (λ h. (c, j, calm_operand s uses place e t h rest k))
        (stops_at (k (cond (needs place t) 0 (priority_of t)) (placed_priority place t (needs place t) (under place t)))),
  )

  -- ---- a compound of one argument

  before_inner : IsSane ops → Uses style → (s : List ℕ) (a : Tree) → AtBack a → (op : Prefix) → prefix_of ops s ≡ Some op → Inner (compound s (more a none)) op.priority (OpQuiet (Some (operators.Before op))) (λ q ws. name_sign s ∷ signs ops style (At (right_of_prefix op)) a (Some (prefix style s)) ws) (suc (levels_of ops style (At (right_of_prefix op)) a))
  before_inner w uses s a law op e = back where
    back : (o : Option Word) (room most : ℕ) (rest : List Sign) (u : Tree) (q : ℕ) (left : List Sign) →
        suc (levels_of ops style (At (right_of_prefix op)) a) ≤ room → op.priority ≤ most → OpQuiet (Some (operators.Before op)) rest →
        Extends ops room most (next_of ops most op.priority rest) (compound s (more a none)) op.priority rest u q left →
        Reads ops room most (name_sign s ∷ signs ops style (At (right_of_prefix op)) a (Some (prefix style s)) rest) u q left
    back o zero most rest u q left enough h quiet x = absurd (omega arith)
    back o (suc room) most rest u q left enough h quiet x =
        let front = fronts uses a (right_of_prefix op) refl s rest in
        let operand = operand_at w uses (right_of_prefix op) refl a law (Some (prefix style s)) room rest (omega arith) quiet.0 quiet.1 quiet.2 in
        reads_from (Before s op _) (start_before ops most s _ op _ front.0 front.1 e front.2 h) (before_op operand.1) x

  behind_inner : IsSane ops → Uses style → (s : List ℕ) (a : Tree) → AtBack a → (op : Postfix) → postfix_of ops s ≡ Some op → Inner (compound s (more a none)) op.priority (OpQuiet (Some (operators.Behind op))) (λ q ws. signs ops style (At (left_of_postfix op)) a q (operator_sign s ∷ ws)) (levels_of ops style (At (left_of_postfix op)) a)
  behind_inner w uses s a law op e = λ o room most rest u q left enough h quiet x.
      let p : ℕ = cond (needs (left_of_postfix op) a) 0 (priority_of a) in
      let taken = next_post ops most p s op rest (post_alone ops s op w e) e h (placed_priority (left_of_postfix op) a (needs (left_of_postfix op) a) (under (left_of_postfix op) a)) in
      law (left_of_postfix op) o room most (operator_sign s ∷ rest) u q left enough (omega (arith, w.post_left s op e)) (λ k. (called_op s rest, joined_op s rest, calm_post w uses s op e a k rest))
      (subst (λ next. Extends ops room most next a p (operator_sign s ∷ rest) u q left) (sym taken) (behind_op x))

  curly_back : (s : List ℕ) (a : Tree) (m : ℕ) (Still : List Sign → Type 0) → AtBack a → s ≡ curly → Placed (compound s (more a none)) 0 false Still (λ o rest. tok.OpenCurly ∷ signs ops style (At whole) a (after marks.OpenCurly) (tok.CloseCurly ∷ rest)) (suc (levels_of ops style (At whole) a)) m
  curly_back s a m Still law e = back where
    begins_braces : (room : ℕ) (rest : List Sign) → levels_of ops style (At whole) a ≤ room → Begins ops (suc room) (OpensCurly (signs ops style (At whole) a (after marks.OpenCurly) (tok.CloseCurly ∷ rest))) (compound s (more a none)) 0 rest
    begins_braces room rest enough =
        subst (λ n. Begins ops (suc room) (OpensCurly (signs ops style (At whole) a (after marks.OpenCurly) (tok.CloseCurly ∷ rest))) (compound n (more a none)) 0 rest) (sym e)
        (braces (place_end whole a law (after marks.OpenCurly) room tok.CloseCurly rest tt enough).1)

    back : (o : Option Word) (room most : ℕ) (rest : List Sign) (u : Tree) (q : ℕ) (left : List Sign) →
        suc (levels_of ops style (At whole) a) ≤ room → m ≤ most → (false ≡ false → Still rest) →
        Extends ops room most (next_of ops most 0 rest) (compound s (more a none)) 0 rest u q left →
        Reads ops room most (tok.OpenCurly ∷ signs ops style (At whole) a (after marks.OpenCurly) (tok.CloseCurly ∷ rest)) u q left
    back o zero most rest u q left enough h still x = absurd (omega arith)
    back o (suc room) most rest u q left enough h still x =
        reads_from (OpensCurly _) (start_curly most _ (opens a whole (after marks.OpenCurly) (tok.CloseCurly ∷ rest)).1) (begins_braces room rest (omega arith)) x

  one_argument : (a : Tree) → AtBack a → (room : ℕ) (rest : List Sign) → levels_of ops style (At argument) a ≤ room → Arguments ops room (signs ops style (At argument) a (after marks.Open) (tok.Close ∷ rest)) (more a none) rest
  one_argument a law room rest enough = last (place_end argument a law (after marks.Open) room tok.Close rest tt enough).1

  alone_back : IsSane ops → (s : List ℕ) (a : Tree) → AtBack a → (f : Alone) → AloneIs ops style s f → SaneOp (alone_op f) → (place : TermPlace) → Placed (compound s (more a none)) (op_priority (alone_op f)) (op_needs place (alone_op f)) (OpQuiet (alone_op f)) (λ o rest. alone_signs style (At place) s f (λ p q ws. signs ops style p a q ws) o rest) (alone_levels (At place) f (λ p. levels_of ops style p a)) place.most
  alone_back w s a law (alone.Letter n) h k place = call_back s _ (more a none) (λ rest. signs ops style (At argument) a (after marks.Open) (tok.Close ∷ rest)) (levels_of ops style (At argument) a) place.most _ (omega arith) (one_argument a law)
  alone_back w s a law alone.Functional h k place = call_back s _ (more a none) (λ rest. signs ops style (At argument) a (after marks.Open) (tok.Close ∷ rest)) (levels_of ops style (At argument) a) place.most _ (omega arith) (one_argument a law)
  alone_back w s a law alone.Curly h k place = curly_back s a place.most _ law h
  alone_back w s a law (alone.Before op) h k place =
      bracket_back (compound s (more a none)) op.priority (needs_brackets place (operators.Before op)) (OpQuiet (Some (operators.Before op))) (λ q ws. name_sign s ∷ signs ops style (At (right_of_prefix op)) a (Some (prefix style s)) ws) (suc (levels_of ops style (At (right_of_prefix op)) a)) place.most
      k.1 (below_max place (Some (operators.Before op))) (op_quiet_close (Some (operators.Before op))) (before_inner w h.0 s a law op h.1)
  alone_back w s a law (alone.Behind op) h k place =
      bracket_back (compound s (more a none)) op.priority (needs_brackets place (operators.Behind op)) (OpQuiet (Some (operators.Behind op))) (λ q ws. signs ops style (At (left_of_postfix op)) a q (operator_sign s ∷ ws)) (levels_of ops style (At (left_of_postfix op)) a) place.most
      k.1 (below_max place (Some (operators.Behind op))) (op_quiet_close (Some (operators.Behind op))) (behind_inner w h.0 s a law op h.1)

  -- ---- a compound of two arguments

  between_inner : IsSane ops → Uses style → (s : List ℕ) (a b : Tree) → AtBack a → AtBack b → (op : Infix) → infix_of ops s ≡ Some op → Inner (compound s (more a (more b none))) op.priority (OpQuiet (Some (operators.Between op))) (λ q ws. signs ops style (At (left_of op)) a q (operator_sign s ∷ signs ops style (At (right_of op)) b (Some (operator style s)) ws)) (max (levels_of ops style (At (left_of op)) a) (suc (levels_of ops style (At (right_of op)) b)))
  between_inner w uses s a b law other op e = back where
    back : (o : Option Word) (room most : ℕ) (rest : List Sign) (u : Tree) (q : ℕ) (left : List Sign) →
        max (levels_of ops style (At (left_of op)) a) (suc (levels_of ops style (At (right_of op)) b)) ≤ room → op.priority ≤ most → OpQuiet (Some (operators.Between op)) rest →
        Extends ops room most (next_of ops most op.priority rest) (compound s (more a (more b none))) op.priority rest u q left →
        Reads ops room most (signs ops style (At (left_of op)) a o (operator_sign s ∷ signs ops style (At (right_of op)) b (Some (operator style s)) rest)) u q left
    back o zero most rest u q left enough h quiet x = let none_left : suc (levels_of ops style (At (right_of op)) b) ≤ 0 = within_right (levels_of ops style (At (left_of op)) a) _ 0 enough in absurd (omega arith)
    back o (suc room) most rest u q left enough h quiet x =
        let inner : suc (levels_of ops style (At (right_of op)) b) ≤ suc room = within_right (levels_of ops style (At (left_of op)) a) _ (suc room) enough in
        let operand = operand_at w uses (right_of op) refl b other (Some (operator style s)) room rest (omega arith) quiet.0 quiet.1 quiet.2 in
        let inside = signs ops style (At (right_of op)) b (Some (operator style s)) rest in
        let p : ℕ = cond (needs (left_of op) a) 0 (priority_of a) in
        let taken = next_in ops most p s op inside e h (placed_priority (left_of op) a (needs (left_of op) a) (under (left_of op) a)) in
        law (left_of op) o (suc room) most (operator_sign s ∷ inside) u q left (within_left _ (suc (levels_of ops style (At (right_of op)) b)) (suc room) enough) (omega (arith, w.in_left s op e)) (λ k. (called_op s inside, joined_op s inside, calm_left w uses s op e a k inside))
        (subst (λ next. Extends ops (suc room) most next a p (operator_sign s ∷ inside) u q left) (sym taken) (between_op operand.1 x))

  -- behind an element stands a sign that ends it
  abbrev pub Followed : List Sign → Type 0
  Followed ts = (called ts ≡ None) × (joined ts ≡ None) × (begins ops ts ≡ false) × Stops ops 999 ts

  followed_end : (s : Sign) (ts : List Sign) → Ends s → Followed (s ∷ ts)
  followed_end s ts h = let b = begins_end ops s ts h in (b.0, b.1, b.2, λ p k. next_end ops 999 p s ts h)

  followed_comma : IsSane ops → (ts : List Sign) → Followed (tok.Comma ∷ ts)
  followed_comma w ts = (refl, refl, refl, λ p k. next_comma ops w 999 p ts (omega arith))

  pub calm_followed : IsSane ops → (t : Tree) (ts : List Sign) → Followed ts → priority_of t ≤ 999 → Calm t ts
  calm_followed w (var n) ts f h = tt
  calm_followed w (int i) ts f h = tt
  calm_followed w (atom s) ts f h = inr f.2
  calm_followed w (compound s args) ts f h = lower_stops ops (op_of ops style s args) 999 ts (sane_op ops style s args w) h f.3

  element_at : IsSane ops → (t : Tree) → AtBack t → (o : Option Word) (room : ℕ) (ts : List Sign) → levels_of ops style (At argument) t ≤ room → Followed ts → (p : ℕ) × Reads ops room 999 (signs ops style (At argument) t o ts) t p ts
  element_at w t law o room ts enough f = (
    _,
    law argument o room 999 ts t (cond (needs argument t) 0 (priority_of t)) ts enough (omega arith) (λ e. (f.0, f.1, calm_followed w t ts f (under argument t e)))
        (stops_at (f.3 (cond (needs argument t) 0 (priority_of t)) (placed_priority argument t (needs argument t) (under argument t)))),
  )

  -- ---- lists

  -- the same for what a body makes of the signs behind a list's last element
  abbrev TailForm : (List Sign → List Sign) → Tree → ℕ → Type 0
  TailForm body b need =
      ((room : ℕ) (rest ts : List Sign) (x : Tree) (p : ℕ) → need ≤ room → Reads ops room 999 ts x p (body (tok.CloseSquare ∷ rest)) →
      (items : Trees) × (tail : Tree) × Elements ops room ts (more x items) tail rest × (list_term items tail ≡ b))

  barred : (t : Tree) (p : ℕ) (b : Bool) (Still : List Sign → Type 0) (body : Option Word → List Sign → List Sign) (d : ℕ) → Placed t p b Still body d 999 → ((rest : List Sign) → Still (tok.CloseSquare ∷ rest)) → TailForm (λ ws. tok.Bar ∷ body (after marks.Bar) ws) t d
  barred t p b Still body d law still = λ room rest ts x q enough r.
      (none, t, tailed r (law (after marks.Bar) room 999 (tok.CloseSquare ∷ rest) t (cond b 0 p) (tok.CloseSquare ∷ rest) enough (omega arith) (λ e. still rest) (stops_at (next_end ops 999 (cond b 0 p) tok.CloseSquare rest tt))), refl)

  pub op_quiet_square : (o : Option Operator) (rest : List Sign) → OpQuiet o (tok.CloseSquare ∷ rest)
  op_quiet_square o rest = (refl, refl, end_stops ops o tok.CloseSquare rest tt)

  alone_tail : IsSane ops → (s : List ℕ) (a : Tree) → AtBack a → (f : Alone) → AloneIs ops style s f → SaneOp (alone_op f) → TailForm (λ ws. alone_signs style Tail s f (λ p q vs. signs ops style p a q vs) None ws) (compound s (more a none)) (alone_levels Tail f (λ p. levels_of ops style p a))
  alone_tail w s a law (alone.Letter n) h k = barred (compound s (more a none)) 0 false (OpQuiet None) (λ o ws. alone_signs style (At argument) s (alone.Letter n) (λ p q vs. signs ops style p a q vs) o ws) (alone_levels (At argument) (alone.Letter n) (λ p. levels_of ops style p a)) (alone_back w s a law (alone.Letter n) h k argument) (op_quiet_square None)
  alone_tail w s a law alone.Functional h k = barred (compound s (more a none)) 0 false (OpQuiet None) (λ o ws. alone_signs style (At argument) s alone.Functional (λ p q vs. signs ops style p a q vs) o ws) (alone_levels (At argument) alone.Functional (λ p. levels_of ops style p a)) (alone_back w s a law alone.Functional h k argument) (op_quiet_square None)
  alone_tail w s a law alone.Curly h k = barred (compound s (more a none)) 0 false (OpQuiet None) (λ o ws. alone_signs style (At argument) s alone.Curly (λ p q vs. signs ops style p a q vs) o ws) (alone_levels (At argument) alone.Curly (λ p. levels_of ops style p a)) (alone_back w s a law alone.Curly h k argument) (op_quiet_square None)
  alone_tail w s a law (alone.Before op) h k =
      barred (compound s (more a none)) op.priority (needs_brackets argument (operators.Before op)) (OpQuiet (Some (operators.Before op))) (λ o ws. alone_signs style (At argument) s (alone.Before op) (λ p q vs. signs ops style p a q vs) o ws) (alone_levels (At argument) (alone.Before op) (λ p. levels_of ops style p a)) (alone_back w s a law (alone.Before op) h k argument) (op_quiet_square (Some (operators.Before op)))
  alone_tail w s a law (alone.Behind op) h k =
      barred (compound s (more a none)) op.priority (needs_brackets argument (operators.Behind op)) (OpQuiet (Some (operators.Behind op))) (λ o ws. alone_signs style (At argument) s (alone.Behind op) (λ p q vs. signs ops style p a q vs) o ws) (alone_levels (At argument) (alone.Behind op) (λ p. levels_of ops style p a)) (alone_back w s a law (alone.Behind op) h k argument) (op_quiet_square (Some (operators.Behind op)))

  followed_alone : (s : List ℕ) (a : Tree) (f : Alone) (ws : List Sign) → Followed (alone_signs style Tail s f (λ p q vs. signs ops style p a q vs) None ws)
  followed_alone s a (alone.Letter n) ws = followed_end tok.Bar _ tt
  followed_alone s a alone.Curly ws = followed_end tok.Bar _ tt
  followed_alone s a (alone.Before op) ws = followed_end tok.Bar _ tt
  followed_alone s a (alone.Behind op) ws = followed_end tok.Bar _ tt
  followed_alone s a alone.Functional ws = followed_end tok.Bar _ tt

  followed_pair : IsSane ops → (s : List ℕ) (a b : Tree) (f : Pair) (ws : List Sign) → Followed (pair_signs style Tail s f (λ p q vs. signs ops style p a q vs) (λ p q vs. signs ops style p b q vs) None ws)
  followed_pair w s a b pair.List ws = followed_comma w _
  followed_pair w s a b (pair.Between op) ws = followed_end tok.Bar _ tt
  followed_pair w s a b pair.Functional ws = followed_end tok.Bar _ tt

  followed_atom : (e : Bool) (s : List ℕ) (rest : List Sign) → Followed (position_signs ops style Tail e s None (tok.CloseSquare ∷ rest))
  followed_atom true s rest = followed_end tok.CloseSquare rest tt
  followed_atom false s rest = followed_end tok.Bar _ tt

  pub followed : IsSane ops → (b : Tree) (rest : List Sign) → Followed (signs ops style Tail b None (tok.CloseSquare ∷ rest))
  unfolding signs
  followed w (var n) rest = followed_end tok.Bar _ tt
  followed w (int i) rest = followed_end tok.Bar _ tt
  followed w (atom s) rest = followed_atom (bytes_eq s nil) s rest
  followed w (compound s none) rest = followed_end tok.Bar _ tt
  followed w (compound s (more a none)) rest = followed_alone s a (alone_form ops style s (int_of a)) (tok.CloseSquare ∷ rest)
  followed w (compound s (more a (more b none))) rest = followed_pair w s a b (pair_form ops style s) (tok.CloseSquare ∷ rest)
  followed w (compound s (more a (more b (more c args)))) rest = followed_end tok.Bar _ tt

  list_back : IsSane ops → (s : List ℕ) (a b : Tree) (m : ℕ) (Still : List Sign → Type 0) → AtBack a → TailBack b → s ≡ dot → Placed (compound s (more a (more b none))) 0 false Still (λ o rest. tok.OpenSquare ∷ signs ops style (At argument) a (after marks.OpenSquare) (signs ops style Tail b None (tok.CloseSquare ∷ rest))) (suc (max (levels_of ops style (At argument) a) (levels_of ops style Tail b))) m
  list_back w s a b m Still law tail e = back where
    begins_list : (room : ℕ) (rest : List Sign) → max (levels_of ops style (At argument) a) (levels_of ops style Tail b) ≤ room → Begins ops (suc room) (OpensList (signs ops style (At argument) a (after marks.OpenSquare) (signs ops style Tail b None (tok.CloseSquare ∷ rest)))) (compound s (more a (more b none))) 0 rest
    begins_list room rest enough =
        let first = element_at w a law (after marks.OpenSquare) room (signs ops style Tail b None (tok.CloseSquare ∷ rest)) (within_left _ (levels_of ops style Tail b) room enough) (followed w b rest) in
        let found = tail room rest (signs ops style (At argument) a (after marks.OpenSquare) (signs ops style Tail b None (tok.CloseSquare ∷ rest))) a first.0 (within_right (levels_of ops style (At argument) a) _ room enough) first.1 in
        subst (λ n. Begins ops (suc room) (OpensList (signs ops style (At argument) a (after marks.OpenSquare) (signs ops style Tail b None (tok.CloseSquare ∷ rest)))) (compound n (more a (more b none))) 0 rest) (sym e)
        (subst (λ t. Begins ops (suc room) (OpensList (signs ops style (At argument) a (after marks.OpenSquare) (signs ops style Tail b None (tok.CloseSquare ∷ rest)))) (compound dot (more a (more t none))) 0 rest) found.3 (list found.2))

    back : (o : Option Word) (room most : ℕ) (rest : List Sign) (u : Tree) (q : ℕ) (left : List Sign) →
        suc (max (levels_of ops style (At argument) a) (levels_of ops style Tail b)) ≤ room → m ≤ most → (false ≡ false → Still rest) →
        Extends ops room most (next_of ops most 0 rest) (compound s (more a (more b none))) 0 rest u q left →
        Reads ops room most (tok.OpenSquare ∷ signs ops style (At argument) a (after marks.OpenSquare) (signs ops style Tail b None (tok.CloseSquare ∷ rest))) u q left
    back o zero most rest u q left enough h still x = absurd (omega arith)
    back o (suc room) most rest u q left enough h still x =
        reads_from (OpensList _) (start_square most _ (opens a argument (after marks.OpenSquare) (signs ops style Tail b None (tok.CloseSquare ∷ rest))).0) (begins_list room rest (omega arith)) x

  two_arguments : IsSane ops → (a b : Tree) → AtBack a → AtBack b → (room : ℕ) (rest : List Sign) → max (levels_of ops style (At argument) a) (levels_of ops style (At argument) b) ≤ room → Arguments ops room (signs ops style (At argument) a (after marks.Open) (tok.Comma ∷ signs ops style (At argument) b (after marks.Comma) (tok.Close ∷ rest))) (more a (more b none)) rest
  two_arguments w a b law other room rest enough =
      another (argument_comma w a law (after marks.Open) room _ (within_left _ (levels_of ops style (At argument) b) room enough)).1 (last (place_end argument b other (after marks.Comma) room tok.Close rest tt (within_right (levels_of ops style (At argument) a) _ room enough)).1)

  pair_back : IsSane ops → (s : List ℕ) (a b : Tree) → AtBack a → AtBack b → TailBack b → (f : Pair) → PairIs ops style s f → SaneOp (pair_op f) → (place : TermPlace) → Placed (compound s (more a (more b none))) (op_priority (pair_op f)) (op_needs place (pair_op f)) (OpQuiet (pair_op f)) (λ o rest. pair_signs style (At place) s f (λ p q ws. signs ops style p a q ws) (λ p q ws. signs ops style p b q ws) o rest) (pair_levels (At place) f (λ p. levels_of ops style p a) (λ p. levels_of ops style p b)) place.most
  pair_back w s a b law other tail pair.List h k place = list_back w s a b place.most (OpQuiet None) law tail h
  pair_back w s a b law other tail pair.Functional h k place =
      call_back s _ (more a (more b none)) (λ rest. signs ops style (At argument) a (after marks.Open) (tok.Comma ∷ signs ops style (At argument) b (after marks.Comma) (tok.Close ∷ rest))) (max (levels_of ops style (At argument) a) (levels_of ops style (At argument) b)) place.most (OpQuiet None) (omega arith) (two_arguments w a b law other)
  pair_back w s a b law other tail (pair.Between op) h k place =
      bracket_back (compound s (more a (more b none))) op.priority (needs_brackets place (operators.Between op)) (OpQuiet (Some (operators.Between op))) (λ q ws. signs ops style (At (left_of op)) a q (operator_sign s ∷ signs ops style (At (right_of op)) b (Some (operator style s)) ws)) (max (levels_of ops style (At (left_of op)) a) (suc (levels_of ops style (At (right_of op)) b))) place.most
      k.1 (below_max place (Some (operators.Between op))) (op_quiet_close (Some (operators.Between op))) (between_inner w h.0 s a b law other op h.1)

  pair_tail : IsSane ops → (s : List ℕ) (a b : Tree) → AtBack a → AtBack b → TailBack b → (f : Pair) → PairIs ops style s f → SaneOp (pair_op f) → TailForm (λ ws. pair_signs style Tail s f (λ p q vs. signs ops style p a q vs) (λ p q vs. signs ops style p b q vs) None ws) (compound s (more a (more b none))) (pair_levels Tail f (λ p. levels_of ops style p a) (λ p. levels_of ops style p b))
  pair_tail w s a b law other tail pair.List h k = goes where
    goes : (room : ℕ) (rest ts : List Sign) (x : Tree) (p : ℕ) → max (levels_of ops style (At argument) a) (levels_of ops style Tail b) ≤ room → Reads ops room 999 ts x p (tok.Comma ∷ signs ops style (At argument) a (after marks.Comma) (signs ops style Tail b None (tok.CloseSquare ∷ rest))) →
        (items : Trees) × (end : Tree) × Elements ops room ts (more x items) end rest × (list_term items end ≡ compound s (more a (more b none)))
    goes room rest ts x p enough r =
        let first = element_at w a law (after marks.Comma) room (signs ops style Tail b None (tok.CloseSquare ∷ rest)) (within_left _ (levels_of ops style Tail b) room enough) (followed w b rest) in
        let found = tail room rest (signs ops style (At argument) a (after marks.Comma) (signs ops style Tail b None (tok.CloseSquare ∷ rest))) a first.0 (within_right (levels_of ops style (At argument) a) _ room enough) first.1 in
        (more a found.0, found.1, element r found.2, ap (λ t. compound dot (more a (more t none))) found.3 ∙ ap (λ n. compound n (more a (more b none))) (sym h))
  pair_tail w s a b law other tail pair.Functional h k =
      barred (compound s (more a (more b none))) 0 false (OpQuiet None) (λ o ws. pair_signs style (At argument) s pair.Functional (λ p q vs. signs ops style p a q vs) (λ p q vs. signs ops style p b q vs) o ws) (pair_levels (At argument) pair.Functional (λ p. levels_of ops style p a) (λ p. levels_of ops style p b)) (pair_back w s a b law other tail pair.Functional h k argument) (op_quiet_square None)
  pair_tail w s a b law other tail (pair.Between op) h k =
      barred (compound s (more a (more b none))) op.priority (needs_brackets argument (operators.Between op)) (OpQuiet (Some (operators.Between op))) (λ o ws. pair_signs style (At argument) s (pair.Between op) (λ p q vs. signs ops style p a q vs) (λ p q vs. signs ops style p b q vs) o ws) (pair_levels (At argument) (pair.Between op) (λ p. levels_of ops style p a) (λ p. levels_of ops style p b)) (pair_back w s a b law other tail (pair.Between op) h k argument) (op_quiet_square (Some (operators.Between op)))

  -- ---- every term

  var_back : (n : ℕ) → AtBack (var n)
  unfolding signs
  var_back n = λ place o room most rest u q left enough h still x. reads_from _ (start_variable ops most n rest) leaf x

  int_back : (i : ℤ) → Fits i → AtBack (int i)
  unfolding signs
  int_back i fits = λ place o room most rest u q left enough h still x. reads_from _ (start_integer ops most i o rest fits) leaf x

  atom_inner : (s : List ℕ) → Inner (atom s) 0 (Quiet (atom s)) (λ p ws. atom_signs s ws) 0
  atom_inner s = λ o room most rest u q left enough h quiet x. reads_from _ (start_atom ops most s rest quiet.0 quiet.1 quiet.2) leaf x

  atom_placed : (s : List ℕ) (place : TermPlace) → Placed (atom s) 0 (is_bracketed_atom ops style place s) (Quiet (atom s)) (bracketed (is_bracketed_atom ops style place s) (λ p ws. atom_signs s ws)) (bracketed_levels (is_bracketed_atom ops style place s) 0) place.most
  atom_placed s place = bracket_back (atom s) 0 (is_bracketed_atom ops style place s) (Quiet (atom s)) (λ p ws. atom_signs s ws) 0 place.most (omega arith) (λ e. omega arith) (λ rest. quiet_end (atom s) tok.Close rest tt) (atom_inner s)

  atom_back : (s : List ℕ) → AtBack (atom s)
  unfolding signs levels_of
  atom_back s = atom_placed s

  var_tail : (n : ℕ) → TailBack (var n)
  unfolding signs levels_of
  var_tail n = barred (var n) 0 false (Quiet (var n)) (λ o ws. tok.Variable n ∷ ws) 0 (λ o room most rest u q left enough h still x. reads_from _ (start_variable ops most n rest) leaf x) (λ rest. quiet_end (var n) tok.CloseSquare rest tt)

  int_tail : (i : ℤ) → Fits i → TailBack (int i)
  unfolding signs levels_of
  int_tail i fits = barred (int i) 0 false (Quiet (int i)) (λ o ws. integer_signs i o ws) 0 (λ o room most rest u q left enough h still x. reads_from _ (start_integer ops most i o rest fits) leaf x) (λ rest. quiet_end (int i) tok.CloseSquare rest tt)

  atom_form : (s : List ℕ) (e : Bool) → (e ≡ true → s ≡ nil) → TailForm (λ ws. position_signs ops style Tail e s None ws) (atom s) (atom_levels e (is_bracketed_atom ops style argument s))
  atom_form s true e = λ room rest ts x p enough r. (none, atom nil, closed r, ap atom (sym (e refl)))
  atom_form s false e =
      barred (atom s) 0 (is_bracketed_atom ops style argument s) (Quiet (atom s)) (λ o ws. bracketed (is_bracketed_atom ops style argument s) (λ p vs. atom_signs s vs) o ws) (bracketed_levels (is_bracketed_atom ops style argument s) 0)
      (atom_placed s argument) (λ rest. quiet_end (atom s) tok.CloseSquare rest tt)

  atom_tail : (s : List ℕ) → TailBack (atom s)
  unfolding signs levels_of
  atom_tail s = atom_form s (bytes_eq s nil) (named_itself s nil)

  -- a term in any position
  abbrev Back : Tree → Type 0
  Back t = AtBack t × TailBack t

  one_back : IsSane ops → (s : List ℕ) (a : Tree) → AtBack a → Back (compound s (more a none))
  unfolding signs levels_of
  one_back w s a law =
      let sane = sane_op ops style s (more a none) w in
      (alone_back w s a law (alone_form ops style s (int_of a)) (alone_is ops style s (int_of a)) sane, alone_tail w s a law (alone_form ops style s (int_of a)) (alone_is ops style s (int_of a)) sane)

  two_back : IsSane ops → (s : List ℕ) (a b : Tree) → AtBack a → Back b → Back (compound s (more a (more b none)))
  unfolding signs levels_of
  two_back w s a b law other =
      let sane = sane_op ops style s (more a (more b none)) w in
      (pair_back w s a b law other.0 other.1 (pair_form ops style s) (pair_is ops style s) sane, pair_tail w s a b law other.0 other.1 (pair_form ops style s) (pair_is ops style s) sane)

  abbrev pub many_levels : Tree → Tree → Trees → ℕ
  many_levels a b args = max (levels_of ops style (At argument) a) (max (levels_of ops style (At argument) b) (other_levels ops style args))

  many_arguments : IsSane ops → (a b c : Tree) (args : Trees) → AtBack a → AtBack b → AllBack (more c args) → (room : ℕ) (rest : List Sign) → many_levels a b (more c args) ≤ room → Arguments ops room (signs ops style (At argument) a (after marks.Open) (tok.Comma ∷ signs ops style (At argument) b (after marks.Comma) (other_signs ops style (more c args) rest))) (more a (more b (more c args))) rest
  many_arguments w a b c args law other others room rest enough =
      another (argument_comma w a law (after marks.Open) room _ (within_left _ (max (levels_of ops style (At argument) b) (other_levels ops style (more c args))) room enough)).1
      (arguments_back w b (more c args) other others (after marks.Comma) room rest (within_right (levels_of ops style (At argument) a) (max (levels_of ops style (At argument) b) (other_levels ops style (more c args))) room enough))

  many_back : IsSane ops → (s : List ℕ) (a b c : Tree) (args : Trees) → count (more a (more b (more c args))) ≤ 1024 → AtBack a → AtBack b → AllBack (more c args) → Back (compound s (more a (more b (more c args))))
  unfolding signs levels_of
  many_back w s a b c args few law other others = (
    λ place. call_back s _ (more a (more b (more c args))) (λ rest. signs ops style (At argument) a (after marks.Open) (tok.Comma ∷ signs ops style (At argument) b (after marks.Comma) (other_signs ops style (more c args) rest))) (many_levels a b (more c args)) place.most _ few (many_arguments w a b c args law other others),
    barred (compound s (more a (more b (more c args)))) 0 false (OpQuiet None) (λ o ws. functor_sign s ∷ tok.OpenCall ∷ signs ops style (At argument) a (after marks.Open) (tok.Comma ∷ signs ops style (At argument) b (after marks.Comma) (other_signs ops style (more c args) ws))) (suc (many_levels a b (more c args)))
        (call_back s _ (more a (more b (more c args))) (λ rest. signs ops style (At argument) a (after marks.Open) (tok.Comma ∷ signs ops style (At argument) b (after marks.Comma) (other_signs ops style (more c args) rest))) (many_levels a b (more c args)) 999 (OpQuiet None) few (many_arguments w a b c args law other others)) (op_quiet_square None),
  )

  mutual
    unfolding IsWhole

    back : IsSane ops → (t : Tree) → IsWhole t → Back t
    back w (var n) h = (var_back n, var_tail n)
    back w (int i) h = (int_back i h, int_tail i h)
    back w (atom s) h = (atom_back s, atom_tail s)
    back w (compound s none) h = absurd (omega (arith, h.0))
    back w (compound s (more a none)) h = one_back w s a (back w a h.2.0).0
    back w (compound s (more a (more b none))) h = two_back w s a b (back w a h.2.0).0 (back w b h.2.1.0)
    back w (compound s (more a (more b (more c args)))) h = many_back w s a b c args h.1 (back w a h.2.0).0 (back w b h.2.1.0).0 (all_back w (more c args) h.2.1.1)

    all_back : IsSane ops → (ts : Trees) → AreWhole ts → AllBack ts
    all_back w none h = tt
    all_back w (more t ts) h = ((back w t h.0).0, all_back w ts h.1)

  pub clause_back : IsSane ops → (t : Tree) → IsWhole t → (levels : ℕ) → levels_of ops style (At whole) t ≤ levels → Spells ops levels (clause_signs ops style t) t
  clause_back w t h levels enough = place_end whole t (back w t h).0 None levels tok.End [] tt enough
