-- What signs spell is within its limits where the signs are, and has the signs' variables, in their order.
use Rattle.std.proofs.Common.{◌≡◌, ◌<◌, ◌≤◌, ℕ, pos, zero, suc, List, [], ◌∷◌, Bool, true, false, ◌&&◌, cond, leb, ltb, Option, Some, None, refl, sym, ap, ◌∙◌, arith}
use Rattle.std.specs.Str.{bytes_eq}
use Rattle.std.proofs.lemmas.Bool.{cond_both, leb-true, ltb-true}
use Rattle.plterm.specs.Tree.{Tree, Trees, int, atom, none}
use Rattle.plterm.specs.Reading.{spelling, spellings, IsName, AllFit}
use Rattle.plops.specs.declared.operator.Prefix.{Prefix}
use Rattle.plops.specs.declared.operator.Infix.{Infix}
use Rattle.plops.specs.declared.operator.Postfix.{Postfix}
use Rattle.plops.specs.declared.table.OpTable.{OpTable}
use Rattle.plops.specs.Tables.{prefix_of, infix_of, postfix_of}
use Rattle.plops.specs.Sane.{comma}
use Rattle.plread.specs.Signs.{Sign}
use Rattle.plread.specs.Signs as tok
use Rattle.plread.specs.Texts.{curly, minus}
use Rattle.plread.specs.Reading.{count, Start, Stands, Opens, OpensList, OpensCurly, Calls, Before, NoStart, Next, Between, Behind, Stop, called, joined, signed, begins, uncalled, before, name_start, word_start, negative, square_start, curly_start, fits, between, behind, start_of, next_of, Reads, reads, Begins, leaf, bracket, list, braces, call, before_op, Extends, stop, between_op, behind_op, Arguments, last, another, Elements, closed, tailed, element, Spells}
use Rattle.pllaws.proofs.Nodes.{comma_name, nil_name, curly_name, vars, fit_more, fit_compound, fit_one, fit_two, fit_list, vars_more, vars_one, vars_two, vars_list}

-- a sign whose name, or whose term, is within its limits
abbrev pub IsGood : Sign → Type 0
IsGood (tok.Name n bare) = IsName n
IsGood (tok.Variable n) = Unit {0}
IsGood (tok.Integer n directly) = Unit {0}
IsGood (tok.Text None) = Unit {0}
IsGood (tok.Text (Some t)) = AllFit (spelling t)
IsGood tok.Open = Unit {0}
IsGood tok.OpenCall = Unit {0}
IsGood tok.Close = Unit {0}
IsGood tok.OpenSquare = Unit {0}
IsGood tok.CloseSquare = Unit {0}
IsGood tok.OpenCurly = Unit {0}
IsGood tok.CloseCurly = Unit {0}
IsGood tok.Comma = Unit {0}
IsGood tok.Bar = Unit {0}
IsGood tok.End = Unit {0}

abbrev pub AreGood : List Sign → Type 0
AreGood [] = Unit {0}
AreGood (s ∷ ss) = IsGood s × AreGood ss

-- the variables of a sign, before others
abbrev pub sign_vars : Sign → List ℕ → List ℕ
sign_vars (tok.Name n bare) ps = ps
sign_vars (tok.Variable n) ps = n ∷ ps
sign_vars (tok.Integer n directly) ps = ps
sign_vars (tok.Text None) ps = ps
sign_vars (tok.Text (Some t)) ps = vars (spelling t) ps
sign_vars tok.Open ps = ps
sign_vars tok.OpenCall ps = ps
sign_vars tok.Close ps = ps
sign_vars tok.OpenSquare ps = ps
sign_vars tok.CloseSquare ps = ps
sign_vars tok.OpenCurly ps = ps
sign_vars tok.CloseCurly ps = ps
sign_vars tok.Comma ps = ps
sign_vars tok.Bar ps = ps
sign_vars tok.End ps = ps

abbrev pub all_vars : List Sign → List ℕ
all_vars [] = []
all_vars (s ∷ ss) = sign_vars s (all_vars ss)

-- between the signs stands the term
pub record Was (ts : List Sign) (t : Tree) (rest : List Sign) : Type 0 where
  pub fits : AllFit (spelling t)
  pub good : AreGood rest
  pub order : all_vars ts ≡ vars (spelling t) (all_vars rest)

-- signs that have the variables of others
record Left (ts rest : List Sign) : Type 0 where
  good : AreGood rest
  order : all_vars ts ≡ all_vars rest

abbrev StartIs : Start → List Sign → Type 0
StartIs (Stands t rest) ts = Was ts t rest
StartIs (Opens rest) ts = Left ts rest
StartIs (OpensList rest) ts = Left ts rest
StartIs (OpensCurly rest) ts = Left ts rest
StartIs (Calls n rest) ts = IsName n × Left ts rest
StartIs (Before n op rest) ts = IsName n × Left ts rest
StartIs NoStart ts = Unit {0}

abbrev NextIs : Next → List Sign → Type 0
NextIs (Between n op rest) ts = IsName n × Left ts rest
NextIs (Behind n op rest) ts = IsName n × Left ts rest
NextIs Stop ts = Unit {0}

-- ---- what begins a term

start_if : (b : Bool) (x y : Start) (ts : List Sign) → (b ≡ true → StartIs x ts) → StartIs y ts → StartIs (cond b x y) ts
start_if b x y ts f k = cond_both b x y (λ s. StartIs s ts) f (λ _. k)

name_stands : (n : List ℕ) (bare : Bool) (ts : List Sign) → IsName n → AreGood ts → StartIs (Stands (atom n) ts) (tok.Name n bare ∷ ts)
name_stands n bare ts h k = record { fits = (h, tt); good = k; order = refl }

abbrev CallIs : Option (List Sign) → List Sign → Type 0
CallIs None ts = Unit {0}
CallIs (Some rest) ts = Left ts rest

called_is : (ts : List Sign) → AreGood ts → CallIs (called ts) ts
called_is (tok.OpenCall ∷ ts) h = record { good = h.1; order = refl }
called_is ts h = tt

abbrev SignIs : Option (ℕ × List Sign) → List Sign → Type 0
SignIs None ts = Unit {0}
SignIs (Some i) ts = Left ts i.1

joined_is : (ts : List Sign) → AreGood ts → SignIs (joined ts) ts
joined_is (tok.Integer n true ∷ ts) h = record { good = h.1; order = refl }
joined_is ts h = tt

signed_if : (b : Bool) (o : Option (ℕ × List Sign)) (ts : List Sign) → SignIs o ts → SignIs (cond b o None) ts
signed_if true o ts h = h
signed_if false o ts h = tt

fit_negative : (n : ℕ) → n ≤ 9223372036854775808 → AllFit (spelling (int (negative n)))
fit_negative zero h = (record { sfits = omega arith }, tt)
fit_negative (suc n) h = (record { sfits = omega arith }, tt)

fit_positive : (n : ℕ) → n < 9223372036854775808 → AllFit (spelling (int (pos n)))
fit_positive n h = (record { sfits = omega arith }, tt)

before_is : (max : ℕ) (op : Prefix) (n : List ℕ) (bare : Bool) (ts : List Sign) → IsName n → AreGood ts → StartIs (before max op n ts) (tok.Name n bare ∷ ts)
before_is max op n bare ts h k = start_if (leb op.priority max) (Before n op ts) NoStart (tok.Name n bare ∷ ts) (λ _. (h, record { good = k; order = refl })) tt

uncalled_is : (ops : OpTable) (max : ℕ) (n : List ℕ) (bare : Bool) (ts : List Sign) (o : Option Prefix) → IsName n → AreGood ts → StartIs (uncalled ops max n ts o) (tok.Name n bare ∷ ts)
uncalled_is ops max n bare ts None h k = name_stands n bare ts h k
uncalled_is ops max n bare ts (Some op) h k =
    start_if (begins ops ts) (before max op n ts) (Stands (atom n) ts) (tok.Name n bare ∷ ts) (λ _. before_is max op n bare ts h k) (name_stands n bare ts h k)

name_is : (ops : OpTable) (max : ℕ) (n : List ℕ) (bare : Bool) (ts : List Sign) (o : Option (List Sign)) → IsName n → AreGood ts → CallIs o ts → StartIs (name_start ops max n ts o) (tok.Name n bare ∷ ts)
name_is ops max n bare ts (Some inside) h k c = (h, record { good = c.good; order = c.order })
name_is ops max n bare ts None h k c = uncalled_is ops max n bare ts (prefix_of ops n) h k

word_is : (ops : OpTable) (max : ℕ) (n : List ℕ) (bare : Bool) (ts : List Sign) (o : Option (ℕ × List Sign)) → IsName n → AreGood ts → SignIs o ts → StartIs (word_start ops max n ts o) (tok.Name n bare ∷ ts)
word_is ops max n bare ts (Some i) h k s =
    start_if (leb i.0 9223372036854775808) (Stands (int (negative i.0)) i.1) NoStart (tok.Name n bare ∷ ts)
    (λ b. record { fits = fit_negative i.0 (leb-true i.0 9223372036854775808 b); good = s.good; order = s.order }) tt
word_is ops max n bare ts None h k s = name_is ops max n bare ts (called ts) h k (called_is ts k)

square_is : (ts : List Sign) → AreGood ts → StartIs (square_start ts) (tok.OpenSquare ∷ ts)
square_is (tok.CloseSquare ∷ ts) h = record { fits = (nil_name, tt); good = h.1; order = refl }
square_is ts h = record { good = h; order = refl }

curly_is : (ts : List Sign) → AreGood ts → StartIs (curly_start ts) (tok.OpenCurly ∷ ts)
curly_is (tok.CloseCurly ∷ ts) h = record { fits = (curly_name, tt); good = h.1; order = refl }
curly_is ts h = record { good = h; order = refl }

start_is : (ops : OpTable) (max : ℕ) (ts : List Sign) → AreGood ts → StartIs (start_of ops max ts) ts
unfolding start_of
start_is ops max [] h = tt
start_is ops max (tok.Name n bare ∷ ts) h = word_is ops max n bare ts (signed n bare ts) h.0 h.1 (signed_if (bare && bytes_eq n minus) (joined ts) ts (joined_is ts h.1))
start_is ops max (tok.Variable n ∷ ts) h = record { fits = (tt, tt); good = h.1; order = refl }
start_is ops max (tok.Integer n directly ∷ ts) h =
    start_if (ltb n 9223372036854775808) (Stands (int (pos n)) ts) NoStart (tok.Integer n directly ∷ ts)
    (λ b. record { fits = fit_positive n (ltb-true n 9223372036854775808 b); good = h.1; order = refl }) tt
start_is ops max (tok.Text None ∷ ts) h = tt
start_is ops max (tok.Text (Some t) ∷ ts) h = record { fits = h.0; good = h.1; order = refl }
start_is ops max (tok.Open ∷ ts) h = record { good = h.1; order = refl }
start_is ops max (tok.OpenCall ∷ ts) h = record { good = h.1; order = refl }
start_is ops max (tok.Close ∷ ts) h = tt
start_is ops max (tok.OpenSquare ∷ ts) h = square_is ts h.1
start_is ops max (tok.CloseSquare ∷ ts) h = tt
start_is ops max (tok.OpenCurly ∷ ts) h = curly_is ts h.1
start_is ops max (tok.CloseCurly ∷ ts) h = tt
start_is ops max (tok.Comma ∷ ts) h = tt
start_is ops max (tok.Bar ∷ ts) h = tt
start_is ops max (tok.End ∷ ts) h = tt

-- ---- what follows one

next_if : (b : Bool) (x y : Next) (ts : List Sign) → NextIs x ts → NextIs y ts → NextIs (cond b x y) ts
next_if true x y ts h k = h
next_if false x y ts h k = k

behind_is : (o : Option Postfix) (max given : ℕ) (n : List ℕ) (rest ts : List Sign) → IsName n → Left ts rest → NextIs (behind o max given n rest) ts
behind_is None max given n rest ts h k = tt
behind_is (Some op) max given n rest ts h k = next_if (fits op.priority op.left max given) (Behind n op rest) Stop ts (h, k) tt

between_is : (o : Option Infix) (post : Option Postfix) (max given : ℕ) (n : List ℕ) (rest ts : List Sign) → IsName n → Left ts rest → NextIs (between o post max given n rest) ts
between_is None post max given n rest ts h k = behind_is post max given n rest ts h k
between_is (Some op) post max given n rest ts h k =
    next_if (fits op.priority op.left max given) (Between n op rest) (behind post max given n rest) ts (h, k) (behind_is post max given n rest ts h k)

next_is : (ops : OpTable) (max given : ℕ) (ts : List Sign) → AreGood ts → NextIs (next_of ops max given ts) ts
unfolding next_of
next_is ops max given (tok.Name n bare ∷ ts) h = between_is (infix_of ops n) (postfix_of ops n) max given n ts (tok.Name n bare ∷ ts) h.0 (record { good = h.1; order = refl })
next_is ops max given (tok.Comma ∷ ts) h = between_is (infix_of ops comma) (postfix_of ops comma) max given comma ts (tok.Comma ∷ ts) comma_name (record { good = h.1; order = refl })
next_is ops max given ts h = tt

-- ---- terms

record WereArguments (ts : List Sign) (args : Trees) (rest : List Sign) : Type 0 where
  fits : AllFit (spellings args)
  some : 0 < count args
  good : AreGood rest
  order : all_vars ts ≡ vars (spellings args) (all_vars rest)

record WereElements (ts : List Sign) (items : Trees) (tail : Tree) (rest : List Sign) : Type 0 where
  items_fit : AllFit (spellings items)
  tail_fits : AllFit (spelling tail)
  good : AreGood rest
  order : all_vars ts ≡ vars (spellings items) (vars (spelling tail) (all_vars rest))

module _ (ops : OpTable) where
  mutual
    was_read : {room max p : ℕ} {ts rest : List Sign} {t : Tree} → Reads ops room max ts t p rest → AreGood ts → Was ts t rest
    was_read (reads {max} {ts} {mid} {p} b x) h =
        let w = was_begun b ts (start_is ops max ts h) in
        was_extended x ts (next_is ops max p mid w.good) w

    was_begun : {room p : ℕ} {start : Start} {t : Tree} {mid : List Sign} → Begins ops room start t p mid → (ts : List Sign) → StartIs start ts → Was ts t mid
    was_begun leaf ts s = s
    was_begun (bracket r) ts s = let w = was_read r s.good in record { fits = w.fits; good = w.good.1; order = s.order ∙ w.order }
    was_begun (list {rest} {items} {tail} e) ts s =
        let w = were_elements e s.good in
        record { fits = fit_list items tail w.items_fit w.tail_fits; good = w.good; order = s.order ∙ w.order ∙ sym (vars_list items tail (all_vars rest)) }
    was_begun (braces {rest} {t} r) ts s =
        let w = was_read r s.good in
        record { fits = fit_one curly t curly_name w.fits; good = w.good.1; order = s.order ∙ w.order ∙ sym (vars_one curly t (all_vars rest)) }
    was_begun (call {name} {rest} {args} a few) ts s =
        let w = were_arguments a s.1.good in
        record { fits = fit_compound name args s.0 w.some few w.fits; good = w.good; order = s.1.order ∙ w.order }
    was_begun (before_op {name} {rest} {t} r) ts s =
        let w = was_read r s.1.good in
        record { fits = fit_one name t s.0 w.fits; good = w.good; order = s.1.order ∙ w.order ∙ sym (vars_one name t (all_vars rest)) }

    was_extended : {room max p q : ℕ} {next : Next} {t u : Tree} {ts rest : List Sign} → Extends ops room max next t p ts u q rest → (front : List Sign) → NextIs next ts → Was front t ts → Was front u rest
    was_extended stop front n w = w
    was_extended (between_op {max} {name} {op} {mid} {t} {u} r x) front n w =
        let v = was_read r n.1.good in
        was_extended x front (next_is ops max op.priority mid v.good) (record {
          fits = fit_two name t u n.0 w.fits v.fits;
          good = v.good;
          order = w.order ∙ ap (vars (spelling t)) (n.1.order ∙ v.order) ∙ sym (vars_two name t u (all_vars mid));
        })
    was_extended (behind_op {max} {name} {op} {mid} {t} x) front n w =
        was_extended x front (next_is ops max op.priority mid n.1.good) (record {
          fits = fit_one name t n.0 w.fits;
          good = n.1.good;
          order = w.order ∙ ap (vars (spelling t)) n.1.order ∙ sym (vars_one name t (all_vars mid));
        })

    were_arguments : {room : ℕ} {ts rest : List Sign} {args : Trees} → Arguments ops room ts args rest → AreGood ts → WereArguments ts args rest
    were_arguments (last {rest} {t} r) h =
        let w = was_read r h in
        record { fits = fit_more t none w.fits tt; some = omega arith; good = w.good.1; order = w.order ∙ sym (vars_more t none (all_vars rest)) }
    were_arguments (another {rest} {t} {args} r a) h =
        let w = was_read r h in
        let v = were_arguments a w.good.1 in
        record { fits = fit_more t args w.fits v.fits; some = omega arith; good = v.good; order = w.order ∙ ap (vars (spelling t)) v.order ∙ sym (vars_more t args (all_vars rest)) }

    were_elements : {room : ℕ} {ts rest : List Sign} {items : Trees} {tail : Tree} → Elements ops room ts items tail rest → AreGood ts → WereElements ts items tail rest
    were_elements (closed {rest} {t} r) h =
        let w = was_read r h in
        record { items_fit = fit_more t none w.fits tt; tail_fits = (nil_name, tt); good = w.good.1; order = w.order ∙ sym (vars_more t none (all_vars rest)) }
    were_elements (tailed {rest} {t} {tail} r q) h =
        let w = was_read r h in
        let v = was_read q w.good.1 in
        record {
          items_fit = fit_more t none w.fits tt;
          tail_fits = v.fits;
          good = v.good.1;
          order = w.order ∙ ap (vars (spelling t)) v.order ∙ sym (vars_more t none (vars (spelling tail) (all_vars rest)));
        }
    were_elements (element {rest} {t} {tail} {items} r e) h =
        let w = was_read r h in
        let v = were_elements e w.good.1 in
        record {
          items_fit = fit_more t items w.fits v.items_fit;
          tail_fits = v.tail_fits;
          good = v.good;
          order = w.order ∙ ap (vars (spelling t)) v.order ∙ sym (vars_more t items (vars (spelling tail) (all_vars rest)));
        }

-- a clause that good signs spell
pub was_spelled : (ops : OpTable) (levels : ℕ) (ts : List Sign) (t : Tree) → Spells ops levels ts t → AreGood ts → Was ts t (tok.End ∷ [])
was_spelled ops levels ts t (p, r) h = was_read ops r h
