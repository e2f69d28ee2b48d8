-- The signs of a clause's tokens are within their limits, and number its variables in order.
use Rattle.std.proofs.Common.{◌≡◌, ◌==◌, ◌<◌, ◌≤◌, ◌+◌, max, ℕ, Bool, true, false, not, leb, List, [], ◌∷◌, ◌++◌, length, map, Option, Some, None, length-append, refl, sym, subst, ◌∙◌, arith}
use Rattle.std.specs.List.{position_or_len}
use Rattle.std.specs.Str.{bytes_eq, is_utf8, chars}
use Rattle.std.specs.Char.{encode_utf8}
use Rattle.std.proofs.lemmas.Bool.{cond_both, eqb-true, eqb-false, leb-true, and_parts}
use Rattle.std.proofs.lemmas.Bool.Decides.{nat_tests}
use Rattle.std.proofs.lemmas.List.Sums.{prefix_len-le-length}
use Rattle.std.proofs.lemmas.Str.{scalars-chars, length-encode, len_utf8_bounds, IsUtf8-encode, is_utf8-from_IsUtf8, IsUtf8-from_is_utf8}
use Rattle.std.proofs.Math.Utf8.{scalars}
use Rattle.plterm.specs.Tree.{Tree, atom, trees}
use Rattle.plterm.specs.Reading.{spelling, spellings, AllFit}
use Rattle.pllex.specs.declared.token.Kind.{Kind}
use Rattle.pllex.specs.declared.token.Kind.TheVariants as kinds
use Rattle.pllex.specs.declared.token.Token.{Token}
use Rattle.pllex.specs.declared.quoted.Quote.TheVariants.{Double}
use Rattle.pllex.specs.Escapes.{is_scalar}
use Rattle.pllex.specs.Named.{bytes_of, value_within, value_as, value_of, IsNamedAs, AreNamed}
use Rattle.plops.specs.declared.flag.Quotes.{Quotes}
use Rattle.plops.specs.declared.flag.Quotes.TheVariants as quotes
use Rattle.plread.specs.Texts.{nil, listed, code_tree, char_tree, text_tree}
use Rattle.plread.specs.Signs.{Sign}
use Rattle.plread.specs.Signs as tok
use Rattle.plread.specs.Spelling.{anonymous, number_of, seen_with, seen_after, is_joined, mark, sign, signs_behind}
use Rattle.pllaws.proofs.Numbers.{InOrder}
use Rattle.pllaws.proofs.Nodes.{vars, nil_name, fit_more, fit_list, vars_more, vars_list}
use Rattle.pllaws.proofs.Spelled.{IsGood, AreGood, sign_vars, all_vars}

-- ---- double-quoted items

code_fits : (c : ℕ) → is_scalar c ≡ true → AllFit (spelling (code_tree c))
code_fits c h = let few : c < 1114112 = scalar_few c h in (record { sfits = omega arith }, tt) where
  scalar_few : (c : ℕ) → is_scalar c ≡ true → c < 1114112
  scalar_few c h = grind (arith, nat_tests)

char_fits : (c : ℕ) → is_scalar c ≡ true → AllFit (spelling (char_tree c))
char_fits c h = ((let b = len_utf8_bounds c in omega (arith, length-encode c, b.1), is_utf8-from_IsUtf8 (encode_utf8 c) (IsUtf8-encode c h)), tt)

each_fits : (f : ℕ → Tree) → ((c : ℕ) → is_scalar c ≡ true → AllFit (spelling (f c))) → (cs : List ℕ) → scalars cs ≡ true → AllFit (spellings (trees (map f cs)))
each_fits f fit [] h = tt
each_fits f fit (c ∷ cs) h = let p = and_parts _ (scalars cs) h in fit_more (f c) (trees (map f cs)) (fit c p.0) (each_fits f fit cs p.1)

text_fits : (f : ℕ → Tree) → ((c : ℕ) → is_scalar c ≡ true → AllFit (spelling (f c))) → (value : List ℕ) → is_utf8 value ≡ true → IsGood (tok.Text (Some (listed (map f (chars value)))))
text_fits f fit value h = fit_list (trees (map f (chars value))) (atom nil) (each_fits f fit (chars value) (scalars-chars value (IsUtf8-from_is_utf8 value h))) (nil_name, tt)

text_good : (quotes : Quotes) (value : List ℕ) → is_utf8 value ≡ true → IsGood (tok.Text (text_tree quotes value))
text_good quotes.Codes value h = text_fits code_tree code_fits value h
text_good quotes.Chars value h = text_fits char_tree char_fits value h
text_good quotes.Atom value h = cond_both (leb (length value) 65535) (Some (atom value)) None (λ o. IsGood (tok.Text o)) (λ b. ((leb-true (length value) 65535 b, h), tt)) (λ _. tt)

each_alone : (f : ℕ → Tree) → ((c : ℕ) (ps : List ℕ) → vars (spelling (f c)) ps ≡ ps) → (cs ps : List ℕ) → vars (spellings (trees (map f cs))) ps ≡ ps
each_alone f alone [] ps = refl
each_alone f alone (c ∷ cs) ps = vars_more (f c) (trees (map f cs)) ps ∙ alone c (vars (spellings (trees (map f cs))) ps) ∙ each_alone f alone cs ps

text_alone : (quotes : Quotes) (value ps : List ℕ) → sign_vars (tok.Text (text_tree quotes value)) ps ≡ ps
text_alone quotes.Codes value ps = vars_list (trees (map code_tree (chars value))) (atom nil) ps ∙ each_alone code_tree (λ c l. refl) (chars value) ps
text_alone quotes.Chars value ps = vars_list (trees (map char_tree (chars value))) (atom nil) ps ∙ each_alone char_tree (λ c l. refl) (chars value) ps
text_alone quotes.Atom value ps = cond_both (leb (length value) 65535) (Some (atom value)) None (λ o. sign_vars (tok.Text o) ps ≡ ps) (λ _. refl) (λ _. refl)

-- ---- limits

open_good : (joined : Bool) → IsGood (mark kinds.Open joined)
open_good true = tt
open_good false = tt

sign_good : (quotes : Quotes) (kind : Kind) (text : List ℕ) (t : Token) (seen : List (List ℕ)) (joined : Bool) → IsNamedAs kind text t → IsGood (sign quotes kind (bytes_of text t) (value_as kind text t) seen joined)
sign_good quotes kinds.Name text t seen joined h = (h.few, h.is_text)
sign_good quotes kinds.QuotedName text t seen joined h = (h.few, h.item.is_text)
sign_good quotes kinds.Variable text t seen joined h = tt
sign_good quotes (kinds.Integer n) text t seen joined h = tt
sign_good quotes kinds.DoubleQuoted text t seen joined h = text_good quotes (value_within Double text t.start) h.is_text
sign_good quotes kinds.Open text t seen joined h = open_good joined
sign_good quotes kinds.Close text t seen joined h = tt
sign_good quotes kinds.OpenSquare text t seen joined h = tt
sign_good quotes kinds.CloseSquare text t seen joined h = tt
sign_good quotes kinds.OpenCurly text t seen joined h = tt
sign_good quotes kinds.CloseCurly text t seen joined h = tt
sign_good quotes kinds.Comma text t seen joined h = tt
sign_good quotes kinds.Bar text t seen joined h = tt
sign_good quotes kinds.End text t seen joined h = tt

pub signs_good : (quotes : Quotes) (text : List ℕ) (seen : List (List ℕ)) (last : Option ℕ) (ts : List Token) → AreNamed text ts → AreGood (signs_behind quotes text seen last ts)
signs_good quotes text seen last [] h = tt
signs_good quotes text seen last (t ∷ ts) h =
    (sign_good quotes t.kind text t seen (is_joined last t.start) h.0, signs_good quotes text (seen_after t.kind seen (bytes_of text t)) (Some t.end) ts h.1)

-- ---- variables

number_within : (seen : List (List ℕ)) (name : List ℕ) → number_of seen name ≤ length seen
number_within seen name = cond_both (bytes_eq name anonymous) (length seen) (position_or_len (bytes_eq name) seen) (λ n. n ≤ length seen) (λ _. omega arith) (λ _. prefix_len-le-length (λ x. not (bytes_eq name x)) seen)

length-seen_with : (seen : List (List ℕ)) (name : List ℕ) → length (seen_with seen name) ≡ max (length seen) (number_of seen name + 1)
length-seen_with seen name =
    let few = number_within seen name in
    cond_both (number_of seen name == length seen) (seen ++ name ∷ []) seen (λ l. length l ≡ max (length seen) (number_of seen name + 1))
    (λ b. let e = eqb-true (number_of seen name) (length seen) b in omega (arith, length-append seen (name ∷ [])))
    (λ b. let e = eqb-false (number_of seen name) (length seen) b in omega arith)

open_alone : (joined : Bool) (ps : List ℕ) → sign_vars (mark kinds.Open joined) ps ≡ ps
open_alone true ps = refl
open_alone false ps = refl

module _ (top : ℕ) (quotes : Quotes) where
  sign_order : (kind : Kind) (bytes value : List ℕ) (seen : List (List ℕ)) (joined : Bool) (ps : List ℕ) → length seen < top → InOrder top (length (seen_after kind seen bytes)) ps → InOrder top (length seen) (sign_vars (sign quotes kind bytes value seen joined) ps)
  sign_order kinds.Name bytes value seen joined ps h o = o
  sign_order kinds.QuotedName bytes value seen joined ps h o = o
  sign_order kinds.Variable bytes value seen joined ps h o =
      let few = number_within seen bytes in
      (few, omega arith, subst (λ n. InOrder top n ps) (length-seen_with seen bytes) o)
  sign_order (kinds.Integer n) bytes value seen joined ps h o = o
  sign_order kinds.DoubleQuoted bytes value seen joined ps h o = subst (InOrder top (length seen)) (sym (text_alone quotes value ps)) o
  sign_order kinds.Open bytes value seen joined ps h o = subst (InOrder top (length seen)) (sym (open_alone joined ps)) o
  sign_order kinds.Close bytes value seen joined ps h o = o
  sign_order kinds.OpenSquare bytes value seen joined ps h o = o
  sign_order kinds.CloseSquare bytes value seen joined ps h o = o
  sign_order kinds.OpenCurly bytes value seen joined ps h o = o
  sign_order kinds.CloseCurly bytes value seen joined ps h o = o
  sign_order kinds.Comma bytes value seen joined ps h o = o
  sign_order kinds.Bar bytes value seen joined ps h o = o
  sign_order kinds.End bytes value seen joined ps h o = o

  seen_few : (kind : Kind) (seen : List (List ℕ)) (bytes : List ℕ) → length (seen_after kind seen bytes) ≤ length seen + 1
  seen_few kinds.Variable seen bytes = let few = number_within seen bytes in let size = length-seen_with seen bytes in omega arith
  seen_few kind seen bytes = omega arith

  pub signs_order : (text : List ℕ) (seen : List (List ℕ)) (last : Option ℕ) (ts : List Token) → length seen + length ts ≤ top → InOrder top (length seen) (all_vars (signs_behind quotes text seen last ts))
  signs_order text seen last [] h = tt
  signs_order text seen last (t ∷ ts) h =
      let more = seen_few t.kind seen (bytes_of text t) in
      sign_order t.kind (bytes_of text t) (value_of text t) seen (is_joined last t.start) (all_vars (signs_behind quotes text (seen_after t.kind seen (bytes_of text t)) (Some t.end) ts)) (omega arith)
      (signs_order text (seen_after t.kind seen (bytes_of text t)) (Some t.end) ts (omega arith))
