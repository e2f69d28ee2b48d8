-- The name of each variable stands at its number.
use Rattle.std.proofs.Common.{◌≡◌, ◌≤◌, ◌<◌, ℕ, Bool, true, false, cond, eqb, List, [], ◌∷◌, ◌++◌, length, get_or, not, Option, Some, None, refl, sym, ap, ◌∙◌, arith, append_assoc, append-nil, length-append}
use Rattle.std.specs.List.{position_or_len}
use Rattle.std.specs.Str.{bytes_eq}
use Rattle.std.proofs.Math.Arith.{lt_of_le-ne}
use Rattle.std.proofs.Math.Seq.{get_or-append_seam}
use Rattle.std.proofs.lemmas.Bool.{eqb-true, eq-eqb}
use Rattle.std.proofs.lemmas.List.{get_or_append_left}
use Rattle.std.proofs.lemmas.List.Sums.{prefix_len-le-length, passes_at_first}
use Rattle.pllex.specs.declared.token.Kind.{Kind}
use Rattle.pllex.specs.declared.token.Kind.TheVariants as kinds
use Rattle.pllex.specs.declared.token.Token as lex
use Rattle.pllex.specs.Named.{bytes_of, value_of}
use Rattle.plops.specs.declared.flag.Quotes.{Quotes}
use Rattle.plread.specs.Spelling.{anonymous, number_of, seen_with, seen_after, seen_behind, sign, is_joined, signs_behind, variable_names, signs_of}
use Rattle.plread.specs.Named.{NameStands, NamesStand}
use Rattle.plops.proofs.Names.{named_itself}

-- one more name is put behind those seen, or none is
either_way : (b : Bool) (seen : List (List ℕ)) (name : List ℕ) → (more : List (List ℕ)) × (cond b (seen ++ name ∷ []) seen ≡ seen ++ more)
either_way true seen name = (name ∷ [], refl)
either_way false seen name = ([], sym (append-nil seen))

seen_once : (kind : Kind) (seen : List (List ℕ)) (name : List ℕ) → (more : List (List ℕ)) × (seen_after kind seen name ≡ seen ++ more)
seen_once kinds.Variable seen name = either_way (eqb (number_of seen name) (length seen)) seen name
seen_once kind seen name = ([], sym (append-nil seen))

-- the names are those that were seen and more
seen_first : (text : List ℕ) (seen : List (List ℕ)) (ts : List lex.Token) → (more : List (List ℕ)) × (seen_behind text seen ts ≡ seen ++ more)
seen_first text seen [] = ([], sym (append-nil seen))
seen_first text seen (t ∷ ts) =
    let one = seen_once t.kind seen (bytes_of text t) in
    let r = seen_first text (seen_after t.kind seen (bytes_of text t)) ts in
    (one.0 ++ r.0, r.1 ∙ ap (λ l. l ++ r.0) one.1 ∙ append_assoc seen one.0 r.0)

true_false : true ≡ false → ⊥
true_false e = cc

-- a number that is not the next one is that of a name seen
old_name : (b : Bool) (seen : List (List ℕ)) (name : List ℕ) → (cond b (length seen) (position_or_len (bytes_eq name) seen) ≡ length seen → ⊥) →
    (cond b (length seen) (position_or_len (bytes_eq name) seen) < length seen) × (get_or seen (cond b (length seen) (position_or_len (bytes_eq name) seen)) [] ≡ name)
old_name true seen name other = absurd (other refl)
old_name false seen name other =
    let within : position_or_len (bytes_eq name) seen ≤ length seen = prefix_len-le-length (λ x. not (bytes_eq name x)) seen in
    let old : position_or_len (bytes_eq name) seen < length seen = lt_of_le-ne within other in
    (old, sym (named_itself name (get_or seen (position_or_len (bytes_eq name) seen) []) (passes_at_first (bytes_eq name) seen [] old)))

-- the name seen last stands at its number
at_number : (b : Bool) (seen : List (List ℕ)) (name : List ℕ) → eqb (number_of seen name) (length seen) ≡ b → (number_of seen name < length (cond b (seen ++ name ∷ []) seen)) × (get_or (cond b (seen ++ name ∷ []) seen) (number_of seen name) [] ≡ name)
at_number true seen name e =
    let is : number_of seen name ≡ length seen = eqb-true (number_of seen name) (length seen) e in
    (omega (arith, is, length-append seen (name ∷ [])), ap (λ n. get_or (seen ++ name ∷ []) n []) is ∙ get_or-append_seam seen name [] [])
at_number false seen name e = old_name (bytes_eq name anonymous) seen name (λ k. absurd (true_false (sym (eq-eqb (number_of seen name) (length seen) k) ∙ e)))

-- and whatever is seen behind it
stays : (seen names more : List (List ℕ)) (n : ℕ) (name : List ℕ) → names ≡ seen ++ more → (n < length seen) × (get_or seen n [] ≡ name) → (n < length names) × (get_or names n [] ≡ name)
stays seen names more n name e h = (omega (arith, h.0, ap length e, length-append seen more), ap (λ l. get_or l n []) e ∙ get_or_append_left seen more [] n h.0 ∙ h.1)

module _ (quotes : Quotes) (names : List (List ℕ)) (bytes value : List ℕ) (seen : List (List ℕ)) where
  abbrev Stands : Kind → Bool → Type 0
  Stands kind joined = NameStands names bytes (sign quotes kind bytes value seen joined)

  sign_stands : (kind : Kind) (joined : Bool) → (kind ≡ kinds.Variable → (number_of seen bytes < length names) × (get_or names (number_of seen bytes) [] ≡ bytes)) → Stands kind joined
  sign_stands kinds.Variable joined f = f refl
  sign_stands kinds.Open true f = tt
  sign_stands kinds.Open false f = tt
  sign_stands kind joined f = tt

names_behind : (quotes : Quotes) (text : List ℕ) (seen : List (List ℕ)) (last : Option ℕ) (ts : List lex.Token) → NamesStand text (seen_behind text seen ts) ts (signs_behind quotes text seen last ts)
names_behind quotes text seen last [] = tt
names_behind quotes text seen last (t ∷ ts) =
    let name : List ℕ = bytes_of text t in
    let next : List (List ℕ) = seen_after t.kind seen name in
    let r = seen_first text next ts in
    let here : t.kind ≡ kinds.Variable → (number_of seen name < length (seen_behind text next ts)) × (get_or (seen_behind text next ts) (number_of seen name) [] ≡ name) =
    λ e. stays (seen_with seen name) (seen_behind text next ts) r.0 (number_of seen name) name (r.1 ∙ ap (λ k. seen_after k seen name ++ r.0) e) (at_number (eqb (number_of seen name) (length seen)) seen name refl) in
    (sign_stands quotes (seen_behind text next ts) name (value_of text t) seen t.kind (is_joined last t.start) here, names_behind quotes text next (Some t.end) ts)

pub names_stand : (quotes : Quotes) (text : List ℕ) (ts : List lex.Token) → NamesStand text (variable_names text ts) ts (signs_of quotes text ts)
names_stand quotes text ts = names_behind quotes text [] None ts
