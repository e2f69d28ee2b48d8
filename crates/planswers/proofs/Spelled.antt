-- The texts that lists spell, their elements taken from the left.
use Rattle.std.proofs.Common.{◌≡◌, ℕ, Bool, true, false, ◌||◌, List, [], ◌∷◌, ◌++◌, Ok, Err, refl, sym, ap, ap₂, ◌∙◌}
use Rattle.std.proofs.lemmas.List.{append_assoc, append-nil}
use Rattle.std.specs.Prelude.{codes, if◌then◌else◌}
use Rattle.std.specs.List.{list_any}
use Rattle.std.specs.Str.{encode_utf8_all}
use Rattle.std.specs.Char.{encode_utf8}
use Rattle.std.proofs.lemmas.Str.{encodes-append}
use Rattle.plterm.specs.Tree.{Tree, var, int, atom, compound}
use Rattle.plnames.specs.declared.kind.Spelling.{Spelling}
use Rattle.plbuiltin.specs.Lists.{Elements, Tail, Empty, Unbound, Other, ends, before, elements_of, checked, checked_by, is_variable, is_unbound, is_partial}
use Rattle.plerror.specs.Errors.{instantiation_error, type_error}
use Rattle.planswers.specs.declared.list.Tail.{Tail as Seen}
use Rattle.planswers.specs.declared.list.Tail.TheVariants as tails
use Rattle.planswers.specs.Lists.{tail_as}
use Rattle.plbuiltin.specs.Texts.{Found, behind, as_text, character_of, characters_of, text_of, text_in}

-- characters that were found before others
abbrev pub behind_all : List ℕ → Found (List ℕ) → Found (List ℕ)
behind_all cs (Ok ds) = Ok (cs ++ ds)
behind_all cs (Err e) = Err e

pub behind_none : (r : Found (List ℕ)) → r ≡ behind_all [] r
behind_none (Ok ds) = refl
behind_none (Err e) = refl

either_false : (b : Bool) → (b || false) ≡ b
either_false true = refl
either_false false = refl

one_behind : (cs : List ℕ) (c : ℕ) (r : Found (List ℕ)) → behind_all cs (behind (Ok c) r) ≡ behind_all (cs ++ c ∷ []) r
one_behind cs c (Ok ds) = ap Ok (sym (append_assoc cs (c ∷ []) ds))
one_behind cs c (Err e) = refl

-- how far a list has been read: its elements are these characters and what is left, and no variable is among those that were read
pub record IsRead (k : Spelling) (all es : Elements) (cs : List ℕ) : Type 0 where
  pub characters : characters_of k all.items ≡ behind_all cs (characters_of k es.items)
  pub tail : all.tail ≡ es.tail
  pub known : list_any is_variable all.items ≡ list_any is_variable es.items

pub none_read : (k : Spelling) (es : Elements) → IsRead k es es []
none_read k es = record { characters = behind_none (characters_of k es.items); tail = refl; known = refl }

no_variable : (k : Spelling) (t : Tree) (c : ℕ) → character_of k t ≡ Ok c → is_variable t ≡ false
no_variable k (var x) c e = cc
no_variable k (int i) c e = refl
no_variable k (atom s) c e = refl
no_variable k (compound f ts) c e = refl

module _ (k : Spelling) (all es : Elements) (cs : List ℕ) (so_far : IsRead k all es cs) where
  -- one more character
  pub one_read : (t : Tree) (ds : Elements) (c : ℕ) → es ≡ before t ds → character_of k t ≡ Ok c → IsRead k all ds (cs ++ c ∷ [])
  one_read t ds c e is = record {
    characters =
        so_far.characters ∙ ap (λ x. behind_all cs (characters_of k x.items)) e ∙ ap (λ r. behind_all cs (behind r (characters_of k ds.items))) is
        ∙ one_behind cs c (characters_of k ds.items);
    tail = so_far.tail ∙ ap (λ x. x.tail) e;
    known = so_far.known ∙ ap (λ x. list_any is_variable x.items) e ∙ ap (λ b. b || list_any is_variable ds.items) (no_variable k t c is);
  }

  -- the error of an element
  pub one_amiss : (t e : Tree) (ds : Elements) → es ≡ before t ds → character_of k t ≡ Err e → characters_of k all.items ≡ Err e
  one_amiss t e ds same is = so_far.characters ∙ ap (λ x. behind_all cs (characters_of k x.items)) same ∙ ap (λ r. behind_all cs (behind r (characters_of k ds.items))) is

  -- at the end no element was a variable
  ended : (tail : Tail) → es ≡ ends tail → is_partial all ≡ is_unbound tail
  ended tail e = ap₂ (λ x b. is_unbound x || b) (so_far.tail ∙ ap (λ x. x.tail) e) (so_far.known ∙ ap (λ x. list_any is_variable x.items) e) ∙ either_false (is_unbound tail)

  wholly : es ≡ ends Empty → characters_of k all.items ≡ Ok cs
  wholly e = so_far.characters ∙ ap (λ x. behind_all cs (characters_of k x.items)) e ∙ ap Ok (append-nil cs)

unbound_end : (es : Elements) → es.tail ≡ Unbound → is_partial es ≡ false → ⊥
unbound_end es at whole =
    let partial : is_partial es ≡ true = ap (λ tail. is_unbound tail || list_any is_variable es.items) at in
    cc

-- what a list spells, by what it is
module _ (k : Spelling) (l : Tree) where
  pub text_partial : is_partial (elements_of l) ≡ true → text_in k l ≡ Err instantiation_error
  text_partial partial = ap (λ b. if b then Err instantiation_error else text_of k (checked l)) partial

  text_whole : is_partial (elements_of l) ≡ false → text_in k l ≡ text_of k (checked l)
  text_whole whole = ap (λ b. if b then Err instantiation_error else text_of k (checked l)) whole

  pub text_other : is_partial (elements_of l) ≡ false → (elements_of l).tail ≡ Other → text_in k l ≡ Err (type_error (codes "list") l)
  text_other whole e = text_whole whole ∙ ap (λ tail. text_of k (checked_by (elements_of l).items tail l)) e

  pub text_list : is_partial (elements_of l) ≡ false → (elements_of l).tail ≡ Empty → text_in k l ≡ as_text (characters_of k (elements_of l).items)
  text_list whole e = text_whole whole ∙ ap (λ tail. text_of k (checked_by (elements_of l).items tail l)) e

  -- the error of an element
  pub text_amiss : (seen : Seen) (e : Tree) → is_partial (elements_of l) ≡ false → (elements_of l).tail ≡ tail_as seen → (seen ≡ tails.Other → ⊥) → characters_of k (elements_of l).items ≡ Err e → text_in k l ≡ Err e
  text_amiss tails.Empty e whole at never is = text_list whole at ∙ ap as_text is
  text_amiss tails.Unbound e whole at never is = absurd (unbound_end (elements_of l) at whole)
  text_amiss tails.Other e whole at never is = absurd (never refl)

  -- a list all of whose elements were read
  module _ (es : Elements) (cs : List ℕ) (so_far : IsRead k (elements_of l) es cs) where
    pub all_found : (text : List ℕ) → es ≡ ends Empty → text ≡ encode_utf8_all cs → text_in k l ≡ Ok text
    all_found text e same =
        text_list (ended k (elements_of l) es cs so_far Empty e) (so_far.tail ∙ ap (λ x. x.tail) e)
        ∙ ap as_text (wholly k (elements_of l) es cs so_far e) ∙ ap Ok (sym same)

    pub all_unbound : es ≡ ends Unbound → text_in k l ≡ Err instantiation_error
    all_unbound e = text_partial (ended k (elements_of l) es cs so_far Unbound e)

    pub all_other : es ≡ ends Other → text_in k l ≡ Err (type_error (codes "list") l)
    all_other e = text_other (ended k (elements_of l) es cs so_far Other e) (so_far.tail ∙ ap (λ x. x.tail) e)

pub one_pushed : (cs : List ℕ) (c : ℕ) (old new : List ℕ) → old ≡ encode_utf8_all cs → new ≡ old ++ encode_utf8 c → new ≡ encode_utf8_all (cs ++ c ∷ [])
one_pushed cs c old new so_far e = e ∙ ap (λ bs. bs ++ encode_utf8 c) so_far ∙ ap (λ bs. encode_utf8_all cs ++ bs) (sym (append-nil (encode_utf8 c))) ∙ sym (encodes-append cs (c ∷ []))
