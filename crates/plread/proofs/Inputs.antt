-- The signs of tokens, one after another.
use Rattle.std.proofs.Common.{◌≡◌, ℕ, zero, suc, ◌<◌, ◌+◌, List, [], ◌∷◌, ◌++◌, length, get_or, drop, Bool, Option, Some, refl, sym, ap, subst, inl, inr, ◌⊎◌, ◌∙◌, arith, add-one, append_assoc, append-nil, drop-cons, drop_of_length-le, ◌≤◌}
use Rattle.std.proofs.lemmas.List.{map-append}
use Rattle.pllex.specs.declared.token.Token as lex
use Rattle.pllex.specs.declared.token.Kind.{Kind}
use Rattle.pllex.specs.declared.token.Kind.TheVariants as kinds
use Rattle.pllex.specs.Named.{bytes_of, value_of, IsNamedAs, AreNamed}
use Rattle.plread.specs.declared.token.Token.{Token}
use Rattle.plread.specs.Signs.{Sign}
use Rattle.plops.specs.declared.flag.Quotes.{Quotes}
use Rattle.plread.specs.Words.{Lexicon, wider, StartsWith}
use Rattle.plread.specs.Spelling.{mark, sign, seen_after, is_joined, signs_behind, seen_behind}
use Rattle.plread.specs.Looks.{sign_view, view}

pub named_at : (text : List ℕ) (ts : List lex.Token) (i : ℕ) (d : lex.Token) → AreNamed text ts → i < length ts → IsNamedAs (get_or ts i d).kind text (get_or ts i d)
named_at text [] i d h k = absurd (omega arith)
named_at text (t ∷ ts) zero d h k = h.0
named_at text (t ∷ ts) (suc i) d h k = named_at text ts i d h.1 (omega arith)

-- one more sign, in place of the first of those behind
one_more : (signs : List Sign) (x y : Sign) (rest : List Sign) → x ≡ y → (signs ++ x ∷ []) ++ rest ≡ signs ++ y ∷ rest
one_more signs x y rest e = append_assoc signs (x ∷ []) rest ∙ ap (λ z. signs ++ z ∷ rest) e

no_words : Lexicon
no_words = record { names = []; texts = [] }

wider_twice : (words a b : Lexicon) → wider (wider words a) b ≡ wider words (wider a b)
wider_twice words a b = rw (append_assoc words.names a.names b.names, append_assoc words.texts a.texts b.texts)

wider_by_none : (words : Lexicon) → wider words no_words ≡ words
unfolding no_words
wider_by_none words = rw (append-nil words.names, append-nil words.texts)

module _ (quotes : Quotes) (text : List ℕ) (words new : Lexicon) (seen next : List (List ℕ)) (last : Option ℕ) (made after : List Token) (t : Token) (token : lex.Token) (front rest : List lex.Token) (joined : Bool) (all : List Sign) where
  abbrev told : Bool → Sign
  told j = sign quotes token.kind (bytes_of text token) (value_of text token) seen j

  pub added :
      front ≡ token ∷ rest →
      ((more : Lexicon) → view (wider words more) made ++ signs_behind quotes text seen last front ≡ all) →
      StartsWith words new →
      ((more : Lexicon) → sign_view (wider new more) t ≡ told joined) →
      joined ≡ is_joined last token.start →
      next ≡ seen_after token.kind seen (bytes_of text token) →
      after ≡ made ++ t ∷ [] →
      (more : Lexicon) → view (wider new more) after ++ signs_behind quotes text next (Some token.end) rest ≡ all
  added is_front so_far (behind, starts) is_sign is_last is_next is_after more =
      let wide : wider new more ≡ wider words (wider behind more) = ap (λ w. wider w more) starts ∙ wider_twice words behind more in
      let same : sign_view (wider new more) t ≡ told (is_joined last token.start) = is_sign more ∙ ap told is_last in
      ap (λ l. view (wider new more) l ++ signs_behind quotes text next (Some token.end) rest) is_after
      ∙ ap (λ l. l ++ signs_behind quotes text next (Some token.end) rest) (map-append (sign_view (wider new more)) made (t ∷ []))
      ∙ ap (λ s. (view (wider new more) made ++ sign_view (wider new more) t ∷ []) ++ signs_behind quotes text s (Some token.end) rest) is_next
      ∙ one_more (view (wider new more) made) _ _ _ same
      ∙ ap (λ w. view w made ++ signs_behind quotes text seen last (token ∷ rest)) wide
      ∙ ap (λ f. view (wider words (wider behind more)) made ++ signs_behind quotes text seen last f) (sym is_front)
      ∙ so_far (wider behind more)

-- the names seen with one more
pub one_seen : (text : List ℕ) (seen next : List (List ℕ)) (token : lex.Token) (front rest : List lex.Token) (all : List (List ℕ)) → front ≡ token ∷ rest → seen_behind text seen front ≡ all → next ≡ seen_after token.kind seen (bytes_of text token) → seen_behind text next rest ≡ all
one_seen text seen next token front rest all is_front so_far is_next = ap (λ s. seen_behind text s rest) is_next ∙ ap (seen_behind text seen) (sym is_front) ∙ so_far

-- and behind the last token
pub all_seen : (text : List ℕ) (seen all : List (List ℕ)) (ts : List lex.Token) (i : ℕ) → length ts ≤ i → seen_behind text seen (drop i ts) ≡ all → seen ≡ all
all_seen text seen all ts i h so_far = ap (seen_behind text seen) (sym (drop_of_length-le ts h)) ∙ so_far

pub front_at : (ts : List lex.Token) (i : ℕ) (d : lex.Token) → i < length ts → drop i ts ≡ get_or ts i d ∷ drop (i + 1) ts
front_at ts i d h = rw add-one (drop-cons ts i d h)

-- behind the last token
pub all_made : (quotes : Quotes) (text : List ℕ) (words : Lexicon) (seen : List (List ℕ)) (last : Option ℕ) (made : List Token) (ts : List lex.Token) (i : ℕ) (all : List Sign) → length ts ≤ i → ((more : Lexicon) → view (wider words more) made ++ signs_behind quotes text seen last (drop i ts) ≡ all) → view words made ≡ all
all_made quotes text words seen last made ts i all h so_far =
    sym (append-nil (view words made))
    ∙ ap (λ w. view w made ++ []) (sym (wider_by_none words))
    ∙ ap (λ l. view (wider words no_words) made ++ signs_behind quotes text seen last l) (sym (drop_of_length-le ts h))
    ∙ so_far no_words

-- the words with one more name, and with one more text
pub with_name : (words new : Lexicon) (name : List ℕ) → new ≡ record words { names = words.names ++ name ∷ [] } → StartsWith words new
with_name words new name e = (record { names = name ∷ []; texts = [] }, e ∙ rw (append-nil words.texts))

pub with_text : (words new : Lexicon) (text : List ℕ) → new ≡ record words { texts = words.texts ++ text ∷ [] } → StartsWith words new
with_text words new text e = (record { names = []; texts = text ∷ [] }, e ∙ rw (append-nil words.names))

pub the_same : (words new : Lexicon) → new ≡ words → StartsWith words new
the_same words new e = (no_words, e ∙ sym (wider_by_none words))

-- punctuation and the end
abbrev pub IsMark : Kind → Type 0
IsMark kind =
    (kind ≡ kinds.Open) ⊎ ((kind ≡ kinds.Close) ⊎ ((kind ≡ kinds.OpenSquare) ⊎ ((kind ≡ kinds.CloseSquare) ⊎ ((kind ≡ kinds.OpenCurly)
    ⊎ ((kind ≡ kinds.CloseCurly) ⊎ ((kind ≡ kinds.Comma) ⊎ ((kind ≡ kinds.Bar) ⊎ (kind ≡ kinds.End))))))))

module _ (quotes : Quotes) (bytes value : List ℕ) (seen : List (List ℕ)) (joined : Bool) where
  -- what a mark says depends on nothing else, and it is no variable
  abbrev SaysMark : Kind → Type 0
  SaysMark kind = (sign quotes kind bytes value seen joined ≡ mark kind joined) × (seen_after kind seen bytes ≡ seen)

  says : (kind other : Kind) → kind ≡ other → SaysMark other → SaysMark kind
  says kind other e h = subst SaysMark (sym e) h

  pub says_mark : (kind : Kind) → IsMark kind → SaysMark kind
  says_mark kind (inl e) = says kind kinds.Open e (refl, refl)
  says_mark kind (inr (inl e)) = says kind kinds.Close e (refl, refl)
  says_mark kind (inr (inr (inl e))) = says kind kinds.OpenSquare e (refl, refl)
  says_mark kind (inr (inr (inr (inl e)))) = says kind kinds.CloseSquare e (refl, refl)
  says_mark kind (inr (inr (inr (inr (inl e))))) = says kind kinds.OpenCurly e (refl, refl)
  says_mark kind (inr (inr (inr (inr (inr (inl e)))))) = says kind kinds.CloseCurly e (refl, refl)
  says_mark kind (inr (inr (inr (inr (inr (inr (inl e))))))) = says kind kinds.Comma e (refl, refl)
  says_mark kind (inr (inr (inr (inr (inr (inr (inr (inl e)))))))) = says kind kinds.Bar e (refl, refl)
  says_mark kind (inr (inr (inr (inr (inr (inr (inr (inr e)))))))) = says kind kinds.End e (refl, refl)
