-- Goal lists in one growing vector of links.
use Rattle.std.proofs.Common.{◌≡◌, ℕ, zero, suc, ◌+◌, ◌<◌, ◌≤◌, List, [], ◌∷◌, ◌++◌, length, length-append, take, drop, refl, sym, ap, ◌∙◌, subst, arith, get_or, ◌⊎◌, inl, inr, append-nil, append_assoc, length-take-le, drop-cons}
use Rattle.std.specs.List.{fold}
use Rattle.std.proofs.lemmas.List.{get_or_append_left, get_or_push, get_or-take, take-append-drop}
use Rattle.std.proofs.Math.Nat.{eq-or-lt_of_le, le-max_left, le-max_right}
use Rattle.pllinks.specs.declared.item.Portion.{Portion}
use Rattle.pllinks.specs.declared.link.Link.{Link}
use Rattle.pllinks.specs.Links.{added, lists_of, list_at, link_at, slots_in, slots_at, link_to, IsLink, IsChain}

slots_for : Link → ℕ
slots_for l = l.slots

fold-append : (start : List (List Portion)) (links : List Link) (l : Link) → fold added start (links ++ l ∷ []) ≡ added (fold added start links) l
fold-append start [] l = refl
fold-append start (x ∷ xs) l = fold-append (added start x) xs l

fold-length : (start : List (List Portion)) (links : List Link) → length (fold added start links) ≡ length start + length links
fold-length start [] = omega arith
fold-length start (l ∷ ls) = fold-length (added start l) ls ∙ omega (arith, length-append start ((l.item ∷ get_or start l.next []) ∷ []))

record Extends (start all : List (List Portion)) : Type 0 where
  more : List (List Portion)
  is : all ≡ start ++ more

extends : (start : List (List Portion)) (links : List Link) → Extends start (fold added start links)
extends start [] = record { more = []; is = sym (append-nil start) }
extends start (l ∷ ls) =
    let r = extends (added start l) ls in
    record { more = (l.item ∷ get_or start l.next []) ∷ r.more; is = r.is ∙ append_assoc start ((l.item ∷ get_or start l.next []) ∷ []) r.more }

fold-both : (start : List (List Portion)) (xs ys : List Link) → fold added start (xs ++ ys) ≡ fold added (fold added start xs) ys
fold-both start [] ys = refl
fold-both start (x ∷ xs) ys = fold-both (added start x) xs ys

-- more links leave a list as it is
pub list_at-more : (xs ys : List Link) (i : ℕ) → i ≤ length xs → list_at (xs ++ ys) i ≡ list_at xs i
unfolding list_at lists_of
list_at-more xs ys i le =
    let r = extends (fold added ([] ∷ []) xs) ys in
    ap (λ lists. get_or lists i []) (fold-both ([] ∷ []) xs ys ∙ r.is)
    ∙ get_or_append_left (fold added ([] ∷ []) xs) r.more [] i (omega (arith, fold-length ([] ∷ []) xs))

-- so do fewer
pub list_at-take : (links : List Link) (n i : ℕ) → i ≤ n → n ≤ length links → list_at (take n links) i ≡ list_at links i
list_at-take links n i le all =
    sym (ap (λ ls. list_at ls i) (sym (take-append-drop n links)) ∙ list_at-more (take n links) (drop n links) i (omega (arith, length-take-le n links all)))

pub list_at-new : (links : List Link) (l : Link) (i : ℕ) → i ≡ suc (length links) → list_at (links ++ l ∷ []) i ≡ l.item ∷ list_at links l.next
unfolding list_at lists_of
list_at-new links l i e =
    ap (λ lists. get_or lists i []) (fold-append ([] ∷ []) links l)
    ∙ get_or_push (fold added ([] ∷ []) links) (l.item ∷ get_or (fold added ([] ∷ []) links) l.next []) [] i (omega (arith, e, fold-length ([] ∷ []) links))

pub list_at-none : (links : List Link) → list_at links 0 ≡ []
unfolding list_at lists_of
list_at-none links = list_at-more [] links 0 (omega arith)

-- a list that is there is its first member, and the list behind it
pub list_at-first : (links : List Link) (i : ℕ) → IsChain links → i < length links → list_at links (suc i) ≡ (link_at links i).item ∷ list_at links (link_at links i).next
list_at-first links i chain lt =
    let l : Link = link_at links i in
    let split : links ≡ (take i links ++ l ∷ []) ++ drop (suc i) links = sym (append_assoc (take i links) (l ∷ []) (drop (suc i) links) ∙ ap (λ ls. take i links ++ ls) (sym (drop-cons links i (link_at [] 0) lt)) ∙ take-append-drop i links) in
    let few : length (take i links) ≡ i = length-take-le i links (omega arith) in
    ap (λ ls. list_at ls (suc i)) split
    ∙ list_at-more (take i links ++ l ∷ []) (drop (suc i) links) (suc i) (omega (arith, few, length-append (take i links) (l ∷ [])))
    ∙ list_at-new (take i links) l (suc i) (ap suc (sym few))
    ∙ ap (λ ls. l.item ∷ ls) (list_at-take links i l.next (chain i lt).next (omega arith))

-- the numbers of slots stay where there are more links, or fewer
pub slots_at-more : (xs ys : List Link) (i : ℕ) → i ≤ length xs → slots_at (xs ++ ys) i ≡ slots_at xs i
unfolding slots_for
slots_at-more xs ys zero le = refl
slots_at-more xs ys (suc i) le = ap slots_for (get_or_append_left xs ys (link_at [] 0) i le)

pub slots_at-take : (links : List Link) (n i : ℕ) → i ≤ n → slots_at (take n links) i ≡ slots_at links i
unfolding slots_for
slots_at-take links n zero le = refl
slots_at-take links n (suc i) le = ap slots_for (get_or-take n links i (link_at [] 0) le)

pub chain-none : IsChain []
chain-none i lt = absurd (omega arith)

pub chain-push : (links : List Link) (item : Portion) (rest : ℕ) → IsChain links → rest ≤ length links → IsChain (links ++ link_to links item rest ∷ [])
chain-push links item rest chain le i lt = go (eq-or-lt_of_le (omega (arith, lt, length-append links (l ∷ []))))
  where
    l : Link
    l = link_to links item rest

    go : (i ≡ length links) ⊎ (i < length links) → IsLink (links ++ l ∷ []) i (link_at (links ++ l ∷ []) i)
    go (inr h) =
        let was = chain i h in
        subst (IsLink (links ++ l ∷ []) i) (sym (get_or_append_left links (l ∷ []) (link_at [] 0) i h))
        (record {
          next = was.next;
          own = was.own;
          rest_slots = rw (slots_at-more links (l ∷ []) (link_at links i).next (omega (arith, was.next, h))) was.rest_slots;
        })
    go (inl e) =
        subst (IsLink (links ++ l ∷ []) i) (sym (get_or_push links l (link_at [] 0) i (sym e)))
        (record {
          next = omega (arith, e, le);
          own = le-max_left (slots_in item) (slots_at links rest);
          rest_slots = rw (slots_at-more links (l ∷ []) rest le) (le-max_right (slots_in item) (slots_at links rest));
        })

pub chain-take : (links : List Link) (n : ℕ) → IsChain links → n ≤ length links → IsChain (take n links)
chain-take links n chain le i lt =
    let small : i < n = omega (arith, lt, length-take-le n links le) in
    let was = chain i (omega arith) in
    subst (IsLink (take n links) i) (sym (get_or-take n links i (link_at [] 0) small))
    (record {
      next = was.next;
      own = was.own;
      rest_slots = rw (slots_at-take links n (link_at links i).next (omega (arith, was.next, small))) was.rest_slots;
    })
