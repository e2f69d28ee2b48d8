-- The rows and the kept names as the entries of a map.
use Rattle.std.proofs.Common.{◌≡◌, ◌<◌, ◌+◌, ℕ, Bool, true, false, cond, ◌==◌, ◌&&◌, ◌||◌, List, [], ◌∷◌, ◌++◌, Option, Some, None, is_some, fold, map, take, length, get_or, refl, sym, ap, ◌∙◌, Bor}
use Rattle.std.proofs.lemmas.List.{map_more}
use Rattle.std.proofs.lemmas.List.Sums.{fold-append}
use Rattle.std.specs.Map.{lookup}
use Rattle.std.specs.Str.{bytes_eq}
use Rattle.indexmap.specs.IndexMap.{insert_entry}
use Rattle.plterm.specs.declared.indicator.Indicator.{Indicator}
use Rattle.plnames.specs.declared.kind.Kind.{Kind}
use Rattle.plnames.specs.Names.{Row, kept, rows, kind_in, is_among}
use Rattle.plnames.specs.Entries.{Noted, entry_row, kept_row, name_row, noted_in, put, noted_row, whole_row}

abbrev pub Key : Type 0
Key = Bor (List ℕ) × ℕ

abbrev pub Entry : Type 0
Entry = Key × Option Kind

abbrev pub same_key : Key → Key → Bool
same_key x y = bytes_eq x.0.now y.0.now && (x.1 == y.1)

put_at : (b : Bool) (e : Entry) (v : Option Kind) (es fs : List Entry) (gs : List Noted) → map entry_row fs ≡ gs → map entry_row (cond b ((e.0, v) ∷ es) (e ∷ fs)) ≡ cond b (entry_row (e.0, v) ∷ map entry_row es) (entry_row e ∷ gs)
put_at true e v es fs gs h = refl
put_at false e v es fs gs h = ap (λ rs. entry_row e ∷ rs) h

-- an entry is put into the map as what it notes
put_entry : (es : List Entry) (k : Key) (v : Option Kind) → map entry_row (insert_entry same_key es k v) ≡ put (map entry_row es) (entry_row (k, v))
put_entry [] k v = refl
put_entry (e ∷ es) k v = put_at (same_key k e.0) e v es (insert_entry same_key es k v) (put (map entry_row es) (entry_row (k, v))) (put_entry es k v)

-- one more of some items
module _ {X : Type 0} (of : X → Noted) where
  pub put_more : (items : List X) (i : ℕ) (d : X) (was es fs : List Entry) (k : Key) (v : Option Kind) → i < length items → of (get_or items i d) ≡ entry_row (k, v)
      → map entry_row es ≡ fold put (map entry_row was) (map of (take i items)) → fs ≡ insert_entry same_key es k v
      → map entry_row fs ≡ fold put (map entry_row was) (map of (take (i + 1) items))
  put_more items i d was es fs k v below is h f =
      ap (map entry_row) f
      ∙ put_entry es k v
      ∙ ap (λ rs. put rs (entry_row (k, v))) h
      ∙ ap (put (fold put (map entry_row was) (map of (take i items)))) (sym is)
      ∙ sym (ap (fold put (map entry_row was)) (map_more of items i d below) ∙ fold-append put (map entry_row was) (map of (take i items)) (of (get_or items i d) ∷ []))

found_at : (b : Bool) (v : Option Kind) (o p : Option (Option Kind)) → o ≡ p → cond b (Some v) o ≡ cond b (Some v) p
found_at b v o p h = ap (cond b (Some v)) h

-- a look-up in the map finds what was noted first
pub kind_found : (es : List Entry) (name : Bor (List ℕ)) (arity : ℕ) → lookup (same_key (name, arity)) es ≡ noted_in (map entry_row es) name.now arity
kind_found [] name arity = refl
kind_found (e ∷ es) name arity = found_at (same_key (name, arity) e.0) e.1 (lookup (same_key (name, arity)) es) (noted_in (map entry_row es) name.now arity) (kind_found es name arity)

-- ---- what is found, by the rows and the kept names

abbrev pub flat : Option (Option Kind) → Option Kind
flat None = None
flat (Some o) = o

flat_kept : (b : Bool) (o : Option (Option Kind)) → flat o ≡ None → flat (cond b (Some None) o) ≡ None
flat_kept true o h = refl
flat_kept false o h = h

flat_row : (b : Bool) (k : Kind) (o : Option (Option Kind)) (p : Option Kind) → flat o ≡ p → flat (cond b (Some (Some k)) o) ≡ cond b (Some k) p
flat_row true k o p h = refl
flat_row false k o p h = h

none_kept : (ps : List Indicator) (name : List ℕ) (arity : ℕ) → flat (noted_in (map kept_row ps) name arity) ≡ None
none_kept [] name arity = refl
none_kept (p ∷ ps) name arity = flat_kept (bytes_eq name p.name && (arity == p.arity)) (noted_in (map kept_row ps) name arity) (none_kept ps name arity)

-- the kind, if it has a row
pub kind_noted : (rs : List Row) (ps : List Indicator) (name : List ℕ) (arity : ℕ) → flat (noted_in (map whole_row rs ++ map kept_row ps) name arity) ≡ kind_in rs name arity
kind_noted [] ps name arity = none_kept ps name arity
kind_noted (r ∷ rs) ps name arity = flat_row (bytes_eq name r.name && (arity == r.arity)) r.kind (noted_in (map whole_row rs ++ map kept_row ps) name arity) (kind_in rs name arity) (kind_noted rs ps name arity)

some_kept : (b : Bool) (o : Option (Option Kind)) (c : Bool) → is_some o ≡ c → is_some (cond b (Some None) o) ≡ (b || c)
some_kept true o c h = refl
some_kept false o c h = h

some_row : (b : Bool) (k : Kind) (o : Option (Option Kind)) (p : Option Kind) (c : Bool) → is_some o ≡ (is_some p || c) → is_some (cond b (Some (Some k)) o) ≡ (is_some (cond b (Some k) p) || c)
some_row true k o p c h = refl
some_row false k o p c h = h

among_kept : (ps : List Indicator) (p : Indicator) → is_some (noted_in (map kept_row ps) p.name p.arity) ≡ is_among ps p
among_kept [] p = refl
among_kept (q ∷ ps) p = some_kept (bytes_eq p.name q.name && (p.arity == q.arity)) (noted_in (map kept_row ps) p.name p.arity) (is_among ps p) (among_kept ps p)

-- whether it has a row or is kept
pub fixed_noted : (rs : List Row) (ps : List Indicator) (p : Indicator) → is_some (noted_in (map whole_row rs ++ map kept_row ps) p.name p.arity) ≡ (is_some (kind_in rs p.name p.arity) || is_among ps p)
fixed_noted [] ps p = among_kept ps p
fixed_noted (r ∷ rs) ps p = some_row (bytes_eq p.name r.name && (p.arity == r.arity)) r.kind (noted_in (map whole_row rs ++ map kept_row ps) p.name p.arity) (kind_in rs p.name p.arity) (is_among ps p) (fixed_noted rs ps p)

-- each row and each kept name has a name and an arity of its own
pub all_put : fold put (fold put [] (map whole_row rows)) (map kept_row kept) ≡ map whole_row rows ++ map kept_row kept
unfolding rows kept
all_put = refl
