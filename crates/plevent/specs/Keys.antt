-- What a first argument is, and which clauses may be for a goal with such a one.
use Rattle.std.specs.Prelude.{ℕ, ℤ, Bool, true, false, ◌&&◌, List, length, nat_eq, bytes_eq}
use Rattle.std.specs.Ordering.{int_eq}
use Rattle.plterm.specs.Tree.{Tree, var, int, atom, compound, Trees, none, more, list_of}
use Rattle.plevent.specs.declared.key.Key.{Key}
use Rattle.plevent.specs.declared.key.Key.TheVariants.{Any, Int, Atom, Functor}

-- the key of a term; a variable may be anything
abbrev pub key_of : Tree → Key
key_of (var v) = Any
key_of (int i) = Int i
key_of (atom s) = Atom s
key_of (compound s ts) = Functor s (length (list_of ts))

abbrev pub key_of_first : Trees → Key
key_of_first none = Any
key_of_first (more t ts) = key_of t

-- the key of the first argument, of a goal or a head; that of anything, if there is none
abbrev pub first_key : Tree → Key
first_key (var v) = Any
first_key (int i) = Any
first_key (atom s) = Any
first_key (compound s ts) = key_of_first ts

-- whether a goal of a key may unify with what is a number, an atom or a compound
abbrev pub fits_int : Key → ℤ → Bool
fits_int Any j = true
fits_int (Int i) j = int_eq i j
fits_int (Atom s) j = false
fits_int (Functor s n) j = false

abbrev pub fits_atom : Key → List ℕ → Bool
fits_atom Any r = true
fits_atom (Int i) r = false
fits_atom (Atom s) r = bytes_eq s r
fits_atom (Functor s n) r = false

abbrev pub fits_functor : Key → List ℕ → ℕ → Bool
fits_functor Any r m = true
fits_functor (Int i) r m = false
fits_functor (Atom s) r m = false
fits_functor (Functor s n) r m = bytes_eq s r && nat_eq n m

-- whether a clause of a key may be for a goal of a key: one of them is that of anything, or they are one
abbrev pub may_fit : Key → Key → Bool
may_fit k Any = true
may_fit k (Int j) = fits_int k j
may_fit k (Atom r) = fits_atom k r
may_fit k (Functor r m) = fits_functor k r m
