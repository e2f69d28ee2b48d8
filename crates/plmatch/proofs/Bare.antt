-- Heaps on which nothing is.
use Rattle.std.proofs.Common.{◌≡◌, ℕ, ◌<◌, [], length, sym, ap, subst, ◌∙◌, arith}
use Rattle.platoms.specs.Names.{Table}
use Rattle.plcells.specs.Store.{Store, IsFresh, bounded_by, renamed}
use Rattle.plmatch.specs.Rooms.{IsBare}

-- names alone
abbrev bare : Table → Store
bare t = record { cells = []; numbers = []; wide = []; trail = []; boundary = 0; names = t }

pub bare-new : (h : Store) (t : Table) → h ≡ bare t → IsBare h
bare-new h t e = e ∙ ap bare (sym (ap (λ s. s.names) e))

-- they stay bare with other names
pub bare-renamed : (h back : Store) (t : Table) → IsBare h → back ≡ renamed h t → IsBare back
bare-renamed h back t is e = subst IsBare (sym e) (ap (λ s. renamed s t) is)

-- no number is in use
pub bare-fresh : (h marked : Store) (b : ℕ) → IsBare h → marked ≡ bounded_by h b → (n : ℕ) → IsFresh marked n
bare-fresh h marked b is same n i p lt free e =
    let none = ap (λ s. length s.cells) same ∙ ap (λ s. length s.cells) is in
    omega (arith, lt, none)
