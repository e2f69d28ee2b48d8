-- Heaps on which nothing is.
use Rattle.std.specs.Prelude.{◌≡◌, []}
use Rattle.plcells.specs.Store.{Store}

-- names alone
abbrev pub IsBare : Store → Type 0
IsBare h = h ≡ record { cells = []; numbers = []; wide = []; trail = []; boundary = 0; names = h.names }
