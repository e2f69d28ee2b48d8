use Rattle.std.proofs.Common.{◌≡◌, ℕ, List, string_bytes}
use Rattle.std.specs.Str.{encode_utf8_all}
use Rattle.plcells.specs.Store.{IsValue, value}
use Rattle.plcells.specs.Walking.{weight}
use Rattle.plbuiltin.specs.Lists.{elements_of}
use Rattle.planswers.proofs.Spelled.{IsRead}
use Rattle.planswers.proofs.text.text_in.Given as goal

abbrev pub invariant-loop-first : goal.invariant-loop-first
invariant-loop-first l = record {
  fits : IsValue l.heap l.rest;
  read : List ℕ;
  text : string_bytes l.text ≡ encode_utf8_all read;
  so_far : IsRead l.fn.k (elements_of (value l.heap l.fn.v)) (elements_of (value l.heap l.rest)) read;
}

abbrev pub decreases-loop-first : goal.decreases-loop-first
decreases-loop-first l = weight (value l.heap l.rest)
