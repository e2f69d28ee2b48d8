-- What is read is within the limits of what can be written, and its variables are numbered by first occurrence.
use Rattle.std.proofs.Common.{◌≡◌, ◌<◌, ◌≤◌, ◌^◌, ℕ, List, [], ◌∷◌, length, Some, None, length-append, ap, subst, ◌∙◌, arith}
use Rattle.plterm.specs.Tree.{Tree}
use Rattle.plterm.specs.Reading.{spelling}
use Rattle.plterm.specs.Variables.{copied}
use Rattle.pllex.specs.declared.token.Token.{Token}
use Rattle.pllex.specs.Tokens.{IsClause}
use Rattle.pllex.proofs.Names.{all_named}
use Rattle.plread.specs.Spelling.{signs_of}
use Rattle.pllaws.specs.Again.{IsWithinLimits}
use Rattle.pllaws.proofs.Numbers.{InOrder}
use Rattle.plprogram.specs.declared.settings.Settings.{Settings}
use Rattle.plload.specs.Loading.{levels, Reads}
use Rattle.pllaws.proofs.Nodes.{vars}
use Rattle.pllaws.proofs.Spelled.{was_spelled}
use Rattle.pllaws.proofs.Order.{is_numbered}
use Rattle.pllaws.proofs.Signs.{signs_good, signs_order}
use Rattle.pllaws.proofs.Ends.{few_tokens}

pub record WasRead (t : Tree) : Type 0 where
  pub limits : IsWithinLimits t
  pub numbered : copied 0 t ≡ t

module _ (text : List ℕ) (from : ℕ) (s : Settings) (ts : List Token) (after : ℕ) (t : Tree) (size : length text < 2 ^ 64) (r : Reads text from s ts after (Some t)) where
  by_tokens : IsClause text from ts after → WasRead t
  by_tokens (front, end, place, run, e, is_end, all, last) =
      let few : length ts ≤ length text = let n = ap length all ∙ length-append front (end ∷ []) in omega (arith, few_tokens text from front end place run e) in
      let w = was_spelled s.operators levels (signs_of s.quotes text ts) t r.term (signs_good s.quotes text [] None ts (all_named text from ts front place end run e all)) in
      let order : InOrder (length ts) 0 (vars (spelling t) []) = subst (InOrder (length ts) 0) w.order (signs_order (length ts) s.quotes text [] None ts (omega arith)) in
      let n = is_numbered (length ts) t order in
      record { limits = record { fits = w.fits; few = omega (arith, n.few) }; numbered = n.copy }

  pub was_read : WasRead t
  was_read = by_tokens r.clause
