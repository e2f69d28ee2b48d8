-- Terms that are to name procedures.
use Rattle.std.proofs.Common.{◌≡◌, Bool, false, List, map, Option, Some, None, option_map, sym, ap, ap₂, ◌∙◌, if◌then◌else◌}
use Rattle.std.specs.Prelude.{not, is_some}
use Rattle.std.specs.List.{filter_map, find, list_any}
use Rattle.plterm.specs.Tree.{Tree}
use Rattle.plterm.specs.declared.indicator.Indicator.{Indicator}
use Rattle.plclause.specs.Named.{indicator_of, is_open}
use Rattle.plevent.specs.Alive.{or_else}
use Rattle.plevent.specs.declared.update.Update.TheVariants.{Declare}
use Rattle.plprogram.specs.Program.{Program}
use Rattle.plerror.specs.Errors.{instantiation_error, naming_error, static_error}
use Rattle.plsearch.specs.Rows.{is_static, undeclarable}
use Rattle.plrefusals.specs.declared.naming.Declaration.{Declaration}
use Rattle.plrefusals.specs.declared.naming.Declaration.TheVariants.{Updates, Refused}
use Rattle.plrefusals.specs.Naming.{AreDeclared, IsDeclared}

module _ (P : Program) (ts : List Tree) (known : list_any is_open ts ≡ false) where
  abbrev refused : Option Tree → List Indicator → Option Tree
  refused o ps = or_else (option_map naming_error o) (option_map static_error (find (is_static P) ps))

  -- where each term is known
  from-names : undeclarable P ts ≡ refused (find (λ t. not (is_some (indicator_of t))) ts) (filter_map indicator_of ts)
  from-names = ap (λ (b : Bool). if b then Some instantiation_error else refused (find (λ t. not (is_some (indicator_of t))) ts) (filter_map indicator_of ts)) known

  pub lacks : (t : Tree) → find (λ t. not (is_some (indicator_of t))) ts ≡ Some t → undeclarable P ts ≡ Some (naming_error t)
  lacks t is = from-names ∙ ap (λ o. refused o (filter_map indicator_of ts)) is

  module _ (ps : List Indicator) (none : find (λ t. not (is_some (indicator_of t))) ts ≡ None) (all : ps ≡ filter_map indicator_of ts) where
    from-all : undeclarable P ts ≡ option_map static_error (find (is_static P) ps)
    from-all = from-names ∙ ap₂ refused none (sym all)

    pub declared : (d : Declaration) → AreDeclared P ps d → IsDeclared P ts d
    declared (Updates us) are = (from-all ∙ are.0, are.1 ∙ ap (map Declare) all)
    declared (Refused e) are = from-all ∙ are
