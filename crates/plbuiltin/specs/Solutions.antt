-- The built-in predicates, by topic.
use Rattle.std.specs.Prelude.{ℕ, List}
use Rattle.plterm.specs.Tree.{Tree}
use Rattle.plnames.specs.declared.kind.BuiltIn.{BuiltIn}
use Rattle.plnames.specs.declared.kind.BuiltIn.TheVariants.{Terms, Tests, Parts, Order, Sorting, Atoms, Output, Flags, Arithmetic}
use Rattle.plprogram.specs.declared.settings.Settings.{Settings}
use Rattle.plbuiltin.specs.Solution.{Solved}
use Rattle.plbuiltin.specs.Terms.{on_terms}
use Rattle.plbuiltin.specs.Tests.{on_tests}
use Rattle.plbuiltin.specs.Parts.{on_parts}
use Rattle.plbuiltin.specs.Arithmetic.{on_arithmetic}
use Rattle.plbuiltin.specs.Order.{on_order}
use Rattle.plbuiltin.specs.Sorting.{on_sorting}
use Rattle.plbuiltin.specs.Atoms.{on_atoms}
use Rattle.plbuiltin.specs.Output.{on_output}
use Rattle.plbuiltin.specs.Flags.{on_flags}

-- what a built-in predicate gives for its arguments, under a thread's settings, where so many variables are in use
abbrev pub solutions : BuiltIn → List Tree → Settings → ℕ → Solved
solutions (Terms b) us settings n = on_terms b us settings
solutions (Tests b) us settings n = on_tests b us settings
solutions (Parts b) us settings n = on_parts b us settings n
solutions (Arithmetic b) us settings n = on_arithmetic b us settings
solutions (Order b) us settings n = on_order b us settings
solutions (Sorting b) us settings n = on_sorting b us settings
solutions (Atoms b) us settings n = on_atoms b us settings
solutions (Output b) us settings n = on_output b us settings
solutions (Flags b) us settings n = on_flags b us settings
