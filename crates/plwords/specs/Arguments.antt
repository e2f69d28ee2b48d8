-- The one command of `clap` that reads the words: `--steps S` and `--goal TEXT`, each once, and two positional words.
use Rattle.std.specs.Prelude.{◌≡◌, List, [], Option, Some, None, codes, true}
use Rattle.clap.specs.Words.{App, Row, Rule, Text, fault_of, first_of, new_app, new_rule, with_rule}
use Rattle.clap.specs.Simple.{on_top}
use Rattle.plwords.specs.declared.form.Form.{Form}
use Rattle.plwords.specs.Forms.{form_of}

abbrev pub steps_rule : Rule
steps_rule = record (new_rule (codes "steps")) { long = Some (codes "steps") }

abbrev pub goal_rule : Rule
goal_rule = record (new_rule (codes "goal")) { long = Some (codes "goal") }

-- help and version off
unfoldable pub bare_app : App
bare_app = on_top (λ s. record s { disable_help_flag = true; disable_version_flag = true }) (new_app (codes "prolog"))

unfoldable pub prolog_app : App
prolog_app = with_rule (with_rule (with_rule (with_rule bare_app steps_rule) goal_rule) (new_rule (codes "form"))) (new_rule (codes "program"))

-- the command takes the words
unfoldable pub IsTaken : List Text → Type 0
IsTaken words = fault_of prolog_app words ≡ []

abbrev pub with_path : Option (Form Text) → Option Text → Option (Form Text × Text)
with_path None path = None
with_path (Some form) None = None
with_path (Some form) (Some path) = Some (form, path)

-- the form and the path of the program that the arguments give, if they are of one of the forms
abbrev pub command_in : List Row → Option (Form Text × Text)
command_in rows = with_path (form_of (first_of (codes "form") rows) (first_of (codes "steps") rows) (first_of (codes "goal") rows)) (first_of (codes "program") rows)
