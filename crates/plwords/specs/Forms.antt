-- The forms of a command line.
use Rattle.std.specs.Prelude.{ℕ, List, Option, Some, None, codes, option_map, if◌then◌else◌}
use Rattle.std.specs.Borrow.{Bor}
use Rattle.std.specs.Str.{bytes_eq}
use Rattle.std.specs.Str.Parse.{digits_value, without_leading_plus}
use Rattle.clap.specs.ValueTests.{is_unsigned_in}
use Rattle.plwords.specs.declared.form.Form.{Form}
use Rattle.plwords.specs.declared.form.Form.TheVariants.{Run, Check, List as ListForm}

-- a number from 1 to 1,099,511,627,776, as `clap` reads the integers of a range
abbrev pub number_of : List ℕ → Option ℕ
number_of text = if is_unsigned_in 1 1099511627776 text then Some (digits_value 10 (without_leading_plus text)) else None

-- the most steps that a thread takes
abbrev pub steps_of : Option (List ℕ) → Option ℕ
steps_of None = Some 1073741824
steps_of (Some text) = number_of text

abbrev pub run_if : Option ℕ → Option (List ℕ) → Option (Form (List ℕ))
run_if None goal = None
run_if (Some steps) goal = Some (Run steps goal)

-- a form that takes no options
abbrev pub bare : Form (List ℕ) → Option (List ℕ) → Option (List ℕ) → Option (Form (List ℕ))
bare form None None = Some form
bare form None (Some goal) = None
bare form (Some steps) goal = None

-- the form of this name with these options, if it takes them; a goal is a text
abbrev pub form_of : Option (List ℕ) → Option (List ℕ) → Option (List ℕ) → Option (Form (List ℕ))
form_of None steps goal = None
form_of (Some name) steps goal =
    if bytes_eq name (codes "run") then run_if (steps_of steps) goal
    else (if bytes_eq name (codes "check") then bare Check steps goal
    else (if bytes_eq name (codes "list") then bare ListForm steps goal else None))

-- a form with the text of its goal, behind a reference
abbrev pub texts : Form (Bor (List ℕ)) → Form (List ℕ)
texts (Run steps goal) = Run steps (option_map (λ s. s.now) goal)
texts Check = Check
texts ListForm = ListForm
