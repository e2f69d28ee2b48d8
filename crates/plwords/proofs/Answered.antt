-- What reading the words answers.
use Rattle.std.proofs.Common.{◌≡◌, ◌∙◌, sym, subst, List, Option, Some, None, Result, Ok, Err, IfOk, IfErr, ap}
use Rattle.clap.specs.Words.{Text, matches_of}
use Rattle.plwords.specs.declared.form.Form.{Form}
use Rattle.plwords.specs.declared.form.WordsError.{WordsError}
use Rattle.plwords.specs.declared.form.WordsError.TheVariants.{Usage}
use Rattle.plwords.specs.declared.words.Command.{Command}
use Rattle.plwords.specs.Forms.{texts}
use Rattle.plwords.specs.Arguments.{prolog_app, IsTaken, command_in}
use Rattle.plwords.specs.Commands.{shown, IsRead, IsLine}

is_read : (words : List Text) (form : Form Text) (path : Text) → IsTaken words → command_in (matches_of prolog_app words) ≡ Some (form, path) → IsRead words form path
unfolding IsRead
is_read words form path taken command = (taken, command)

read_is : (words : List Text) (form : Form Text) (path : Text) → IsRead words form path → IsTaken words × (command_in (matches_of prolog_app words) ≡ Some (form, path))
unfolding IsRead
read_is words form path h = h

pub reads : (words same : List Text) → words ≡ same → (r : Result Command WordsError) → IfOk r (λ c. IsTaken words) →
    IfOk r (λ c. command_in (matches_of prolog_app words) ≡ Some (shown c)) → IfOk r (λ c. IsRead same (texts c.form) c.path.now)
reads words same e (Ok c) taken command = subst (λ ws. IsRead ws (texts c.form) c.path.now) e (is_read words (texts c.form) c.path.now taken command)
reads words same e (Err x) taken command = tt

none_is_some : {A : Type 0} (o : Option A) (x : A) → o ≡ None → o ≡ Some x → ⊥
none_is_some o x e f = cc

pub refuses : (words same : List Text) → words ≡ same → (r : Result Command WordsError) →
    IfErr r (λ e. e ≡ Usage → IsTaken words → command_in (matches_of prolog_app words) ≡ None) → IfErr r (λ e. e ≡ Usage → IsLine same → ⊥)
refuses words same e (Ok c) h = tt
refuses words same e (Err x) h = λ usage line.
    let read = read_is words line.0 line.1 (subst (λ ws. IsRead ws line.0 line.1) (sym e) line.2) in
    none_is_some (command_in (matches_of prolog_app words)) (line.0, line.1) (h usage read.0) read.1

abbrev form_or : Form Text → Option (Form Text × Text) → Form Text
form_or form None = form
form_or form (Some command) = command.0

-- words are read as one form
pub read_once : (words : List Text) (a b : Form Text) (p q : Text) → IsRead words a p → IsRead words b q → a ≡ b
read_once words a b p q h k = ap (form_or a) (sym (read_is words a p h).1 ∙ (read_is words b q k).1)
