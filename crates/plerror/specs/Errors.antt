-- The error terms (ISO/IEC 13211-1 7.12.2).
use Rattle.std.specs.Prelude.{ℕ, List, codes, pos}
use Rattle.plterm.specs.Tree.{Tree, int, atom, compound, none, more}
use Rattle.plterm.specs.declared.indicator.Indicator.{Indicator}

abbrev pub alone : List ℕ → Tree → Tree
alone f a = compound f (more a none)

abbrev pub pair : List ℕ → Tree → Tree → Tree
pair f a b = compound f (more a (more b none))

-- an indicator as a term: its name, `/`, its arity
abbrev pub indicator_term : Indicator → Tree
indicator_term p = pair (codes "/") (atom p.name) (int (pos p.arity))

-- a variable stands where a term is needed
abbrev pub instantiation_error : Tree
instantiation_error = atom (codes "instantiation_error")

-- a term is of another type
abbrev pub type_error : List ℕ → Tree → Tree
type_error type culprit = pair (codes "type_error") (atom type) culprit

-- a term is of the type, and outside of the domain
abbrev pub domain_error : List ℕ → Tree → Tree
domain_error domain culprit = pair (codes "domain_error") (atom domain) culprit

-- what is asked for may not be done to this
abbrev pub permission_error : List ℕ → List ℕ → Tree → Tree
permission_error action type culprit = compound (codes "permission_error") (more (atom action) (more (atom type) (more culprit none)))

-- a limit of what can be represented was met
abbrev pub representation_error : List ℕ → Tree
representation_error limit = alone (codes "representation_error") (atom limit)

-- a text is none that can be read
abbrev pub syntax_error : List ℕ → Tree
syntax_error fault = alone (codes "syntax_error") (atom fault)

-- an expression has no value
abbrev pub evaluation_error : List ℕ → Tree
evaluation_error fault = alone (codes "evaluation_error") (atom fault)

abbrev pub callable_error : Tree → Tree
callable_error t = type_error (codes "callable") t

abbrev pub integer_error : Tree → Tree
integer_error t = type_error (codes "integer") t

-- a term that is to name procedures, and does not
abbrev pub naming_error : Tree → Tree
naming_error t = type_error (codes "predicate_indicator") t

-- a compound with more arguments than there may be
abbrev pub arity_error : Tree
arity_error = representation_error (codes "max_arity")

abbrev pub procedure_error : Indicator → Tree
procedure_error p = pair (codes "existence_error") (atom (codes "procedure")) (indicator_term p)

abbrev pub static_error : Indicator → Tree
static_error p = permission_error (codes "modify") (codes "static_procedure") (indicator_term p)

-- a procedure whose clauses are not told
abbrev pub private_error : Indicator → Tree
private_error p = permission_error (codes "access") (codes "private_procedure") (indicator_term p)

-- an error, and the indicator of the predicate that raised it
abbrev pub error_term : Tree → Indicator → Tree
error_term e p = pair (codes "error") e (indicator_term p)
