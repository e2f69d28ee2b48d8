-- What signs spell: a term, by one case for each form (ISO/IEC 13211-1 6.3).
use Rattle.std.specs.Prelude.{◌≤◌, ℕ, zero, suc, ℤ, pos, negsuc, List, [], ◌∷◌, Option, Some, None, Bool, true, false, ◌&&◌, ◌||◌, if◌then◌else◌, nat_le, nat_lt, is_some}
use Rattle.std.specs.Str.{bytes_eq}
use Rattle.plterm.specs.Tree.{Tree, Trees, var, int, atom, compound, none, more}
use Rattle.plops.specs.declared.operator.Prefix.{Prefix}
use Rattle.plops.specs.declared.operator.Infix.{Infix}
use Rattle.plops.specs.declared.operator.Postfix.{Postfix}
use Rattle.plops.specs.declared.table.OpTable.{OpTable}
use Rattle.plops.specs.Tables.{prefix_of, infix_of, postfix_of}
use Rattle.plops.specs.Sane.{comma}
use Rattle.plread.specs.Signs.{Sign}
use Rattle.plread.specs.Signs as tok
use Rattle.plread.specs.Texts.{nil, curly, minus, list_term}

-- how many arguments there are
abbrev pub count : Trees → ℕ
count none = 0
count (more t ts) = suc (count ts)

-- What stands in operand position, and what follows it.
pub data Start : Type 0 where
  Stands : Tree → List Sign → Start
  Opens : List Sign → Start
  OpensList : List Sign → Start
  OpensCurly : List Sign → Start
  Calls : List ℕ → List Sign → Start
  Before : List ℕ → Prefix → List Sign → Start
  NoStart : Start

-- What follows a complete operand that can be extended.
pub data Next : Type 0 where
  Between : List ℕ → Infix → List Sign → Next
  Behind : List ℕ → Postfix → List Sign → Next
  Stop : Next

-- what stands behind a bracket that is directly behind a name
abbrev pub called : List Sign → Option (List Sign)
called (tok.OpenCall ∷ ts) = Some ts
called ts = None

-- an integer that stands directly behind a token, and what stands behind it
abbrev pub joined : List Sign → Option (ℕ × List Sign)
joined (tok.Integer n true ∷ ts) = Some (n, ts)
joined ts = None

-- the integer of which a name is the sign, and what stands behind it: a `-` without quotes directly before it
abbrev pub signed : List ℕ → Bool → List Sign → Option (ℕ × List Sign)
signed n bare ts = if bare && bytes_eq n minus then joined ts else None

-- a name can begin a term, unless it is an infix or a postfix and no prefix operator, and neither called nor the
-- sign of an integer
abbrev pub name_begins : OpTable → List ℕ → Bool → List Sign → Bool
name_begins ops n bare ts =
    is_some (called ts) || is_some (signed n bare ts) || is_some (prefix_of ops n)
    || (if is_some (infix_of ops n) then false else (if is_some (postfix_of ops n) then false else true))

-- the signs can begin a term
abbrev pub begins : OpTable → List Sign → Bool
begins ops [] = false
begins ops (tok.Name n bare ∷ ts) = name_begins ops n bare ts
begins ops (tok.Variable n ∷ ts) = true
begins ops (tok.Integer n directly ∷ ts) = true
begins ops (tok.Text t ∷ ts) = true
begins ops (tok.Open ∷ ts) = true
begins ops (tok.OpenCall ∷ ts) = true
begins ops (tok.Close ∷ ts) = false
begins ops (tok.OpenSquare ∷ ts) = true
begins ops (tok.CloseSquare ∷ ts) = false
begins ops (tok.OpenCurly ∷ ts) = true
begins ops (tok.CloseCurly ∷ ts) = false
begins ops (tok.Comma ∷ ts) = false
begins ops (tok.Bar ∷ ts) = false
begins ops (tok.End ∷ ts) = false

-- a name before signs that can begin a term, where it is a prefix operator
abbrev pub before : ℕ → Prefix → List ℕ → List Sign → Start
before max op n ts = if nat_le op.priority max then Before n op ts else NoStart

abbrev pub uncalled : OpTable → ℕ → List ℕ → List Sign → Option Prefix → Start
uncalled ops max n ts None = Stands (atom n) ts
uncalled ops max n ts (Some op) = if begins ops ts then before max op n ts else Stands (atom n) ts

abbrev pub name_start : OpTable → ℕ → List ℕ → List Sign → Option (List Sign) → Start
name_start ops max n ts (Some inside) = Calls n inside
name_start ops max n ts None = uncalled ops max n ts (prefix_of ops n)

-- an integer without a sign is at most 2^63 - 1, and one with a sign at most 2^63
abbrev pub integer_start : ℕ → List Sign → Start
integer_start n ts = if nat_lt n 9223372036854775808 then Stands (int (pos n)) ts else NoStart

abbrev pub negative : ℕ → ℤ
negative zero = pos 0
negative (suc n) = negsuc n

abbrev pub negative_start : ℕ → List Sign → Start
negative_start n ts = if nat_le n 9223372036854775808 then Stands (int (negative n)) ts else NoStart

-- a name, which may be the sign of an integer
abbrev pub word_start : OpTable → ℕ → List ℕ → List Sign → Option (ℕ × List Sign) → Start
word_start ops max n ts (Some i) = negative_start i.0 i.1
word_start ops max n ts None = name_start ops max n ts (called ts)

abbrev pub text_start : Option Tree → List Sign → Start
text_start (Some t) ts = Stands t ts
text_start None ts = NoStart

-- behind an opening square bracket: `[]`, or elements
abbrev pub square_start : List Sign → Start
square_start (tok.CloseSquare ∷ ts) = Stands (atom nil) ts
square_start ts = OpensList ts

-- behind an opening brace: `{}`, or a term
abbrev pub curly_start : List Sign → Start
curly_start (tok.CloseCurly ∷ ts) = Stands (atom curly) ts
curly_start ts = OpensCurly ts

-- what stands in operand position where a priority of at most max fits
unfoldable pub start_of : OpTable → ℕ → List Sign → Start
start_of ops max [] = NoStart
start_of ops max (tok.Name n bare ∷ ts) = word_start ops max n ts (signed n bare ts)
start_of ops max (tok.Variable n ∷ ts) = Stands (var n) ts
start_of ops max (tok.Integer n directly ∷ ts) = integer_start n ts
start_of ops max (tok.Text t ∷ ts) = text_start t ts
start_of ops max (tok.Open ∷ ts) = Opens ts
start_of ops max (tok.OpenCall ∷ ts) = Opens ts
start_of ops max (tok.Close ∷ ts) = NoStart
start_of ops max (tok.OpenSquare ∷ ts) = square_start ts
start_of ops max (tok.CloseSquare ∷ ts) = NoStart
start_of ops max (tok.OpenCurly ∷ ts) = curly_start ts
start_of ops max (tok.CloseCurly ∷ ts) = NoStart
start_of ops max (tok.Comma ∷ ts) = NoStart
start_of ops max (tok.Bar ∷ ts) = NoStart
start_of ops max (tok.End ∷ ts) = NoStart

abbrev pub fits : ℕ → ℕ → ℕ → ℕ → Bool
fits priority left max given = nat_le priority max && nat_le given left

abbrev pub behind : Option Postfix → ℕ → ℕ → List ℕ → List Sign → Next
behind None max given n ts = Stop
behind (Some op) max given n ts = if fits op.priority op.left max given then Behind n op ts else Stop

abbrev pub between : Option Infix → Option Postfix → ℕ → ℕ → List ℕ → List Sign → Next
between None post max given n ts = behind post max given n ts
between (Some op) post max given n ts = if fits op.priority op.left max given then Between n op ts else behind post max given n ts

-- what follows an operand of priority given, where the whole may have at most max
unfoldable pub next_of : OpTable → ℕ → ℕ → List Sign → Next
next_of ops max given (tok.Name n bare ∷ ts) = between (infix_of ops n) (postfix_of ops n) max given n ts
next_of ops max given (tok.Comma ∷ ts) = between (infix_of ops comma) (postfix_of ops comma) max given comma ts
next_of ops max given ts = Stop

mutual
  -- Under these operators, with room for so many open levels, the signs spell a term of a priority of at
  -- most max, as far as it goes, before the rest.
  pub data Reads (ops : OpTable) : ℕ → ℕ → List Sign → Tree → ℕ → List Sign → Type 0 where
    reads : {room max : ℕ} {ts mid rest : List Sign} {t u : Tree} {p q : ℕ} →
        Begins ops room (start_of ops max ts) t p mid → Extends ops room max (next_of ops max p mid) t p mid u q rest →
        Reads ops room max ts u q rest

  -- one case for each form that begins a term
  pub data Begins (ops : OpTable) : ℕ → Start → Tree → ℕ → List Sign → Type 0 where
    leaf : {room : ℕ} {t : Tree} {ts : List Sign} → Begins ops room (Stands t ts) t 0 ts
    bracket : {room p : ℕ} {ts rest : List Sign} {t : Tree} →
        Reads ops room 1200 ts t p (tok.Close ∷ rest) → Begins ops (suc room) (Opens ts) t 0 rest
    list : {room : ℕ} {ts rest : List Sign} {items : Trees} {tail : Tree} →
        Elements ops room ts items tail rest → Begins ops (suc room) (OpensList ts) (list_term items tail) 0 rest
    braces : {room p : ℕ} {ts rest : List Sign} {t : Tree} →
        Reads ops room 1200 ts t p (tok.CloseCurly ∷ rest) → Begins ops (suc room) (OpensCurly ts) (compound curly (more t none)) 0 rest
    call : {room : ℕ} {name : List ℕ} {ts rest : List Sign} {args : Trees} →
        Arguments ops room ts args rest → count args ≤ 1024 → Begins ops (suc room) (Calls name ts) (compound name args) 0 rest
    before_op : {room p : ℕ} {name : List ℕ} {op : Prefix} {ts rest : List Sign} {t : Tree} →
        Reads ops room op.right ts t p rest → Begins ops (suc room) (Before name op ts) (compound name (more t none)) op.priority rest

  -- an operand is extended to the right exactly while the next operator fits
  pub data Extends (ops : OpTable) : ℕ → ℕ → Next → Tree → ℕ → List Sign → Tree → ℕ → List Sign → Type 0 where
    stop : {room max p : ℕ} {ts : List Sign} {t : Tree} → Extends ops room max Stop t p ts t p ts
    between_op : {room max p q w : ℕ} {name : List ℕ} {op : Infix} {ts inside mid rest : List Sign} {t u v : Tree} →
        Reads ops room op.right inside u q mid →
        Extends ops (suc room) max (next_of ops max op.priority mid) (compound name (more t (more u none))) op.priority mid v w rest →
        Extends ops (suc room) max (Between name op inside) t p ts v w rest
    behind_op : {room max p w : ℕ} {name : List ℕ} {op : Postfix} {ts mid rest : List Sign} {t v : Tree} →
        Extends ops room max (next_of ops max op.priority mid) (compound name (more t none)) op.priority mid v w rest →
        Extends ops room max (Behind name op mid) t p ts v w rest

  -- arguments with commas between them, and the closing bracket
  pub data Arguments (ops : OpTable) : ℕ → List Sign → Trees → List Sign → Type 0 where
    last : {room p : ℕ} {ts rest : List Sign} {t : Tree} →
        Reads ops room 999 ts t p (tok.Close ∷ rest) → Arguments ops room ts (more t none) rest
    another : {room p : ℕ} {ts mid rest : List Sign} {t : Tree} {args : Trees} →
        Reads ops room 999 ts t p (tok.Comma ∷ mid) → Arguments ops room mid args rest → Arguments ops room ts (more t args) rest

  -- elements with commas between them, a tail behind a bar, and the closing bracket
  pub data Elements (ops : OpTable) : ℕ → List Sign → Trees → Tree → List Sign → Type 0 where
    closed : {room p : ℕ} {ts rest : List Sign} {t : Tree} →
        Reads ops room 999 ts t p (tok.CloseSquare ∷ rest) → Elements ops room ts (more t none) (atom nil) rest
    tailed : {room p q : ℕ} {ts mid rest : List Sign} {t tail : Tree} →
        Reads ops room 999 ts t p (tok.Bar ∷ mid) → Reads ops room 999 mid tail q (tok.CloseSquare ∷ rest) →
        Elements ops room ts (more t none) tail rest
    element : {room p : ℕ} {ts mid rest : List Sign} {t tail : Tree} {items : Trees} →
        Reads ops room 999 ts t p (tok.Comma ∷ mid) → Elements ops room mid items tail rest → Elements ops room ts (more t items) tail rest

-- the signs are the spelling of a clause: a term and the end
abbrev pub Spells : OpTable → ℕ → List Sign → Tree → Type 0
Spells ops levels ts t = (p : ℕ) × Reads ops levels 1200 ts t p (tok.End ∷ [])
