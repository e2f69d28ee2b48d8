-- A step makes the work left smaller, and keeps one tree for each operand that an open level holds.
use Rattle.std.proofs.Common.{◌≡◌, ◌<◌, ◌+◌, ◌*◌, nat_lt, nat_le, ◌&&◌, Bool, true, false, cond, arith, ℕ, zero, suc, pos, List, [], ◌∷◌, length, length-drop, Option, Some, None}
use Rattle.std.specs.Str.{bytes_eq}
use Rattle.plterm.specs.Tree.{Tree, int}
use Rattle.plops.specs.declared.operator.Infix.{Infix}
use Rattle.plops.specs.declared.operator.Prefix.{Prefix}
use Rattle.plops.specs.declared.operator.Postfix.{Postfix}
use Rattle.plops.specs.declared.table.OpTable.{OpTable}
use Rattle.plops.specs.Tables.{prefix_of, infix_of, postfix_of}
use Rattle.plops.specs.Sane.{comma}
use Rattle.plread.specs.Signs.{Sign}
use Rattle.plread.specs.Signs as tok
use Rattle.plread.specs.Levels.{Level}
use Rattle.plread.specs.Levels as frames
use Rattle.plread.specs.Reading.{Start, Stands, Opens, OpensList, OpensCurly, Calls, Before, NoStart, Next, Between, Behind, Stop, called, joined, signed, begins, uncalled, name_start, word_start, integer_start, negative, text_start, square_start, curly_start, fits, between, behind, start_of, next_of}
use Rattle.plread.specs.Texts.{minus}
use Rattle.plread.specs.Machine.{max_of, After, Goes, Done, Fails, wants, goes_on, stops, closes, curls, lists, tails, argues, ends, step_at, held, one_if}

abbrev pub StartBelow : ℕ → Start → Type 0
StartBelow n (Stands x ts) = length ts < n
StartBelow n (Opens ts) = length ts < n
StartBelow n (OpensList ts) = length ts < n
StartBelow n (OpensCurly ts) = length ts < n
StartBelow n (Calls m ts) = length ts < n
StartBelow n (Before m op ts) = length ts < n
StartBelow n NoStart = Unit {0}

abbrev pub NextBelow : ℕ → Next → Type 0
NextBelow n (Between m op ts) = length ts < n
NextBelow n (Behind m op ts) = length ts < n
NextBelow n Stop = Unit {0}

abbrev SomeBelow : ℕ → Option (List Sign) → Type 0
SomeBelow n None = Unit {0}
SomeBelow n (Some ts) = length ts < n

called_below : (ts : List Sign) → SomeBelow (length ts) (called ts)
called_below (tok.OpenCall ∷ ts) = omega arith
called_below ts = tt

abbrev PairBelow : ℕ → Option (ℕ × List Sign) → Type 0
PairBelow n None = Unit {0}
PairBelow n (Some i) = length i.1 < n

joined_below : (ts : List Sign) → PairBelow (length ts) (joined ts)
joined_below (tok.Integer n true ∷ ts) = omega arith
joined_below ts = tt

cond_pair : (b : Bool) (n : ℕ) (o : Option (ℕ × List Sign)) → PairBelow n o → PairBelow n (cond b o None)
cond_pair true n o h = h
cond_pair false n o h = tt

signed_below : (n : List ℕ) (bare : Bool) (ts : List Sign) → PairBelow (length ts) (signed n bare ts)
signed_below n bare ts = cond_pair (bare && bytes_eq n minus) (length ts) (joined ts) (joined_below ts)

square_below : (ts : List Sign) → StartBelow (suc (length ts)) (square_start ts)
square_below (tok.CloseSquare ∷ ts) = omega arith
square_below ts = omega arith

curly_below : (ts : List Sign) → StartBelow (suc (length ts)) (curly_start ts)
curly_below (tok.CloseCurly ∷ ts) = omega arith
curly_below ts = omega arith

cond_start : (b : Bool) (n : ℕ) (x y : Start) → StartBelow n x → StartBelow n y → StartBelow n (cond b x y)
cond_start true n x y h k = h
cond_start false n x y h k = k

cond_next : (b : Bool) (n : ℕ) (x y : Next) → NextBelow n x → NextBelow n y → NextBelow n (cond b x y)
cond_next true n x y h k = h
cond_next false n x y h k = k

shorter : (ts : List Sign) → length ts < suc (length ts)
shorter ts = omega arith

uncalled_below : (ops : OpTable) (max : ℕ) (n : List ℕ) (ts : List Sign) (o : Option Prefix) → StartBelow (suc (length ts)) (uncalled ops max n ts o)
uncalled_below ops max n ts None = shorter ts
uncalled_below ops max n ts (Some op) =
    cond_start (begins ops ts) _ _ _ (cond_start (nat_le op.priority max) _ (Before n op ts) NoStart (shorter ts) tt) (shorter ts)

name_below : (ops : OpTable) (max : ℕ) (n : List ℕ) (ts : List Sign) (o : Option (List Sign)) → SomeBelow (length ts) o → StartBelow (suc (length ts)) (name_start ops max n ts o)
name_below ops max n ts None h = uncalled_below ops max n ts (prefix_of ops n)
name_below ops max n ts (Some inside) h = omega arith

integer_below : (n : ℕ) (ts : List Sign) → StartBelow (suc (length ts)) (integer_start n ts)
integer_below n ts = cond_start (nat_lt n 9223372036854775808) _ (Stands (int (pos n)) ts) NoStart (shorter ts) tt

word_below : (ops : OpTable) (max : ℕ) (n : List ℕ) (ts : List Sign) (o : Option (ℕ × List Sign)) → PairBelow (length ts) o → StartBelow (suc (length ts)) (word_start ops max n ts o)
word_below ops max n ts None h = name_below ops max n ts (called ts) (called_below ts)
word_below ops max n ts (Some i) h = cond_start (nat_le i.0 9223372036854775808) _ (Stands (int (negative i.0)) i.1) NoStart (omega arith) tt

text_below : (t : Option Tree) (ts : List Sign) → StartBelow (suc (length ts)) (text_start t ts)
text_below None ts = tt
text_below (Some t) ts = shorter ts

start_below : (ops : OpTable) (max : ℕ) (ts : List Sign) → StartBelow (length ts) (start_of ops max ts)
unfolding start_of
start_below ops max [] = tt
start_below ops max (tok.Name n bare ∷ ts) = word_below ops max n ts (signed n bare ts) (signed_below n bare ts)
start_below ops max (tok.Variable n ∷ ts) = shorter ts
start_below ops max (tok.Integer n directly ∷ ts) = integer_below n ts
start_below ops max (tok.Text t ∷ ts) = text_below t ts
start_below ops max (tok.Open ∷ ts) = shorter ts
start_below ops max (tok.OpenCall ∷ ts) = shorter ts
start_below ops max (tok.OpenSquare ∷ ts) = square_below ts
start_below ops max (tok.OpenCurly ∷ ts) = curly_below ts
start_below ops max ts = tt

behind_below : (o : Option Postfix) (max p : ℕ) (n : List ℕ) (ts : List Sign) → NextBelow (suc (length ts)) (behind o max p n ts)
behind_below None max p n ts = tt
behind_below (Some op) max p n ts = cond_next (fits op.priority op.left max p) _ (Behind n op ts) Stop (shorter ts) tt

between_below : (o : Option Infix) (q : Option Postfix) (max p : ℕ) (n : List ℕ) (ts : List Sign) → NextBelow (suc (length ts)) (between o q max p n ts)
between_below None q max p n ts = behind_below q max p n ts
between_below (Some op) q max p n ts = cond_next (fits op.priority op.left max p) _ (Between n op ts) _ (shorter ts) (behind_below q max p n ts)

next_below : (ops : OpTable) (max p : ℕ) (ts : List Sign) → NextBelow (length ts) (next_of ops max p ts)
unfolding next_of
next_below ops max p (tok.Name n bare ∷ ts) = between_below (infix_of ops n) (postfix_of ops n) max p n ts
next_below ops max p (tok.Comma ∷ ts) = between_below (infix_of ops comma) (postfix_of ops comma) max p comma ts
next_below ops max p ts = tt

-- what a step gives is smaller than this, and has one tree for each operand that is held
abbrev pub Bounded : ℕ → After → Type 0
Bounded n (Goes s) = (2 * length s.left + length s.stack < n) × (length s.trees ≡ held s.stack + one_if s.given)
Bounded n (Done trees) = length trees ≡ 1
Bounded n Fails = Unit {0}

cond_bounded : (b : Bool) (n : ℕ) (after : After) → Bounded n after → Bounded n (cond b after Fails)
cond_bounded true n after h = h
cond_bounded false n after h = tt

wants_bounded : (room : ℕ) (stack : List Level) (trees : List Tree) (size : ℕ) (start : Start) → StartBelow size start → length trees ≡ held stack + 0 → Bounded (2 * size + length stack) (wants room stack trees start)
wants_bounded room stack trees size (Stands x ts) h e = (omega arith, omega arith)
wants_bounded zero stack trees size (Opens ts) h e = tt
wants_bounded (suc room) stack trees size (Opens ts) h e = (omega arith, e)
wants_bounded zero stack trees size (OpensList ts) h e = tt
wants_bounded (suc room) stack trees size (OpensList ts) h e = (omega arith, omega arith)
wants_bounded zero stack trees size (OpensCurly ts) h e = tt
wants_bounded (suc room) stack trees size (OpensCurly ts) h e = (omega arith, e)
wants_bounded zero stack trees size (Calls n ts) h e = tt
wants_bounded (suc room) stack trees size (Calls n ts) h e = (omega arith, omega arith)
wants_bounded zero stack trees size (Before n op ts) h e = tt
wants_bounded (suc room) stack trees size (Before n op ts) h e = (omega arith, e)
wants_bounded room stack trees size NoStart h e = tt

closes_bounded : (room : ℕ) (stack : List Level) (trees : List Tree) (ts : List Sign) → length trees ≡ held stack + 1 → Bounded (2 * length ts + suc (length stack)) (closes room stack trees ts)
closes_bounded room stack trees (tok.Close ∷ ts) e = (omega arith, e)
closes_bounded room stack trees ts e = tt

curls_bounded : (room : ℕ) (stack : List Level) (trees : List Tree) (ts : List Sign) → length trees ≡ held stack + 1 → Bounded (2 * length ts + suc (length stack)) (curls room stack trees ts)
curls_bounded room stack trees (tok.CloseCurly ∷ ts) e = (omega arith, omega (arith, length-drop 1 trees))
curls_bounded room stack trees ts e = tt

lists_bounded : (k room : ℕ) (stack : List Level) (trees : List Tree) (ts : List Sign) → length trees ≡ (k + held stack) + 1 → Bounded (2 * length ts + suc (length stack)) (lists k room stack trees ts)
lists_bounded k room stack trees (tok.CloseSquare ∷ ts) e = (omega arith, omega (arith, length-drop (suc k) trees))
lists_bounded k room stack trees (tok.Comma ∷ ts) e = (omega arith, omega arith)
lists_bounded k room stack trees (tok.Bar ∷ ts) e = (omega arith, omega arith)
lists_bounded k room stack trees ts e = tt

tails_bounded : (k room : ℕ) (stack : List Level) (trees : List Tree) (ts : List Sign) → length trees ≡ (k + held stack) + 1 → Bounded (2 * length ts + suc (length stack)) (tails k room stack trees ts)
tails_bounded k room stack (t ∷ trees) (tok.CloseSquare ∷ ts) e = (omega arith, omega (arith, length-drop k trees))
tails_bounded k room stack [] (tok.CloseSquare ∷ ts) e = absurd (omega arith)
tails_bounded k room stack trees ts e = tt

argues_bounded : (n : List ℕ) (k room : ℕ) (stack : List Level) (trees : List Tree) (ts : List Sign) → length trees ≡ (k + held stack) + 1 → Bounded (2 * length ts + suc (length stack)) (argues n k room stack trees ts)
argues_bounded n k room stack trees (tok.Close ∷ ts) e = cond_bounded (nat_lt k 1024) _ _ (omega arith, omega (arith, length-drop (suc k) trees))
argues_bounded n k room stack trees (tok.Comma ∷ ts) e = cond_bounded (nat_lt k 1023) _ _ (omega arith, omega arith)
argues_bounded n k room stack trees ts e = tt

ends_bounded : (n : ℕ) (trees : List Tree) (ts : List Sign) → length trees ≡ 1 → Bounded n (ends trees ts)
ends_bounded n trees (tok.End ∷ []) e = e
ends_bounded n trees ts e = tt

stops_bounded : (room : ℕ) (stack : List Level) (trees : List Tree) (ts : List Sign) → length trees ≡ held stack + 1 → Bounded (2 * length ts + length stack) (stops room stack trees ts)
stops_bounded room [] trees ts e = ends_bounded _ trees ts (omega arith)
stops_bounded room (frames.Bracket ∷ stack) trees ts e = closes_bounded room stack trees ts e
stops_bounded room (frames.Curly ∷ stack) trees ts e = curls_bounded room stack trees ts e
stops_bounded room (frames.Elements k ∷ stack) trees ts e = lists_bounded k room stack trees ts e
stops_bounded room (frames.Tail k ∷ stack) trees ts e = tails_bounded k room stack trees ts e
stops_bounded room (frames.Call n k ∷ stack) trees ts e = argues_bounded n k room stack trees ts e
stops_bounded room (frames.Before n op ∷ stack) trees ts e = (omega arith, omega (arith, length-drop 1 trees))
stops_bounded room (frames.Between n op ∷ stack) trees ts e = (omega arith, omega (arith, length-drop 2 trees))

goes_bounded : (room : ℕ) (stack : List Level) (trees : List Tree) (ts : List Sign) (next : Next) → NextBelow (length ts) next → length trees ≡ held stack + 1 → Bounded (2 * length ts + length stack) (goes_on room stack trees ts next)
goes_bounded zero stack trees ts (Between n op inside) h e = tt
goes_bounded (suc room) stack trees ts (Between n op inside) h e = (omega arith, omega arith)
goes_bounded room stack trees ts (Behind n op mid) h e = (omega arith, omega (arith, length-drop 1 trees))
goes_bounded room stack trees ts Stop h e = stops_bounded room stack trees ts e

pub step_bounded : (ops : OpTable) (room : ℕ) (stack : List Level) (trees : List Tree) (given : Option ℕ) (ts : List Sign) → length trees ≡ held stack + one_if given → Bounded (2 * length ts + length stack) (step_at ops room stack trees given ts)
step_bounded ops room stack trees None ts e = wants_bounded room stack trees (length ts) (start_of ops (max_of stack) ts) (start_below ops (max_of stack) ts) e
step_bounded ops room stack trees (Some p) ts e = goes_bounded room stack trees ts (next_of ops (max_of stack) p ts) (next_below ops (max_of stack) p ts) e
