-- What an answer over the values of a heap means.
use Rattle.std.specs.Prelude.{◌≡◌, ℕ, ◌+◌, ◌<◌, ◌≤◌, ◌^◌, true, List, [], ◌∷◌, map, length}
use Rattle.std.specs.List.{list_all}
use Rattle.plterm.specs.Tree.{Tree, int}
use Rattle.plterm.specs.Ground.{is_ground}
use Rattle.plsubst.specs.Unify.{unify}
use Rattle.plcells.specs.declared.cell.Cell.{Cell}
use Rattle.plcells.specs.Store.{Store, value, IsValue, AreValues}
use Rattle.plcells.specs.Equations.{IsEquation, left_of, right_of}
use Rattle.plprogram.specs.declared.settings.Settings.{Settings}
use Rattle.plbuiltin.specs.Solution.{Solved, Raises, Gives, fails, unifies, writes, sets, decides, against}
use Rattle.plbuiltin.specs.Terms.{is_none}
use Rattle.plgenerator.specs.Answers.{left, IsRemaining}
use Rattle.plgenerator.specs.declared.turn.Remaining.{Remaining}
use Rattle.planswers.specs.declared.answer.Answer.{Answer}
use Rattle.planswers.specs.declared.answer.Answer.TheVariants as answers

-- there are none, or at least two
abbrev pub IsMany : {A : Type 0} → List A → Type 0
IsMany (x ∷ []) = ⊥
IsMany xs = Unit {0}

-- a turn of some values, with several answers
pub record AreSeveral (h : Store) (vs : List Cell) (turn : Remaining) : Type 0 where
  pub values : AreValues h vs
  pub few : length vs < 2 ^ 32
  pub is_turn : IsRemaining h vs turn
  pub many : IsMany (left h vs turn)

-- some values, and several terms without variables
pub record AreAlternatives (h : Store) (vs : List Cell) (ts : List Tree) : Type 0 where
  pub values : AreValues h vs
  pub some : 0 < length vs
  pub few : length vs ≤ 1023
  pub ground : list_all is_ground ts ≡ true
  pub all : length vs + length ts < 2 ^ 32
  pub many : IsMany ts

-- the values of an answer are values of the heap
abbrev pub IsThere : Store → Answer → Type 0
IsThere h (answers.Raises e) = Unit {0}
IsThere h answers.Fails = Unit {0}
IsThere h answers.Succeeds = Unit {0}
IsThere h (answers.Unifies v w) = IsValue h v × IsValue h w
IsThere h (answers.Differs v w) = IsValue h v × IsValue h w
IsThere h (answers.Equals v i) = IsValue h v
IsThere h (answers.Solves e) = IsEquation h e
IsThere h (answers.Several vs turn) = AreSeveral h vs.items turn
IsThere h (answers.Groups vs ts) = AreAlternatives h vs.items ts.items
IsThere h (answers.Writes bytes) = Unit {0}
IsThere h (answers.Sets s) = Unit {0}

-- what an answer means, under these settings, where n variables are in use
abbrev pub meant : Store → Settings → ℕ → Answer → Solved
meant h settings n (answers.Raises e) = Raises e
meant h settings n answers.Fails = fails settings
meant h settings n answers.Succeeds = writes [] settings
meant h settings n (answers.Unifies v w) = unifies (value h v) (value h w) settings
meant h settings n (answers.Differs v w) = decides (is_none (unify (value h v) (value h w))) settings
meant h settings n (answers.Equals v i) = unifies (value h v) (int i) settings
meant h settings n (answers.Solves e) = Gives (record { left = left_of h n e; right = right_of h n e; new = e.new } ∷ []) [] settings
meant h settings n (answers.Several vs turn) = Gives (left h vs.items turn) [] settings
meant h settings n (answers.Groups vs ts) = Gives (map (against (map (value h) vs.items)) ts.items) [] settings
meant h settings n (answers.Writes bytes) = writes bytes.items settings
meant h settings n (answers.Sets s) = sets s
