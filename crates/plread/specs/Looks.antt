-- What the code found, without where the tokens lie in memory.
use Rattle.std.specs.Prelude.{List, map, Some, None}
use Rattle.std.specs.Str.{chars}
use Rattle.plterm.specs.Tree.{Tree, var, int, atom}
use Rattle.plread.specs.declared.token.Token.{Token}
use Rattle.plread.specs.declared.token.Token.TheVariants as tokens
use Rattle.plread.specs.declared.looks.Leaf.{Leaf}
use Rattle.plread.specs.declared.looks.Leaf.TheVariants as leaves
use Rattle.plread.specs.declared.looks.Opening.{Opening}
use Rattle.plread.specs.declared.looks.Opening.TheVariants as openings
use Rattle.plread.specs.declared.looks.Follower.{Follower}
use Rattle.plread.specs.declared.looks.Follower.TheVariants as followers
use Rattle.plread.specs.Words.{Lexicon, name_at, text_at}
use Rattle.plread.specs.Texts.{listed, code_tree, char_tree}
use Rattle.plread.specs.Signs.{Sign}
use Rattle.plread.specs.Signs as signs
use Rattle.plread.specs.Reading.{Start, Stands, Opens, OpensList, OpensCurly, Calls, Before, NoStart, Next, Between, Behind, Stop}

-- a token's sign, where these are the clause's words
abbrev pub sign_view : Lexicon → Token → Sign
sign_view words (tokens.Name n bare) = signs.Name (name_at words n) bare
sign_view words (tokens.Variable n) = signs.Variable n
sign_view words (tokens.Integer n joined) = signs.Integer n joined
sign_view words (tokens.Codes n) = signs.Text (Some (listed (map code_tree (chars (text_at words n)))))
sign_view words (tokens.Chars n) = signs.Text (Some (listed (map char_tree (chars (text_at words n)))))
sign_view words (tokens.Atom n) = signs.Text (Some (atom (name_at words n)))
sign_view words tokens.TooLong = signs.Text None
sign_view words tokens.Open = signs.Open
sign_view words tokens.OpenCall = signs.OpenCall
sign_view words tokens.Close = signs.Close
sign_view words tokens.OpenSquare = signs.OpenSquare
sign_view words tokens.CloseSquare = signs.CloseSquare
sign_view words tokens.OpenCurly = signs.OpenCurly
sign_view words tokens.CloseCurly = signs.CloseCurly
sign_view words tokens.Comma = signs.Comma
sign_view words tokens.Bar = signs.Bar
sign_view words tokens.End = signs.End

abbrev pub view : Lexicon → List Token → List Sign
view words ts = map (sign_view words) ts

abbrev pub leaf_tree : Lexicon → Leaf → Tree
leaf_tree words (leaves.Variable n) = var n
leaf_tree words (leaves.Integer i) = int i
leaf_tree words (leaves.Atom n) = atom (name_at words n)
leaf_tree words (leaves.Codes n) = listed (map code_tree (chars (text_at words n)))
leaf_tree words (leaves.Chars n) = listed (map char_tree (chars (text_at words n)))

abbrev pub start_view : Lexicon → Opening → Start
start_view words (openings.Stands x ts) = Stands (leaf_tree words x) (view words ts.now)
start_view words (openings.Opens ts) = Opens (view words ts.now)
start_view words (openings.OpensList ts) = OpensList (view words ts.now)
start_view words (openings.OpensCurly ts) = OpensCurly (view words ts.now)
start_view words (openings.Calls n ts) = Calls (name_at words n) (view words ts.now)
start_view words (openings.Before n op ts) = Before (name_at words n) op (view words ts.now)
start_view words openings.Nothing = NoStart

abbrev pub next_view : Lexicon → Follower → Next
next_view words (followers.Between n op ts) = Between (name_at words n) op (view words ts.now)
next_view words (followers.Behind n op ts) = Behind (name_at words n) op (view words ts.now)
next_view words followers.Stop = Stop
