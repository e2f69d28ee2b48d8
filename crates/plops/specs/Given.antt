-- The operators of program text (6.3.4.4), and those that name directives.
use Rattle.std.specs.Prelude.{ℕ, List, [], ◌∷◌, codes, fold}
use Rattle.plops.specs.declared.operator.Kind.{Kind}
use Rattle.plops.specs.declared.operator.Kind.TheVariants.{Xfx, Xfy, Yfx, Fx, Fy}
use Rattle.plops.specs.declared.table.Entry.{Entry}
use Rattle.plops.specs.Changes.{added}

-- names that are operators of one priority and kind
pub record Row : Type 0 where
  pub priority : ℕ
  pub kind : Kind
  pub names : List (List ℕ)

abbrev row : ℕ → Kind → List (List ℕ) → Row
row priority kind names = record { priority = priority; kind = kind; names = names }

abbrev pub with_names : ℕ → Kind → List (List ℕ) → List Entry → List Entry
with_names priority kind [] entries = entries
with_names priority kind (name ∷ names) entries = with_names priority kind names (added priority kind name entries)

abbrev pub with_row : List Entry → Row → List Entry
with_row entries r = with_names r.priority r.kind r.names entries

abbrev pub iso_rows : List Row
iso_rows =
    row 1200 Xfx (codes ":-" ∷ codes "-->" ∷ [])
    ∷ row 1200 Fx (codes ":-" ∷ codes "?-" ∷ [])
    ∷ row 1150 Fx (codes "dynamic" ∷ codes "discontiguous" ∷ codes "initialization" ∷ codes "multifile" ∷ codes "thread_local" ∷ [])
    ∷ row 1100 Xfy (codes ";" ∷ [])
    ∷ row 1050 Xfy (codes "->" ∷ [])
    ∷ row 1000 Xfy (codes "," ∷ [])
    ∷ row 900 Fy (codes "\\+" ∷ [])
    ∷ row 700 Xfx (codes "=" ∷ codes "\\=" ∷ codes "==" ∷ codes "\\==" ∷ [])
    ∷ row 700 Xfx (codes "@<" ∷ codes "@=<" ∷ codes "@>" ∷ codes "@>=" ∷ codes "=.." ∷ codes "is" ∷ [])
    ∷ row 700 Xfx (codes "=:=" ∷ codes "=\\=" ∷ codes "<" ∷ codes "=<" ∷ codes ">" ∷ codes ">=" ∷ [])
    ∷ row 500 Yfx (codes "+" ∷ codes "-" ∷ codes "/\\" ∷ codes "\\/" ∷ [])
    ∷ row 400 Yfx (codes "*" ∷ codes "/" ∷ codes "//" ∷ codes "rem" ∷ codes "mod" ∷ codes "<<" ∷ codes ">>" ∷ [])
    ∷ row 200 Xfx (codes "**" ∷ [])
    ∷ row 200 Xfy (codes "^" ∷ [])
    ∷ row 200 Fy (codes "-" ∷ codes "\\" ∷ [])
    ∷ []

unfoldable pub iso_table : List Entry
iso_table = fold with_row [] iso_rows
