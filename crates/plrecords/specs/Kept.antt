-- What a store keeps of the updates, and the walk over it.
use Rattle.std.specs.Prelude.{ℕ, Bool, true, false, ◌||◌, ◌&&◌, not, List, [], ◌∷◌, ◌++◌, map, filter, reverse, find, nat_lt, Option, Some, None, refl}
use Rattle.std.specs.Coded.{Coded, code_by, coded×, coded_list}
use Rattle.std.specs.List.{list_any}
use Rattle.std.specs.Option.{option_map}
use Rattle.plterm.specs.declared.indicator.Indicator.{Indicator}
use Rattle.plterm.specs.Indicators.{same_indicator}
use Rattle.plclause.specs.Clause.{Clause}
use Rattle.plevent.specs.declared.update.Update.{Update}
use Rattle.plevent.specs.declared.update.Update.TheVariants.{First, Last, Erase, EraseOwn, Declare}
use Rattle.plevent.specs.declared.update.ClauseName.{ClauseName}
use Rattle.plevent.specs.declared.update.Living.{Living}
use Rattle.plevent.specs.Alive.{Stamped, same_name, is_of, named, change_if, lives_as}
use Rattle.plrecords.specs.declared.record.Record.{Record}
use Rattle.plrecords.specs.declared.record.Declared.{Declared}
use Rattle.plrecords.specs.declared.record.Cursor.{Cursor}
use Rattle.plrecords.specs.declared.record.Cursor.TheVariants.{Start, After}
use Rattle.plrecords.specs.contracts.record.Record as record_row
use Rattle.plrecords.specs.contracts.record.Declared as declared_row

-- each clause ever made, in the order of their names, and each declaration
pub record Kept : Type 0 where
  pub records : List Record
  pub declared : List Declared

abbrev pub kept_code : Coded Kept
kept_code = code_by (List Record × List Declared) (coded× (coded_list record_row.the_row.coded) (coded_list declared_row.the_row.coded))
    (λ k. (k.records, k.declared)) (λ p. record { records = p.0; declared = p.1 }) (λ _. refl)

abbrev pub nothing : Kept
nothing = record { records = []; declared = [] }

abbrev pub changed_where : {A : Type 0} → (A → Bool) → (A → A) → List A → List A
changed_where test f [] = []
changed_where test f (x ∷ xs) = change_if (test x) (f x) x ∷ changed_where test f xs

abbrev pub made : ClauseName → Clause → Bool → Record
made x c f = record { name = x; clause = c; front = f; erased = None }

-- the first erasure counts
abbrev pub first_of : Option ℕ → ℕ → Option ℕ
first_of None b = Some b
first_of (Some e) b = Some e

abbrev pub erase_at : ℕ → Record → Record
erase_at b r = record r { erased = first_of r.erased b }

abbrev pub is_named : ClauseName → Record → Bool
is_named y r = same_name r.name y

-- the records after an update named x
abbrev pub kept : ClauseName → Update → List Record → List Record
kept x (First c) rs = rs ++ made x c true ∷ []
kept x (Last c) rs = rs ++ made x c false ∷ []
kept x (Erase y) rs = changed_where (is_named y) (erase_at x.place) rs
kept x (EraseOwn k) rs = changed_where (is_named (named x.place k)) (erase_at x.place) rs
kept x (Declare q) rs = rs

abbrev pub noted : ClauseName → Update → List Declared → List Declared
noted x (First c) ds = ds
noted x (Last c) ds = ds
noted x (Erase y) ds = ds
noted x (EraseOwn k) ds = ds
noted x (Declare q) ds = ds ++ record { pred = q; place = x.place } ∷ []

abbrev pub keep_record : List Record → Stamped → List Record
keep_record rs s = kept s.at s.update rs

abbrev pub keep_declared : List Declared → Stamped → List Declared
keep_declared ds s = noted s.at s.update ds

-- what is kept after an update
abbrev pub keep : Kept → Stamped → Kept
keep k s = record { records = keep_record k.records s; declared = keep_declared k.declared s }

-- a record is seen at g where its batch stands below g, and that of its erasure does not
abbrev pub not_below : ℕ → Option ℕ → Bool
not_below g None = true
not_below g (Some e) = not (nat_lt e g)

abbrev pub seen : ℕ → Record → Bool
seen g r = nat_lt r.name.place g && not_below g r.erased

abbrev pub in_front : Indicator → Record → Bool
in_front p r = r.front && is_of p r.clause

abbrev pub behind_all : Indicator → Record → Bool
behind_all p r = not r.front && is_of p r.clause

abbrev pub livings : List Record → List Living
livings rs = map (λ r. lives_as r.name r.clause) rs

abbrev pub picked : (Record → Bool) → ℕ → List Record → List Living
picked side g rs = livings (filter (λ r. seen g r && side r) rs)

-- the clauses of p that are seen at g, in their order: the last put in front comes first
unfoldable pub walk : ℕ → Indicator → List Record → List Living
walk g p rs = reverse (picked (in_front p) g rs) ++ picked (behind_all p) g rs

-- the clause x is seen at g
abbrev pub is_here : ℕ → ClauseName → Record → Bool
is_here g x r = is_named x r && seen g r

abbrev pub here : ℕ → ClauseName → Kept → Bool
here g x k = list_any (is_here g x) k.records

-- some update below g named p
abbrev pub record_names : ℕ → Indicator → Record → Bool
record_names g p r = nat_lt r.name.place g && is_of p r.clause

abbrev pub declared_names : ℕ → Indicator → Declared → Bool
declared_names g p d = nat_lt d.place g && same_indicator d.pred p

abbrev pub is_there : ℕ → Indicator → Kept → Bool
is_there g p k = list_any (record_names g p) k.records || list_any (declared_names g p) k.declared

-- the clause of a name
abbrev pub clause_of : ClauseName → Kept → Option Clause
clause_of x k = option_map (λ r. r.clause) (find (is_named x) k.records)

-- the name that a walk gives next
abbrev pub head : List ClauseName → Option ClauseName
head [] = None
head (x ∷ xs) = Some x

abbrev pub behind : ClauseName → List ClauseName → Option ClauseName
behind x [] = None
behind x (y ∷ ys) = change_if (same_name x y) (head ys) (behind x ys)

abbrev pub next_of : Cursor → List ClauseName → Option ClauseName
next_of Start xs = head xs
next_of (After x) xs = behind x xs
