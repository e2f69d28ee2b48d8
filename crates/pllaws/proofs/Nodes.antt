-- The nodes of terms that are made of others: they are within their limits, and their variables stand in order.
use Rattle.std.proofs.Common.{◌≡◌, ◌<◌, ◌≤◌, ℕ, suc, List, [], ◌∷◌, ◌++◌, length, refl, sym, ap, ◌∙◌, arith}
use Rattle.plterm.specs.declared.node.Node.{Node}
use Rattle.plterm.specs.declared.node.Node.TheVariants.{Var, Int, Atom, Compound}
use Rattle.plterm.specs.Tree.{Tree, Trees, compound, none, more, list_of}
use Rattle.plterm.specs.Reading.{spelling, spellings, IsName, AllFit}
use Rattle.plread.specs.Reading.{count}
use Rattle.plread.specs.Texts.{dot, nil, curly, list_term}
use Rattle.plops.specs.Sane.{comma}
use Rattle.std.proofs.lemmas.Str.{IsUtf8-from_ascii, is_utf8-from_IsUtf8}
use Rattle.std.proofs.lemmas.Str.Ascii.{IsAscii-cons, IsAscii-nil}
use Rattle.pllaws.proofs.Limits.{fit_parts}
use Rattle.pllaws.proofs.Numbers.{node_numbers}

-- ---- limits

pub fit_both : (ms ns : List Node) → AllFit ms → AllFit ns → AllFit (ms ++ ns)
fit_both [] ns h k = k
fit_both (m ∷ ms) ns h k = (h.0, fit_both ms ns h.1 k)

pub fit_more : (t : Tree) (ts : Trees) → AllFit (spelling t) → AllFit (spellings ts) → AllFit (spellings (more t ts))
fit_more t ts h k = fit_both (spelling t) (spellings ts) h k

count-is : (ts : Trees) → count ts ≡ length (list_of ts)
count-is none = refl
count-is (more t ts) = ap suc (count-is ts)

pub fit_compound : (name : List ℕ) (args : Trees) → IsName name → 0 < count args → count args ≤ 1024 → AllFit (spellings args) → AllFit (spelling (compound name args))
fit_compound name args n some few h = let c = count-is args in ((n, omega arith, omega arith), h)

pub fit_one : (name : List ℕ) (t : Tree) → IsName name → AllFit (spelling t) → AllFit (spelling (compound name (more t none)))
fit_one name t n h = fit_compound name (more t none) n (omega arith) (omega arith) (fit_more t none h tt)

pub fit_two : (name : List ℕ) (t u : Tree) → IsName name → AllFit (spelling t) → AllFit (spelling u) → AllFit (spelling (compound name (more t (more u none))))
fit_two name t u n h k = fit_compound name (more t (more u none)) n (omega arith) (omega arith) (fit_more t (more u none) h (fit_more u none k tt))

-- names of ASCII
pub one_byte : (b : ℕ) → b < 128 → IsName (b ∷ [])
one_byte b h = (omega arith, is_utf8-from_IsUtf8 (b ∷ []) (IsUtf8-from_ascii (b ∷ []) (IsAscii-cons b [] h IsAscii-nil)))

pub two_bytes : (b c : ℕ) → b < 128 → c < 128 → IsName (b ∷ c ∷ [])
two_bytes b c h k = (omega arith, is_utf8-from_IsUtf8 (b ∷ c ∷ []) (IsUtf8-from_ascii (b ∷ c ∷ []) (IsAscii-cons b (c ∷ []) h (IsAscii-cons c [] k IsAscii-nil))))

pub dot_name : IsName dot
dot_name = one_byte 46 (omega arith)

pub comma_name : IsName comma
comma_name = one_byte 44 (omega arith)

pub nil_name : IsName nil
nil_name = two_bytes 91 93 (omega arith) (omega arith)

pub curly_name : IsName curly
curly_name = two_bytes 123 125 (omega arith) (omega arith)

pub fit_list : (items : Trees) (tail : Tree) → AllFit (spellings items) → AllFit (spelling tail) → AllFit (spelling (list_term items tail))
fit_list none tail h k = k
fit_list (more t ts) tail h k = let p = fit_parts (spelling t) (spellings ts) h in fit_two dot t (list_term ts tail) dot_name p.0 (fit_list ts tail p.1 k)

-- ---- variables

-- the variables of nodes, before others
abbrev pub vars : List Node → List ℕ → List ℕ
vars ns ps = node_numbers (λ v. v) ns ps

pub vars-append : (ms ns : List Node) (ps : List ℕ) → vars (ms ++ ns) ps ≡ vars ms (vars ns ps)
vars-append [] ns ps = refl
vars-append (Var v ∷ ms) ns ps = ap (λ l. v ∷ l) (vars-append ms ns ps)
vars-append (Int i ∷ ms) ns ps = vars-append ms ns ps
vars-append (Atom s ∷ ms) ns ps = vars-append ms ns ps
vars-append (Compound s k ∷ ms) ns ps = vars-append ms ns ps

pub vars_more : (t : Tree) (ts : Trees) (ps : List ℕ) → vars (spellings (more t ts)) ps ≡ vars (spelling t) (vars (spellings ts) ps)
vars_more t ts ps = vars-append (spelling t) (spellings ts) ps

pub vars_one : (name : List ℕ) (t : Tree) (ps : List ℕ) → vars (spelling (compound name (more t none))) ps ≡ vars (spelling t) ps
vars_one name t ps = vars_more t none ps

pub vars_two : (name : List ℕ) (t u : Tree) (ps : List ℕ) → vars (spelling (compound name (more t (more u none)))) ps ≡ vars (spelling t) (vars (spelling u) ps)
vars_two name t u ps = vars_more t (more u none) ps ∙ ap (vars (spelling t)) (vars_more u none ps)

pub vars_list : (items : Trees) (tail : Tree) (ps : List ℕ) → vars (spelling (list_term items tail)) ps ≡ vars (spellings items) (vars (spelling tail) ps)
vars_list none tail ps = refl
vars_list (more t ts) tail ps =
    vars_two dot t (list_term ts tail) ps ∙ ap (vars (spelling t)) (vars_list ts tail ps) ∙ sym (vars_more t ts (vars (spelling tail) ps))
