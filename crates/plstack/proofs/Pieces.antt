-- A part's numbers and its text, met as the arguments of a head.
use Rattle.std.proofs.Common.{◌≡◌, ℕ, zero, suc, ◌<◌, ℤ, pos, codes, List, [], ◌∷◌, length, map, refl, sym, ap, ap₂, ◌∙◌, subst, arith, None, w64, to_z, of_z, FitsSigned}
use Rattle.std.proofs.lemmas.Int.{to_z-of_z}
use Rattle.plterm.specs.Tree.{int, atom, compound, trees}
use Rattle.plsubst.specs.Subst.{bind}
use Rattle.plsubst.specs.Unify.{unify}
use Rattle.platoms.specs.Names.{Table, atom_at}
use Rattle.plcells.specs.declared.cell.Cell.{Cell}
use Rattle.plcells.specs.declared.cell.Cell.TheVariants.{Atom as AtomCell}
use Rattle.plcells.specs.Store.{value, AreValues}
use Rattle.plbuiltin.specs.Solution.{together}
use Rattle.plgenerator.specs.declared.generator.Piece.{Piece}
use Rattle.plgenerator.specs.declared.wanted.Sought.{Sought}
use Rattle.plgenerator.specs.Answers.{piece_terms, sought_terms}
use Rattle.plcode.specs.declared.node.Node.{Node}
use Rattle.plcode.specs.declared.node.Node.TheVariants.{Int, Atom}
use Rattle.plcode.specs.Nodes.{row, values}
use Rattle.plcode.specs.Packed.{node_at, ArePacked, IsArgument}
use Rattle.plcode.specs.Laying.{IsLaid}
use Rattle.plenv.specs.Env.{Env, IsEnv, over}
use Rattle.plenv.specs.Changes.{Puts}
use Rattle.plenv.specs.Rows.{row_at, CoversAll}
use Rattle.plenv.specs.Solving.{Solves}
use Rattle.plenv.proofs.Keeping.{Keeps-trans}
use Rattle.plenv.proofs.Solving.{keeps-counted}
use Rattle.plhead.specs.Fitting.{NotUnifiable, UnifiesAll}

-- a number as a node holds it
pub number-is : (r : ℤ) (n : ℕ) → FitsSigned w64 r → r ≡ pos n → to_z w64 (of_z w64 r) ≡ pos n
number-is r n fits is = to_z-of_z w64 r fits ∙ is

-- the nodes
abbrev pub piece_nodes : Piece → ℕ → List Node
piece_nodes p a = Int (pos p.part.offset.characters) ∷ Int (pos p.part.length) ∷ Int (pos p.part.after) ∷ Atom a ∷ []

abbrev pub sought_values : Sought → List Cell
sought_values s = s.before ∷ s.length ∷ s.after ∷ s.text ∷ []

packed : (p : Piece) (a : ℕ) → ArePacked (piece_nodes p a)
packed p a zero from root lt e = absurd (cc)
packed p a (suc zero) from root lt e = absurd (cc)
packed p a (suc (suc zero)) from root lt e = absurd (cc)
packed p a (suc (suc (suc zero))) from root lt e = absurd (cc)
packed p a (suc (suc (suc (suc i)))) from root lt e = absurd (omega (arith, lt))

-- none of them is a block's or a compound's
pub piece-whole : (p : Piece) (a j : ℕ) → j < 4 → IsArgument 0 j (node_at (piece_nodes p a) j)
piece-whole p a zero lt = tt
piece-whole p a (suc zero) lt = tt
piece-whole p a (suc (suc zero)) lt = tt
piece-whole p a (suc (suc (suc zero))) lt = tt
piece-whole p a (suc (suc (suc (suc j)))) lt = absurd (omega (arith, lt))

row-is : (t : Table) (p : Piece) (a : ℕ) → row t (piece_nodes p a) 0 4 ≡ int (pos p.part.offset.characters) ∷ int (pos p.part.length) ∷ int (pos p.part.after) ∷ atom (atom_at t a) ∷ []
unfolding row values
row-is t p a = refl

-- the text's atom was put
module _ (old mid : Env) (s : Sought) (p : Piece) (a : ℕ) (puts : Puts old mid (AtomCell a) (atom p.text)) (env : IsEnv mid) where
  pub piece-laid : IsLaid mid.heap.names (piece_nodes p a)
  piece-laid = record {
    table = env.heap.names;
    sound = record { named = (tt, (tt, (tt, (puts.fits, tt)))); rest = (tt, (tt, (tt, (tt, tt)))) };
    packed = packed p a;
    few = omega arith;
  }

  row-terms : row_at mid.heap.names (piece_nodes p a) (record { at = 0; count = 4 }) ≡ piece_terms p
  row-terms = row-is mid.heap.names p a ∙ ap (λ t. int (pos p.part.offset.characters) ∷ int (pos p.part.length) ∷ int (pos p.part.after) ∷ t ∷ []) puts.is

  pub piece-covers : CoversAll mid 0 (row_at mid.heap.names (piece_nodes p a) (record { at = 0; count = 4 }))
  piece-covers = subst (CoversAll mid 0) (sym row-terms) (record { width = 0; below = (tt, (tt, (tt, (tt, tt)))); within = omega arith })

  module _ (fit : AreValues old.heap (sought_values s)) where
    pub piece-values : AreValues mid.heap (sought_values s)
    piece-values =
        let f = puts.extends.values in
        ((f s.before fit.0).0, ((f s.length fit.1.0).0, ((f s.after fit.1.1.0).0, ((f s.text fit.1.1.1.0).0, tt))))

    left-is : map (value mid.heap) (sought_values s) ≡ sought_terms old.heap s
    left-is =
        let f = puts.extends.values in
        let a : value mid.heap s.before ≡ value old.heap s.before = (f s.before fit.0).1 in
        let b : value mid.heap s.length ≡ value old.heap s.length = (f s.length fit.1.0).1 in
        let c : value mid.heap s.after ≡ value old.heap s.after = (f s.after fit.1.1.0).1 in
        let d : value mid.heap s.text ≡ value old.heap s.text = (f s.text fit.1.1.1.0).1 in
        cc

    right-is : map (bind (over mid 0)) (row_at mid.heap.names (piece_nodes p a) (record { at = 0; count = 4 })) ≡ piece_terms p
    unfolding bind
    right-is = ap (map (bind (over mid 0))) row-terms

    sides-are : unify (compound (codes "-") (trees (map (value mid.heap) (sought_values s)))) (compound (codes "-") (trees (map (bind (over mid 0)) (row_at mid.heap.names (piece_nodes p a) (record { at = 0; count = 4 })))))
        ≡ unify (together (sought_terms old.heap s)) (together (piece_terms p))
    sides-are = ap₂ (λ ts us. unify (together ts) (together us)) left-is right-is

    pub piece-solves : (new : Env) → UnifiesAll mid new (map (value mid.heap) (sought_values s)) (map (bind (over mid 0)) (row_at mid.heap.names (piece_nodes p a) (record { at = 0; count = 4 }))) →
        Solves old new (together (sought_terms old.heap s)) (together (piece_terms p)) 0
    piece-solves new u = record {
      unifier = u.unifier;
      is = sym sides-are ∙ u.is (codes "-");
      made = record {
        values = λ v f. let x = puts.extends.values v f in let r = u.made.values v x.0 in (r.0, r.1 ∙ ap (bind u.unifier) x.1);
        slots = u.made.slots ∙ puts.slots;
        variables = λ i lt. u.made.variables i (omega (arith, lt, puts.slots)) ∙ ap (bind u.unifier) (puts.extends.variables i lt);
        count = omega (arith, u.made.count, puts.count);
        keeps = keeps-counted old new 0 (Keeps-trans old mid new puts.extends.keeps u.made.keeps);
      };
    }

    pub piece-misses : NotUnifiable (map (value mid.heap) (sought_values s)) (map (bind (over mid 0)) (row_at mid.heap.names (piece_nodes p a) (record { at = 0; count = 4 }))) →
        unify (together (sought_terms old.heap s)) (together (piece_terms p)) ≡ None
    piece-misses none = sym sides-are ∙ none (codes "-")
