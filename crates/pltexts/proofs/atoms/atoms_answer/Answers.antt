use Rattle.std.proofs.Common.{◌≡◌, ◌∷◌, ℕ, [], List, Result, IfOk, map, refl, sym, ap₂}
use Rattle.plcells.specs.declared.cell.Cell.{Cell}
use Rattle.plcells.specs.Store.{Store, value}
use Rattle.plnames.specs.declared.kind.Atoms.{Atoms}
use Rattle.plnames.specs.declared.kind.Atoms.TheVariants.{Length, Spelled, CharacterCode, NumberSpelled, Number, Concatenation, Part}
use Rattle.plprogram.specs.declared.settings.Settings.{Settings}
use Rattle.plbuiltin.specs.Atoms.{on_atoms}
use Rattle.planswers.specs.declared.answer.Answer.{Answer}
use Rattle.planswers.specs.Answers.{meant}
use Rattle.planswers.proofs.Forwarding.{forwarded}
use Rattle.pltexts.proofs.Arguments.{list-two}
use Rattle.pltexts.proofs.atoms.atoms_answer.Goals as goal

told : {E : Type 0} (r : Result Answer E) (h : Store) (b d : Atoms) (xs ys : List Cell) → b ≡ d → xs ≡ ys → IfOk r (λ answer. (s : Settings) (n : ℕ) → meant h s n answer ≡ on_atoms d (map (value h) ys) s) →
    IfOk r (λ answer. (s : Settings) (n : ℕ) → meant h s n answer ≡ on_atoms b (map (value h) xs) s)
told r h b d xs ys same args is = forwarded r h (λ s n. on_atoms d (map (value h) ys) s) (λ s n. on_atoms b (map (value h) xs) s) is (λ s n. sym (ap₂ (λ (x : Atoms) us. on_atoms x (map (value h) us) s) same args))

pub returns-in-Length-len2-clause-is : goal.returns-in-Length-len2-clause-is
returns-in-Length-len2-clause-is c = told c.atom_length.result c.args.heap.now c.args.b Length c.args.args.now (c.text-item.result ∷ c.length-item.result ∷ []) c.in-Length-len2.is-0
    (list-two c.args.args.now c.text-item.result c.length-item.result c.in-Length-len2.len_at_least c.in-Length-len2.len_below c.text-item.is c.length-item.is)
    c.atom_length.ensures.is

pub returns-in-Spelled-len2-clause-is : goal.returns-in-Spelled-len2-clause-is
returns-in-Spelled-len2-clause-is c = told c.spell.result c.args.heap.now c.args.b (Spelled c.in-Spelled-len2.k) c.args.args.now (c.text-item-then-this-lt3-2.result ∷ c.list-item.result ∷ []) c.in-Spelled-len2.is-0
    (list-two c.args.args.now c.text-item-then-this-lt3-2.result c.list-item.result c.in-Spelled-len2.len_at_least c.in-Spelled-len2.len_below c.text-item-then-this-lt3-2.is c.list-item.is)
    c.spell.ensures.is

pub returns-in-CharacterCode-len2-clause-is : goal.returns-in-CharacterCode-len2-clause-is
returns-in-CharacterCode-len2-clause-is c = told c.char_code.result c.args.heap.now c.args.b CharacterCode c.args.args.now (c.c-item.result ∷ c.code-item.result ∷ []) c.in-CharacterCode-len2.is-0
    (list-two c.args.args.now c.c-item.result c.code-item.result c.in-CharacterCode-len2.len_at_least c.in-CharacterCode-len2.len_below c.c-item.is c.code-item.is)
    c.char_code.ensures.is

pub returns-in-NumberSpelled-len2-clause-is : goal.returns-in-NumberSpelled-len2-clause-is
returns-in-NumberSpelled-len2-clause-is c = told c.number_spelled.result c.args.heap.now c.args.b (NumberSpelled c.in-NumberSpelled-len2.k) c.args.args.now (c.number-item.result ∷ c.list-item-then-this-lt3-4.result ∷ []) c.in-NumberSpelled-len2.is-0
    (list-two c.args.args.now c.number-item.result c.list-item-then-this-lt3-4.result c.in-NumberSpelled-len2.len_at_least c.in-NumberSpelled-len2.len_below c.number-item.is c.list-item-then-this-lt3-4.is)
    c.number_spelled.ensures.is

pub returns-in-Number-len2-clause-is : goal.returns-in-Number-len2-clause-is
returns-in-Number-len2-clause-is c = told c.atom_number.result c.args.heap.now c.args.b Number c.args.args.now (c.text-item-then-this-lt3-5.result ∷ c.number-item-then-this-lt3-5.result ∷ []) c.in-Number-len2.is-0
    (list-two c.args.args.now c.text-item-then-this-lt3-5.result c.number-item-then-this-lt3-5.result c.in-Number-len2.len_at_least c.in-Number-len2.len_below c.text-item-then-this-lt3-5.is c.number-item-then-this-lt3-5.is)
    c.atom_number.ensures.is

pub returns-in-Concatenation-default-clause-is : goal.returns-in-Concatenation-default-clause-is
returns-in-Concatenation-default-clause-is c = told c.atom_concat.result c.args.heap.now c.args.b Concatenation c.args.args.now c.args.args.now c.in-Concatenation-default.is-0
    refl
    c.atom_concat.ensures.is

pub returns-in-Part-default-clause-is : goal.returns-in-Part-default-clause-is
returns-in-Part-default-clause-is c = told c.sub_atom.result c.args.heap.now c.args.b Part c.args.args.now c.args.args.now c.in-Part-default.is-0
    refl
    c.sub_atom.ensures.is
