use Rattle.std.proofs.Common.{◌≡◌, ◌∷◌, ℕ, [], List, Result, IfOk, map, sym, ap₂}
use Rattle.plcells.specs.declared.cell.Cell.{Cell}
use Rattle.plcells.specs.Store.{Store, value}
use Rattle.plnames.specs.declared.kind.Output.{Output}
use Rattle.plnames.specs.declared.kind.Output.TheVariants.{Write, WriteQuoted, WriteCanonical, WriteLine}
use Rattle.plprogram.specs.declared.settings.Settings.{Settings}
use Rattle.plbuiltin.specs.Output.{on_output}
use Rattle.planswers.specs.declared.answer.Answer.{Answer}
use Rattle.planswers.specs.Answers.{meant}
use Rattle.pltexts.proofs.Arguments.{list-one, means}
use Rattle.pltexts.proofs.output.output_answer.Goals as goal

told : {E : Type 0} (r : Result Answer E) (h : Store) (s : Settings) (b d : Output) (xs ys : List Cell) → b ≡ d → xs ≡ ys → IfOk r (λ answer. (n : ℕ) → meant h s n answer ≡ on_output d (map (value h) ys) s) →
    IfOk r (λ answer. (n : ℕ) → meant h s n answer ≡ on_output b (map (value h) xs) s)
told r h s b d xs ys same args is = means r h s (on_output d (map (value h) ys) s) (on_output b (map (value h) xs) s) is (sym (ap₂ (λ (x : Output) us. on_output x (map (value h) us) s) same args))

pub returns-in-Write-len1-clause-is : goal.returns-in-Write-len1-clause-is
returns-in-Write-len1-clause-is c = told c.write.result c.args.heap.now c.args.settings.now c.args.b Write c.args.args.now (c.v-item.result ∷ []) c.in-Write-len1.is-0
    (list-one c.args.args.now c.v-item.result c.in-Write-len1.len_at_least c.in-Write-len1.len_below c.v-item.is)
    c.write.ensures.is

pub returns-in-WriteQuoted-len1-clause-is : goal.returns-in-WriteQuoted-len1-clause-is
returns-in-WriteQuoted-len1-clause-is c = told c.write-in-WriteQuoted-len1.result c.args.heap.now c.args.settings.now c.args.b WriteQuoted c.args.args.now (c.v-item-then-this-lt2-2.result ∷ []) c.in-WriteQuoted-len1.is-0
    (list-one c.args.args.now c.v-item-then-this-lt2-2.result c.in-WriteQuoted-len1.len_at_least c.in-WriteQuoted-len1.len_below c.v-item-then-this-lt2-2.is)
    c.write-in-WriteQuoted-len1.ensures.is

pub returns-in-WriteCanonical-len1-clause-is : goal.returns-in-WriteCanonical-len1-clause-is
returns-in-WriteCanonical-len1-clause-is c = told c.write-in-WriteCanonical-len1.result c.args.heap.now c.args.settings.now c.args.b WriteCanonical c.args.args.now (c.v-item-then-this-lt2-3.result ∷ []) c.in-WriteCanonical-len1.is-0
    (list-one c.args.args.now c.v-item-then-this-lt2-3.result c.in-WriteCanonical-len1.len_at_least c.in-WriteCanonical-len1.len_below c.v-item-then-this-lt2-3.is)
    c.write-in-WriteCanonical-len1.ensures.is

pub returns-in-WriteLine-len1-clause-is : goal.returns-in-WriteLine-len1-clause-is
returns-in-WriteLine-len1-clause-is c = told c.write_line.result c.args.heap.now c.args.settings.now c.args.b WriteLine c.args.args.now (c.v-item-then-this-lt2-4.result ∷ []) c.in-WriteLine-len1.is-0
    (list-one c.args.args.now c.v-item-then-this-lt2-4.result c.in-WriteLine-len1.len_at_least c.in-WriteLine-len1.len_below c.v-item-then-this-lt2-4.is)
    c.write_line.ensures.is
