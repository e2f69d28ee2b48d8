use Rattle.std.proofs.Common.{◌≡◌, Ok, Err, true, false, codes, sym, ap, ap₂, ◌∙◌, rules}
use Rattle.std.specs.Prelude.{if◌then◌else◌}
use Rattle.plcells.specs.Store.{value}
use Rattle.plerror.specs.Errors.{instantiation_error, type_error}
use Rattle.plnames.specs.declared.kind.Spelling.TheVariants.{Characters, Codes}
use Rattle.plbuiltin.specs.Format.{listed_text, pieces_of}
use Rattle.plbuiltin.specs.Lists.{elements_of, is_partial}
use Rattle.plbuiltin.specs.Texts.{text_in}
use Rattle.pltexts.proofs.format.listed_pieces.Goals as goal

pub returns-in-Ok : goal.returns-in-Ok
returns-in-Ok c =
    let t = value c.args.heap.now c.args.v.now in
    let text = c.as_bytes.result.now in
    let found : text_in Codes t ≡ Ok text = search rules in
    ap Ok c.in_ok-pieces_of.ensures ∙ sym (ap (λ r. pieces_of (listed_text r (text_in Characters t) t)) found)

pub returns-in-Ok-2 : goal.returns-in-Ok-2
returns-in-Ok-2 c =
    let t = value c.args.heap.now c.args.v.now in
    let text = c.as_bytes-in-Ok-2.result.now in
    let no_codes : text_in Codes t ≡ Err c.in_default.field-0 = rw c.in_default.is at c.in_ok-text.ensures.error in
    let found : text_in Characters t ≡ Ok text = search rules in
    ap Ok c.in_ok-pieces_of-2.ensures ∙ sym (ap₂ (λ r q. pieces_of (listed_text r q t)) no_codes found)

pub returns-then-is_partial : goal.returns-then-is_partial
returns-then-is_partial c =
    let t = value c.args.heap.now c.args.v.now in
    let no_codes : text_in Codes t ≡ Err c.in_default.field-0 = rw c.in_default.is at c.in_ok-text.ensures.error in
    let no_characters : text_in Characters t ≡ Err c.in_default-2.field-0 = rw c.in_default-2.is at c.in_ok-text-2.ensures.error in
    let partial : is_partial (elements_of t) ≡ true = search rules in
    ap Err c.in_ok-instantiation_error.ensures
    ∙ sym (ap₂ (λ r q. pieces_of (listed_text r q t)) no_codes no_characters ∙ ap (λ b. pieces_of (if b then Err instantiation_error else Err (type_error (codes "atom") t))) partial)

pub returns : goal.returns
returns c =
    let t = value c.args.heap.now c.args.v.now in
    let no_codes : text_in Codes t ≡ Err c.in_default.field-0 = rw c.in_default.is at c.in_ok-text.ensures.error in
    let no_characters : text_in Characters t ≡ Err c.in_default-2.field-0 = rw c.in_default-2.is at c.in_ok-text-2.ensures.error in
    let whole : is_partial (elements_of t) ≡ false = search rules in
    ap Err c.in_ok-type_error.ensures
    ∙ sym (ap₂ (λ r q. pieces_of (listed_text r q t)) no_codes no_characters ∙ ap (λ b. pieces_of (if b then Err instantiation_error else Err (type_error (codes "atom") t))) whole)
