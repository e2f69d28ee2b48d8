-- The number of steps that a text is.
use Rattle.std.proofs.Common.{◌≡◌, ℕ, Bool, true, false, List, Some, None, refl}
use Rattle.std.specs.Str.Parse.{digits_value, without_leading_plus}
use Rattle.clap.specs.Words.{IsUnsignedIn}
use Rattle.clap.specs.ValueTests.{is_unsigned_in}
use Rattle.clap.specs.declared.builder.value_parser.ValueParser.TheVariants as vp
use Rattle.clap.proofs.ValueTestLemmas.{accepts-Accepts, Accepts-accepts}
use Rattle.plwords.specs.Forms.{number_of}

module _ (text : List ℕ) where
  in_range : IsUnsignedIn 1 1099511627776 text → is_unsigned_in 1 1099511627776 text ≡ true
  in_range h = Accepts-accepts false (vp.Unsigned 1 1099511627776) text h

  range_in : is_unsigned_in 1 1099511627776 text ≡ true → IsUnsignedIn 1 1099511627776 text
  range_in e = accepts-Accepts false (vp.Unsigned 1 1099511627776) text e

  pub is_number : IsUnsignedIn 1 1099511627776 text → Some (digits_value 10 (without_leading_plus text)) ≡ number_of text
  is_number h = rw (in_range h) refl

  pub no_number : (IsUnsignedIn 1 1099511627776 text → ⊥) → None ≡ number_of text
  no_number never = go (is_unsigned_in 1 1099511627776 text) refl
    where
      go : (b : Bool) → is_unsigned_in 1 1099511627776 text ≡ b → None ≡ number_of text
      go true e = absurd (never (range_in e))
      go false e = rw e refl
