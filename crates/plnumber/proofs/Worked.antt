-- The integers of small texts.
use Rattle.std.proofs.Common.{◌≡◌, codes, refl, Some, None}
use Rattle.std.specs.Prelude.{pos, negsuc}
use Rattle.std.specs.Str.{chars}
use Rattle.pllex.specs.Characters.{code_at}
use Rattle.pllex.specs.Tokens.{run_end, gap, value, item_of}
use Rattle.plnumber.specs.Numbers.{number_of}

plain : number_of (codes "17") ≡ Some (pos 17)
unfolding number_of gap item_of run_end value
plain = refl

-- layout stands before it, and none behind it
behind_layout : number_of (codes " 0x1f") ≡ Some (pos 31)
unfolding number_of gap item_of run_end value
behind_layout = refl

before_layout : number_of (codes "17 ") ≡ None
unfolding number_of gap item_of run_end value
before_layout = refl

-- the sign stands directly before it (negsuc n is -(n + 1))
signed : number_of (codes " -5") ≡ Some (negsuc 4)
unfolding number_of gap item_of run_end value
signed = refl

sign_apart : number_of (codes "- 5") ≡ None
unfolding number_of gap item_of run_end value
sign_apart = refl

two_signs : number_of (codes "--5") ≡ None
unfolding number_of gap item_of run_end value
two_signs = refl

-- the code of a character
code : number_of (codes "0'a") ≡ Some (pos 97)
unfolding number_of gap item_of run_end value code_at chars
code = refl

-- the greatest and the least integer
greatest : number_of (codes "9223372036854775808") ≡ None
unfolding number_of gap item_of run_end value
greatest = refl

least : number_of (codes "-9223372036854775808") ≡ Some (negsuc 9223372036854775807)
unfolding number_of gap item_of run_end value
least = refl

none : number_of (codes "a1") ≡ None
unfolding number_of gap item_of run_end value
none = refl
