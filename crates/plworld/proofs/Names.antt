-- The names of a journal's updates rise.
use Rattle.std.specs.Prelude.{ℕ, suc, ◌<◌, List, [], ◌∷◌, ◌++◌}
use Rattle.std.proofs.Common.{arith}
use Rattle.plevent.specs.declared.update.Update.{Update}
use Rattle.plevent.specs.declared.update.ClauseName.{ClauseName}
use Rattle.plevent.specs.Alive.{Stamped, stamped, named}
use Rattle.plrecords.specs.Rising.{AllAfter, AllUnder, Ordered}
use Rattle.plstore.proofs.Search.{less-place, less-number}

after-place : (x : ClauseName) (b k : ℕ) (vs : List Update) → x.place < b → AllAfter x (stamped b k vs)
after-place x b k [] h = tt
after-place x b k (v ∷ vs) h = (less-place b k x h, after-place x b (suc k) vs h)

after-number : (b j k : ℕ) (vs : List Update) → j < k → AllAfter (named b j) (stamped b k vs)
after-number b j k [] h = tt
after-number b j k (v ∷ vs) h = (less-number b j k h, after-number b j (suc k) vs (omega arith))

ordered-stamped : (b k : ℕ) (vs : List Update) → Ordered (stamped b k vs)
ordered-stamped b k [] = tt
ordered-stamped b k (v ∷ vs) = (after-number b k (suc k) vs (omega arith), ordered-stamped b (suc k) vs)

after-append : (x : ClauseName) (b k : ℕ) (us : List Stamped) (vs : List Update) → x.place < b → AllAfter x us → AllAfter x (us ++ stamped b k vs)
after-append x b k [] vs l h = after-place x b k vs l
after-append x b k (s ∷ us) vs l h = (h.0, after-append x b k us vs l h.1)

-- one more batch, at a place above all
pub ordered-append : (b k : ℕ) (us : List Stamped) (vs : List Update) → AllUnder b us → Ordered us → Ordered (us ++ stamped b k vs)
ordered-append b k [] vs un o = ordered-stamped b k vs
ordered-append b k (s ∷ us) vs un o = (after-append s.at b k us vs un.0 o.0, ordered-append b k us vs un.1 o.1)
