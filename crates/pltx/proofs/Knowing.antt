-- The clause of an own name, in the batch and in the draft.
use Rattle.std.proofs.Common.{◌≡◌, refl, sym, ◌∙◌, ap, ap₂, arith, ℕ, suc, Bool, true, false, List, [], ◌∷◌, fold, Option, Some, None, take}
use Rattle.std.specs.Prelude.{◌≢◌, ◌||◌, ◌&&◌, not}
use Rattle.std.proofs.lemmas.Bool.Decides.{nat_tests}
use Rattle.plclause.specs.Clause.{Clause}
use Rattle.plevent.specs.declared.update.ClauseName.{ClauseName}
use Rattle.plevent.specs.declared.update.Update.{Update}
use Rattle.plevent.specs.declared.update.Update.TheVariants.{First, Last, Erase, EraseOwn, Declare}
use Rattle.plevent.specs.Alive.{stamped, named, same_name, change_if, lives, is_alive, clause_named, or_else}
use Rattle.plstore.specs.declared.query.Query.{Query}
use Rattle.plstore.specs.declared.query.Found.{Found}
use Rattle.plrecords.specs.Kept.{Kept, keep, nothing}
use Rattle.plstore.specs.Looking.{clause_alive, clause_seen}
use Rattle.plstore.proofs.Looking.{look-is}
use Rattle.pltx.specs.Overlays.{drafted}
use Rattle.pltx.specs.Walks.{own_batch, AllErasedApart}
use Rattle.pltx.proofs.Drafting.{first-drafted, rises}

same-batch : (b k n : ℕ) → same_name (named b k) (named b n) ≡ same_name (named k 0) (named n 0)
same-batch b k n = grind (arith, nat_tests)

other-batch : (b n : ℕ) (y : ClauseName) → y.place ≢ b → same_name (named b n) y ≡ false
other-batch b n y h = grind (arith, nat_tests)

not-erased : (v : Bool) → (v || false) && true ≡ v
not-erased true = refl
not-erased false = refl

alive-renamed : (b n k : ℕ) (us : List Update) (v : Bool) → AllErasedApart b us → fold (lives (named b n)) v (stamped b k us) ≡ fold (lives (named n 0)) v (drafted k us)
alive-renamed b n k [] v h = refl
alive-renamed b n k (First c ∷ us) v h =
    ap (λ e. fold (lives (named b n)) ((v || e) && true) (stamped b (suc k) us)) (same-batch b k n) ∙ alive-renamed b n (suc k) us ((v || same_name (named k 0) (named n 0)) && true) h.1
alive-renamed b n k (Last c ∷ us) v h =
    ap (λ e. fold (lives (named b n)) ((v || e) && true) (stamped b (suc k) us)) (same-batch b k n) ∙ alive-renamed b n (suc k) us ((v || same_name (named k 0) (named n 0)) && true) h.1
alive-renamed b n k (Erase y ∷ us) v h =
    ap (λ e. fold (lives (named b n)) ((v || false) && not e) (stamped b (suc k) us)) (other-batch b n y h.0) ∙ ap (λ v. fold (lives (named b n)) v (stamped b (suc k) us)) (not-erased v)
    ∙ alive-renamed b n (suc k) us v h.1
alive-renamed b n k (EraseOwn j ∷ us) v h =
    ap (λ e. fold (lives (named b n)) ((v || false) && not e) (stamped b (suc k) us)) (same-batch b n j) ∙ alive-renamed b n (suc k) us ((v || false) && not (same_name (named n 0) (named j 0))) h.1
alive-renamed b n k (Declare q ∷ us) v h = alive-renamed b n (suc k) us ((v || false) && true) h.1

no-clause : (v : Bool) (o : Option Clause) → or_else (change_if v None None) o ≡ o
no-clause true o = refl
no-clause false o = refl

named-renamed : (b n k : ℕ) (us : List Update) → clause_named (named b n) (stamped b k us) ≡ clause_named (named n 0) (drafted k us)
named-renamed b n k [] = refl
named-renamed b n k (First c ∷ us) = ap₂ (λ v o. or_else (change_if v (Some c) None) o) (same-batch b k n) (named-renamed b n (suc k) us)
named-renamed b n k (Last c ∷ us) = ap₂ (λ v o. or_else (change_if v (Some c) None) o) (same-batch b k n) (named-renamed b n (suc k) us)
named-renamed b n k (Erase y ∷ us) = no-clause (same_name (named b k) (named b n)) (clause_named (named b n) (stamped b (suc k) us)) ∙ named-renamed b n (suc k) us
named-renamed b n k (EraseOwn j ∷ us) = ap₂ (λ v o. or_else (change_if v None None) o) (same-batch b k n) (named-renamed b n (suc k) us)
named-renamed b n k (Declare q ∷ us) = ap₂ (λ v o. or_else (change_if v None None) o) (same-batch b k n) (named-renamed b n (suc k) us)

own-renamed : (b n : ℕ) (us : List Update) → AllErasedApart b us → clause_alive (named b n) (stamped b 0 us) ≡ clause_alive (named n 0) (drafted 0 us)
unfolding is_alive
own-renamed b n us h = ap₂ (λ v o. change_if v o None) (alive-renamed b n 0 us false h) (named-renamed b n 0 us)

abbrev told : Found → Option Clause
told (Found.Next x) = None
told (Found.Clause o) = o
told (Found.Alive v) = None
told (Found.Exists v) = None

pub own-clause : (b m n : ℕ) (us : List Update) (draft : Kept) → draft ≡ fold keep nothing (drafted 0 us) → AllErasedApart b (take m us) → clause_seen m (named n 0) draft ≡ clause_alive (named b n) (own_batch b m us)
own-clause b m n us draft is h =
    ap (clause_seen m (named n 0)) is ∙ ap told (look-is m (Query.Clause (named n 0)) (drafted 0 us) (rises us))
    ∙ ap (clause_alive (named n 0)) (first-drafted m us) ∙ sym (own-renamed b n (take m us) h)
