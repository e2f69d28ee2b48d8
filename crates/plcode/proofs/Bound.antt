-- What a converted goal is where terms take the places of its variables.
use Rattle.std.proofs.Common.{◌≡◌, ℕ, Bool, true, false, List, [], ◌∷◌, length, map, Option, Some, None, refl, ap, ◌∙◌, codes, bytes_eq, if◌then◌else◌}
use Rattle.std.proofs.lemmas.List.{length-map}
use Rattle.plterm.specs.Tree.{Tree, var, int, atom, compound, Trees, none, more, list_of}
use Rattle.plterm.specs.declared.indicator.Indicator.{Indicator}
use Rattle.plsubst.specs.Subst.{bind, bind_all}
use Rattle.plclause.specs.Conversion.{is_control}
use Rattle.plclause.specs.Indicators.{indicator}
use Rattle.plnames.specs.Names.{kind_of}
use Rattle.plnames.specs.declared.kind.Kind.{Kind}
use Rattle.plnames.specs.declared.kind.Kind.TheVariants as kinds
use Rattle.plnames.specs.declared.kind.Control.{Control}
use Rattle.plnames.specs.declared.kind.Control.TheVariants as controls
use Rattle.plsearch.specs.Forms.{Either, IfThenElse, either, construct, form_by, form, Form, True, False, Both, Not, Once, Catching, FindAll, Within, Throwing, CallWith, Cut, Halting, Adding, Retrieving, Retracting, RetractingAll, Declaring, BuiltIn, Call, NoGoal}
use Rattle.plcode.specs.Converted.{IsConverted}
use Rattle.plcode.proofs.Goals.{holder_named}
use Rattle.plcode.proofs.Converted.{both_converted}

-- a form with what is put for variables in each of its terms; the procedure that is called stays
abbrev pub bound_form : (ℕ → Tree) → Form → Form
bound_form σ True = True
bound_form σ False = False
bound_form σ (Both a b) = Both (bind σ a) (bind σ b)
bound_form σ (Either a b) = Either (bind σ a) (bind σ b)
bound_form σ (IfThenElse c a b) = IfThenElse (bind σ c) (bind σ a) (bind σ b)
bound_form σ (Not g) = Not (bind σ g)
bound_form σ (Once g) = Once (bind σ g)
bound_form σ (Catching g c r) = Catching (bind σ g) (bind σ c) (bind σ r)
bound_form σ (FindAll t g l) = FindAll (bind σ t) (bind σ g) (bind σ l)
bound_form σ (Within i g) = Within i (bind σ g)
bound_form σ (Throwing b) = Throwing (bind σ b)
bound_form σ (CallWith g us) = CallWith (bind σ g) (map (bind σ) us)
bound_form σ Cut = Cut
bound_form σ (Halting i) = Halting (bind σ i)
bound_form σ (Adding side c) = Adding side (bind σ c)
bound_form σ (Retrieving h b) = Retrieving (bind σ h) (bind σ b)
bound_form σ (Retracting c) = Retracting (bind σ c)
bound_form σ (RetractingAll h) = RetractingAll (bind σ h)
bound_form σ (Declaring ps) = Declaring (bind σ ps)
bound_form σ (BuiltIn b us) = BuiltIn b (map (bind σ) us)
bound_form σ (Call p) = Call p
bound_form σ NoGoal = NoGoal

-- ---- arguments

list_of-bind_all : (σ : ℕ → Tree) (ts : Trees) → list_of (bind_all σ ts) ≡ map (bind σ) (list_of ts)
unfolding bind
list_of-bind_all σ none = refl
list_of-bind_all σ (more t ts) = ap (λ us. bind σ t ∷ us) (list_of-bind_all σ ts)

-- ---- forms

module _ (σ : ℕ → Tree) where
  -- what is no variable decides whether `;` has a condition
  either_bound : (a b : Tree) → IsConverted a → either (bind σ a) (bind σ b) ≡ bound_form σ (either a b)
  unfolding bind
  either_bound (var x) b h = absurd (cc)
  either_bound (int i) b h = refl
  either_bound (atom f) b h = refl
  either_bound (compound f none) b h = refl
  either_bound (compound f (more c none)) b h = refl
  either_bound (compound f (more c (more t none))) b h = go (bytes_eq f (codes "->"))
    where
      go : (is : Bool) → (if is then IfThenElse (bind σ c) (bind σ t) (bind σ b) else Either (compound f (more (bind σ c) (more (bind σ t) none))) (bind σ b))
          ≡ bound_form σ (if is then IfThenElse c t b else Either (compound f (more c (more t none))) b)
      go true = refl
      go false = refl
  either_bound (compound f (more c (more t (more u us)))) b h = refl

  -- the first goal of `;`
  abbrev FirstConverted : Control → List Tree → Type 0
  FirstConverted controls.Or (a ∷ b ∷ []) = IsConverted a
  FirstConverted k us = Unit {0}

  construct_bound : (k : Control) (us : List Tree) → FirstConverted k us → construct k (map (bind σ) us) ≡ bound_form σ (construct k us)
  unfolding bind
  construct_bound controls.True [] h = refl
  construct_bound controls.True (u ∷ us) h = refl
  construct_bound controls.Fail [] h = refl
  construct_bound controls.Fail (u ∷ us) h = refl
  construct_bound controls.Cut [] h = refl
  construct_bound controls.Cut (u ∷ us) h = refl
  construct_bound controls.And [] h = refl
  construct_bound controls.And (a ∷ []) h = refl
  construct_bound controls.And (a ∷ b ∷ []) h = refl
  construct_bound controls.And (a ∷ b ∷ u ∷ us) h = refl
  construct_bound controls.Or [] h = refl
  construct_bound controls.Or (a ∷ []) h = refl
  construct_bound controls.Or (a ∷ b ∷ []) h = either_bound a b h
  construct_bound controls.Or (a ∷ b ∷ u ∷ us) h = refl
  construct_bound controls.IfThen [] h = refl
  construct_bound controls.IfThen (a ∷ []) h = refl
  construct_bound controls.IfThen (a ∷ b ∷ []) h = refl
  construct_bound controls.IfThen (a ∷ b ∷ u ∷ us) h = refl
  construct_bound controls.Not [] h = refl
  construct_bound controls.Not (a ∷ []) h = refl
  construct_bound controls.Not (a ∷ u ∷ us) h = refl
  construct_bound controls.Once [] h = refl
  construct_bound controls.Once (a ∷ []) h = refl
  construct_bound controls.Once (a ∷ u ∷ us) h = refl
  construct_bound controls.Call [] h = refl
  construct_bound controls.Call (u ∷ us) h = refl
  construct_bound controls.Catch [] h = refl
  construct_bound controls.Catch (a ∷ []) h = refl
  construct_bound controls.Catch (a ∷ b ∷ []) h = refl
  construct_bound controls.Catch (a ∷ b ∷ c ∷ []) h = refl
  construct_bound controls.Catch (a ∷ b ∷ c ∷ u ∷ us) h = refl
  construct_bound controls.FindAll [] h = refl
  construct_bound controls.FindAll (a ∷ []) h = refl
  construct_bound controls.FindAll (a ∷ b ∷ []) h = refl
  construct_bound controls.FindAll (a ∷ b ∷ c ∷ []) h = refl
  construct_bound controls.FindAll (a ∷ b ∷ c ∷ u ∷ us) h = refl
  construct_bound controls.Transaction [] h = refl
  construct_bound controls.Transaction (a ∷ []) h = refl
  construct_bound controls.Transaction (a ∷ u ∷ us) h = refl
  construct_bound controls.Snapshot [] h = refl
  construct_bound controls.Snapshot (a ∷ []) h = refl
  construct_bound controls.Snapshot (a ∷ u ∷ us) h = refl
  construct_bound controls.Throw [] h = refl
  construct_bound controls.Throw (a ∷ []) h = refl
  construct_bound controls.Throw (a ∷ u ∷ us) h = refl
  construct_bound (controls.Add side) [] h = refl
  construct_bound (controls.Add side) (a ∷ []) h = refl
  construct_bound (controls.Add side) (a ∷ u ∷ us) h = refl
  construct_bound controls.Retrieve [] h = refl
  construct_bound controls.Retrieve (a ∷ []) h = refl
  construct_bound controls.Retrieve (a ∷ b ∷ []) h = refl
  construct_bound controls.Retrieve (a ∷ b ∷ u ∷ us) h = refl
  construct_bound controls.Retract [] h = refl
  construct_bound controls.Retract (a ∷ []) h = refl
  construct_bound controls.Retract (a ∷ u ∷ us) h = refl
  construct_bound controls.RetractAll [] h = refl
  construct_bound controls.RetractAll (a ∷ []) h = refl
  construct_bound controls.RetractAll (a ∷ u ∷ us) h = refl
  construct_bound controls.Declare [] h = refl
  construct_bound controls.Declare (a ∷ []) h = refl
  construct_bound controls.Declare (a ∷ u ∷ us) h = refl
  construct_bound controls.Halt [] h = refl
  construct_bound controls.Halt (a ∷ []) h = refl
  construct_bound controls.Halt (a ∷ u ∷ us) h = refl

  abbrev Needs : Option Kind → List Tree → Type 0
  Needs (Some (kinds.Control k)) us = FirstConverted k us
  Needs (Some (kinds.BuiltIn b)) us = Unit {0}
  Needs None us = Unit {0}

  form_by_bound : (kind : Option Kind) (p : Indicator) (us : List Tree) → Needs kind us → form_by kind p (map (bind σ) us) ≡ bound_form σ (form_by kind p us)
  form_by_bound (Some (kinds.Control k)) p us h = construct_bound k us h
  form_by_bound (Some (kinds.BuiltIn b)) p us h = refl
  form_by_bound None p us h = refl

  first_converted : (k : Control) (f : List ℕ) (ts : Trees) → IsConverted (compound f ts) → kind_of f (length (list_of ts)) ≡ Some (kinds.Control k) → FirstConverted k (list_of ts)
  first_converted controls.Or f none h e = tt
  first_converted controls.Or f (more a none) h e = tt
  first_converted controls.Or f (more a (more b (more u us))) h e = tt
  first_converted controls.Or f (more a (more b none)) h e =
      let name : f ≡ codes ";" = holder_named f 2 (kinds.Control controls.Or) (codes ";") refl e in
      let is : is_control f 2 ≡ true = ap (λ s. is_control s 2) name in
      (both_converted f a b is h).0
  first_converted k f ts h e = tt

  needs : (f : List ℕ) (ts : Trees) → IsConverted (compound f ts) → (kind : Option Kind) → kind_of f (length (list_of ts)) ≡ kind → Needs kind (list_of ts)
  needs f ts h (Some (kinds.Control k)) e = first_converted k f ts h e
  needs f ts h (Some (kinds.BuiltIn b)) e = tt
  needs f ts h None e = tt

  -- a converted goal is what it was, over the terms that stand for its variables
  pub form_bound : (g : Tree) → IsConverted g → form (bind σ g) ≡ bound_form σ (form g)
  unfolding bind
  form_bound (var x) h = absurd (cc)
  form_bound (int i) h = refl
  form_bound (atom f) h = form_by_bound (kind_of f 0) (indicator (atom f)) [] (needs_none (kind_of f 0))
    where
      needs_none : (kind : Option Kind) → Needs kind []
      needs_none (Some (kinds.Control k)) = none_first k
        where
          none_first : (k : Control) → FirstConverted k []
          none_first controls.Or = tt
          none_first k = tt
      needs_none (Some (kinds.BuiltIn b)) = tt
      needs_none None = tt
  form_bound (compound f ts) h =
      let us = list_of ts in
      let named : ℕ → Indicator = λ n. record { name = f; arity = n } in
      ap (λ vs. form_by (kind_of f (length vs)) (named (length vs)) vs) (list_of-bind_all σ ts)
      ∙ ap (λ n. form_by (kind_of f n) (named n) (map (bind σ) us)) (length-map us (bind σ))
      ∙ form_by_bound (kind_of f (length us)) (named (length us)) us (needs f ts h (kind_of f (length us)) refl)
