-- Quoted items, byte by byte.
use Rattle.std.proofs.Common.{◌≡◌, ◌≤◌, ◌<◌, ◌+◌, ℕ, List, [], ◌∷◌, ◌++◌, length, drop, get_or, Some, None, refl, sym, ap, ◌∙◌, append-nil, drop_of_length-le}
use Rattle.pllex.specs.declared.token.Fault.TheVariants as faults
use Rattle.pllex.specs.declared.quoted.Quote.{Quote}
use Rattle.pllex.specs.declared.quoted.Within.{Within}
use Rattle.pllex.specs.declared.quoted.Onward.TheVariants as onwards
use Rattle.pllex.specs.declared.quoted.Quoted.{Quoted}
use Rattle.pllex.specs.declared.quoted.Quoted.TheVariants as ends
use Rattle.pllex.specs.Quoted.{quoted_turn, counted_turn, quoted_goes_on, quoted, value_step, next_mode, value_goes_on, quoted_value}
use Rattle.pllex.proofs.RunEnds.{drop_here}

module _ (quote : Quote) (start : ℕ) where
  quoted-cons : (mode : Within) (count place b : ℕ) (bytes : List ℕ) → quoted quote start mode count place (b ∷ bytes) ≡ quoted_goes_on (λ next more. quoted quote start next more (place + 1) bytes) (counted_turn quote start count place (quoted_turn quote start mode place b bytes))
  unfolding quoted
  quoted-cons mode count place b bytes = refl

  quoted-nil : (mode : Within) (count place : ℕ) → quoted quote start mode count place [] ≡ ends.Bad faults.OpenQuoted start
  unfolding quoted
  quoted-nil mode count place = refl

  quoted_here : (mode : Within) (count place : ℕ) (text : List ℕ) → place < length text →
      quoted quote start mode count place (drop place text)
      ≡ quoted_goes_on (λ next more. quoted quote start next more (place + 1) (drop (place + 1) text)) (counted_turn quote start count place (quoted_turn quote start mode place (get_or text place 0) (drop (place + 1) text)))
  quoted_here mode count place text h = ap (quoted quote start mode count place) (drop_here text place h) ∙ quoted-cons mode count place (get_or text place 0) (drop (place + 1) text)

  pub quoted_goes : (mode next : Within) (count more place : ℕ) (text : List ℕ) → place < length text → counted_turn quote start count place (quoted_turn quote start mode place (get_or text place 0) (drop (place + 1) text)) ≡ onwards.Goes next more →
      quoted quote start next more (place + 1) (drop (place + 1) text) ≡ quoted quote start mode count place (drop place text)
  quoted_goes mode next count more place text h e =
      sym (quoted_here mode count place text h ∙ ap (quoted_goes_on (λ next more. quoted quote start next more (place + 1) (drop (place + 1) text))) e)

  pub quoted_ends : (mode : Within) (end : Quoted) (count place : ℕ) (text : List ℕ) → place < length text → counted_turn quote start count place (quoted_turn quote start mode place (get_or text place 0) (drop (place + 1) text)) ≡ onwards.Ends end →
      quoted quote start mode count place (drop place text) ≡ end
  quoted_ends mode end count place text h e =
      quoted_here mode count place text h ∙ ap (quoted_goes_on (λ next more. quoted quote start next more (place + 1) (drop (place + 1) text))) e

  pub quoted_over : (mode : Within) (count place : ℕ) (text : List ℕ) → length text ≤ place → quoted quote start mode count place (drop place text) ≡ ends.Bad faults.OpenQuoted start
  quoted_over mode count place text h = ap (quoted quote start mode count place) (drop_of_length-le text h) ∙ quoted-nil mode count place

  value-cons : (mode : Within) (place b : ℕ) (bytes : List ℕ) →
      quoted_value quote start mode place (b ∷ bytes)
      ≡ value_step (b ∷ bytes) (quoted_turn quote start mode place b bytes) ++ value_goes_on (λ next. quoted_value quote start next (place + 1) bytes) (next_mode (quoted_turn quote start mode place b bytes))
  unfolding quoted_value
  value-cons mode place b bytes = refl

  value-nil : (mode : Within) (place : ℕ) → quoted_value quote start mode place [] ≡ []
  unfolding quoted_value
  value-nil mode place = refl

  value_here : (mode : Within) (place : ℕ) (text : List ℕ) → place < length text →
      quoted_value quote start mode place (drop place text)
      ≡ value_step (drop place text) (quoted_turn quote start mode place (get_or text place 0) (drop (place + 1) text))
      ++ value_goes_on (λ next. quoted_value quote start next (place + 1) (drop (place + 1) text)) (next_mode (quoted_turn quote start mode place (get_or text place 0) (drop (place + 1) text)))
  value_here mode place text h =
      ap (quoted_value quote start mode place) (drop_here text place h) ∙ value-cons mode place (get_or text place 0) (drop (place + 1) text)
      ∙ ap (λ l. value_step l (quoted_turn quote start mode place (get_or text place 0) (drop (place + 1) text))
      ++ value_goes_on (λ next. quoted_value quote start next (place + 1) (drop (place + 1) text)) (next_mode (quoted_turn quote start mode place (get_or text place 0) (drop (place + 1) text)))) (sym (drop_here text place h))

  pub value_goes : (mode next : Within) (place : ℕ) (text : List ℕ) → place < length text → next_mode (quoted_turn quote start mode place (get_or text place 0) (drop (place + 1) text)) ≡ Some next →
      value_step (drop place text) (quoted_turn quote start mode place (get_or text place 0) (drop (place + 1) text)) ++ quoted_value quote start next (place + 1) (drop (place + 1) text) ≡ quoted_value quote start mode place (drop place text)
  value_goes mode next place text h e =
      sym (value_here mode place text h ∙ ap (λ o. value_step (drop place text) (quoted_turn quote start mode place (get_or text place 0) (drop (place + 1) text)) ++ value_goes_on (λ n. quoted_value quote start n (place + 1) (drop (place + 1) text)) o) e)

  pub value_stops : (mode : Within) (place : ℕ) (text : List ℕ) → place < length text → next_mode (quoted_turn quote start mode place (get_or text place 0) (drop (place + 1) text)) ≡ None →
      value_step (drop place text) (quoted_turn quote start mode place (get_or text place 0) (drop (place + 1) text)) ≡ quoted_value quote start mode place (drop place text)
  value_stops mode place text h e =
      sym (value_here mode place text h ∙ ap (λ o. value_step (drop place text) (quoted_turn quote start mode place (get_or text place 0) (drop (place + 1) text)) ++ value_goes_on (λ n. quoted_value quote start n (place + 1) (drop (place + 1) text)) o) e ∙ append-nil (value_step (drop place text) (quoted_turn quote start mode place (get_or text place 0) (drop (place + 1) text))))

  pub value_over : (mode : Within) (place : ℕ) (text : List ℕ) → length text ≤ place → quoted_value quote start mode place (drop place text) ≡ []
  value_over mode place text h = ap (quoted_value quote start mode place) (drop_of_length-le text h) ∙ value-nil mode place
