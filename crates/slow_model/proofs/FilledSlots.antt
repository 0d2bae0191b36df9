-- The slots of a state, as they are filled item by item.
use Rattle.std.proofs.Common.{◌≡◌, ◌<◌, ◌+◌, ◌-◌, ◌∙◌, ◌++◌, ◌∷◌, [], ℕ, List, ap, append_assoc, arith, get_or, length, map, refl, replicate, set, suc, sym, take}
use Rattle.std.proofs.lemmas.List.{length-map, length-take, map_more, set_at, take_all}
use Rattle.par_model.specs.Aggregate.{no_values}
use Rattle.par_model.specs.declared.plan.Item.{Item}
use Rattle.par_model.specs.declared.state.SlotState.{SlotState}

module _ (slot : Item → SlotState) (items : List Item) (at : ℕ) where
  -- the slots of the first items, and slots of no values
  abbrev pub filled : List SlotState
  filled = map slot (take at items) ++ replicate (8 - at) no_values

  -- one slot more
  pub slots_next : (d : Item) (next : SlotState) → at < length items → at < 8 → next ≡ slot (get_or items at d)
      → set filled at next ≡ map slot (take (at + 1) items) ++ replicate (8 - (at + 1)) no_values
  slots_next d next within room is =
      let front = map slot (take at items) in
      let rest = replicate (8 - (at + 1)) no_values in
      let left : 8 - at ≡ suc (8 - (at + 1)) = omega arith in
      let long : length front ≡ at = length-map (take at items) slot ∙ omega (arith, length-take at items) in
      ap (λ n. set (front ++ replicate n no_values) at next) left
      ∙ set_at front no_values rest next at long
      ∙ sym (append_assoc front (next ∷ []) rest)
      ∙ ap (λ s. (front ++ s ∷ []) ++ rest) is
      ∙ ap (λ l. l ++ rest) (sym (map_more slot items at d within))

  -- all of them
  pub slots_end : length items ≡ at → filled ≡ map slot items ++ replicate (8 - length items) no_values
  slots_end long = rw (sym long) (rw (take_all (length items) items (omega arith)) refl)
