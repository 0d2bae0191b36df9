-- The texts of words, by the words where they lie.
use Rattle.std.proofs.Common.{◌≡◌, ◌∷◌, ◌∙◌, [], ℕ, Bool, List, String, ap, drop, if◌then◌else◌, length, map, min, refl, string_bytes, sym, take}
use Rattle.std.proofs.lemmas.List.{drop-map, take-map, take_min}
use Rattle.std.specs.Prelude.{bytes_eq, slice_index_or}
use Rattle.std.specs.List.{list_any, position_or_len}
use Rattle.plan_spec.proofs.Present.{any-map}
use Rattle.answer_text.specs.Words.{texts}
use Rattle.input_hints.specs.Wrong.{front_of, given_places, is_decimals, is_equals, is_named, name_text}
use Rattle.input_hints.specs.declared.wrong.Name.{Name}

-- the place of what a function gives
position-map : {X Y : Type 0} (p : Y → Bool) (f : X → Y) (xs : List X) → position_or_len p (map f xs) ≡ position_or_len (λ x. p (f x)) xs
position-map p f [] = refl
position-map p f (x ∷ xs) = rw (position-map p f xs) refl

module _ {A : Type 0} (words : List (String A)) where
  pub any_named : (name : Name) → is_named name (texts words) ≡ list_any (λ word. bytes_eq (front_of (string_bytes word)) (name_text name)) words
  any_named name = any-map (λ word. bytes_eq (front_of word) (name_text name)) string_bytes words

  pub texts_taken : (count : ℕ) → take count (texts words) ≡ texts (take count words)
  texts_taken count = take-map string_bytes count words

  pub place_of_decimals : position_or_len is_decimals (texts words) ≡ position_or_len (λ word. is_decimals (string_bytes word)) words
  place_of_decimals = position-map is_decimals string_bytes words

  -- at most this many words from a place on
  pub texts_from : (at size : ℕ) → texts (take (min size (length (drop at words))) (drop at words)) ≡ take size (drop at (texts words))
  texts_from at size =
      let left = drop at words in
      ap (λ (ws : List (String A)). texts ws) (take_min size left) ∙ sym (take-map string_bytes size left) ∙ ap (λ (ws : List (List ℕ)). take size ws) (sym (drop-map string_bytes at words))

-- the places that words give, by where they are and by their size
pub places_are : (words : List (List ℕ)) (at size : ℕ) → at ≡ position_or_len is_decimals words → size ≡ (if list_any is_equals (slice_index_or words at []) then 1 else 2)
    → take size (drop at words) ≡ given_places words
places_are words at size place is =
    ap (λ (n : ℕ). take n (drop at words)) is ∙ ap (λ (k : ℕ). take (if list_any is_equals (slice_index_or words k []) then 1 else 2) (drop k words)) place
