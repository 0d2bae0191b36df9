-- The value of an option, word by word.
use Rattle.std.proofs.Common.{◌≡◌, ◌<◌, ◌≤◌, ◌+◌, ◌∙◌, ◌∷◌, [], Bool, ℕ, List, true, false, ap, arith, bytes_eq, drop, drop-cons, get_or, length, map, refl, suc, sym, zero}
use Rattle.std.proofs.lemmas.List.{drop_all}
use Rattle.std.specs.List.{list_any, position_or_len}
use Rattle.std.specs.Prelude.{None, Option, Some, String, if◌then◌else◌, is_some, slice_get, string_bytes}
use Rattle.shown_words.specs.Columns.{value_in, value_of}

here : {Z : Type 0} (words : List (String Z)) (at : ℕ) (d : String Z) → at < length words → map string_bytes (drop at words) ≡ string_bytes (get_or words at d) ∷ map string_bytes (drop (at + 1) words)
here words at d lt = let next : suc at ≡ at + 1 = omega arith in ap (map string_bytes) (drop-cons words at d lt ∙ ap (λ n. get_or words at d ∷ drop n words) next)

get-first : {Z : Type 0} (words : List (String Z)) (n : ℕ) → slice_get (map string_bytes (drop n words)) 0 ≡ slice_get (map string_bytes words) n
get-first words zero = refl
get-first [] (suc n) = refl
get-first (w ∷ words) (suc n) = get-first words n

pub found-next : {Z : Type 0} (option : List ℕ) (words : List (String Z)) (at : ℕ) (d : String Z) (result : Option (List ℕ)) → at < length words → value_of option (map string_bytes words) ≡ value_of option (map string_bytes (drop at words))
    → bytes_eq (string_bytes (get_or words at d)) option ≡ true → result ≡ slice_get (map string_bytes words) (at + 1) → result ≡ value_of option (map string_bytes words)
unfolding value_of
found-next option words at d result lt so_far same is =
    is ∙ sym (so_far ∙ ap (value_of option) (here words at d lt)
    ∙ ap (λ b. if b then slice_get (map string_bytes (drop (at + 1) words)) 0 else (if is_some (value_in option (string_bytes (get_or words at d))) then value_in option (string_bytes (get_or words at d)) else value_of option (map string_bytes (drop (at + 1) words)))) same
    ∙ get-first words (at + 1))

pub found-in : {Z : Type 0} (option : List ℕ) (words : List (String Z)) (at : ℕ) (d : String Z) (value : List ℕ) → at < length words → value_of option (map string_bytes words) ≡ value_of option (map string_bytes (drop at words))
    → bytes_eq (string_bytes (get_or words at d)) option ≡ false → value_in option (string_bytes (get_or words at d)) ≡ Some value → Some value ≡ value_of option (map string_bytes words)
unfolding value_of
found-in option words at d value lt so_far other is =
    sym (so_far ∙ ap (value_of option) (here words at d lt)
    ∙ ap (λ b. if b then slice_get (map string_bytes (drop (at + 1) words)) 0 else (if is_some (value_in option (string_bytes (get_or words at d))) then value_in option (string_bytes (get_or words at d)) else value_of option (map string_bytes (drop (at + 1) words)))) other
    ∙ ap (λ (v : Option (List ℕ)). if is_some v then v else value_of option (map string_bytes (drop (at + 1) words))) is)

pub word-more : {Z : Type 0} (option : List ℕ) (words : List (String Z)) (at : ℕ) (d : String Z) → at < length words → value_of option (map string_bytes words) ≡ value_of option (map string_bytes (drop at words))
    → bytes_eq (string_bytes (get_or words at d)) option ≡ false → value_in option (string_bytes (get_or words at d)) ≡ None → value_of option (map string_bytes words) ≡ value_of option (map string_bytes (drop (at + 1) words))
unfolding value_of
word-more option words at d lt so_far other is =
    so_far ∙ ap (value_of option) (here words at d lt)
    ∙ ap (λ b. if b then slice_get (map string_bytes (drop (at + 1) words)) 0 else (if is_some (value_in option (string_bytes (get_or words at d))) then value_in option (string_bytes (get_or words at d)) else value_of option (map string_bytes (drop (at + 1) words)))) other
    ∙ ap (λ (v : Option (List ℕ)). if is_some v then v else value_of option (map string_bytes (drop (at + 1) words))) is

pub words-end : {Z : Type 0} (option : List ℕ) (words : List (String Z)) (at : ℕ) → length words ≤ at → value_of option (map string_bytes words) ≡ value_of option (map string_bytes (drop at words)) → None ≡ value_of option (map string_bytes words)
unfolding value_of
words-end option words at le so_far = sym (so_far ∙ ap (λ ws. value_of option (map string_bytes ws)) (drop_all at words le))

none-step : (p : ℕ → Bool) (x : ℕ) (xs : List ℕ) (b : Bool) → p x ≡ b → (position_or_len p xs ≡ length xs → list_any p xs ≡ false) → position_or_len p (x ∷ xs) ≡ length (x ∷ xs) → list_any p (x ∷ xs) ≡ false
none-step p x xs true is more h = let k = rw is at h in let never : ⊥ = omega (arith, k) in absurd never
none-step p x xs false is more h = let k = rw is at h in rw is (more (omega (arith, k)))

-- a byte that is nowhere
pub none-found : (p : ℕ → Bool) (xs : List ℕ) → position_or_len p xs ≡ length xs → list_any p xs ≡ false
none-found p [] is = refl
none-found p (x ∷ xs) is = none-step p x xs (p x) refl (none-found p xs) is
