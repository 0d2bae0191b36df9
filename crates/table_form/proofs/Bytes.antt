-- Bytes that are put one after the other, each by a text of its own.
use Rattle.std.proofs.Common.{◌≡◌, ◌<◌, ◌≤◌, ◌+◌, ◌∙◌, ◌∷◌, ◌++◌, [], Bool, ℕ, List, true, false, ap, get_or, length, refl, sym, take, take_all, true≢false}
use Rattle.std.proofs.lemmas.List.{flat_map_more, take_more}
use Rattle.std.specs.List.{flat_map, list_any}
use Rattle.std.specs.Prelude.{◌||◌}

neither : (p q : Bool) → (p || q) ≡ false → (p ≡ false) × (q ≡ false)
neither true q h = absurd (true≢false h)
neither false q h = (refl, h)

-- bytes of which each is put as it is
pub bytes-plain : (f : ℕ → List ℕ) (p : ℕ → Bool) (xs : List ℕ) → ((b : ℕ) → p b ≡ false → f b ≡ b ∷ []) → list_any p xs ≡ false → flat_map f xs ≡ xs
bytes-plain f p [] each none = refl
bytes-plain f p (x ∷ xs) each none =
    let both = neither (p x) (list_any p xs) none in
    ap (λ (t : List ℕ). t ++ flat_map f xs) (each x both.0) ∙ ap (λ (t : List ℕ). x ∷ t) (bytes-plain f p xs each both.1)

-- one byte more
pub bytes-more : (f : ℕ → List ℕ) (xs : List ℕ) (i : ℕ) (start before after : List ℕ) → i < length xs → after ≡ before ++ f (get_or xs i 0) → before ≡ start ++ flat_map f (take i xs)
    → after ≡ start ++ flat_map f (take (i + 1) xs)
bytes-more f xs i start before after lt now so_far =
    now ∙ ap (λ (t : List ℕ). t ++ f (get_or xs i 0)) so_far ∙ flat_map_more f start (take i xs) (get_or xs i 0) ∙ ap (λ (t : List ℕ). start ++ flat_map f t) (sym (take_more xs i 0 lt))

-- all of them
pub bytes-end : (f : ℕ → List ℕ) (xs : List ℕ) (i : ℕ) (start out : List ℕ) → length xs ≤ i → out ≡ start ++ flat_map f (take i xs) → out ≡ start ++ flat_map f xs
bytes-end f xs i start out le so_far = so_far ∙ ap (λ (t : List ℕ). start ++ flat_map f t) (take_all i xs le)
