-- Where a text is cut at the first byte that passes a test.
use Rattle.std.proofs.Common.{◌≡◌, ◌∙◌, ◌⊎◌, inl, inr, ℕ, suc, ◌+◌, ◌-◌, ◌<◌, ◌≤◌, Bool, true, false, cond, List, [], ◌∷◌, ◌++◌, map, set, length, length-append, length-drop, append_assoc, take, drop, Option, None, Some, nat_lt, refl, ap, sym, subst, arith}
use Rattle.std.proofs.lemmas.Bool.Decides.{nat_tests}
use Rattle.std.proofs.lemmas.List.Elements.{All-cons, All-nil}
use Rattle.std.proofs.lemmas.List.Splits.{length-slice_split, slice_split_first, slice_split_none}
use Rattle.std.specs.List.{All, after_first, list_any, position, position_or_len, slice_split}
use Rattle.std.specs.Prelude.{◌||◌, if◌then◌else◌}
use Rattle.std.proofs.Math.Seq.{take-suc-set}
use Rattle.std.proofs.lemmas.List.{length-map, length-take, map-append}
use Rattle.shell_lines.specs.Words.{behind_word, first_word, is_space, words_of}

module _ {X : Type 0} (p : X → Bool) where
  -- a byte passes, or none does
  abbrev IsCut : List X → Type 0
  IsCut xs = ((position_or_len p xs < length xs) × (list_any p xs ≡ true)) ⊎ ((position_or_len p xs ≡ length xs) × (list_any p xs ≡ false) × All (λ x. p x ≡ false) xs)

  cut-here : (x : X) (xs : List X) (b : Bool) → p x ≡ b → IsCut xs → IsCut (x ∷ xs)
  cut-here x xs true e rest = inl (rw e (omega arith), rw e refl)
  cut-here x xs false e (inl r) = inl (rw e (omega (arith, r.0)), rw e r.1)
  cut-here x xs false e (inr r) = inr (rw e (omega (arith, r.0)), rw e r.1, All-cons (λ y. p y ≡ false) x xs e r.2)

  cuts : (xs : List X) → IsCut xs
  cuts [] = inr (refl, refl, All-nil (λ x. p x ≡ false))
  cuts (x ∷ xs) = cut-here x xs (p x) refl (cuts xs)

  -- what a place that was found is
  pub found-at : (xs : List X) (at : ℕ) → Some at ≡ position p xs → (at ≡ position_or_len p xs) × (position_or_len p xs < length xs) × (list_any p xs ≡ true)
  found-at xs at e = by (cuts xs)
    where
      by : IsCut xs → (at ≡ position_or_len p xs) × (position_or_len p xs < length xs) × (list_any p xs ≡ true)
      by (inl r) =
          let lt : nat_lt (position_or_len p xs) (length xs) ≡ true = let l = r.0 in grind (arith, nat_tests) in
          let is : Some at ≡ Some (position_or_len p xs) = e ∙ ap (λ (b : Bool). cond b (Some (position_or_len p xs)) None) lt in
          let same : at ≡ position_or_len p xs = cc in
          (same, r.0, r.1)
      by (inr r) =
          let ge : nat_lt (position_or_len p xs) (length xs) ≡ false = let l = r.0 in grind (arith, nat_tests) in
          let no : Some at ≡ None = e ∙ ap (λ (b : Bool). cond b (Some (position_or_len p xs)) None) ge in
          absurd (cc)

  -- what it means that there is none
  pub not-found : (xs : List X) → None ≡ position p xs → (position_or_len p xs ≡ length xs) × (list_any p xs ≡ false) × All (λ x. p x ≡ false) xs
  not-found xs e = by (cuts xs)
    where
      by : IsCut xs → (position_or_len p xs ≡ length xs) × (list_any p xs ≡ false) × All (λ x. p x ≡ false) xs
      by (inl r) =
          let lt : nat_lt (position_or_len p xs) (length xs) ≡ true = let l = r.0 in grind (arith, nat_tests) in
          let no : None ≡ Some (position_or_len p xs) = e ∙ ap (λ (b : Bool). cond b (Some (position_or_len p xs)) None) lt in
          absurd (cc)
      by (inr r) = r

take-all : (xs : List ℕ) → take (length xs) xs ≡ xs
take-all [] = refl
take-all (x ∷ xs) = ap (λ (l : List ℕ). x ∷ l) (take-all xs)

-- the rest of a list, as it is cut off by a range
pub take-rest : (n : ℕ) (xs : List ℕ) → take (length xs - n) (drop n xs) ≡ drop n xs
take-rest n xs = ap (λ (k : ℕ). take k (drop n xs)) (sym (length-drop n xs)) ∙ take-all (drop n xs)

-- a text with a space
pub cut-first : (text : List ℕ) (at : ℕ) → Some at ≡ position is_space text → take at text ≡ first_word text
cut-first text at e = ap (λ (n : ℕ). take n text) (found-at is_space text at e).0

pub cut-behind : (text : List ℕ) (at : ℕ) → Some at ≡ position is_space text → Some (take (length text - (at + 1)) (drop (at + 1) text)) ≡ behind_word text
cut-behind text at e =
    let f = found-at is_space text at e in
    ap (λ (l : List ℕ). Some l) (take-rest (at + 1) text) ∙ (ap (λ (n : ℕ). Some (drop (n + 1) text)) f.0 ∙ sym (ap (λ (b : Bool). if b then Some (after_first is_space text) else None) f.2))

-- one without
pub whole-first : (text : List ℕ) → None ≡ position is_space text → text ≡ first_word text
whole-first text e = sym (ap (λ (n : ℕ). take n text) (not-found is_space text e).0 ∙ take-all text)

pub whole-behind : (text : List ℕ) → None ≡ position is_space text → None ≡ behind_word text
whole-behind text e = sym (ap (λ (b : Bool). if b then Some (after_first is_space text) else None) (not-found is_space text e).1)

-- one more word of a line
pub words-more : {A B : Type 0} (f : A → B) (ws ys : List A) (n : ℕ) (x : A) → n < length ws → map f (take n ws) ≡ map f ys → map f (take (n + 1) (set ws n x)) ≡ map f (ys ++ x ∷ [])
words-more f ws ys n x lt e =
    let next : n + 1 ≡ suc n = omega arith in
    ap (λ (k : ℕ). map f (take k (set ws n x))) next ∙ (ap (map f) (take-suc-set ws n x lt) ∙ (map-append f (take n ws) (x ∷ []) ∙ (ap (λ l. l ++ f x ∷ []) e ∙ sym (map-append f ys (x ∷ [])))))

-- ---- the words of a line, one after another
-- the words that are left
abbrev pub pieces : Option (List ℕ) → List (List ℕ)
pieces None = []
pieces (Some text) = slice_split is_space text

-- how much is left
abbrev pub room : Option (List ℕ) → ℕ
room None = 0
room (Some text) = length text + 1

-- a text is its first word, and the words behind it
pub split-cut : (text : List ℕ) → slice_split is_space text ≡ first_word text ∷ pieces (behind_word text)
split-cut text = by (cuts is_space text)
  where
    by : IsCut is_space text → slice_split is_space text ≡ first_word text ∷ pieces (behind_word text)
    by (inl r) = slice_split_first is_space text 0 r.0 ∙ sym (ap (λ (b : Bool). first_word text ∷ pieces (if b then Some (after_first is_space text) else None)) r.1)
    by (inr r) =
        slice_split_none is_space text r.2 ∙ (ap (λ (l : List ℕ). l ∷ []) (sym (ap (λ (n : ℕ). take n text) r.0 ∙ take-all text))
        ∙ sym (ap (λ (b : Bool). first_word text ∷ pieces (if b then Some (after_first is_space text) else None)) r.1))

-- less is left behind it
pub room-less : (text : List ℕ) (behind : Option (List ℕ)) → behind ≡ behind_word text → room behind < length text + 1
room-less text behind e = subst (λ (o : Option (List ℕ)). room o < length text + 1) (sym e) (by (cuts is_space text))
  where
    by : IsCut is_space text → room (behind_word text) < length text + 1
    by (inl r) =
        let less : length (after_first is_space text) + 1 < length text + 1 = omega (arith, length-drop (position_or_len is_space text + 1) text, r.0) in
        subst (λ (b : Bool). room (if b then Some (after_first is_space text) else None) < length text + 1) (sym r.1) less
    by (inr r) =
        let less : 0 < length text + 1 = omega arith in
        subst (λ (b : Bool). room (if b then Some (after_first is_space text) else None) < length text + 1) (sym r.1) less

-- one more word
pub words-next : {A : Type 0} (f : A → List ℕ) (ws : List A) (n : ℕ) (x : A) (text line : List ℕ) (behind : Option (List ℕ)) → n < length ws → f x ≡ first_word text → behind ≡ behind_word text
    → map f (take n ws) ++ slice_split is_space text ≡ words_of line → map f (take (n + 1) (set ws n x)) ++ pieces behind ≡ words_of line
words-next f ws n x text line behind lt first rest so_far =
    let front = words-more f ws (take n ws) n x lt refl ∙ map-append f (take n ws) (x ∷ []) in
    let back : f x ∷ pieces behind ≡ slice_split is_space text = ap (λ (w : List ℕ). w ∷ pieces behind) first ∙ (ap (λ (o : Option (List ℕ)). first_word text ∷ pieces o) rest ∙ sym (split-cut text)) in
    ap (λ l. l ++ pieces behind) front ∙ (append_assoc (map f (take n ws)) (f x ∷ []) (pieces behind) ∙ (ap (λ l. map f (take n ws) ++ l) back ∙ so_far))

-- with five words behind and more to come there are more than five
pub more-than : {A : Type 0} (f : A → List ℕ) (ws : List A) (n : ℕ) (text line : List ℕ) → n ≡ 5 → length ws ≡ 5 → map f (take n ws) ++ slice_split is_space text ≡ words_of line → 5 < length (words_of line)
more-than f ws n text line five long so_far =
    let all = sym (ap length so_far) ∙ length-append (map f (take n ws)) (slice_split is_space text) in
    omega (arith, all, length-map (take n ws) f, length-take n ws, length-slice_split is_space text, five, long)
