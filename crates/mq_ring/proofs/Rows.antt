-- Rows of cells, and the slots of a row that a token has out.
use Rattle.std.proofs.Common.{◌≡◌, ℕ, zero, suc, ◌+◌, ◌*◌, ◌/◌, ◌%◌, ◌<◌, ◌≤◌, List, [], ◌∷◌, ◌++◌, length, refl, sym, ap, subst, ◌∙◌, arith, append_assoc, length-append, mod-lt}
use Rattle.std.proofs.Math.Nat.{mod-add-div', mul-add-mod_self_right, mod-eq_of_lt}
use Rattle.std.specs.List.{AllByRecursion}
use Rattle.atomic_table.specs.Table.{Me, rest, turned}
use Rattle.rel_pointer.specs.Bytes.{word_count, packed}
use Rattle.ring_rule.specs.Ring.{Ring, cell_of, place_of}
use Rattle.region_rule.specs.Places.{Token, row, row_out, values}
use Rattle.region_rule.specs.View.{View}
use Rattle.region_rule.proofs.Rows.{AreNext, row_values}
use Rattle.region_words.proofs.Seats.{Mine}
use Rattle.mq_ring.specs.Bursts.{words_from}
use Rattle.mq_ring.proofs.Runs.{append_nothing}

-- a remainder grows with its number as long as it stays below the divisor
mod_more : (a i m : ℕ) → a % m + i < m → (a + i) % m ≡ a % m + i
mod_more a i m low =
    let e : a ≡ a / m * m + a % m = sym (div_first a m) in
    let f : a + i ≡ a / m * m + (a % m + i) = omega arith in
    ap (λ (n : ℕ). n % m) f ∙ mul-add-mod_self_right (a / m) m (a % m + i) ∙ mod-eq_of_lt low
  where
    div_first : (a m : ℕ) → a / m * m + a % m ≡ a
    div_first a m = let e = mod-add-div' a m in omega arith

-- the cells behind a word's, up to the ring's end, are those of the words after it
pub are_next : (r : Ring) (n k words : ℕ) → k ≡ place_of r n → cell_of r n + words ≤ r.size → AreNext r n k words
are_next r n k words is low i inside =
    let a : r.start + (n + i) ≡ (r.start + n) + i = omega arith in
    let b : cell_of r (n + i) ≡ cell_of r n + i = ap (λ (z : ℕ). z % r.size) a ∙ mod_more (r.start + n) i r.size (omega arith) in
    omega arith

pub row_more : (at x : ℕ) (xs : List ℕ) → row at xs ++ ((at + length xs, x) ∷ []) ≡ row at (xs ++ (x ∷ []))
row_more at x [] = let e : at + 0 ≡ at = omega arith in ap (λ (n : ℕ). (n, x) ∷ []) e
row_more at x (y ∷ ys) =
    let e : at + suc (length ys) ≡ at + 1 + length ys = omega arith in
    ap (λ (l : List (ℕ × ℕ)). (at, y) ∷ l) (ap (λ (n : ℕ). row (at + 1) ys ++ ((n, x) ∷ [])) e ∙ row_more (at + 1) x ys)

pub row_same : (at : ℕ) (xs ys : List ℕ) → row at xs ≡ row at ys → xs ≡ ys
row_same at xs ys e = sym (row_values at xs) ∙ ap values e ∙ row_values at ys

-- the slot in front of a row
pub has_front : (me : Mine) (t : Token) (at k words : ℕ) (ys : List ℕ) (back : List (ℕ × ℕ)) → length ys + k ≡ words → k < words → me ≡ (t, row (at + k) ys ++ back) → (x : ℕ) × (me.1 ≡ (at + k, x) ∷ rest me.1)
has_front me t at k words [] back count low e = absurd (omega arith)
has_front me t at k words (y ∷ ys) back count low e = (y, subst (λ (z : Mine). z.1 ≡ (at + k, y) ∷ rest z.1) (sym e) refl)

place_next : (at k : ℕ) → at + k + 1 ≡ at + (k + 1)
place_next at k = omega arith

-- after a store in the slot in front
pub filled_more : (me after : Mine) (t : Token) (at k words word : ℕ) (xs ys : List ℕ) → length xs ≡ k → length ys + k ≡ words → k < words → me ≡ (t, row (at + k) ys ++ row at xs) → after ≡ (me.0, rest me.1 ++ ((at + k, word) ∷ []))
    → (zs : List ℕ) × (length zs + (k + 1) ≡ words) × (after ≡ (t, row (at + (k + 1)) zs ++ row at (xs ++ (word ∷ []))))
filled_more me after t at k words word xs [] long count low e told = absurd (omega arith)
filled_more me after t at k words word xs (y ∷ ys) long count low e told =
    let back : row at xs ++ ((at + k, word) ∷ []) ≡ row at (xs ++ (word ∷ [])) = ap (λ (n : ℕ). row at xs ++ ((at + n, word) ∷ [])) (sym long) ∙ row_more at word xs in (
      ys,
      omega arith,
      told
          ∙ ap (λ (z : Mine). (z.0, rest z.1 ++ ((at + k, word) ∷ []))) e
          ∙ ap (λ (l : List (ℕ × ℕ)). (t, l)) (append_assoc (row (at + k + 1) ys) (row at xs) ((at + k, word) ∷ []) ∙ ap (λ (l : List (ℕ × ℕ)). row (at + k + 1) ys ++ l) back ∙ ap (λ (n : ℕ). row n ys ++ row at (xs ++ (word ∷ []))) (place_next at k)),
    )

head_value : (x y a b : ℕ) (l m : List (ℕ × ℕ)) → (a, x) ∷ l ≡ (b, y) ∷ m → x ≡ y
head_value x y a b l m e = ap value e
  where
    value : List (ℕ × ℕ) → ℕ
    value [] = 0
    value (c ∷ cs) = c.1

-- after a load of the slot in front
pub read_more : (me after : Mine) (t : Token) (at k words word : ℕ) (xs ys : List ℕ) → length xs ≡ k → length ys + k ≡ words → k < words → me ≡ (t, row (at + k) ys ++ row at xs) → me.1 ≡ (at + k, word) ∷ rest me.1
    → after ≡ (me.0, turned me.1)
    → (zs : List ℕ) × (length zs + (k + 1) ≡ words) × (after ≡ (t, row (at + (k + 1)) zs ++ row at (xs ++ (word ∷ [])))) × (xs ++ ys ≡ (xs ++ (word ∷ [])) ++ zs)
read_more me after t at k words word xs [] long count low e found told = absurd (omega arith)
read_more me after t at k words word xs (y ∷ ys) long count low e found told =
    let is : word ≡ y = head_value word y (at + k) (at + k) (rest me.1) (row (at + k + 1) ys ++ row at xs) (sym found ∙ ap (λ (z : Mine). z.1) e) in
    let back : row at xs ++ ((at + k, y) ∷ []) ≡ row at (xs ++ (y ∷ [])) = ap (λ (n : ℕ). row at xs ++ ((at + n, y) ∷ [])) (sym long) ∙ row_more at y xs in
    let all : after ≡ (t, row (at + (k + 1)) ys ++ row at (xs ++ (y ∷ []))) = told
    ∙ ap (λ (z : Mine). (z.0, turned z.1)) e
    ∙ ap (λ (l : List (ℕ × ℕ)). (t, l)) (append_assoc (row (at + k + 1) ys) (row at xs) ((at + k, y) ∷ []) ∙ ap (λ (l : List (ℕ × ℕ)). row (at + k + 1) ys ++ l) back ∙ ap (λ (n : ℕ). row n ys ++ row at (xs ++ (y ∷ []))) (place_next at k)) in (
      ys,
      omega arith,
      all ∙ ap (λ (n : ℕ). (t, row (at + (k + 1)) ys ++ row at (xs ++ (n ∷ [])))) (sym is),
      sym (append_assoc xs (y ∷ []) ys) ∙ ap (λ (n : ℕ). (xs ++ (n ∷ [])) ++ ys) (sym is),
    )

-- words that fit and one more
pub fits_more : (xs : List ℕ) (x : ℕ) → AllByRecursion (λ y. y < 18446744073709551616) xs → x < 18446744073709551616 → AllByRecursion (λ y. y < 18446744073709551616) (xs ++ (x ∷ []))
fits_more [] x a b = (b, tt)
fits_more (y ∷ ys) x a b = (a.0, fits_more ys x a.1 b)

-- a row to which nothing is left in front
pub all_back : (me : Mine) (t : Token) (at k words : ℕ) (ys : List ℕ) (back : List (ℕ × ℕ)) → length ys + k ≡ words → k ≡ words → me ≡ (t, row (at + k) ys ++ back) → (ys ≡ []) × (me ≡ (t, back))
all_back me t at k words [] back count done e = (refl, e)
all_back me t at k words (y ∷ ys) back count done e = absurd (omega arith)

-- a row that was just taken out
pub begun : (me : Mine) (at : ℕ) (xs : List ℕ) → me.1 ≡ row at xs → me ≡ (me.0, row (at + 0) xs ++ [])
begun me at xs e =
    let same : at ≡ at + 0 = omega arith in
    ap (λ (l : List (ℕ × ℕ)). (me.0, l)) (e ∙ ap (λ (n : ℕ). row n xs) same ∙ sym (append_nothing (row (at + 0) xs)))

-- a row whose words are all stored
pub filled_all : (me : Mine) (t : Token) (at k words from : ℕ) (bytes ys : List ℕ) → length ys + k ≡ words → k ≡ words → me ≡ (t, row (at + k) ys ++ row at (words_from from k bytes)) → me ≡ (t, row at (words_from from words bytes))
filled_all me t at k words from bytes ys count done e = (all_back me t at k words ys (row at (words_from from k bytes)) count done e).1 ∙ ap (λ (n : ℕ). (t, row at (words_from from n bytes))) done

-- a row whose words are all read
pub read_all : (old me : Mine) (at k words : ℕ) (xs ys : List ℕ) → length ys + k ≡ words → k ≡ words → old.1 ≡ row at (xs ++ ys) → me ≡ (old.0, row (at + k) ys ++ row at xs) → (old.1 ≡ row at xs) × (me ≡ old)
read_all old me at k words xs ys count done slots e =
    let g = all_back me old.0 at k words ys (row at xs) count done e in
    let same : old.1 ≡ row at xs = slots ∙ ap (λ (l : List ℕ). row at (xs ++ l)) g.0 ∙ ap (row at) (append_nothing xs) in
    (same, g.1 ∙ ap (λ (l : List (ℕ × ℕ)). (old.0, l)) (sym same))

-- the row that a token has out has other values now
pub out_filled : (v : View) (at words : ℕ) (ys : List ℕ) (one mid : Mine) → (xs : List ℕ) × (length xs ≡ words) × (one ≡ row_out v at xs xs) → mid ≡ (one.0, row at ys) → (xs : List ℕ) × (length xs ≡ words) × (mid ≡ row_out v at xs ys)
out_filled v at words ys one mid o e = (o.0, o.1, e ∙ ap (λ (m : Mine). (m.0, row at ys)) o.2)

-- or the same ones
pub out_read : (v : View) (at words : ℕ) (ys : List ℕ) (one mid : Mine) → (xs : List ℕ) × (length xs ≡ words) × (one ≡ row_out v at xs xs) → mid ≡ one → one.1 ≡ row at ys → mid ≡ row_out v at ys ys
out_read v at words ys one mid o e slots =
    let same : o.0 ≡ ys = row_same at o.0 ys (sym (ap (λ (m : Mine). m.1) o.2) ∙ slots) in
    e ∙ o.2 ∙ ap (λ (l : List ℕ). row_out v at l l) same
