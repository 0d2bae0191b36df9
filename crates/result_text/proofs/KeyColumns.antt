-- The columns of a key read back as they were encoded.
use Rattle.std.proofs.Common.{◌≡◌, ◌<◌, ◌≤◌, ◌+◌, ◌^◌, ◌++◌, ◌∷◌, ◌∙◌, [], ap, sym, refl, subst, arith, length, ℕ, List, take, drop, append_assoc, length-append}
use Rattle.std.proofs.Math.Seq.{drop-append_seam, take-append_seam}
use Rattle.std.proofs.lemmas.Nat.{from_le_bytes-to_le_bytes_4}
use Rattle.std.specs.Int.{to_le_bytes, w32}
use Rattle.par_model.specs.Key.{encoded}
use Rattle.result_text.specs.KeyColumns.{after_first_column, columns_in, first_column, first_size}
use Rattle.result_text.specs.Printable.{IsKeyOf}

pub encoded-cons : (column : List ℕ) (columns : List (List ℕ)) → encoded (column ∷ columns) ≡ to_le_bytes w32 (length column) ++ (column ++ encoded columns)
unfolding encoded
encoded-cons column columns = append_assoc (to_le_bytes w32 (length column)) column (encoded columns)

-- the parts of a key that has a column
module _ (column rest : List ℕ) (short : length column < 2 ^ 32) where
  size_is : first_size (to_le_bytes w32 (length column) ++ (column ++ rest)) ≡ length column
  size_is = from_le_bytes-to_le_bytes_4 (length column) short

  first_is : first_column (to_le_bytes w32 (length column) ++ (column ++ rest)) ≡ column
  first_is = ap (λ (n : ℕ). take n (column ++ rest)) size_is ∙ take-append_seam column rest

  after_is : after_first_column (to_le_bytes w32 (length column) ++ (column ++ rest)) ≡ rest
  after_is = ap (λ (n : ℕ). drop n (column ++ rest)) size_is ∙ drop-append_seam column rest

-- a key is longer than each of its columns, and than what comes after the first
length-encoded_cons : (column : List ℕ) (columns : List (List ℕ)) → length (encoded (column ∷ columns)) ≡ 4 + (length column + length (encoded columns))
length-encoded_cons column columns =
    ap (length {A = ℕ}) (encoded-cons column columns) ∙ length-append (to_le_bytes w32 (length column)) (column ++ encoded columns)
    ∙ ap (λ (n : ℕ). 4 + n) (length-append column (encoded columns))

length-encoded_nil : length (encoded []) ≡ 0
unfolding encoded
length-encoded_nil = refl

-- the columns that were encoded are read
pub columns_in-encoded : (columns : List (List ℕ)) → length (encoded columns) ≤ 248 → columns_in (length columns) (encoded columns) ≡ columns
columns_in-encoded [] short = refl
columns_in-encoded (column ∷ columns) short =
    let long = length-encoded_cons column columns in
    let first = ap first_column (encoded-cons column columns) ∙ first_is column (encoded columns) (omega arith) in
    let after = ap after_first_column (encoded-cons column columns) ∙ after_is column (encoded columns) (omega arith) in
    ap (λ (c : List ℕ). c ∷ columns_in (length columns) (after_first_column (encoded (column ∷ columns)))) first
    ∙ ap (λ (k : List ℕ). column ∷ columns_in (length columns) k) after
    ∙ ap (λ (cs : List (List ℕ)). column ∷ cs) (columns_in-encoded columns (omega arith))

-- so a key is the encoding of what is read of it
pub encoded-columns_in : (count : ℕ) (key : List ℕ) → IsKeyOf count key → length key ≤ 248 → encoded (columns_in count key) ≡ key
encoded-columns_in count key is short =
    let read = columns_in-encoded is.columns (subst (λ (k : List ℕ). length k ≤ 248) is.is short) in
    ap (λ (n : ℕ). encoded (columns_in n key)) (sym is.many) ∙ ap (λ (k : List ℕ). encoded (columns_in (length is.columns) k)) is.is ∙ ap encoded read ∙ sym is.is

-- no two lists of columns have one encoding
pub same_encoding : (xs ys : List (List ℕ)) → length (encoded xs) ≤ 248 → encoded xs ≡ encoded ys → xs ≡ ys
same_encoding [] [] short is = refl
same_encoding [] (y ∷ ys) short is = absurd (omega (arith, ap (length {A = ℕ}) is, length-encoded_nil, length-encoded_cons y ys))
same_encoding (x ∷ xs) [] short is = absurd (omega (arith, ap (length {A = ℕ}) is, length-encoded_nil, length-encoded_cons x xs))
same_encoding (x ∷ xs) (y ∷ ys) short is =
    let long = length-encoded_cons x xs in
    let long_y = length-encoded_cons y ys in
    let both = ap (length {A = ℕ}) is in
    let first = sym (ap first_column (encoded-cons x xs) ∙ first_is x (encoded xs) (omega arith)) ∙ ap first_column is ∙ ap first_column (encoded-cons y ys) ∙ first_is y (encoded ys) (omega arith) in
    let after = sym (ap after_first_column (encoded-cons x xs) ∙ after_is x (encoded xs) (omega arith)) ∙ ap after_first_column is ∙ ap after_first_column (encoded-cons y ys) ∙ after_is y (encoded ys) (omega arith) in
    λ i. first i ∷ same_encoding xs ys (omega arith) after i
