-- The records of a table that is cut at a place.
use Rattle.std.proofs.Common.{◌≡◌, ◌≤◌, ◌<◌, ◌+◌, ◌∙◌, ℕ, List, ◌∷◌, ◌++◌, length, take, drop, slice_index, ap, arith, length-append}
use Rattle.std.proofs.lemmas.List.{drop_more}
use Rattle.csv_rows.specs.Records.{records_of}
use Rattle.csv_rows.specs.Cuts.{IsCut}
use Rattle.csv_rows.proofs.Compose.{records-cut}
use Rattle.csv_rows.proofs.Scans.{split-at}

-- the two parts of a table that is cut at a place
pub record Parts (xs front back : List ℕ) : Type 0 where
  pub records : records_of xs ≡ records_of front ++ records_of back
  pub front_most : length (records_of front) ≤ length (records_of xs)
  pub back_most : length (records_of back) ≤ length (records_of xs)

pub parts-at : (xs front back : List ℕ) (at : ℕ) → at < length xs → slice_index xs at ≡ 10 → IsCut (take at xs) → front ≡ take at xs → back ≡ drop at xs → Parts xs front back
parts-at xs front back at lt line cut is-front is-back =
    let rest : drop at xs ≡ 10 ∷ drop (at + 1) xs = drop_more xs at 0 lt ∙ ap (λ (y : ℕ). y ∷ drop (at + 1) xs) line in
    let whole = ap records_of (split-at xs at 10 lt line) ∙ records-cut (take at xs) (drop (at + 1) xs) cut in
    let all : records_of xs ≡ records_of front ++ records_of back = rw (is-front, is-back, rest) whole in
    let size = ap length all ∙ length-append (records_of front) (records_of back) in
    record { records = all; front_most = omega (arith, size); back_most = omega (arith, size) }
