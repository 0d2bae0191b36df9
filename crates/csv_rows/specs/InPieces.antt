-- Records that lie in pieces, one after the other.
use Rattle.std.specs.Prelude.{◌≡◌, ◌≤◌, ◌+◌, ℕ, List, [], ◌∷◌, ◌++◌, drop, length, take}
use Rattle.par_model.specs.Outcome.{most_rows}

-- the lists one after the other
unfoldable pub joined : {A : Type 0} → List (List A) → List A
joined [] = []
joined (xs ∷ rest) = xs ++ joined rest

-- the records from this number on begin with those of a piece
abbrev pub IsPieceAt : List (List (List ℕ)) → ℕ → List (List (List ℕ)) → Type 0
IsPieceAt records first piece = take (length piece) (drop first records) ≡ piece

-- the number of the last record: there is a header, and after it no more rows than an input may have
pub record IsLast (records : List (List (List ℕ))) (last : ℕ) : Type 0 where
  pub count : last + 1 ≡ length records
  pub few : length records ≤ most_rows + 1
