-- A longer front of a list is a front, and then a front of the rest; so the front of a buffer that is filled grows by what
-- was read behind it.
use Rattle.std.proofs.Common.{◌≡◌, ◌+◌, ℕ, List, Option, take, drop}
use Rattle.std.proofs.Math.Seq.{take-add}
use Rattle.std.specs.Io.KnownBytes.{Consumes}
use Rattle.std.proofs.KnownBytes.{Consumes-trans}

-- n bytes more were read into ys, which keeps what was filled of xs
pub filled-more : (a b c : Option (List ℕ)) (xs ys : List ℕ) (filled n : ℕ) → take filled ys ≡ take filled xs → Consumes a b (take filled xs)
    → Consumes b c (take n (drop filled ys)) → Consumes a c (take (filled + n) ys)
filled-more a b c xs ys filled n front before read = rw (take-add filled n ys, front) (Consumes-trans a b c _ _ before read)
