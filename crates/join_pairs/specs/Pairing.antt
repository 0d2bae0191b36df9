-- How the pairs of chains are added up.
use Rattle.std.specs.Prelude.{◌≡◌, ◌<◌, ◌⊎◌, ℕ, List, [], All, Any, Some, None, length, map, slice_index_or}
use Rattle.std.specs.List.{flat_map}
use Rattle.scan_claim.specs.Shown.{Belongs, draws_of, number_of}
use Rattle.scan_claim.specs.declared.claims.Claims.{Claims}
use Rattle.row_blocks.specs.Blocks.{Table}
use Rattle.join_pairs.specs.Join.{most_pairs}
use Rattle.join_pairs.specs.Found.{Found}
use Rattle.join_pairs.specs.declared.pairing.Finder.{Finder}
use Rattle.join_pairs.specs.declared.pairing.Finding.{Finding}
use Rattle.join_pairs.specs.declared.pairing.NoPairs.{NoPairs}
use Rattle.join_pairs.specs.declared.pairing.NoPairs.TheVariants.{TooMany, Memory}
use Rattle.join_pairs.specs.declared.pairs.Pair.{Pair}

-- the pairs of a right row with these left rows
abbrev pub pairs_with : ℕ → List ℕ → List Pair
pairs_with right chain = map (λ l. record { left = l; right = right }) chain

-- this many pairs would be too many; a lack of memory says nothing
abbrev pub StopsAdding : ℕ → NoPairs → Type 0
StopsAdding count TooMany = most_pairs < count
StopsAdding count Memory = Unit {0}

-- a participant with a seat, which has done nothing yet
pub record IsNewFinder (c : Claims) (f : Finder) : Type 0 where
  pub seat : Belongs c f.claim
  pub draws : draws_of f.claim ≡ []
  pub pairs : f.finding.pairs.items ≡ []

-- its seat has the same number as before
pub record IsSameSeat (c : Claims) (f g : Finder) : Type 0 where
  pub seat : Belongs c g.claim
  pub number : number_of g.claim ≡ number_of f.claim

-- so it is with each of them, in order
pub record AreSameSeats (c : Claims) (fs gs : List Finder) : Type 0 where
  pub count : length gs ≡ length fs
  pub each : (k : ℕ) (d : Finder) → k < length fs → IsSameSeat c (slice_index_or fs k d) (slice_index_or gs k d)

-- what a participant found, or why it stopped early
abbrev pub FinderFound : Table → Table → ℕ → ℕ → Claims → Finder → Type 0
FinderFound left right left_column right_column c f = Found left right left_column right_column c (draws_of f.claim) f.finding.pairs.items f.finding.stopped

-- why the participants have no list of pairs: one of them stopped, or they have too many together
abbrev pub IsReason : List Finding → NoPairs → Type 0
IsReason findings TooMany = Any (λ (f : Finding). f.stopped ≡ Some TooMany) findings
    ⊎ (All (λ (f : Finding). f.stopped ≡ None) findings × (most_pairs < length (flat_map (λ (f : Finding). f.pairs.items) findings)))
IsReason findings Memory = Unit {0}
