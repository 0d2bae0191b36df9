-- Parts of a region that three parties exchange.
use Rattle.std.specs.Prelude.{◌≡◌, ℕ, ◌+◌, ◌%◌, Some}
use Rattle.word_map.specs.WordMap.{at as word_at}
use Rattle.region_words.specs.Parts.{Owned}

-- the part is of the region of `base`, and its word n is n + 40
abbrev pub IsMarked : Owned → ℕ → Owned → Type 0
IsMarked base n p = (p.region ≡ base.region) × (word_at p.words n ≡ Some (n + 40))

-- the party n brings the part that it wrote in
abbrev pub brings : Owned → ℕ → Owned → Type 0
brings base n p = IsMarked base n p

-- and is given the part that the next party wrote in
abbrev pub gives : Owned → ℕ → Owned → Type 0
gives base n p = IsMarked base ((n + 1) % 3) p
