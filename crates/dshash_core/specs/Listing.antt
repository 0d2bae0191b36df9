-- The entries that a listing gives.
use Rattle.std.specs.Prelude.{◌≡◌, ℕ, List, length, map}
use Rattle.std.specs.List.{All}
use Rattle.dshash_core.specs.declared.entries.Entry.{Entry}

-- the pairs of keys and states of entries
abbrev pub pairs_of : {O S C R : Type 0} → List (Entry O S C R) → List (List ℕ × S)
pairs_of entries = map (λ e. (e.key, e.state)) entries

-- each key of the pairs has this many words
abbrev pub HaveWords : {S : Type 0} → ℕ → List (List ℕ × S) → Type 0
HaveWords key_words pairs = All (λ p. length p.0 ≡ key_words) pairs
