-- Which words are a command over chunks.
use Rattle.std.specs.Prelude.{ℕ, ◌≤◌, List, [], ◌∷◌, Option, None, bytes_eq, codes, if◌then◌else◌, option_and_then, option_map}
use Rattle.shell_lines.specs.Words.{name_in, number_in, word_in}
use Rattle.shell_lines.specs.declared.chunks.ChunkCommand.{ChunkCommand}
use Rattle.shell_lines.specs.declared.chunks.ChunkCommand.TheVariants as code

-- what is asked of the chunks
pub data ChunkRequest : Type 0 where
  Alloc : List ℕ → ℕ → ChunkRequest
  Free : List ℕ → ChunkRequest
  Store : List ℕ → ℕ → ℕ → ChunkRequest
  Load : List ℕ → ℕ → ChunkRequest

-- the request that a command of the code is
abbrev pub request_of : ChunkCommand → ChunkRequest
request_of (code.Alloc name bytes) = Alloc name.now bytes
request_of (code.Free name) = Free name.now
request_of (code.Store name word value) = Store name.now word value
request_of (code.Load name word) = Load name.now word

-- a request asks for 1 to 2^30 bytes
abbrev pub IsAllowed : ChunkRequest → Type 0
IsAllowed (Alloc name bytes) = (1 ≤ bytes) × (bytes ≤ 1073741824)
IsAllowed request = Unit {0}

-- the request that words are
abbrev pub request_in : List (List ℕ) → Option ChunkRequest
request_in (verb ∷ name ∷ []) =
    if bytes_eq verb (codes "free") then option_map Free (name_in name) else None
request_in (verb ∷ name ∷ n ∷ []) =
    if bytes_eq verb (codes "alloc") then option_and_then (λ name. option_map (Alloc name) (number_in 1 1073741824 n)) (name_in name)
    else (if bytes_eq verb (codes "load") then option_and_then (λ name. option_map (Load name) (word_in n)) (name_in name)
    else None)
request_in (verb ∷ name ∷ n ∷ value ∷ []) =
    if bytes_eq verb (codes "store") then option_and_then (λ name. option_and_then (λ n. option_map (Store name n) (word_in value)) (word_in n)) (name_in name)
    else None
request_in words = None
