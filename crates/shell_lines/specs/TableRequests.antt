-- Which words are a command over the hash table.
use Rattle.std.specs.Prelude.{ℕ, ◌≤◌, List, [], ◌∷◌, Option, Some, None, bytes_eq, codes, if◌then◌else◌, length, option_and_then, option_map}
use Rattle.shell_lines.specs.Words.{name_in, number_in, word_in}
use Rattle.shell_lines.specs.declared.table.TableCommand.{TableCommand}
use Rattle.shell_lines.specs.declared.table.TableCommand.TheVariants as code

-- what is asked of the table
pub data TableRequest : Type 0 where
  Table : TableRequest
  Put : List ℕ → ℕ → TableRequest
  Get : List ℕ → TableRequest
  Delete : List ℕ → TableRequest
  Fill : ℕ → TableRequest
  Total : TableRequest

-- the request that a command of the code is
abbrev pub request_of : TableCommand → TableRequest
request_of code.Table = Table
request_of (code.Put key value) = Put key.now value
request_of (code.Get key) = Get key.now
request_of (code.Delete key) = Delete key.now
request_of (code.Fill count) = Fill count
request_of code.Total = Total

-- a key has at most 64 bytes, and 1 to 100,000 numbers are put at once
abbrev pub IsAllowed : TableRequest → Type 0
IsAllowed (Put key value) = length key ≤ 64
IsAllowed (Get key) = length key ≤ 64
IsAllowed (Delete key) = length key ≤ 64
IsAllowed (Fill count) = (1 ≤ count) × (count ≤ 100000)
IsAllowed request = Unit {0}

-- the request that words are
abbrev pub request_in : List (List ℕ) → Option TableRequest
request_in (verb ∷ []) =
    if bytes_eq verb (codes "table") then Some Table
    else (if bytes_eq verb (codes "total") then Some Total
    else None)
request_in (verb ∷ word ∷ []) =
    if bytes_eq verb (codes "get") then option_map Get (name_in word)
    else (if bytes_eq verb (codes "del") then option_map Delete (name_in word)
    else (if bytes_eq verb (codes "fill") then option_map Fill (number_in 1 100000 word)
    else None))
request_in (verb ∷ key ∷ value ∷ []) =
    if bytes_eq verb (codes "put") then option_and_then (λ key. option_map (Put key) (word_in value)) (name_in key)
    else None
request_in words = None
