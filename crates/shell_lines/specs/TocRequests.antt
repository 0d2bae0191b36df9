-- Which words are a command over the table of contents.
use Rattle.std.specs.Prelude.{ℕ, ◌≤◌, List, [], ◌∷◌, ◌&&◌, Option, Some, None, bytes_eq, codes, if◌then◌else◌, option_and_then, option_map}
use Rattle.shell_lines.specs.Words.{name_in, number_in, word_in}
use Rattle.shell_lines.specs.declared.contents.TocCommand.{TocCommand}
use Rattle.shell_lines.specs.declared.contents.TocCommand.TheVariants as code

-- what is asked of the table
pub data TocRequest : Type 0 where
  Alloc : List ℕ → ℕ → TocRequest
  Insert : ℕ → List ℕ → TocRequest
  Find : ℕ → TocRequest
  Freeze : TocRequest
  Attach : ℕ → TocRequest

-- the request that a command of the code is
abbrev pub request_of : TocCommand → TocRequest
request_of (code.Alloc name bytes) = Alloc name.now bytes
request_of (code.Insert key name) = Insert key name.now
request_of (code.Find key) = Find key
request_of code.Freeze = Freeze
request_of (code.Attach magic) = Attach magic

-- a request asks for 1 to 2^30 bytes
abbrev pub IsAllowed : TocRequest → Type 0
IsAllowed (Alloc name bytes) = (1 ≤ bytes) × (bytes ≤ 1073741824)
IsAllowed request = Unit {0}

-- the request that words are, of which the first is `toc`
abbrev pub request_in : List (List ℕ) → Option TocRequest
request_in (toc ∷ verb ∷ []) =
    if bytes_eq toc (codes "toc") && bytes_eq verb (codes "freeze") then Some Freeze else None
request_in (toc ∷ verb ∷ n ∷ []) =
    if bytes_eq toc (codes "toc") && bytes_eq verb (codes "find") then option_map Find (word_in n)
    else (if bytes_eq toc (codes "toc") && bytes_eq verb (codes "attach") then option_map Attach (word_in n)
    else None)
request_in (toc ∷ verb ∷ x ∷ y ∷ []) =
    if bytes_eq toc (codes "toc") && bytes_eq verb (codes "alloc") then option_and_then (λ name. option_map (Alloc name) (number_in 1 1073741824 y)) (name_in x)
    else (if bytes_eq toc (codes "toc") && bytes_eq verb (codes "insert") then option_and_then (λ key. option_map (Insert key) (name_in y)) (word_in x)
    else None)
request_in words = None
