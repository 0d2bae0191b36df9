-- Which words are a command over barriers.
use Rattle.std.specs.Prelude.{ℕ, ◌≤◌, List, [], ◌∷◌, ◌&&◌, Option, Some, None, bytes_eq, codes, if◌then◌else◌, option_and_then, option_map}
use Rattle.shell_lines.specs.Words.{name_in, number_in, word_in}
use Rattle.shell_lines.specs.declared.barriers.BarrierCommand.{BarrierCommand}
use Rattle.shell_lines.specs.declared.barriers.BarrierCommand.TheVariants as code
use Rattle.shell_lines.specs.declared.barriers.PartyCall.{PartyCall}
use Rattle.shell_lines.specs.declared.barriers.PartyCall.TheVariants.{Attach, Arrive, Look, Detach}

-- what is asked of the barriers: a barrier for this many callers, or a caller's call
pub data BarrierRequest : Type 0 where
  New : List ℕ → ℕ → BarrierRequest
  Call : List ℕ → ℕ → PartyCall → BarrierRequest

-- the request that a command of the code is
abbrev pub request_of : BarrierCommand → BarrierRequest
request_of (code.New name callers) = New name.now callers
request_of (code.Call name caller call) = Call name.now caller call

-- a barrier has 1 to 64 callers
abbrev pub IsAllowed : BarrierRequest → Type 0
IsAllowed (New name callers) = (1 ≤ callers) × (callers ≤ 64)
IsAllowed request = Unit {0}

-- the call that a word names
abbrev pub call_in : List ℕ → Option PartyCall
call_in word =
    if bytes_eq word (codes "attach") then Some Attach
    else (if bytes_eq word (codes "arrive") then Some Arrive
    else (if bytes_eq word (codes "look") then Some Look
    else (if bytes_eq word (codes "detach") then Some Detach else None)))

-- the request that words are, of which the first is `bar`
abbrev pub request_in : List (List ℕ) → Option BarrierRequest
request_in (bar ∷ verb ∷ name ∷ n ∷ []) =
    if bytes_eq bar (codes "bar") && bytes_eq verb (codes "new") then option_and_then (λ name. option_map (New name) (number_in 1 64 n)) (name_in name)
    else (if bytes_eq bar (codes "bar") then option_and_then (λ name. option_and_then (λ caller. option_map (Call name caller) (call_in verb)) (word_in n)) (name_in name)
    else None)
request_in words = None
