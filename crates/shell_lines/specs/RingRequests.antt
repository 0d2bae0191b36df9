-- Which lines are a command over rings.
use Rattle.std.specs.Prelude.{◌≡◌, ℕ, ◌≤◌, ◌^◌, Bool, true, false, List, [], ◌∷◌, ◌&&◌, Option, Some, None, bytes_eq, codes, if◌then◌else◌, option_and_then, option_map, unwrap_or}
use Rattle.std.specs.Int.{is_power_of_two}
use Rattle.shell_lines.specs.Words.{behind_word, first_word, name_in, number_in, word_in}
use Rattle.shell_lines.specs.declared.rings.RingCommand.{RingCommand}
use Rattle.shell_lines.specs.declared.rings.RingCommand.TheVariants as code

-- what is asked of the rings; `Send` says whether the receiver has to see the text at once
pub data RingRequest : Type 0 where
  Ring : List ℕ → ℕ → ℕ → ℕ → RingRequest
  Send : List ℕ → List ℕ → Bool → RingRequest
  Receive : List ℕ → RingRequest
  DetachSender : List ℕ → RingRequest
  DetachReceiver : List ℕ → RingRequest

-- the request that a command of the code is
abbrev pub request_of : RingCommand → RingRequest
request_of (code.Ring name words from max) = Ring name.now words from max
request_of (code.Send name text flush) = Send name.now text.now flush
request_of (code.Receive name) = Receive name.now
request_of (code.DetachSender name) = DetachSender name.now
request_of (code.DetachReceiver name) = DetachReceiver name.now

-- a ring has a power of two of words, up to 2^20, and messages of up to 1,048,576 bytes
abbrev pub IsAllowed : RingRequest → Type 0
IsAllowed (Ring name words from max) = ((e : ℕ) × (words ≡ 2 ^ e) × (e ≤ 20)) × (max ≤ 1048576)
IsAllowed request = Unit {0}

-- a power of two up to 1,048,576
abbrev pub ring_size_in : List ℕ → Option ℕ
ring_size_in word = option_and_then (λ n. if is_power_of_two n then Some n else None) (number_in 1 1048576 word)

-- the request of what follows `send` or `post`, with its text
abbrev pub send_behind : Bool → Option (List ℕ) → Option RingRequest
send_behind flush rest = option_and_then (λ rest. option_map (λ name. Send name (unwrap_or (behind_word rest) []) flush) (name_in (first_word rest))) rest

-- the request with a text that a line is
abbrev pub send_in : List ℕ → Option RingRequest
send_in line =
    if bytes_eq (first_word line) (codes "send") then send_behind true (behind_word line)
    else (if bytes_eq (first_word line) (codes "post") then send_behind false (behind_word line)
    else None)

-- the request that words are, but for those with a text
abbrev pub request_in : List (List ℕ) → Option RingRequest
request_in (verb ∷ name ∷ []) =
    if bytes_eq verb (codes "recv") then option_map Receive (name_in name) else None
request_in (verb ∷ name ∷ end ∷ []) =
    if bytes_eq verb (codes "detach") && bytes_eq end (codes "sender") then option_map DetachSender (name_in name)
    else (if bytes_eq verb (codes "detach") && bytes_eq end (codes "receiver") then option_map DetachReceiver (name_in name)
    else None)
request_in (verb ∷ name ∷ words ∷ from ∷ max ∷ []) =
    if bytes_eq verb (codes "ring")
    then option_and_then (λ name. option_and_then (λ words. option_and_then (λ from. option_map (Ring name words from) (number_in 0 1048576 max)) (word_in from)) (ring_size_in words)) (name_in name)
    else None
request_in words = None
