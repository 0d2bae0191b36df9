-- The texts of words, by the words where they lie.
use Rattle.std.proofs.Common.{◌≡◌, ℕ, List, String, string_bytes}
use Rattle.std.specs.Prelude.{bytes_eq}
use Rattle.std.specs.List.{list_any}
use Rattle.answer_text.specs.Words.{texts}
use Rattle.plan_spec.proofs.Present.{any-map}
use Rattle.state_partial.specs.Untaken.{has_option, option_of}

pub any_option : {A : Type 0} (words : List (String A)) (name : List ℕ) → has_option name (texts words) ≡ list_any (λ word. bytes_eq (option_of (string_bytes word)) name) words
any_option words name = any-map (λ word. bytes_eq (option_of word) name) string_bytes words
