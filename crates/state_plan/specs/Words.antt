-- The words of a head as those of a command line.
use Rattle.std.specs.Prelude.{◌≡◌, ◌==◌, ◌||◌, ◌≤◌, ◌^◌, ◌++◌, ℕ, Bool, List, [], ◌∷◌, All, bytes_eq, codes, drop, if◌then◌else◌, length, map}
use Rattle.std.specs.List.{flat_map, starts_with}
use Rattle.std.specs.Str.{IsUtf8}
use Rattle.state_file.specs.Text.{text_bytes}
use Rattle.state_head.specs.Words.{Words}

-- an option with its value in one word; none if the value is empty
abbrev pub option_words : List ℕ → List ℕ → List (List ℕ)
option_words option [] = []
option_words option (byte ∷ text) = (option ++ byte ∷ text) ∷ []

-- whether a text says how fields are read: `=separator=;`, `=null=NA,NULL` or `=trim`. No filter begins with an equals sign
abbrev pub says_reading : List ℕ → Bool
says_reading text = starts_with (λ a b. a == b) text (codes "=separator=") || (starts_with (λ a b. a == b) text (codes "=null=") || bytes_eq text (codes "=trim"))

-- a text among the filters as an option: how fields are read, or a filter
abbrev pub filter_word : List ℕ → List ℕ
filter_word text = if says_reading text then codes "--" ++ drop 1 text else codes "--where=" ++ text

-- the words of a command line with these filters
abbrev pub command_words : Words → List (List ℕ) → List (List ℕ)
command_words words filters = option_words (codes "--group=") words.group ++ (option_words (codes "--agg=") words.agg ++ (map filter_word filters ++ option_words (codes "--decimals=") words.decimals))

-- the words of a head have these filters
pub record HaveFilters (words : Words) (filters : List (List ℕ)) : Type 0 where
  pub are : words.filter ≡ flat_map text_bytes filters
  pub short : All (λ text. length text ≤ 2 ^ 20) filters

-- a command line says what the words of a head say
pub record IsCommand (words : Words) (command : List (List ℕ)) : Type 0 where
  pub filters : List (List ℕ)
  pub have : HaveFilters words filters
  pub is : command ≡ command_words words filters

-- all words are UTF-8
pub record AreTexts (words : Words) (filters : List (List ℕ)) : Type 0 where
  pub group : IsUtf8 words.group
  pub agg : IsUtf8 words.agg
  pub each : All IsUtf8 filters
  pub decimals : IsUtf8 words.decimals

-- the filters are no texts, or not all words are UTF-8
abbrev pub HaveNoCommand : Words → Type 0
HaveNoCommand words = (filters : List (List ℕ)) → HaveFilters words filters → AreTexts words filters → ⊥
