-- What a command line asks to be told, and what it is told.
use Rattle.std.specs.Prelude.{◌||◌, ℕ, Bool, List, Option, None, Some, String, bytes_eq, codes, if◌then◌else◌, string_bytes}
use Rattle.std.specs.List.{list_any}
use Rattle.input_hints.specs.declared.help.Asked.{Asked}
use Rattle.input_hints.specs.declared.help.Asked.TheVariants as asked
use Rattle.input_hints.specs.declared.help.TheConstants.{HELP, VERSION}

-- whether a word asks how the program is called
abbrev pub asks_help : List ℕ → Bool
asks_help word = bytes_eq word (codes "--help") || bytes_eq word (codes "-h")

-- whether a word asks for the program's version
abbrev pub asks_version : List ℕ → Bool
asks_version word = bytes_eq word (codes "--version")

-- whether one of the words asks how the program is called
abbrev pub wants_help : {A : Type 0} → List (String A) → Bool
wants_help words = list_any (λ word. asks_help (string_bytes word)) words

-- whether one of the words asks for the program's version
abbrev pub wants_version : {A : Type 0} → List (String A) → Bool
wants_version words = list_any (λ word. asks_version (string_bytes word)) words

-- what words ask for: help if one of them asks for it, otherwise the version if one asks for that
abbrev pub asked_in : {A : Type 0} → List (String A) → Option Asked
asked_in words = if wants_help words then Some asked.Help else (if wants_version words then Some asked.Version else None)

-- the text that is asked for
abbrev pub asked_text : Asked → List ℕ
asked_text asked.Help = HELP.now
asked_text asked.Version = VERSION.now
