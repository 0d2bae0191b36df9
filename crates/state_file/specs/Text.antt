-- Texts: some bytes after how many they are.
use Rattle.std.specs.Prelude.{◌++◌, ℕ, List, length}
use Rattle.state_file.specs.Number.{number_bytes}

-- some bytes after how many they are
unfoldable pub text_bytes : List ℕ → List ℕ
text_bytes text = number_bytes (length text) ++ text
