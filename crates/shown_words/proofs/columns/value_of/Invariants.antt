use Rattle.std.proofs.Common.{◌≡◌, drop, map}
use Rattle.std.specs.Prelude.{string_bytes}
use Rattle.shown_words.specs.Columns.{value_of}
use Rattle.shown_words.proofs.columns.value_of.Given as goal

abbrev pub invariant-words : goal.invariant-words
invariant-words l = value_of l.option (map string_bytes l.words) ≡ value_of l.option (map string_bytes (drop l.at l.words))
