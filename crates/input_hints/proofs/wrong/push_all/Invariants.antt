use Rattle.std.proofs.Common.{◌≡◌, ◌++◌, map, string_bytes, take}
use Rattle.input_hints.proofs.wrong.push_all.Given as goal

abbrev pub invariant-words : goal.invariant-words
invariant-words l = map string_bytes l.list.items ≡ map string_bytes l.fn.list.items ++ map string_bytes (take l.word-index l.words)
