use Rattle.std.proofs.Common.{◌≡◌, map, take}
use Rattle.std.specs.Prelude.{string_bytes}
use Rattle.std.specs.List.{fold}
use Rattle.shown_words.specs.Taking.{taken_as, took_more, took_none}
use Rattle.shown_words.proofs.taken.take_options.Given as goal

abbrev pub invariant-words : goal.invariant-words
invariant-words l = taken_as l.taken ≡ fold took_more took_none (map string_bytes (take l.word-index l.words))
