-- Keys that go with a call.
use Rattle.std.specs.Prelude.{ℕ, List}
use Rattle.dshash_parts.specs.declared.key.Room.{Room}
use Rattle.dshash_parts.specs.declared.key.Room.TheVariants.{Short, Long}

-- the words of a key, in whichever room it is
abbrev pub words_in : Room → List ℕ
words_in (Short words) = words
words_in (Long words) = words
