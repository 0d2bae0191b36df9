-- An option with its value, as the code has it.
use Rattle.std.specs.Prelude.{ℕ, List, Option, option_map}
use Rattle.std.specs.Borrow.{Bor}
use Rattle.shown_words.specs.declared.taken.Name.{Name}

abbrev pub option_as : Name × Option (Bor (List ℕ)) → Name × Option (List ℕ)
option_as option = (option.0, option_map (λ value. value.now) option.1)
