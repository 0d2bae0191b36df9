use Rattle.std.proofs.Common.{◌≡◌, ◌++◌, map, string_bytes, take}
use Rattle.std.specs.List.{flat_map}
use Rattle.shown_words.specs.Telling.{after_comma}
use Rattle.shown_words.proofs.wrong.put_rest.Given as goal

abbrev pub invariant-names : goal.invariant-names
invariant-names l = string_bytes l.text ≡ string_bytes l.fn.text ++ flat_map after_comma (map (λ name. name.now) (take l.name-index l.names))
