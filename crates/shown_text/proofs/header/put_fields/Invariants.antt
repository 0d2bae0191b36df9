use Rattle.std.proofs.Common.{◌≡◌, ◌++◌, map, string_bytes, take}
use Rattle.std.specs.List.{concat}
use Rattle.shown_text.specs.Header.{field_text}
use Rattle.shown_text.proofs.header.put_fields.Given as goal

-- the fields so far
abbrev pub invariant-loop-at : goal.invariant-loop-at
invariant-loop-at l = string_bytes l.text ≡ string_bytes l.fn.text ++ concat (map field_text (take l.at l.header))
