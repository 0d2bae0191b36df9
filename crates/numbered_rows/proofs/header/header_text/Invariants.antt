use Rattle.std.proofs.Common.{◌≡◌}
use Rattle.numbered_rows.specs.Numbers.{numbers_text}
use Rattle.numbered_rows.proofs.header.header_text.Given as goal

-- the numbers so far
abbrev pub invariant-columns : goal.invariant-columns
invariant-columns l = l.text.items ≡ numbers_text l.fn.separator l.at
