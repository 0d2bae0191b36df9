use Rattle.std.proofs.Common.{◌≡◌, ◌-◌, ◌^◌, ℕ, min, take}
use Rattle.std.specs.Str.Parse.{digits_value_after}
use Rattle.table_order.proofs.number.push_digits.Given as goal

abbrev pub invariant-loop-digit : goal.invariant-loop-digit
invariant-loop-digit l = (all : ℕ) → l.initial.size ≡ min all (2 ^ 64 - 1) → l.size ≡ min (digits_value_after 10 all (take l.digit-index l.digits)) (2 ^ 64 - 1)
