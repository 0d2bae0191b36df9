-- A number as its digits lie: those before the point without zeros at the front, and those after it.
use Rattle.std.specs.Prelude.{◌≡◌, ◌≢◌, ◌<◌, ◌++◌, ℕ, ℤ, true, length, slice_index}
use Rattle.std.specs.Char.{is_ascii_digit}
use Rattle.std.specs.List.{list_all}
use Rattle.std.specs.Str.Parse.{digits_value}
use Rattle.par_model.specs.Number.{signed}
use Rattle.table_order.specs.declared.number.Number.{Number}

-- its size, in units of its last place
abbrev pub size_in : Number → ℕ
size_in n = digits_value 10 (n.whole.now ++ n.part.now)

-- its value, in units of its last place
abbrev pub units_in : Number → ℤ
units_in n = signed n.minus (size_in n)

-- they are digits, with this many places, none of them a zero at the front, and zero has no sign
pub record IsSound (places : ℕ) (n : Number) : Type 0 where
  pub whole : list_all is_ascii_digit n.whole.now ≡ true
  pub part : list_all is_ascii_digit n.part.now ≡ true
  pub front : slice_index n.whole.now 0 ≢ 48
  pub long : length n.part.now ≡ places
  pub sign : n.minus ≡ true → 0 < size_in n
