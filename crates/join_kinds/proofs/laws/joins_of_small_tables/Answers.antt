use Rattle.std.proofs.Common.{refl}
use Rattle.join_kinds.proofs.laws.joins_of_small_tables.Goals as goal

pub returns : goal.returns
returns c = record {
  semi = refl;
  anti = refl;
  semi_right = refl;
  anti_right = refl;
  left_outer = refl;
  right_outer = refl;
  full = refl;
}
