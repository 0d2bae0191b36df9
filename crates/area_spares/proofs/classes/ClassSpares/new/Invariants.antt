use Rattle.std.proofs.Common.{◌≡◌, ◌≤◌, ◌+◌, ℕ, Some, length, slice_get, vec_capacity}
use Rattle.free_pages.specs.Area.{class_count}
use Rattle.size_classes.specs.Classes.{first_class}
use Rattle.area_spares.specs.declared.spares.Spares.{Spares}
use Rattle.area_spares.proofs.Each.{IsNew}
use Rattle.area_spares.proofs.classes.ClassSpares.new.Given as goal

abbrev pub invariant-loop-class : goal.invariant-loop-class
invariant-loop-class l = record {
  count : length l.classes.items + first_class ≡ l.class;
  room : class_count ≤ vec_capacity l.classes;
  each : (i : ℕ) (x : Spares) → slice_get l.classes.items i ≡ Some x → IsNew i x;
}
