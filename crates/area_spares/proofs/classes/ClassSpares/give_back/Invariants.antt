use Rattle.std.proofs.Common.{◌≡◌, ◌<◌, ◌≤◌, ◌+◌, ℕ, []}
use Rattle.dsa_area.specs.Shown.{Belongs, number_of}
use Rattle.free_pages.specs.Area.{class_count}
use Rattle.size_classes.specs.Classes.{first_class}
use Rattle.area_spares.specs.Classes.{AreSpares, FirstBack, kept_in, spares_in}
use Rattle.area_spares.proofs.classes.ClassSpares.give_back.Given as goal

abbrev pub invariant-loop-at : goal.invariant-loop-at
invariant-loop-at g l = record {
  own : Belongs l.area l.pass;
  caller : number_of l.pass ≡ number_of l.fn.pass;
  spares : AreSpares l.r l.self;
  back : FirstBack l.area l.fn.self l.at l.fn.pass l.pass;
  none : (other : ℕ) → other < l.at → kept_in l.self (other + first_class) ≡ [];
  rest : (other : ℕ) → l.at ≤ other → other < class_count → spares_in l.self (other + first_class) ≡ spares_in l.fn.self (other + first_class);
}
