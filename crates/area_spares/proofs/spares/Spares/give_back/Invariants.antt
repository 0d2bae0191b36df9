use Rattle.std.proofs.Common.{◌≡◌, ◌≤◌, ℕ, length}
use Rattle.dsa_area.specs.Shown.{Belongs, number_of}
use Rattle.area_spares.specs.Spares.{GoBack, IsSpares, batch_of, class_of, kept_of}
use Rattle.area_spares.proofs.spares.Spares.give_back.Given as goal

abbrev pub invariant-loop-self : goal.invariant-loop-self
invariant-loop-self g l = record {
  own : Belongs l.area l.pass;
  most : 1 ≤ l.most;
  caller : number_of l.pass ≡ number_of l.fn.pass;
  spares : IsSpares l.r l.self;
  same : (class_of l.self ≡ class_of l.fn.self) × (batch_of l.self ≡ batch_of l.fn.self);
  back : (n : ℕ) × GoBack l.area (class_of l.fn.self) l.fn.pass (kept_of l.fn.self) n l.pass (kept_of l.self);
}

abbrev pub decreases-loop-self : goal.decreases-loop-self
decreases-loop-self g l = length (kept_of l.self)
