-- The objects of a class are of the least class that holds their bytes.
use Rattle.std.proofs.Common.{◌≡◌, ℕ, ◌-◌, ◌<◌, ◌≤◌, sym, arith, ⊎_elim}
use Rattle.std.proofs.lemmas.Bool.{cases_lt}
use Rattle.size_classes.specs.Classes.{IsClass, IsLeast, class_size}
use Rattle.size_classes.proofs.Sizes.{grows, size_at}
use Rattle.dsa_area.specs.Sizes.{chunk_size}
use Rattle.dsa_area.proofs.Chunks.{size_least}

own_least : (class : ℕ) → IsClass class → IsLeast (class_size class) class
own_least class k = record {
  is_class = k;
  holds = omega arith;
  least = λ other o h. ⊎_elim
      (λ (l : other < class). absurd (let g = grows (class - 2) (other - 2) (omega (arith, o.low, k.low)) (omega (arith, k.high)) in let s = (size_at (class - 2) (omega (arith, k.high))).above in omega arith))
      (λ (l : class ≤ other). l)
      (cases_lt other class);
}

-- so a request of these bytes gets just them
pub own_size : (class : ℕ) → IsClass class → chunk_size (class_size class) ≡ class_size class
own_size class k = sym (size_least (class_size class) class (own_least class k))
