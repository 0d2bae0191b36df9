-- What is under names.
use Rattle.std.specs.Prelude.{◌≡◌, ◌≢◌, ℕ, List, Option, None}
use Rattle.std.specs.BTreeMap.{BTreeMap, get_by}
use Rattle.std.specs.Cmp.Lexicographic.{slice_cmp}
use Rattle.std.specs.Global.{Vec}
use Rattle.std.specs.Ordering.{nat_cmp}

module _ {X : Type 0} where
  -- what is under a name
  abbrev pub under : BTreeMap (Vec ℕ) X → List ℕ → Option X
  under m name = get_by (λ key. slice_cmp nat_cmp name key.items) m

  -- nothing is under the name
  abbrev pub IsFree : BTreeMap (Vec ℕ) X → List ℕ → Type 0
  IsFree m name = under m name ≡ None

  -- afterwards this is under the name, and under each other name is what was there
  pub record Puts (m n : BTreeMap (Vec ℕ) X) (name : List ℕ) (w : Option X) : Type 0 where
    pub there : under n name ≡ w
    pub others : (other : List ℕ) → other ≢ name → under n other ≡ under m other

  -- under each name is what was there
  abbrev pub Stays : BTreeMap (Vec ℕ) X → BTreeMap (Vec ℕ) X → Type 0
  Stays m n = (name : List ℕ) → under n name ≡ under m name
