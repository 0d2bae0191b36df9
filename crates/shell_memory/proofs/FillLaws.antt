-- Puts of numbers one after another, each under its own key.
use Rattle.std.proofs.Common.{◌≡◌, ℕ, suc, ◌+◌, ◌<◌, List, Option, sym, ap, subst}
use Rattle.dsa_area.specs.declared.area.Area.{Area}
use Rattle.dsa_area.specs.declared.area.AreaPass.{AreaPass}
use Rattle.dshash_core.specs.Key.{packed_key}
use Rattle.dshash_numbers.specs.Maps.{IsMade, IsRefused}
use Rattle.dshash_numbers.specs.declared.number.NumberCall.TheVariants.{Put}
use Rattle.dshash_numbers.specs.declared.table.NumberTable.{NumberTable}
use Rattle.shell_memory.specs.Tables.{Puts, Stops, fill_key, one_if_new}

-- i puts were made, of which this many had a new key, and led from n and u to m and w. The next is of this number,
-- under this key
module _ (a b : Area) (i new : ℕ) (n m n' : NumberTable) (u w u' : AreaPass) (key : List ℕ) (number : ℕ) (same : b ≡ a) (is : key ≡ fill_key number) (next : number ≡ suc i) (puts : Puts a i new n u m w) where
  -- it was made
  pub one-more : (more : ℕ) → ((before : Option ℕ) × (more ≡ one_if_new before) × IsMade b m n' w u' (packed_key key) (Put number) before) → Puts a number (new + more) n u n' u'
  one-more more x =
      let here = subst (λ (z : Area). IsMade z m n' w u' (packed_key key) (Put number) x.0) same x.2 in
      let there = subst (λ (k : List ℕ). IsMade a m n' w u' (packed_key k) (Put number) x.0) is here in
      let made = subst (λ (k : ℕ). IsMade a m n' w u' (packed_key (fill_key k)) (Put k) x.0) next there in
      subst (λ (k : ℕ). Puts a k (new + more) n u n' u') (sym next) (m, w, new, x.0, puts, made, ap (λ (k : ℕ). new + k) x.1)

  -- it was refused
  pub stops-here : (count wanted largest : ℕ) → i < count → IsRefused b m n' w u' (packed_key key) (Put number) wanted largest → Stops a count wanted largest n u n' u'
  stops-here count wanted largest few x =
      let here = subst (λ (z : Area). IsRefused z m n' w u' (packed_key key) (Put number) wanted largest) same x in
      let there = subst (λ (k : List ℕ). IsRefused a m n' w u' (packed_key k) (Put number) wanted largest) is here in
      let refused = subst (λ (k : ℕ). IsRefused a m n' w u' (packed_key (fill_key k)) (Put k) wanted largest) next there in
      record { made = i; new = new; few = few; table = m; pass = w; puts = puts; refused = refused }
