-- Steps of the hash table, as the shell has it.
use Rattle.std.proofs.Common.{◌≡◌, inr, ℕ, List, Option, None, Some, IfNone, IfSome, Result, Ok, Err, IfOk, OnOk, refl, sym, subst}
use Rattle.dsa_area.specs.declared.area.Area.{Area}
use Rattle.dsa_area.specs.declared.area.AreaPass.{AreaPass}
use Rattle.dshash_core.specs.Key.{packed_key}
use Rattle.dshash_numbers.specs.Maps.{ComesFrom, IsMade}
use Rattle.dshash_numbers.specs.declared.number.NumberCall.{NumberCall}
use Rattle.dshash_numbers.specs.declared.table.NumberTable.{NumberTable}
use Rattle.shell_memory.specs.Tables.{CellsFrom, Fills, Gives, Goes}
use Rattle.shell_memory.specs.declared.heap.Heap.{Heap}
use Rattle.shell_memory.specs.declared.table.Cells.{Cells}
use Rattle.shell_memory.specs.declared.table.TableAnswer.{TableAnswer}
use Rattle.shell_memory.specs.declared.table.TableAnswer.TheVariants as answer

-- the table goes on by a step
pub goes : (Step : Area → NumberTable → NumberTable → AreaPass → AreaPass → TableAnswer → Type 0) (h : Heap) (p : AreaPass) (c : Cells) (n n' : NumberTable) (a : TableAnswer) → c.table ≡ Some n → Step h.area n n' h.pass p a
    → Goes h (record { area = h.area; pass = p }) c (record { table = Some n' }) Step a
goes Step h p c n n' a is step = inr (refl, (n, n', is, refl, step))

-- and comes from the area that it came from
pub stays_home : (z : Area) (c : Cells) (n n' : NumberTable) → c.table ≡ Some n → (ComesFrom z n → ComesFrom z n') → CellsFrom z c → CellsFrom z (record { table = Some n' })
stays_home z c n n' is step home = step (subst (λ (o : Option NumberTable). IfSome o (ComesFrom z)) is home)

-- what stood under a key, as an answer
pub gives : (z : Area) (n n' : NumberTable) (u u' : AreaPass) (key : List ℕ) (call : NumberCall) (value : Option ℕ) (a : TableAnswer) → IfNone value (a ≡ answer.None) → IfSome value (λ k. a ≡ answer.Value k)
    → IsMade z n n' u u' (packed_key key) call value → Gives z n n' u u' key call a
gives z n n' u u' key call None a none some made = subst (Gives z n n' u u' key call) (sym none) made
gives z n n' u u' key call (Some k) a none some made = subst (Gives z n n' u u' key call) (sym some) made

-- the puts of numbers, as an answer
pub filled : {E : Type 0} (h h' : Heap) (c : Cells) (n n' : NumberTable) (count : ℕ) (r : Result TableAnswer E) → c.table ≡ Some n → OnOk r (h'.area ≡ h.area) → IfOk r (Fills h.area n n' h.pass h'.pass count)
    → IfOk r (Goes h h' c (record { table = Some n' }) (λ a n m u v. Fills a n m u v count))
filled h h' c n n' count (Ok a) is same fills = inr (same, (n, n', is, refl, fills))
filled h h' c n n' count (Err e) is same fills = tt
