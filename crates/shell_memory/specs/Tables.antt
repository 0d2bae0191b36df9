-- The commands over the hash table: what each is answered, and what it does. This page goes with the table "The hash
-- table" of docs/SHELL.md.
use Rattle.std.specs.Prelude.{◌≡◌, ℕ, zero, suc, ◌+◌, ◌<◌, ◌⊎◌, ◌++◌, List, codes, cond, decimal, is_some, Option, Some, None, IfSome, IsSome, replicate}
use Rattle.atomic_table.specs.Seated.{TableId}
use Rattle.dsa_area.specs.declared.area.Area.{Area}
use Rattle.dsa_area.specs.declared.area.AreaPass.{AreaPass}
use Rattle.dshash_core.specs.Key.{packed_key}
use Rattle.dshash_parts.specs.Opening.{Asks, IsNoTable}
use Rattle.dshash_parts.specs.Traces.{Got}
use Rattle.dshash_parts.specs.declared.open.DsNew.TheVariants as no_table
use Rattle.dshash_numbers.specs.Maps.{ComesFrom, IsMade, IsNew, IsNumberTable, IsRefused, IsTotal}
use Rattle.dshash_numbers.specs.declared.number.NumberCall.{NumberCall}
use Rattle.dshash_numbers.specs.declared.number.NumberCall.TheVariants as verb
use Rattle.dshash_numbers.specs.declared.table.NumberTable.{NumberTable}
use Rattle.shell_lines.specs.TableRequests.{TableRequest, Table, Put, Get, Delete, Fill, Total}
use Rattle.shell_memory.specs.declared.heap.Heap.{Heap}
use Rattle.shell_memory.specs.declared.table.Cells.{Cells}
use Rattle.shell_memory.specs.declared.table.TableAnswer.{TableAnswer}
use Rattle.shell_memory.specs.declared.table.TableAnswer.TheVariants as answer

-- the line of an answer
abbrev pub text_of : TableAnswer → List ℕ
text_of answer.NoTable = codes "notable"
text_of answer.Done = codes "ok"
text_of (answer.NoSpace pages largest) = codes "nospace " ++ (decimal pages ++ (codes " " ++ decimal largest))
text_of answer.New = codes "new"
text_of (answer.Old value) = codes "old " ++ decimal value
text_of (answer.Value value) = decimal value
text_of answer.None = codes "none"
text_of (answer.Filled new) = codes "new " ++ decimal new
text_of (answer.Total count sum) = codes "total " ++ (decimal count ++ (codes " " ++ decimal sum))

-- the table that there is
abbrev pub table_of : Cells → Option NumberTable
table_of c = c.table

-- the table, if there is one, is in the region
abbrev pub IsCells : TableId → Cells → Type 0
IsCells region c = IfSome c.table (IsNumberTable region)

-- the table, if there is one, was made with this area
abbrev pub CellsFrom : Area → Cells → Type 0
CellsFrom a c = IfSome c.table (ComesFrom a)

-- the key of the i-th number that `fill` puts
abbrev pub fill_key : ℕ → List ℕ
fill_key i = codes "f" ++ decimal i

-- a key that had nothing under it is new
abbrev pub one_if_new : Option ℕ → ℕ
one_if_new before = cond {A = ℕ} (is_some before) 0 1

module _ (a : Area) where
  -- The puts of the numbers up to this one lead from a table n and a pass u of the area to n' and u', and this many of
  -- their keys were new
  abbrev pub Puts : ℕ → ℕ → NumberTable → AreaPass → NumberTable → AreaPass → Type 0
  Puts zero new n u n' u' = (new ≡ 0) × (n' ≡ n) × (u' ≡ u)
  Puts (suc i) new n u n' u' =
      (m : NumberTable) × (w : AreaPass) × (fewer : ℕ) × (before : Option ℕ) × Puts i fewer n u m w
      × IsMade a m n' w u' (packed_key (fill_key (suc i))) (verb.Put (suc i)) before × (new ≡ fewer + one_if_new before)

  -- The put of one of the numbers up to this one was refused, with these two numbers, and those before it were made
  pub record Stops (count wanted largest : ℕ) (n : NumberTable) (u : AreaPass) (n' : NumberTable) (u' : AreaPass) : Type 0 where
    pub made : ℕ
    pub new : ℕ
    pub few : made < count
    pub table : NumberTable
    pub pass : AreaPass
    pub puts : Puts made new n u table pass
    pub refused : IsRefused a table n' pass u' (packed_key (fill_key (suc made))) (verb.Put (suc made)) wanted largest

-- a table n and the caller's pass u of the area a become n' and u'
module _ (a : Area) (n n' : NumberTable) (u u' : AreaPass) where
  -- one call of a key was made, with the number that was there before
  abbrev pub Calls : List ℕ → NumberCall → Option ℕ → Type 0
  Calls key call before = IsMade a n n' u u' (packed_key key) call before

  -- `put KEY VALUE`
  abbrev pub Sets : List ℕ → ℕ → TableAnswer → Type 0
  Sets key value answer.New = Calls key (verb.Put value) None
  Sets key value (answer.Old before) = Calls key (verb.Put value) (Some before)
  Sets key value (answer.NoSpace pages largest) = IsRefused a n n' u u' (packed_key key) (verb.Put value) pages largest
  Sets key value other = ⊥

  -- `get KEY`, and `del KEY`
  abbrev pub Gives : List ℕ → NumberCall → TableAnswer → Type 0
  Gives key call (answer.Value before) = Calls key call (Some before)
  Gives key call answer.None = Calls key call None
  Gives key call other = ⊥

  -- `fill N`
  abbrev pub Fills : ℕ → TableAnswer → Type 0
  Fills count (answer.Filled new) = Puts a count new n u n' u'
  Fills count (answer.NoSpace pages largest) = Stops a count pages largest n u n' u'
  Fills count other = ⊥

  -- `total`
  abbrev pub Totals : TableAnswer → Type 0
  Totals (answer.Total count sum) = IsTotal n n' count sum × (u' ≡ u)
  Totals other = ⊥

-- a heap h and cells c become h' and c'
module _ (h h' : Heap) (c c' : Cells) where
  -- nothing changes
  abbrev pub Same : Type 0
  Same = (h' ≡ h) × (c' ≡ c)

  -- `table`
  abbrev pub Opens : TableAnswer → Type 0
  Opens answer.Done =
      (IsSome c.table × Same)
      ⊎ ((c.table ≡ None) × (h'.area ≡ h.area) × Asks h.area h.pass h'.pass (replicate 128 (Got 8)) × ((n : NumberTable) × (c'.table ≡ Some n) × IsNew n))
  Opens (answer.NoSpace pages largest) = (c.table ≡ None) × (c'.table ≡ None) × (h'.area ≡ h.area) × IsNoTable h.area h.pass h'.pass (no_table.NoSpace pages largest)
  Opens other = ⊥

  -- there is no table, and nothing changes; or the table goes on by a step that has the answer
  abbrev pub Goes : (Area → NumberTable → NumberTable → AreaPass → AreaPass → TableAnswer → Type 0) → TableAnswer → Type 0
  Goes Step a =
      ((c.table ≡ None) × (a ≡ answer.NoTable) × Same)
      ⊎ ((h'.area ≡ h.area) × ((n n' : NumberTable) × (c.table ≡ Some n) × (c'.table ≡ Some n') × Step h.area n n' h.pass h'.pass a))

  -- what a request is answered, and what it does
  abbrev pub Answers : TableRequest → TableAnswer → Type 0
  Answers Table a = Opens a
  Answers (Put key value) a = Goes (λ z n n' u u'. Sets z n n' u u' key value) a
  Answers (Get key) a = Goes (λ z n n' u u'. Gives z n n' u u' key verb.Get) a
  Answers (Delete key) a = Goes (λ z n n' u u'. Gives z n n' u u' key verb.Delete) a
  Answers (Fill count) a = Goes (λ z n n' u u'. Fills z n n' u u' count) a
  Answers Total a = Goes Totals a

  -- the line that a request is answered
  pub record IsAnswered (request : TableRequest) (line : List ℕ) : Type 0 where
    pub answer : TableAnswer
    pub text : line ≡ text_of answer
    pub does : Answers request answer
