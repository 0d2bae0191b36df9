-- A table in ranges of keys.
use Rattle.std.specs.Prelude.{◌≡◌, ◌<◌, ◌++◌, ◌||◌, ◌^◌, ◌∷◌, [], ℕ, All, true, false, List, length}
use Rattle.std.specs.List.{AllZip, concat}
use Rattle.csv.specs.Writing.{default_writer, row_text}
use Rattle.csv_rows.specs.Records.{records_of}
use Rattle.par_model.specs.Key.{encoded}
use Rattle.par_model.specs.Named.{NamedPlan, bound_plan}
use Rattle.par_model.specs.Outcome.{IsAnswer}
use Rattle.par_model.specs.Plan.{Plan}
use Rattle.par_model.specs.Table.{table_header}
use Rattle.partial_agg.specs.Groups.{AreGroups, GroupsByKey}
use Rattle.partial_agg.specs.Listed.{listed}
use Rattle.partial_agg.specs.declared.groups.Group.{Group}
use Rattle.result_text.specs.Text.{AreLinesOf}
use Rattle.state_head.specs.Words.{Keys}
use Rattle.state_order.specs.Ranges.{AreWithin, is_before, is_open}
use Rattle.state_range.specs.declared.bounds.BoundFault.{BoundFault}
use Rattle.state_range.specs.declared.bounds.BoundFault.TheVariants as fault

-- the header, before the lines of a range with no low end
abbrev pub header_before : NamedPlan → List ℕ → List ℕ
header_before names [] = row_text default_writer (table_header names)
header_before names (byte ∷ low) = []

-- a text has the lines of some groups, after the header unless there is a low end
pub record IsTextAfter (names : NamedPlan) (plan : Plan) (low : List ℕ) (groups : List Group) (text : List ℕ) : Type 0 where
  pub lines : List ℕ
  pub are_lines : AreLinesOf plan groups lines
  pub is : text ≡ header_before names low ++ lines

-- a text is that of the groups of a map that lie in a range
pub record IsTextWithin (names : NamedPlan) (plan : Plan) (range : Keys) (m : GroupsByKey) (text : List ℕ) : Type 0 where
  pub groups : GroupsByKey
  pub are_within : AreWithin (length plan.groups) range m groups
  pub is_text : IsTextAfter names plan range.low (listed groups) text

-- a field whose length has 4 bytes
abbrev pub IsShort : List ℕ → Type 0
IsShort field = length field < 2 ^ 32

-- a key is the encoding of the one record that a word is, which has this many fields
pub record IsBoundOf (columns : ℕ) (word key : List ℕ) : Type 0 where
  pub fields : List (List ℕ)
  pub one : records_of word ≡ fields ∷ []
  pub many : length fields ≡ columns
  pub short : All IsShort fields
  pub is : key ≡ encoded fields

-- why a word is no end of a range
abbrev pub IsNoBound : ℕ → List ℕ → BoundFault → Type 0
IsNoBound columns word fault.Memory = Unit {0}
IsNoBound columns word fault.NoKey = (fields : List (List ℕ)) → records_of word ≡ fields ∷ [] → length fields ≡ columns → All IsShort fields → ⊥

-- the ranges that begin at a low end, if it is one, and at each of some keys, and end where the next one begins
abbrev pub ranges_from : List ℕ → List (List ℕ) → List Keys
ranges_from low [] = record { low = low; high = [] } ∷ []
ranges_from low (cut ∷ cuts) = record { low = low; high = cut } ∷ ranges_from cut cuts

-- keys at which ranges may begin: each comes after the one before it, and the first after a low end
abbrev pub RiseFrom : ℕ → List ℕ → List (List ℕ) → Type 0
RiseFrom columns low [] = Unit {0}
RiseFrom columns low (cut ∷ cuts) = (is_open cut ≡ false) × ((is_open low || is_before columns low cut) ≡ true) × RiseFrom columns cut cuts

-- the texts of the ranges between some keys, one after another, answer a plan that groups by columns
abbrev pub RangesAnswer : Type 0
RangesAnswer = (names : NamedPlan) (plan : Plan) (header : List (List ℕ)) (rows : List (List (List ℕ))) (m : GroupsByKey) (cuts texts : List (List ℕ)) → plan ≡ bound_plan header names
    → (length plan.groups ≡ 0 → ⊥) → AreGroups plan rows m → RiseFrom (length plan.groups) [] cuts → AllZip (λ range text. IsTextWithin names plan range m text) (ranges_from [] cuts) texts
    → IsAnswer names (header ∷ rows) (concat texts)
