-- What all files come to: the text of a table, or a refused row.
use Rattle.std.specs.Prelude.{ℕ, List, All}
use Rattle.par_model.specs.Named.{NamedPlan}
use Rattle.par_model.specs.Plan.{Plan}
use Rattle.partial_agg.specs.Groups.{GroupsByKey}
use Rattle.partial_agg.specs.Listed.{listed}
use Rattle.partial_agg.specs.declared.groups.Group.{Group}
use Rattle.result_text.specs.Pieces.{joined}
use Rattle.result_text.specs.Printable.{IsSmallSlot}
use Rattle.result_text.specs.Text.{IsTextOf}
use Rattle.state_head.specs.Words.{Keys}
use Rattle.state_head.specs.declared.cover.Stretch.{Stretch}
use Rattle.state_range.specs.Ranges.{IsTextWithin}
use Rattle.state_total.specs.Total.{IsCounted, IsFirstRefused, IsNoTotal, IsWholeCover}
use Rattle.state_finalize.specs.declared.finishing.FinishFault.{FinishFault}
use Rattle.state_finalize.specs.declared.finishing.FinishFault.TheVariants as fault
use Rattle.state_finalize.specs.declared.finishing.Finished.{Finished}
use Rattle.state_finalize.specs.declared.finishing.Finished.TheVariants.{Refused, Table}

-- what a map of groups and a cover of all bytes come to
abbrev pub ComesTo : NamedPlan → Plan → GroupsByKey → List Stretch → Finished → Type 0
ComesTo names plan m cover (Table pieces) = All IsCounted cover × IsTextOf names plan (listed m) (joined pieces.items)
ComesTo names plan m cover (Refused row) = IsFirstRefused cover row

-- the stretches of all files are all bytes of this many sources, each once, and this is what they come to
pub record IsFinished (names : NamedPlan) (plan : Plan) (sources : ℕ) (m : GroupsByKey) (stretches : List Stretch) (f : Finished) : Type 0 where
  pub cover : List Stretch
  pub is_whole : IsWholeCover sources stretches cover
  pub comes_to : ComesTo names plan m cover f

-- what they come to in a range of keys
abbrev pub ComesToWithin : NamedPlan → Plan → Keys → GroupsByKey → List Stretch → Finished → Type 0
ComesToWithin names plan range m cover (Table pieces) = All IsCounted cover × IsTextWithin names plan range m (joined pieces.items)
ComesToWithin names plan range m cover (Refused row) = IsFirstRefused cover row

pub record IsFinishedWithin (names : NamedPlan) (plan : Plan) (sources : ℕ) (range : Keys) (m : GroupsByKey) (stretches : List Stretch) (f : Finished) : Type 0 where
  pub cover : List Stretch
  pub is_whole : IsWholeCover sources stretches cover
  pub comes_to : ComesToWithin names plan range m cover f

-- counts and sums as at most 2^50 rows give them
abbrev pub HaveSmallSlots : List Group → Type 0
HaveSmallSlots groups = All (λ group. All IsSmallSlot group.state.slots) groups

-- why they come to nothing
abbrev pub IsNotFinished : ℕ → GroupsByKey → List Stretch → FinishFault → Type 0
IsNotFinished sources m stretches fault.Memory = Unit {0}
IsNotFinished sources m stretches (fault.Total why) = IsNoTotal sources stretches why
IsNotFinished sources m stretches fault.Rows = HaveSmallSlots (listed m) → ⊥

-- why a map has no text
abbrev pub IsNoText : GroupsByKey → FinishFault → Type 0
IsNoText m fault.Memory = Unit {0}
IsNoText m (fault.Total why) = ⊥
IsNoText m fault.Rows = HaveSmallSlots (listed m) → ⊥
