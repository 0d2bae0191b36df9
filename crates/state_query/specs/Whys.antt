-- Why the files of an input are not put together.
use Rattle.std.specs.Prelude.{◌≡◌, ◌≢◌, ◌++◌, ◌⊎◌, ℕ, List, string_bytes}
use Rattle.std.specs.FinMap as map
use Rattle.par_model.specs.Named.{bound_plan}
use Rattle.partial_agg.specs.Listed.{listed}
use Rattle.plan_spec.specs.Query.{Query}
use Rattle.state_combine.specs.Combined.{IsTooLong}
use Rattle.state_cover.specs.Faults.{IsNoCover}
use Rattle.state_cover.specs.declared.joining.CoverFault.{CoverFault}
use Rattle.state_cover.specs.declared.missing.Missing.{Missing}
use Rattle.state_finalize.specs.Finished.{HaveSmallSlots}
use Rattle.state_front.specs.Front.{IsFront, IsNoFront, front_bytes}
use Rattle.state_front.specs.declared.title.FrontFault.{FrontFault}
use Rattle.state_head.specs.Head.{Preface}
use Rattle.state_load.specs.Faults.{AreNoParts}
use Rattle.state_load.specs.Loading.{stretches_of}
use Rattle.state_load.specs.declared.loading.LoadCause.TheVariants as cause
use Rattle.state_load.specs.declared.loading.LoadFault.{LoadFault}
use Rattle.state_plan.specs.FilePlans.{AskFor, HasNoPlan, header_of}
use Rattle.state_plan.specs.declared.file_plan.PlanFault.{PlanFault}
use Rattle.state_plan.specs.declared.file_plan.PlanFault.TheVariants as plan_fault
use Rattle.state_source.specs.declared.adding.SourceFault.{SourceFault}
use Rattle.state_source.specs.declared.adding.SourceFault.TheVariants as source_fault
use Rattle.state_total.specs.Total.{LacksBytes}
use Rattle.state_total.specs.declared.total.FirstRefused.{FirstRefused}
use Rattle.state_whole.specs.Adding.{IsShapeOf}
use Rattle.state_whole.specs.declared.adding.Shape.{Shape}
use Rattle.table_query.specs.Lines.{refusal_text}
use Rattle.state_query.specs.Inputs.{HasRefusedRow, Input, IsInput, groups_in}
use Rattle.state_query.specs.declared.stop.Stop.{Stop}
use Rattle.state_query.specs.declared.stop.Stop.TheVariants as stop

-- bytes that begin with the front of a file
pub record BeginsWith (bytes : List ℕ) (front : Preface) : Type 0 where
  pub is_front : IsFront front
  pub rest : List ℕ
  pub is : bytes ≡ front_bytes front ++ rest

-- bytes that begin with no front
pub record HasNoFirst (bytes : List ℕ) (fault : LoadFault) : Type 0 where
  pub why : FrontFault
  pub is : fault ≡ record { file = 1; why = cause.Front why }
  pub none : IsNoFront bytes why

-- bytes that begin with the front of a file of this query, and are no files of it
pub record GoesWrong (bytes : List ℕ) (fault : LoadFault) : Type 0 where
  pub front : Preface
  pub begins : BeginsWith bytes front
  pub query : Query
  pub ask_for : AskFor front.subject.words query
  pub shape : Shape
  pub is_shape : IsShapeOf (bound_plan (header_of query.reading front.subject) query.plan) shape
  pub none : AreNoParts shape front.subject front.keys map.empty bytes fault

-- the file of this number is none of those that go together
abbrev pub IsNoInput : List ℕ → LoadFault → Type 0
IsNoInput bytes fault = HasNoFirst bytes fault ⊎ GoesWrong bytes fault

-- bytes that begin with the front of a file that names no plan
pub record NamesNoPlan (bytes : List ℕ) (why : PlanFault) : Type 0 where
  pub front : Preface
  pub begins : BeginsWith bytes front
  pub none : HasNoPlan front.subject why

-- the first file has no plan, and memory is not why
pub record HasNoPlanAtAll (bytes : List ℕ) : Type 0 where
  pub why : PlanFault
  pub known : why ≢ plan_fault.Memory
  pub names : NamesNoPlan bytes why

-- files whose stretches are no cover
pub record AreNoCover (bytes : List ℕ) (why : CoverFault) : Type 0 where
  pub input : Input
  pub is_input : IsInput bytes input
  pub none : IsNoCover (stretches_of input.files) why

-- files that lack bytes
pub record LackBytes (bytes : List ℕ) (gap : Missing) : Type 0 where
  pub input : Input
  pub is_input : IsInput bytes input
  pub lacks : LacksBytes input.subject.sources (stretches_of input.files) gap

-- files with a count or a sum that no 2^50 rows give
pub record HaveLargeSlots (bytes : List ℕ) : Type 0 where
  pub input : Input
  pub is_input : IsInput bytes input
  pub large : HaveSmallSlots (listed (groups_in input)) → ⊥

-- files of which no one file is short enough
pub record AreTooLong (bytes : List ℕ) : Type 0 where
  pub input : Input
  pub is_input : IsInput bytes input
  pub long : IsTooLong input.shape input.subject input.keys (groups_in input) (stretches_of input.files)

-- what is said of a refused row
abbrev pub said_of : Input → FirstRefused → List ℕ
said_of i row = refusal_text i.query.plan (record { cause = row.why.cause; item = row.why.item })

-- files of which this row of this source is the first refused one
pub record RefuseRow (bytes : List ℕ) (source row : ℕ) (said : List ℕ) : Type 0 where
  pub input : Input
  pub is_input : IsInput bytes input
  pub found : FirstRefused
  pub first : HasRefusedRow input found
  pub source_is : source ≡ found.source
  pub row_is : row ≡ found.why.row
  pub said_is : said ≡ said_of input found

-- a reason is one of these bytes
abbrev pub IsStopOf : List ℕ → Stop → Type 0
IsStopOf bytes stop.ReadFault = ⊥
IsStopOf bytes (stop.Load fault) = IsNoInput bytes fault
IsStopOf bytes stop.NoPlan = HasNoPlanAtAll bytes
IsStopOf bytes (stop.Cover why) = AreNoCover bytes why
IsStopOf bytes (stop.Missing gap) = LackBytes bytes gap
IsStopOf bytes stop.Rows = HaveLargeSlots bytes
IsStopOf bytes (stop.Refused source row said) = RefuseRow bytes source row (string_bytes said)
IsStopOf bytes stop.Long = AreTooLong bytes
IsStopOf bytes stop.WriteFault = ⊥
IsStopOf bytes stop.NoKey = ⊥
IsStopOf bytes stop.Memory = Unit {0}

-- why a call on a source that has these bytes left ends so: a read or a write failed, or the reason is one of the bytes
abbrev pub IsWhy : List ℕ → Stop → Type 0
IsWhy bytes why = (why ≡ stop.ReadFault) ⊎ ((why ≡ stop.WriteFault) ⊎ IsStopOf bytes why)

-- why there is nothing of a source with these bytes: a read failed, or the reason is one of the bytes
abbrev pub IsReadStop : List ℕ → Stop → Type 0
IsReadStop bytes why = (why ≡ stop.ReadFault) ⊎ IsStopOf bytes why

-- why the files of a source with these bytes are not added
abbrev pub IsNoSource : List ℕ → SourceFault → Type 0
IsNoSource bytes source_fault.ReadFault = Unit {0}
IsNoSource bytes source_fault.Memory = Unit {0}
IsNoSource bytes (source_fault.Load fault) = IsNoInput bytes fault
