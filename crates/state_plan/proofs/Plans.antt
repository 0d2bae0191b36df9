-- Why a head has no plan.
use Rattle.std.proofs.Common.{◌≡◌, ◌∙◌, ℕ, List, Some, ap, map, subst}
use Rattle.csv_rows.specs.Readings.{IsSeparator, exchanged, records_as, records_in}
use Rattle.csv_rows.specs.declared.cleaning.Reading.{Reading}
use Rattle.csv_rows.proofs.Exchanges.{reads-exchanged}
use Rattle.csv_rows.specs.Records.{record_at}
use Rattle.par_model.specs.Named.{missing_name}
use Rattle.plan_spec.specs.Query.{Query}
use Rattle.state_head.specs.Head.{Subject}
use Rattle.state_plan.specs.FilePlans.{AskFor, HasNoPlan, HaveNoPlan, IsNoHeader, LacksName}
use Rattle.state_plan.specs.declared.file_plan.PlanFault.{PlanFault}
use Rattle.state_plan.specs.declared.file_plan.PlanFault.TheVariants as fault

pub by_words : (s : Subject) (why : PlanFault) → HaveNoPlan s.words why → HasNoPlan s why
by_words s fault.Memory none = tt
by_words s fault.Words none = none
by_words s fault.Header none = absurd none
by_words s fault.Column none = absurd none

pub by_header : (s : Subject) (query : Query) (why : PlanFault) → AskFor s.words query → IsNoHeader (records_in query.reading s.header) why → HasNoPlan s why
by_header s query fault.Memory ask none = tt
by_header s query fault.Words ask none = absurd none
by_header s query fault.Header ask none = record { query = query; ask_for = ask; other = none }
by_header s query fault.Column ask none = absurd none

-- a header that lacks this name
pub by_column : (s : Subject) (query : Query) (header : List (List (List ℕ))) (name : List ℕ) → AskFor s.words query → header ≡ records_in query.reading s.header → missing_name (record_at header 0) query.plan ≡ Some name → LacksName s
by_column s query header name ask is lacks = record {
  query = query;
  ask_for = ask;
  name = name;
  lacks = subst (λ (h : List (List (List ℕ))). missing_name (record_at h 0) query.plan ≡ Some name) is lacks;
}

-- the records of bytes are those of the text with commas
pub comma_records : (plan reading : Reading) (bytes text given : List ℕ) → reading ≡ plan → IsSeparator reading.separator → text ≡ map (exchanged reading.separator) bytes → given ≡ text → records_as reading given ≡ records_in plan bytes
comma_records plan reading bytes text given is separates exchanges same =
    ap (records_as reading) (same ∙ exchanges) ∙ (reads-exchanged reading bytes separates ∙ ap (λ (r : Reading). records_in r bytes) is)
