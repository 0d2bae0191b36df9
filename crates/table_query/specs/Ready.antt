-- A query that is ready to run.
use Rattle.std.specs.Prelude.{◌≡◌, ◌<◌, ◌≤◌, ℕ, true, List, Option, Some, IfSome, length}
use Rattle.csv_rows.specs.Records.{record_at, records_of}
use Rattle.csv_rows.specs.declared.input.TheConstants.{MOST_BYTES}
use Rattle.csv_rows.specs.declared.records.TheConstants.{MOST_RECORDS}
use Rattle.par_model.specs.Columns.{HasColumns}
use Rattle.par_model.specs.Named.{bound_plan}
use Rattle.par_model.specs.Outcome.{by_refused}
use Rattle.par_model.specs.Plain.{is_plain}
use Rattle.partial_agg.specs.Rows.{header_width}
use Rattle.plan_spec.specs.Query.{Query}
use Rattle.table_query.specs.Answers.{outcome_over}
use Rattle.table_query.specs.Asked.{plan_in}
use Rattle.table_query.specs.Refused.{refused_in}
use Rattle.table_query.specs.declared.input.Ready.{Ready}

-- records are those of bytes within the limit
pub record AreRecordsOf (records : List (List (List ℕ))) (bytes : List ℕ) : Type 0 where
  pub are : records ≡ records_of bytes
  pub within : length bytes ≤ MOST_BYTES

-- the plan is plain, and bound to the header of the records, of which there are not too many
pub record IsBound (r : Ready) : Type 0 where
  pub is : r.bound ≡ bound_plan (record_at r.rows 0) r.plan.plan
  pub columns : HasColumns r.bound (header_width r.rows)
  pub plain : is_plain r.bound ≡ true
  pub some : 0 < length r.rows
  pub few : length r.rows ≤ MOST_RECORDS

-- it is the query that was asked for; if it is known what the source had left, it is over the records of those bytes,
-- and its outcome is that of its rows
pub record IsReady (asked : Option Query) (left : Option (List ℕ)) (r : Ready) : Type 0 where
  pub query : asked ≡ Some r.plan
  pub bound : IsBound r
  pub records : IfSome left (λ bytes. r.rows ≡ records_of bytes)
  pub outcome : IfSome left (λ bytes. outcome_over (plan_in asked) bytes ≡ by_refused (refused_in r.bound r.rows))
