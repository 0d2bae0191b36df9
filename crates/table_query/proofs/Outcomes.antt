-- A query that is ready to run: what its rows and the reasons to have no answer say of the outcome.
use Rattle.std.proofs.Common.{[], ◌≡◌, ◌<◌, ◌≤◌, ◌⊎◌, ◌∙◌, inl, inr, ℕ, List, ◌∷◌, false, if◌then◌else◌, length, drop, refl, ap, arith, subst, sym, None, Some, Option, Contains, IfSome, nat_lt}
use Rattle.std.specs.Prelude.{option_map, slice_get}
use Rattle.std.proofs.lemmas.Bool.Decides.{nat_tests}
use Rattle.csv_rows.specs.Records.{record_at, records_of}
use Rattle.par_model.specs.Named.{NamedPlan, bound_plan, missing_name}
use Rattle.par_model.specs.Outcome.{Outcome, TooManyRows, Usage, by_missing, by_records, by_refused}
use Rattle.par_model.specs.Plan.{Plan}
use Rattle.par_model.specs.Refuse.{refused_rows}
use Rattle.par_model.specs.declared.refusal.Refusal.{Refusal}
use Rattle.plan_spec.specs.Query.{Query}
use Rattle.table_query.specs.Answers.{IsOutcome, outcome_over}
use Rattle.table_query.specs.Asked.{plan_in, workers_in}
use Rattle.table_query.specs.Refused.{refused_in}
use Rattle.table_query.specs.Lines.{refused_of}
use Rattle.table_query.specs.Ready.{AreRecordsOf, IsReady}
use Rattle.table_query.specs.Stops.{Explains, IsEarly, IsExplained, IsFirstStop, IsRefusedRow}
use Rattle.table_query.specs.declared.input.Ready.{Ready}
use Rattle.table_query.specs.declared.stop.Stop.{Stop}
use Rattle.table_query.specs.declared.stop.Stop.TheVariants as stop
use Rattle.table_query.proofs.Inputs.{outcome-within}

-- ---- the records

-- the outcome of records within the limits, under a plan whose columns they have
pub by_records_bound : (plan : NamedPlan) (records : List (List (List ℕ))) (bound : Plan) → 0 < length records → length records ≤ 4194305 → missing_name (record_at records 0) plan ≡ None
    → bound ≡ bound_plan (record_at records 0) plan → by_records plan records ≡ by_refused (refused_in bound records)
by_records_bound plan [] bound some few whole is = absurd (omega (arith, some))
by_records_bound plan (header ∷ rows) bound some few whole is =
    let test : nat_lt 4194304 (length rows) ≡ false = grind (arith, nat_tests) in
    ap (λ b. if b then TooManyRows else by_missing plan header rows (missing_name header plan)) test ∙ ap (by_missing plan header rows) whole
    ∙ ap (λ (b : Plan). by_refused (refused_rows b (length header) rows)) (sym is)

-- why the records have no table
pub explained_rows : (plan : NamedPlan) (left : Option (List ℕ)) (records : List (List (List ℕ))) (why : Stop) → IfSome left (λ bytes. AreRecordsOf records bytes) → Explains (Some plan) why (by_records plan records)
    → IsExplained (Some plan) left why
explained_rows plan None records why are e = (by_records plan records, tt, e)
explained_rows plan (Some bytes) records why are e =
    (outcome_over (Some plan) bytes, refl, subst (Explains (Some plan) why) (ap (by_records plan) are.are ∙ sym (outcome-within plan bytes are.within)) e)

pub plan_is : (asked : Option Query) (query : Query) → asked ≡ Some query → plan_in asked ≡ Some query.plan
plan_is asked query e = ap (option_map (λ (q : Query). q.plan)) e

-- the words ask for no workers
pub no_workers : (asked : Option Query) (query : Query) → asked ≡ Some query → workers_in asked ≡ Some 0 → query.workers ≡ 0
no_workers asked query e none = let zero : Some query.workers ≡ Some 0 = sym (ap (option_map (λ (q : Query). q.workers)) e) ∙ none in cc

pub ready_records : (left : Option (List ℕ)) (records : List (List (List ℕ))) → IfSome left (λ bytes. AreRecordsOf records bytes) → IfSome left (λ bytes. records ≡ records_of bytes)
ready_records None records are = tt
ready_records (Some bytes) records are = are.are

pub ready_outcome : (asked : Option Query) (left : Option (List ℕ)) (records : List (List (List ℕ))) (query : Query) (bound : Plan) → asked ≡ Some query → IfSome left (λ bytes. AreRecordsOf records bytes)
    → by_records query.plan records ≡ by_refused (refused_in bound records) → IfSome left (λ bytes. outcome_over (plan_in asked) bytes ≡ by_refused (refused_in bound records))
ready_outcome asked None records query bound e are is = tt
ready_outcome asked (Some bytes) records query bound e are is =
    ap (λ (p : Option NamedPlan). outcome_over p bytes) (plan_is asked query e) ∙ outcome-within query.plan bytes are.within ∙ ap (by_records query.plan) (sym are.are) ∙ is

-- a header and the rows behind it
pub header_first : (records : List (List (List ℕ))) → 0 < length records → record_at records 0 ∷ drop 1 records ≡ records
header_first [] some = absurd (omega (arith, some))
header_first (header ∷ rows) some = refl

module _ (asked : Option Query) where
  -- ---- the answers

  pub refused_by : (rows : List (ℕ × Refusal)) → refused_of (by_refused rows) ≡ rows
  refused_by [] = refl
  refused_by (r ∷ rows) = refl

  outcome_told : (left : Option (List ℕ)) (r : Ready) → IsReady asked left r → IsOutcome (plan_in asked) left (by_refused (refused_in r.bound r.rows))
  outcome_told None r ready = tt
  outcome_told (Some bytes) r ready = sym ready.outcome

  pub refused_explained : (left : Option (List ℕ)) (r : Ready) (row : ℕ) (refusal : Refusal) (why : Stop) → IsReady asked left r → Contains (refused_in r.bound r.rows) (row, refusal) → IsRefusedRow r.plan.plan row refusal why
      → IsExplained (plan_in asked) left why
  refused_explained left r row refusal why ready has is =
      let o = by_refused (refused_in r.bound r.rows) in (
        o,
        outcome_told left r ready,
        subst (λ (w : Stop). Explains (plan_in asked) w o) (sym is.1)
            (subst (λ (p : Option NamedPlan). Explains p (stop.Refused row is.0) o) (sym (plan_is asked r.plan ready.query))
            (record { refusal = refusal; has = subst (λ (l : List (ℕ × Refusal)). Contains l (row, refusal)) (sym (refused_by (refused_in r.bound r.rows))) has; says = is.2 })),
      )

  pub refused_first_stop : (left : Option (List ℕ)) (r : Ready) (row : ℕ) (refusal : Refusal) (rest : List (ℕ × Refusal)) (why : Stop) → IsReady asked left r → refused_in r.bound r.rows ≡ (row, refusal) ∷ rest
      → IsRefusedRow r.plan.plan row refusal why → IfSome left (λ bytes. IsFirstStop (plan_in asked) why (outcome_over (plan_in asked) bytes))
  refused_first_stop None r row refusal rest why ready first is = tt
  refused_first_stop (Some bytes) r row refusal rest why ready first is =
      let o = outcome_over (plan_in asked) bytes in
      subst (λ (w : Stop). IsFirstStop (plan_in asked) w o) (sym is.1)
      (subst (λ (p : Option NamedPlan). IsFirstStop p (stop.Refused row is.0) o) (sym (plan_is asked r.plan ready.query))
      (record { refusal = refusal; first = ap (λ (l : Outcome). slice_get (refused_of l) 0) ready.outcome ∙ ap (λ (l : List (ℕ × Refusal)). slice_get l 0) (refused_by (refused_in r.bound r.rows) ∙ first); says = is.2 }))

  pub memory_explained : (left : Option (List ℕ)) → IsExplained (plan_in asked) left stop.Memory
  memory_explained None = (Usage, tt, tt)
  memory_explained (Some bytes) = (outcome_over (plan_in asked) bytes, refl, tt)

  -- a reason that names no row
  pub early_first : (left : Option (List ℕ)) (why : Stop) → IsEarly why → IfSome left (λ bytes. IsFirstStop (plan_in asked) why (outcome_over (plan_in asked) bytes))
  early_first None why e = tt
  early_first (Some bytes) why e = by why e
    where
      by : (why : Stop) → IsEarly why → IsFirstStop (plan_in asked) why (outcome_over (plan_in asked) bytes)
      by stop.Usage e = tt
      by stop.ReadFault e = tt
      by stop.TooManyBytes e = tt
      by stop.NoHeader e = tt
      by stop.TooManyRows e = tt
      by (stop.NoColumn name) e = tt
      by (stop.Refused row why) e = absurd e
      by stop.WriteFault e = absurd e
      by stop.Memory e = tt

  pub write_first : (left : Option (List ℕ)) → IfSome left (λ bytes. IsFirstStop (plan_in asked) stop.WriteFault (outcome_over (plan_in asked) bytes))
  write_first None = tt
  write_first (Some bytes) = tt

  pub write_explained : (left : Option (List ℕ)) (r : Ready) → IsReady asked left r → refused_in r.bound r.rows ≡ [] → IsExplained (plan_in asked) left stop.WriteFault
  write_explained left r ready none = (by_refused (refused_in r.bound r.rows), outcome_told left r ready, ap by_refused none)

  -- a table that could not be written, or not be made
  pub unwritten_explained : (left : Option (List ℕ)) (r : Ready) (why : Stop) → IsReady asked left r → refused_in r.bound r.rows ≡ [] → (why ≡ stop.WriteFault) ⊎ (why ≡ stop.Memory) → IsExplained (plan_in asked) left why
  unwritten_explained left r why ready none (inl e) = subst (IsExplained (plan_in asked) left) (sym e) (write_explained left r ready none)
  unwritten_explained left r why ready none (inr e) = subst (IsExplained (plan_in asked) left) (sym e) (memory_explained left)

  pub unwritten_first : (left : Option (List ℕ)) (why : Stop) → (why ≡ stop.WriteFault) ⊎ (why ≡ stop.Memory) → IfSome left (λ bytes. IsFirstStop (plan_in asked) why (outcome_over (plan_in asked) bytes))
  unwritten_first left why (inl e) = subst (λ (w : Stop). IfSome left (λ bytes. IsFirstStop (plan_in asked) w (outcome_over (plan_in asked) bytes))) (sym e) (write_first left)
  unwritten_first left why (inr e) = subst (λ (w : Stop). IfSome left (λ bytes. IsFirstStop (plan_in asked) w (outcome_over (plan_in asked) bytes))) (sym e) (early_first left stop.Memory tt)

  pub memory_first : (left : Option (List ℕ)) (why : Stop) → why ≡ stop.Memory → IfSome left (λ bytes. IsFirstStop (plan_in asked) why (outcome_over (plan_in asked) bytes))
  memory_first left why e = unwritten_first left why (inr e)
