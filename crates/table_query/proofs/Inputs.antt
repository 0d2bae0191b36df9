-- What an input says of the outcome.
use Rattle.std.proofs.Common.{[], ◌≡◌, ◌<◌, ◌≤◌, ◌∙◌, ℕ, List, ◌∷◌, false, true, length, refl, ap, arith, subst, None, Some, Option, IfSome, Result, Err, nat_lt, length-append}
use Rattle.std.proofs.lemmas.Bool.Decides.{nat_tests}
use Rattle.csv_rows.specs.Records.{records_of}
use Rattle.par_io.specs.Reads.{ReadsCount}
use Rattle.csv_rows.specs.declared.input.ReadAnswer.{ReadAnswer}
use Rattle.csv_rows.specs.declared.input.ReadAnswer.TheVariants as reading
use Rattle.csv_rows.specs.declared.records.RowsAnswer.{RowsAnswer}
use Rattle.csv_rows.specs.declared.records.RowsAnswer.TheVariants as parsing
use Rattle.par_model.specs.Named.{NamedPlan}
use Rattle.par_model.specs.Outcome.{TooManyBytes, TooManyRows, Usage, by_records, outcome}
use Rattle.plan_spec.specs.Query.{Query}
use Rattle.plan_spec.specs.declared.plan.PlanAnswer.{PlanAnswer}
use Rattle.plan_spec.specs.declared.plan.PlanAnswer.TheVariants as usage
use Rattle.table_query.specs.Answers.{outcome_over}
use Rattle.table_query.specs.Asked.{plan_in}
use Rattle.table_query.specs.Stops.{Explains, IsExplained, stop_of_parsing, stop_of_reading, stop_of_words}
use Rattle.table_query.specs.declared.stop.Stop.{Stop}

-- what holds of the bytes that were read holds of those that were told
pub told : (left : Option (List ℕ)) (bytes : List ℕ) (P : List ℕ → Type 0) → IfSome left (λ all. bytes ≡ all) → P bytes → IfSome left P
told None bytes P is here = tt
told (Some all) bytes P is here = subst P is here

-- a reason that explains the outcome over the bytes that were read
pub explained : (plan : Option NamedPlan) (left : Option (List ℕ)) (bytes : List ℕ) (why : Stop) → IfSome left (λ all. bytes ≡ all) → Explains plan why (outcome_over plan bytes) → IsExplained plan left why
explained plan left bytes why is explains =
    let P : List ℕ → Type 0 = λ all. outcome_over plan bytes ≡ outcome_over plan all in
    (outcome_over plan bytes, told left bytes P is refl, explains)

-- more bytes than the limit
too_many_bytes : (plan : NamedPlan) (bytes : List ℕ) → 67108864 < length bytes → outcome_over (Some plan) bytes ≡ TooManyBytes
unfolding outcome
too_many_bytes plan bytes many =
    let test : nat_lt 67108864 (length bytes) ≡ true = grind (arith, nat_tests) in
    rw test refl

-- bytes within the limit
pub outcome-within : (plan : NamedPlan) (bytes : List ℕ) → length bytes ≤ 67108864 → outcome_over (Some plan) bytes ≡ by_records plan (records_of bytes)
unfolding outcome
outcome-within plan bytes within =
    let test : nat_lt 67108864 (length bytes) ≡ false = grind (arith, nat_tests) in
    rw test refl

-- more rows than the limit
too_many_rows : (plan : NamedPlan) (records : List (List (List ℕ))) → 4194305 < length records → by_records plan records ≡ TooManyRows
too_many_rows plan [] many = absurd (omega arith)
too_many_rows plan (header ∷ rows) many =
    let test : nat_lt 4194304 (length rows) ≡ true = grind (arith, nat_tests) in
    rw test refl

-- an equation with its type written out
abbrev IsSame : {A : Type 0} → A → A → Type 0
IsSame a b = a ≡ b

-- why the reading stopped
pub explained-reading : {T : Type 0} (plan : NamedPlan) (left rest : Option (List ℕ)) (answer : ReadAnswer) → (IsSame {A = Result T ReadAnswer} (Err answer) (Err reading.TooManyBytes) → ReadsCount left rest 67108865)
    → IsExplained (Some plan) left (stop_of_reading answer)
explained-reading plan None rest reading.ReadFault many = (Usage, tt, tt)
explained-reading plan None rest reading.TooManyBytes many = (TooManyBytes, tt, refl)
explained-reading plan None rest reading.Memory many = (Usage, tt, tt)
explained-reading plan (Some all) rest reading.ReadFault many = (outcome_over (Some plan) all, refl, tt)
explained-reading plan (Some all) None reading.TooManyBytes many = absurd ((many refl).1)
explained-reading plan (Some all) (Some rest) reading.TooManyBytes many =
    let read = many refl in
    let long : 67108864 < length all = omega (arith, read.2, ap length read.1, length-append read.0 rest) in
    (outcome_over (Some plan) all, refl, too_many_bytes plan all long)
explained-reading plan (Some all) rest reading.Memory many = (outcome_over (Some plan) all, refl, tt)

-- why the bytes gave no records
pub Explains-parsing : {T : Type 0} (plan : NamedPlan) (bytes : List ℕ) (answer : RowsAnswer) → length bytes ≤ 67108864 → (IsSame {A = Result T RowsAnswer} (Err answer) (Err parsing.NoHeader) → records_of bytes ≡ []) → (IsSame {A = Result T RowsAnswer} (Err answer) (Err parsing.TooManyRows) → 4194305 < length (records_of bytes))
    → Explains (Some plan) (stop_of_parsing answer) (outcome_over (Some plan) bytes)
Explains-parsing plan bytes parsing.NoHeader within none many = outcome-within plan bytes within ∙ ap (by_records plan) (none refl)
Explains-parsing plan bytes parsing.TooManyRows within none many = outcome-within plan bytes within ∙ too_many_rows plan (records_of bytes) (many refl)
Explains-parsing plan bytes parsing.Memory within none many = tt

-- why the words gave no plan
pub explained-words : {T : Type 0} (asked : Option Query) (left : Option (List ℕ)) (answer : PlanAnswer) → (IsSame {A = Result T PlanAnswer} (Err answer) (Err usage.Usage) → asked ≡ None) → IsExplained (plan_in asked) left (stop_of_words answer)
unfolding outcome
explained-words asked None usage.Usage none = (Usage, tt, refl)
explained-words asked None usage.Memory none = (Usage, tt, tt)
explained-words asked (Some all) usage.Usage none =
    let is : outcome_over (plan_in asked) all ≡ Usage = ap (λ (q : Option Query). outcome_over (plan_in q) all) (none refl) in
    (outcome_over (plan_in asked) all, refl, is)
explained-words asked (Some all) usage.Memory none = (outcome_over (plan_in asked) all, refl, tt)
