-- Outcomes of two tables that stand in bytes.
use Rattle.std.proofs.Common.{◌≡◌, ◌≤◌, ◌+◌, ◌<◌, ℕ, List, Option, None, Some, IfSome, Result, Err, inl, inr, length, length-append, subst, ap, arith, refl, drop, take}
use Rattle.csv_rows.specs.Records.{record_at}
use Rattle.par_io.specs.Reads.{ReadsCount}
use Rattle.csv_rows.specs.declared.input.ReadAnswer.{ReadAnswer}
use Rattle.csv_rows.specs.declared.input.ReadAnswer.TheVariants as reading
use Rattle.row_blocks.specs.Blocks.{Table}
use Rattle.par_model.specs.Named.{column_of}
use Rattle.par_model.specs.Outcome.{most_bytes}
use Rattle.join_query.specs.Outcome.{Outcome, IsCut, IsOfBytes, IsOfColumns, IsOfRows, IsOfTables, IsOutcome, left_of}
use Rattle.join_query.specs.Ready.{AreColumns, AreTables, IsReady, IsTable}
use Rattle.join_query.specs.Stops.{Explains, IsExplained, stop_of_reading}
use Rattle.join_query.specs.Words.{Asked}
use Rattle.join_query.specs.declared.ready.Ready.{Ready}
use Rattle.join_query.specs.declared.tables.Tables.{Tables}
use Rattle.join_query.specs.declared.stop.Stop.{Stop}
use Rattle.join_query.specs.declared.stop.Stop.TheVariants as stop

-- what explains one kind of outcome explains another, where that is wider
pub explains_as : (P Q : Outcome → Type 0) → ((o : Outcome) → P o → Q o) → (why : Stop) → Explains P why → Explains Q why
explains_as P Q widen (stop.Because why) is = widen _ is
explains_as P Q widen stop.ReadFault is = is
explains_as P Q widen stop.WriteFault is = is
explains_as P Q widen stop.Memory is = is

-- tables with headers and not too many rows
pub of_columns : (left right : Table) (name : List ℕ) (o : Outcome) → IsTable left → IsTable right → IsOfColumns left right name (column_of (record_at left 0) name) (column_of (record_at right 0) name) o
    → IsOfTables left right name o
of_columns left right name o l r is = inr (l.some, inr (r.some, inr (l.few, r.few, is)))

-- with the columns of the name
pub of_rows : (left right : Table) (name : List ℕ) (l r : ℕ) (o : Outcome) → AreColumns left right name l r → IsOfRows left right l r o
    → IsOfColumns left right name (column_of (record_at left 0) name) (column_of (record_at right 0) name) o
of_rows left right name l r o columns is = rw (columns.left_is, columns.right_is) is

-- tables that are ready
pub of_ready : (name bytes : List ℕ) (r : Ready) (o : Outcome) → IsReady name bytes r → IsOfRows r.left r.right r.left_column r.right_column o → IsOfBytes name bytes o
of_ready name bytes r o ready is =
    let tables = of_columns r.left r.right name o ready.left_table ready.right_table (of_rows r.left r.right name r.left_column r.right_column o ready.columns is) in
    let left : IsOfTables (left_of bytes ready.place) r.right name o = subst (λ (t : Table). IsOfTables t r.right name o) ready.left_is tables in
    (Some ready.place, ready.cut, subst (λ (t : Table). IsOfTables (left_of bytes ready.place) t name o) ready.right_is left)

-- tables of bytes that are cut, which have headers and not too many rows
pub of_cut : (name bytes : List ℕ) (place : ℕ) (t : Tables) (o : Outcome) → IsCut bytes (Some place) → AreTables (take place bytes) (drop (place + 2) bytes) t
    → IsOfColumns t.left t.right name (column_of (record_at t.left 0) name) (column_of (record_at t.right 0) name) o → IsOfBytes name bytes o
of_cut name bytes place t o cut are is =
    let tables = of_columns t.left t.right name o are.left_table are.right_table is in
    let left : IsOfTables (left_of bytes place) t.right name o = subst (λ (r : Table). IsOfTables r t.right name o) are.left_is tables in
    (Some place, cut, subst (λ (r : Table). IsOfTables (left_of bytes place) r name o) are.right_is left)

-- ---- over what a source had left

-- what holds of the bytes that were read holds of those that were told
pub told : (left : Option (List ℕ)) (bytes : List ℕ) (P : List ℕ → Type 0) → IfSome left (λ all. bytes ≡ all) → P bytes → IfSome left P
told None bytes P is here = tt
told (Some all) bytes P is here = subst P is here

-- what explains the outcome of bytes within the limit
pub explained : (asked : Asked) (left : Option (List ℕ)) (bytes : List ℕ) (why : Stop) → IfSome left (λ all. bytes ≡ all) → length bytes ≤ most_bytes → Explains (IsOfBytes asked.column bytes) why
    → IsExplained (Some asked) left why
explained asked left bytes why is within explains =
    told left bytes (λ all. Explains (IsOutcome (Some asked) all) why) is (explains_as (IsOfBytes asked.column bytes) (IsOutcome (Some asked) bytes) (λ o of_bytes. inr (within, of_bytes)) why explains)

-- an equation with its type written out
abbrev IsSame : {A : Type 0} → A → A → Type 0
IsSame a b = a ≡ b

-- why the reading stopped
pub explained_reading : {T : Type 0} (asked : Asked) (left rest : Option (List ℕ)) (answer : ReadAnswer) → (IsSame {A = Result T ReadAnswer} (Err answer) (Err reading.TooManyBytes) → ReadsCount left rest 67108865)
    → IsExplained (Some asked) left (stop_of_reading answer)
explained_reading asked None rest answer many = tt
explained_reading asked (Some all) rest reading.ReadFault many = tt
explained_reading asked (Some all) None reading.TooManyBytes many = absurd ((many refl).1)
explained_reading asked (Some all) (Some rest) reading.TooManyBytes many =
    let read = many refl in
    let long : 67108864 < length all = omega (arith, read.2, ap length read.1, length-append read.0 rest) in
    inl (long, refl)
explained_reading asked (Some all) rest reading.Memory many = tt
