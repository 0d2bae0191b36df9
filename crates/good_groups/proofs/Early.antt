-- Before the header is known no row is named: a reason that is told of each query is told of one whose columns the header lacks.
use Rattle.std.proofs.Common.{◌≡◌, ◌<◌, ◌+◌, ◌++◌, ◌∷◌, [], ℕ, List, Option, None, Some, IfSome, ap, arith, false, inl, inr, length, length-append, refl, subst}
use Rattle.std.specs.Prelude.{bytes_eq}
use Rattle.std.specs.List.{position_from}
use Rattle.std.proofs.lemmas.Bool.{cases_Bool}
use Rattle.std.proofs.lemmas.Slice.Eq.{bytes_eq-Decides}
use Rattle.csv_rows.specs.Readings.{plain, records_as}
use Rattle.csv_rows.specs.Records.{record_at}
use Rattle.csv_rows.specs.declared.cleaning.Reading.{Reading}
use Rattle.par_model.specs.Named.{missing_name}
use Rattle.par_model.specs.Outcome.{NoColumn, Refused}
use Rattle.par_model.specs.declared.refusal.Refusal.{Refusal}
use Rattle.plan_spec.specs.Query.{Query}
use Rattle.row_blocks.specs.Blocks.{Table}
use Rattle.stream_groups.specs.Outcome.{outcome}
use Rattle.stream_groups.specs.Stops.{Tells}
use Rattle.stream_groups.specs.Ways.{of_text}
use Rattle.stream_groups.specs.declared.stop.RefusedRow.{RefusedRow}
use Rattle.stream_groups.specs.declared.stop.Stop.{Stop}
use Rattle.stream_groups.specs.declared.stop.Stop.TheVariants as stop

-- a name that is longer than all fields of a header together
longest : List (List ℕ) → List ℕ
longest [] = 0 ∷ []
longest (field ∷ header) = field ++ longest header

total : List (List ℕ) → ℕ
total [] = 0
total (field ∷ header) = length field + total header

is_longest : (header : List (List ℕ)) → total header < length (longest header)
unfolding longest total
is_longest [] = omega arith
is_longest (field ∷ header) = omega (arith, is_longest header, length-append field (longest header))

absent : (name : List ℕ) (header : List (List ℕ)) (n : ℕ) → total header < length name → position_from (bytes_eq name) n header ≡ None
unfolding total
absent name [] n long = refl
absent name (field ∷ header) n long = elim (cases_Bool (bytes_eq name field)) [
  | inl same ↦ absurd (omega (arith, long, ap length ((bytes_eq-Decides name field).0 same)))
  | inr other ↦ rw other (absent name header (n + 1) (omega (arith, long)))
]

-- a query that groups by this name alone
abbrev by_name : List ℕ → Query
by_name name = record { plan = record { groups = name ∷ []; items = []; hash = false; filters = [] }; workers = 0; area_pages = 0; reading = plain }

lacks : (header : List (List ℕ)) → missing_name header (by_name (longest header)).plan ≡ Some (longest header)
unfolding missing_name
lacks header = rw (absent (longest header) header 0 (is_longest header)) refl

not_refused : (records : Table) (refused : List (ℕ × Refusal)) → outcome (by_name (longest (record_at records 0))).plan records ≡ Refused refused → ⊥
not_refused [] refused is = cc is
not_refused (header ∷ rows) refused is = let bad : NoColumn (longest header) ≡ Refused refused = rw (lacks header) at is in cc bad

-- so it names none
pub names_none : (reading : Reading) (from : Option (List ℕ)) (why : Stop) → ((query : Query) → Tells (of_text reading) query from why) → (P : List ℕ → Type 0) (first : RefusedRow) → why ≡ stop.Refused first → IfSome from P
names_none reading None why tells P first is = tt
names_none reading (Some bytes) why tells P first is =
    let told = subst (Tells (of_text reading) (by_name (longest (record_at (records_as reading bytes) 0))) (Some bytes)) is (tells (by_name (longest (record_at (records_as reading bytes) 0)))) in
    absurd (not_refused (records_as reading bytes) _ told.first.1)
