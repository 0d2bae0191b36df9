-- What was read of a source, whole: its size, and its rows.
use Rattle.std.proofs.Common.{inl, inr, ◌≡◌, ◌+◌, ◌++◌, ◌∷◌, ◌∙◌, ℕ, List, [], All, Option, None, Some, IfSome, ap, append_assoc, arith, length, length-append, refl, subst, sym}
use Rattle.std.specs.Io.KnownBytes.{Consumes, IsAtEnd}
use Rattle.csv_rows.specs.Readings.{records_as}
use Rattle.csv_rows.specs.Records.{record_at}
use Rattle.par_io.specs.Faults.{Rose}
use Rattle.par_model.specs.Named.{NamedPlan, bound_plan, missing_name}
use Rattle.par_model.specs.Outcome.{Refused as IsRefused, by_missing, by_refused}
use Rattle.par_model.specs.Plan.{Plan}
use Rattle.par_model.specs.Refuse.{refused_rows}
use Rattle.par_model.specs.declared.refusal.Refusal.{Refusal}
use Rattle.partial_agg.specs.Groups.{AreGroups, GroupsByKey}
use Rattle.partial_agg.specs.Rows.{IsAccepted}
use Rattle.plan_spec.specs.Query.{Query}
use Rattle.row_blocks.specs.Blocks.{Table}
use Rattle.state_head.specs.declared.cover.RefusedRow.{RefusedRow}
use Rattle.state_partial.specs.Drained.{IsDrained}
use Rattle.state_partial.specs.Reads.{AreCounted, RefuseFirst}
use Rattle.stream_groups.specs.Outcome.{outcome}
use Rattle.stream_groups.specs.Reading.{AreGroupsOver}
use Rattle.stream_groups.specs.Stops.{NamesFirstRow}
use Rattle.stream_groups.specs.Taken.{Takes}
use Rattle.stream_groups.specs.Ways.{of_text}
use Rattle.stream_groups.specs.declared.reading.ReadGroups.{ReadGroups}
use Rattle.stream_groups.specs.declared.taken.Taken.{Taken}
use Rattle.stream_groups.specs.declared.taken.Taken.TheVariants as taken
use Rattle.stream_groups.proofs.Gathering.{all_accepted}
use Rattle.table_query.proofs.RefusedRows.{refused_in-none}

-- ---- the size

pub consumes_none : (a : Option (List ℕ)) → Consumes a a []
consumes_none None = tt
consumes_none (Some xs) = refl

pub consumes_then : (a b c : Option (List ℕ)) (xs ys : List ℕ) → Consumes a b xs → Consumes b c ys → Consumes a c (xs ++ ys)
consumes_then None b c xs ys f g = tt
consumes_then (Some old) None c xs ys f g = absurd f
consumes_then (Some old) (Some mid) None xs ys f g = absurd g
consumes_then (Some old) (Some mid) (Some new) xs ys f g = f ∙ (ap (λ (l : List ℕ). xs ++ l) g ∙ sym (append_assoc xs ys new))

begun : (m : ℕ) → taken.Bytes 0 ≡ taken.Bytes m → m ≡ 0
begun m e = cc e

-- what was taken and what came then is all that there was
took_all : (xs ys zs more rest : List ℕ) (n m size : ℕ) → xs ≡ more ++ ys → n ≡ m + length more → m ≡ 0 → ys ≡ rest ++ zs → zs ≡ [] → size ≡ n + length rest → size ≡ length xs
took_all xs ys zs more rest n m size first count zero next end last =
    omega (arith, ap length first, length-append more ys, count, zero, ap length next, length-append rest zs, ap length end, last)

pub taken_all : (from left : Option (List ℕ)) (f g n : ℕ) → Takes from left f g (taken.Bytes 0) (taken.Bytes n) → IsAtEnd left → IfSome from (λ bytes. n ≡ length bytes)
taken_all None left f g n t end = tt
taken_all (Some xs) None f g n t end = absurd t.gives.3
taken_all (Some xs) (Some ys) f g n t end =
    let m = t.gives.0 in
    let more = t.gives.2 in
    took_all xs ys ys more [] n m n t.gives.3 t.gives.4 (begun m t.gives.1) refl end (omega arith)

pub taken_drained : (from mid new : Option (List ℕ)) (f g n size : ℕ) → Takes from mid f g (taken.Bytes 0) (taken.Bytes n) → IsDrained mid new n size → IfSome from (λ bytes. size ≡ length bytes)
taken_drained None mid new f g n size t d = tt
taken_drained (Some xs) None new f g n size t d = absurd t.gives.3
taken_drained (Some xs) (Some ys) None f g n size t d = absurd d.gives
taken_drained (Some xs) (Some ys) (Some zs) f g n size t d =
    let m = t.gives.0 in
    took_all xs ys zs t.gives.2 d.more n m size t.gives.3 t.gives.4 (begun m t.gives.1) d.gives d.end d.counted

pub taken_fault : (from left : Option (List ℕ)) (f g : ℕ) → Takes from left f g (taken.Bytes 0) taken.Fault → Rose f g
taken_fault from left f g t = elim t.gives [ inl e ↦ cc e | inr rose ↦ rose ]

pub fault_later : (from left : Option (List ℕ)) (f g h : ℕ) (t : Taken) → Takes from left f g (taken.Bytes 0) t → Rose g h → Rose f h
fault_later from left f g h t takes rose = omega (arith, takes.faults, rose)

-- ---- the rows

-- all are counted
pub counted_rows : (query : Query) (from : Option (List ℕ)) (r : ReadGroups) (over : AreGroupsOver (of_text query.reading) query from r) (m : GroupsByKey) → AreGroups r.bound over.rows m → AreCounted query over.header from r.rows m
counted_rows query from r over m are = record {
  rows = over.rows;
  counted = over.count;
  few = over.few;
  accepted = subst (λ (b : Plan). All (IsAccepted b (length over.header)) over.rows) over.bound.is (all_accepted r.bound (length over.header) over.rows r.gathered over.groups);
  none = subst (λ (b : Plan). refused_rows b (length over.header) over.rows ≡ []) over.bound.is
      (refused_in-none r.bound (over.header ∷ over.rows) (all_accepted r.bound (length over.header) over.rows r.gathered over.groups));
  are = subst (λ (b : Plan). AreGroups b over.rows m) over.bound.is are;
  all = over.all;
}

by_list : (l others : List (ℕ × Refusal)) (r : ℕ × Refusal) → by_refused l ≡ IsRefused (r ∷ others) → l ≡ r ∷ others
by_list [] others r is = cc is
by_list (x ∷ l) others r is = cc is

by_name : (names : NamedPlan) (header : List (List ℕ)) (rows : Table) (lacks : Option (List ℕ)) (others : List (ℕ × Refusal)) (r : ℕ × Refusal) → by_missing names header rows lacks ≡ IsRefused (r ∷ others)
    → refused_rows (bound_plan header names) (length header) rows ≡ r ∷ others
by_name names header rows (Some name) others r is = cc is
by_name names header rows None others r is = by_list (refused_rows (bound_plan header names) (length header) rows) others r is

-- a row is the first refused one
refused_first : (query : Query) (header : List (List ℕ)) (records : Table) (bytes : List ℕ) (others : List (ℕ × Refusal)) (why : RefusedRow) → records_as query.reading bytes ≡ records → record_at records 0 ≡ header
    → outcome query.plan records ≡ IsRefused ((why.row, record { cause = why.cause; item = why.item }) ∷ others) → RefuseFirst query header why bytes
refused_first query header [] bytes others why are same is = cc is
refused_first query header (head ∷ rows) bytes others why are same is = record {
  rows = rows;
  are = are ∙ ap (λ (h : List (List ℕ)). h ∷ rows) same;
  first = record {
    others = others;
    is = subst (λ (h : List (List ℕ)). refused_rows (bound_plan h query.plan) (length h) rows ≡ (why.row, record { cause = why.cause; item = why.item }) ∷ others) same
        (by_name query.plan head rows (missing_name head query.plan) others (why.row, record { cause = why.cause; item = why.item }) is);
  };
}

pub refused_rows_of : (query : Query) (from : Option (List ℕ)) (row line : ℕ) (why : Refusal) (header_line said : List ℕ) (names : NamesFirstRow (of_text query.reading) query from row line why header_line said)
    → IfSome from (RefuseFirst query names.header (record { row = row; cause = why.cause; item = why.item }))
refused_rows_of query None row line why header_line said names = tt
refused_rows_of query (Some bytes) row line why header_line said names =
    refused_first query names.header (records_as query.reading bytes) bytes names.first.0 (record { row = row; cause = why.cause; item = why.item }) refl names.are.0 names.first.1
