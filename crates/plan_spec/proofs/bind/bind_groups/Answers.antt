use Rattle.std.proofs.Common.{◌≡◌, ◌<◌, ◌+◌, ◌∙◌, ℕ, [], suc, take, length, map, string_bytes, refl, sym, arith, length-set}
use Rattle.std.proofs.lemmas.List.{length-map, take_more_set}
use Rattle.std.proofs.lemmas.List.Elements.{All-append, All-cons, All-nil}
use Rattle.std.specs.Prelude.{None, Some, is_none}
use Rattle.csv_rows.specs.Records.{record_at}
use Rattle.par_model.specs.Named.{bound_column, column_of}
use Rattle.plan_spec.proofs.Fills.{filled-more}
use Rattle.plan_spec.proofs.Present.{get-map}
use Rattle.plan_spec.proofs.Places.{place-here, place-more}
use Rattle.plan_spec.proofs.bind.bind_groups.Goals as goal

pub returns-in-None-clause-missing : goal.returns-in-None-clause-missing
returns-in-None-clause-missing c =
    let header = record_at c.args.rows.now 0 in
    let names = map string_bytes c.args.names.now in
    let name = c.index-names-at.result in
    let size = length-map c.args.names.now string_bytes in
    let lt : c.names.at < length names = omega (arith, size, c.names-test.true) in
    let column : column_of header (string_bytes name) ≡ None = rw c.as_str.ensures.value at (sym c.column.ensures.first ∙ c.in-None.is) in
    let same : 0 + c.names.at ≡ c.names.at = omega arith in
    rw same at (place-here (λ n. is_none (column_of header n)) 0 names c.names.at (string_bytes name) lt c.names.invariant.present
    (rw (get-map string_bytes c.args.names.now c.names.at name c.names-test.true c.index-names-at.is, column) refl))

pub names-preserved : goal.names-preserved
names-preserved c =
    let inv = c.names.invariant in
    let header = record_at c.args.rows.now 0 in
    let names = map string_bytes c.args.names.now in
    let name = c.index-names-at.result in
    let below : ℕ → Type 0 = λ column. column < length header in
    let size = length-map c.args.names.now string_bytes in
    let lt : c.names.at < length names = omega (arith, size, c.names-test.true) in
    let there : c.names.at < length c.names.columns = omega (arith, inv.size, c.names-test.true, c.requires) in
    let at = get-map string_bytes c.args.names.now c.names.at name c.names-test.true c.index-names-at.is in
    let column : column_of header (string_bytes name) ≡ Some c.in-Some.place = rw c.as_str.ensures.value at (sym c.column.ensures.first ∙ c.in-Some.is) in
    let bound : c.in-Some.place ≡ bound_column header (string_bytes name) = rw column refl in
    let more = filled-more (bound_column header) 0 c.in-Some.place (string_bytes name) c.names.columns names c.names.at 8 there lt (sym at) bound inv.columns inv.unused in
    let same : c.names.at + 1 ≡ suc c.names.at = omega arith in
    record {
      columns = more.0;
      size = length-set c.names.columns c.names.at c.in-Some.place ∙ inv.size;
      unused = more.1;
      below = rw (take_more_set c.names.columns c.names.at c.in-Some.place there) (All-append below (take c.names.at c.names.columns) _ inv.below (All-cons below c.in-Some.place [] c.in-Some.ensures.below (All-nil below)));
      present = rw same (place-more (λ n. is_none (column_of header n)) 0 names c.names.at (string_bytes name) lt inv.present (rw (at, column) refl));
    }
