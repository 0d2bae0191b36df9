use Rattle.std.proofs.Common.{◌≡◌, ◌<◌, ◌≤◌, ◌+◌, ◌∙◌, ℕ, [], suc, take, length, List, ◌∷◌, map, refl, arith, length-set}
use Rattle.std.proofs.lemmas.List.{length-map, map-append, take_more, take_more_set}
use Rattle.std.proofs.lemmas.List.Elements.{All-append, All-cons, All-nil, All-set}
use Rattle.std.specs.Prelude.{is_none}
use Rattle.csv_rows.specs.Records.{record_at}
use Rattle.par_model.specs.Named.{NamedFilter, bound_filter, column_of}
use Rattle.par_model.specs.declared.plan.Filter.{Filter}
use Rattle.par_model.specs.declared.plan.TheConstants.{MOST_PLACES}
use Rattle.plan_spec.proofs.Present.{get-map}
use Rattle.plan_spec.proofs.Places.{place-here, place-more}
use Rattle.plan_spec.proofs.bind.bind_filters.Goals as goal

abbrev name : NamedFilter → List ℕ
name f = f.column

pub returns-in-None-clause-missing : goal.returns-in-None-clause-missing
returns-in-None-clause-missing c =
    let header = record_at c.args.rows.now 0 in
    let filter = c.index-filters-at.result in
    let lt : c.filters.at < length (map name c.args.filters.now) = omega (arith, length-map c.args.filters.now name, c.filters-test.true) in
    let same : 0 + c.filters.at ≡ c.filters.at = omega arith in
    rw same at (place-here (λ n. is_none (column_of header n)) 0 (map name c.args.filters.now) c.filters.at (name filter) lt c.filters.invariant.present
    (rw (get-map name c.args.filters.now c.filters.at filter c.filters-test.true c.index-filters-at.is, c.in-None.ensures.missing) refl))

pub filters-preserved : goal.filters-preserved
filters-preserved c =
    let inv = c.filters.invariant in
    let header = record_at c.args.rows.now 0 in
    let filter = c.index-filters-at.result in
    let lt : c.filters.at < length (map name c.args.filters.now) = omega (arith, length-map c.args.filters.now name, c.filters-test.true) in
    let there : c.filters.at < length c.filters.bound = omega (arith, inv.size, c.filters-test.true, c.requires) in
    let at = get-map name c.args.filters.now c.filters.at filter c.filters-test.true c.index-filters-at.is in
    let same : c.filters.at + 1 ≡ suc c.filters.at = omega arith in
    let set_is = take_more_set c.filters.bound c.filters.at c.in-Some.one there in
    record {
      filters = rw (set_is, take_more c.args.filters.now c.filters.at filter c.filters-test.true, ← c.index-filters-at.is, map-append (bound_filter header) (take c.filters.at c.args.filters.now) (filter ∷ []), inv.filters, c.in-Some.ensures.filter) refl;
      size = length-set c.filters.bound c.filters.at c.in-Some.one ∙ inv.size;
      below = rw set_is (All-append (λ (f : Filter). f.column < length header) (take c.filters.at c.filters.bound) _ inv.below (All-cons (λ (f : Filter). f.column < length header) c.in-Some.one [] c.in-Some.ensures.below (All-nil (λ (f : Filter). f.column < length header))));
      places = All-set (λ (f : Filter). f.places ≤ MOST_PLACES) c.filters.bound c.filters.at c.in-Some.one c.in-Some.ensures.places inv.places;
      present = rw same (place-more (λ n. is_none (column_of header n)) 0 (map name c.args.filters.now) c.filters.at (name filter) lt inv.present (rw (at, c.in-Some.ensures.whole) refl));
    }
