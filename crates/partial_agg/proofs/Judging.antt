-- The verdict of a plan's filters, one after the other.
use Rattle.std.proofs.Common.{◌≡◌, ◌∙◌, ◌<◌, ◌≤◌, ◌+◌, ◌&&◌, ℕ, ℤ, Bool, true, false, not, List, length, take, get_or, Option, Some, None, Ok, Err, is_none, if◌then◌else◌, ap, sym, refl, arith}
use Rattle.std.proofs.lemmas.List.{take_all}
use Rattle.std.proofs.lemmas.Option.{slice_get-get_or}
use Rattle.std.specs.List.{position_from}
use Rattle.std.specs.Option.{option_map_or}
use Rattle.par_model.specs.Keep.{keeps, passes, stands}
use Rattle.par_model.specs.Number.{decimal_of}
use Rattle.par_model.specs.Plan.{Plan}
use Rattle.par_model.specs.Record.{field_of, is_null}
use Rattle.par_model.specs.Refuse.{is_misread, is_no_number, is_of_numbers}
use Rattle.par_model.specs.declared.plan.Filter.{Filter}
use Rattle.par_model.specs.declared.plan.FilterTest.{FilterTest}
use Rattle.par_model.specs.declared.plan.FilterTest.TheVariants as test
use Rattle.partial_agg.specs.Values.{judged, verdict, verdict_by}
use Rattle.partial_agg.proofs.Places.{position_here, position_more}

-- what cannot be read passes no test
fails : (places : ℕ) (t : FilterTest) (field : List ℕ) → (is_of_numbers t && is_no_number places field) ≡ true → passes places t field ≡ false
fails places (test.Number op value) field e = by (decimal_of places field) (is_null field) e
  where
    by : (o : Option ℤ) (null : Bool) → (not null && is_none o) ≡ true → option_map_or (λ n. stands op n value) o false ≡ false
    by None null e = refl
    by (Some n) true e = cc
    by (Some n) false e = cc
fails places (test.Is text) field e = cc
fails places (test.IsNot text) field e = cc

-- what a filter says of a field, by whether it can read it and keeps a row with it
says_some : (misread passes k : Bool) → (if misread then None else Some passes) ≡ Some k → (misread ≡ false) × (passes ≡ k)
says_some true passes k e = cc
says_some false passes k e = (refl, cc)

says_none : (misread passes : Bool) → (if misread then None else Some passes) ≡ None → misread ≡ true
says_none true passes e = refl
says_none false passes e = cc

module _ (plan : Plan) (row : List (List ℕ)) (i : ℕ) where
  -- the filters before a place keep the row
  abbrev pub AreKept : Type 0
  AreKept = position_from (λ filter. not (keeps filter row)) 0 (take i plan.filters) ≡ None

  -- all filters keep it
  pub verdict_kept : AreKept → length plan.filters ≤ i → verdict plan row ≡ Ok true
  verdict_kept before all = ap (verdict_by plan row) (ap (position_from (λ filter. not (keeps filter row)) 0) (sym (take_all i plan.filters all)) ∙ before)

  module _ (filter : Filter) (is : filter ≡ get_or plan.filters i filter) (before : AreKept) (inside : i < length plan.filters) where
    -- the filter at the place decides
    at_place : keeps filter row ≡ false → verdict plan row ≡ (if is_misread row filter then Err i else Ok false)
    at_place out =
        let start : 0 + i ≡ i = omega arith in
        let here : not (keeps (get_or plan.filters i filter) row) ≡ true = rw (← is) (ap not out) in
        let place = position_here (λ (filter : Filter). not (keeps filter row)) plan.filters 0 i filter before inside here ∙ ap Some start in
        ap (verdict_by plan row) place ∙ ap (λ o. if option_map_or (is_misread row) o false then Err i else Ok false) (slice_get-get_or plan.filters i filter inside ∙ ap Some (sym is))

    pub verdict_left_out : judged filter (field_of row filter.column) ≡ Some false → verdict plan row ≡ Ok false
    verdict_left_out e = let both = says_some _ _ false e in
        at_place both.1 ∙ ap (λ (b : Bool). if b then Err i else Ok false) both.0

    pub verdict_misread : judged filter (field_of row filter.column) ≡ None → verdict plan row ≡ Err i
    verdict_misread e =
        let bad : is_misread row filter ≡ true = says_none _ _ e in
        at_place (fails filter.places filter.test (field_of row filter.column) bad) ∙ ap (λ (b : Bool). if b then Err i else Ok false) bad

    pub goes_on : judged filter (field_of row filter.column) ≡ Some true → position_from (λ filter. not (keeps filter row)) 0 (take (i + 1) plan.filters) ≡ None
    goes_on e =
        let misses : not (keeps (get_or plan.filters i filter) row) ≡ false = rw (← is) (ap not (says_some _ _ true e).1) in
        position_more (λ (filter : Filter). not (keeps filter row)) plan.filters 0 i filter before inside misses
