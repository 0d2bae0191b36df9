-- The plans of pargather have at most one filter, which is of numbers.
use Rattle.std.proofs.Common.{◌≡◌, ◌∷◌, ◌∙◌, [], ℕ, ℤ, Bool, true, false, List, Option, Some, None, if◌then◌else◌, map, refl, sym, ap}
use Rattle.std.specs.List.{before_first, position_or_len}
use Rattle.std.specs.Prelude.{◌==◌, drop, option_and_then, option_map, option_to_list}
use Rattle.csv_rows.specs.declared.cleaning.Reading.{Reading}
use Rattle.par_model.specs.Named.{NamedFilter, NamedItem, NamedPlan, bound_filter, bound_plan}
use Rattle.par_model.specs.Plain.{are_plain, is_plain, is_plain_named}
use Rattle.par_model.specs.Refuse.{is_of_numbers}
use Rattle.par_model.specs.declared.plan.FilterOp.{FilterOp}
use Rattle.par_model.specs.declared.plan.FilterTest.{FilterTest}
use Rattle.par_model.specs.declared.plan.FilterTest.TheVariants as test
use Rattle.plan_spec.specs.Grammar.{Places, all_some, bare_number_in, filter_in, filter_over, filters_in, is_relation_byte, places_of, relation_in, test_by, test_in}
use Rattle.plan_spec.specs.Query.{Query, query_by}

some_inj : {A : Type 0} (a b : A) → Some a ≡ Some b → a ≡ b
some_inj a b e = cc e

-- a test that may not be of a text is of numbers
number_test : (op : FilterOp) (text : List ℕ) (o : Option ℤ) (t : FilterTest) → test_by false op text o ≡ Some t → is_of_numbers t ≡ true
number_test op text None t e = cc e
number_test op text (Some n) t e = ap is_of_numbers (sym (some_inj (test.Number op n) t e))

by_relation : (places : ℕ) (r : Option (FilterOp × List ℕ)) (t : FilterTest) → option_and_then (λ found. test_by false found.0 found.1 (bare_number_in places found.1)) r ≡ Some t → is_of_numbers t ≡ true
by_relation places None t e = cc e
by_relation places (Some found) t e = number_test found.0 found.1 (bare_number_in places found.1) t e

by_test : (name : List ℕ) (places : ℕ) (o : Option FilterTest) (f : NamedFilter) → ((t : FilterTest) → o ≡ Some t → is_of_numbers t ≡ true)
    → option_map (λ found. record { column = name; test = found; places = places }) o ≡ Some f → is_of_numbers f.test ≡ true
by_test name places None f h e = cc e
by_test name places (Some t) f h e = ap (λ (f : NamedFilter). is_of_numbers f.test) (sym (some_inj (record { column = name; test = t; places = places }) f e)) ∙ h t refl

by_place : (b : Bool) (o : Option NamedFilter) (f : NamedFilter) → ((f : NamedFilter) → o ≡ Some f → is_of_numbers f.test ≡ true) → (if b then None else o) ≡ Some f → is_of_numbers f.test ≡ true
by_place true o f h e = cc e
by_place false o f h e = h f e

number_filter : (places : Places) (text : List ℕ) (f : NamedFilter) → filter_in false places text ≡ Some f → is_of_numbers f.test ≡ true
number_filter places text f e =
    let at = position_or_len is_relation_byte text in
    let name = before_first is_relation_byte text in
    let rest = drop at text in
    by_place (at == 0) (filter_over false places name rest) f
    (λ f e. by_test name (places_of places name) (test_in false (places_of places name) rest) f (λ t e. by_relation (places_of places name) (relation_in rest) t e) e) e

one_filter : (o : Option NamedFilter) (fs : List NamedFilter) → ((f : NamedFilter) → o ≡ Some f → is_of_numbers f.test ≡ true) → all_some (o ∷ []) ≡ Some fs → are_plain (map (λ f. f.test) fs) ≡ true
one_filter None fs h e = cc e
one_filter (Some f) fs h e = ap (λ (fs : List NamedFilter). are_plain (map (λ f. f.test) fs)) (sym (some_inj (f ∷ []) fs e)) ∙ h f refl

-- the filters of one value at most
pub plain_filters : (value : Option (List ℕ)) (fs : List NamedFilter) → filters_in false [] (option_to_list value) ≡ Some fs → are_plain (map (λ f. f.test) fs) ≡ true
plain_filters None fs e = ap (λ (fs : List NamedFilter). are_plain (map (λ f. f.test) fs)) (sym (some_inj [] fs e))
plain_filters (Some text) fs e = one_filter (filter_in false [] text) fs (number_filter [] text) e

-- a query is as plain as its filters
pub plain_query : (groups : Option (List (List ℕ))) (items : Option (List NamedItem)) (filters : Option (List NamedFilter)) (hash : Option Bool) (workers pages : Option ℕ) (reading : Option Reading) (q : Query)
    → ((fs : List NamedFilter) → filters ≡ Some fs → are_plain (map (λ f. f.test) fs) ≡ true)
    → query_by groups items filters hash workers pages reading ≡ Some q → is_plain_named q.plan ≡ true
plain_query None items filters hash workers pages reading q h e = cc e
plain_query (Some g) None filters hash workers pages reading q h e = cc e
plain_query (Some g) (Some i) None hash workers pages reading q h e = cc e
plain_query (Some g) (Some i) (Some f) None workers pages reading q h e = cc e
plain_query (Some g) (Some i) (Some f) (Some b) None pages reading q h e = cc e
plain_query (Some g) (Some i) (Some f) (Some b) (Some w) None reading q h e = cc e
plain_query (Some g) (Some i) (Some f) (Some b) (Some w) (Some p) None q h e = cc e
plain_query (Some g) (Some i) (Some f) (Some b) (Some w) (Some p) (Some r) q h e =
    ap (λ (q : Query). is_plain_named q.plan) (sym (some_inj (record { plan = record { groups = g; items = i; hash = b; filters = f }; workers = w; area_pages = p; reading = r }) q e)) ∙ h f refl

-- a plan over the columns of a header is as plain as the plan by names
pub bound_tests : (header : List (List ℕ)) (filters : List NamedFilter) → map (λ filter. filter.test) (map (bound_filter header) filters) ≡ map (λ filter. filter.test) filters
bound_tests header [] = refl
bound_tests header (filter ∷ more) = ap (λ tests. filter.test ∷ tests) (bound_tests header more)

pub bound_is_plain : (header : List (List ℕ)) (plan : NamedPlan) → is_plain (bound_plan header plan) ≡ is_plain_named plan
bound_is_plain header plan = ap are_plain (bound_tests header plan.filters)
