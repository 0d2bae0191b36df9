-- Worked values: what the definitions say of small inputs whose answers are known from outside. Each is by computation.
use Rattle.std.specs.Prelude.{◌≡◌, ◌∷◌, ◌++◌, [], ℕ, ℤ, pos, negsuc, List, false, None, Some, codes, refl, length, replicate}
use Rattle.std.specs.Fmt.{digits}
use Rattle.csv.specs.Writing.{escaped, fields_text, is_blank}
use Rattle.par_model.specs.Aggregate.{state_of_rows}
use Rattle.par_model.specs.Decimal.{average, number_text}
use Rattle.par_model.specs.Keep.{is_kept}
use Rattle.par_model.specs.Key.{encoded}
use Rattle.par_model.specs.Named.{NamedFilter, NamedItem, NamedPlan, bound_plan, missing_name}
use Rattle.par_model.specs.Number.{decimal_of, integer_of, number_of}
use Rattle.par_model.specs.Outcome.{NoColumn, NoHeader, Refused, Table, TooManyBytes, Usage, outcome}
use Rattle.par_model.specs.Refuse.{refusal, refused_rows}
use Rattle.par_model.specs.Table.{group_record, table_header, table_text}
use Rattle.par_model.specs.declared.plan.FilterOp.{FilterOp}
use Rattle.par_model.specs.declared.plan.FilterOp.TheVariants as op
use Rattle.par_model.specs.declared.plan.FilterTest.TheVariants as test
use Rattle.par_model.specs.declared.plan.ItemKind.{ItemKind}
use Rattle.par_model.specs.declared.plan.ItemKind.TheVariants as kind

-- ---- integers

spaced : integer_of (codes " 7 ") ≡ Some (pos 7)
unfolding number_of
spaced = refl

negative : integer_of (codes "-3") ≡ Some (negsuc 2)
unfolding number_of
negative = refl

signed : integer_of (codes "+5") ≡ Some (pos 5)
unfolding number_of
signed = refl

greatest : integer_of (codes "9223372036854775807") ≡ Some (pos 9223372036854775807)
unfolding number_of
greatest = refl

above_greatest : integer_of (codes "9223372036854775808") ≡ None
unfolding number_of
above_greatest = refl

least : integer_of (codes "-9223372036854775808") ≡ Some (negsuc 9223372036854775807)
unfolding number_of
least = refl

below_least : integer_of (codes "-9223372036854775809") ≡ None
unfolding number_of
below_least = refl

two_signs : integer_of (codes "+-5") ≡ None
unfolding number_of
two_signs = refl

inner_space : integer_of (codes "1 2") ≡ None
unfolding number_of
inner_space = refl

only_spaces : integer_of (codes "  ") ≡ None
unfolding number_of
only_spaces = refl

after_sign : integer_of (codes "- 5") ≡ None
unfolding number_of
after_sign = refl

-- ---- decimals

all_places : decimal_of 2 (codes " 1.50 ") ≡ Some (pos 150)
unfolding number_of
all_places = refl

fewer_places : decimal_of 2 (codes "-.5") ≡ Some (negsuc 49)
unfolding number_of
fewer_places = refl

no_point : decimal_of 2 (codes "+7") ≡ Some (pos 700)
unfolding number_of
no_point = refl

point_at_end : decimal_of 2 (codes "5.") ≡ None
unfolding number_of
point_at_end = refl

too_many_places : decimal_of 2 (codes "1.500") ≡ None
unfolding number_of
too_many_places = refl

two_points : decimal_of 2 (codes "1.5.") ≡ None
unfolding number_of
two_points = refl

sign_after_point : decimal_of 2 (codes ".-5") ≡ None
unfolding number_of
sign_after_point = refl

lone_point : decimal_of 2 (codes ".") ≡ None
unfolding number_of
lone_point = refl

spaces_are_none : decimal_of 2 (codes "  ") ≡ None
unfolding number_of
spaces_are_none = refl

lone_sign : decimal_of 2 (codes "-") ≡ None
unfolding number_of
lone_sign = refl

greatest_decimal : decimal_of 2 (codes "92233720368547758.07") ≡ Some (pos 9223372036854775807)
unfolding number_of
greatest_decimal = refl

above_greatest_decimal : decimal_of 2 (codes "92233720368547758.08") ≡ None
unfolding number_of
above_greatest_decimal = refl

whole_above_greatest : decimal_of 2 (codes "92233720368547759") ≡ None
unfolding number_of
whole_above_greatest = refl

point_without_places : decimal_of 0 (codes "1.0") ≡ None
unfolding number_of
point_without_places = refl

small_decimal_text : number_text 2 (negsuc 4) ≡ codes "-0.05"
unfolding number_text digits
small_decimal_text = refl

decimal_text : number_text 3 (pos 12005) ≡ codes "12.005"
unfolding number_text digits
decimal_text = refl

integer_text : number_text 0 (negsuc 41) ≡ codes "-42"
unfolding number_text digits
integer_text = refl

-- ---- keys

key_of_two : encoded (codes "x" ∷ codes "yz" ∷ []) ≡ 1 ∷ 0 ∷ 0 ∷ 0 ∷ 120 ∷ 2 ∷ 0 ∷ 0 ∷ 0 ∷ 121 ∷ 122 ∷ []
unfolding encoded
key_of_two = refl

key_of_other_two : encoded (codes "xy" ∷ codes "z" ∷ []) ≡ 2 ∷ 0 ∷ 0 ∷ 0 ∷ 120 ∷ 121 ∷ 1 ∷ 0 ∷ 0 ∷ 0 ∷ 122 ∷ []
unfolding encoded
key_of_other_two = refl

longest_key_fits : length (encoded (replicate 244 120 ∷ [])) ≡ 248
unfolding encoded
longest_key_fits = refl

-- ---- averages

halves_go_away_from_zero : number_text 4 (average (negsuc 0) 32) ≡ codes "-0.0313"
unfolding number_text digits
halves_go_away_from_zero = refl

smallest_average : number_text 4 (average (negsuc 0) 20000) ≡ codes "-0.0001"
unfolding number_text digits
smallest_average = refl

zero_has_no_sign : number_text 4 (average (negsuc 0) 20001) ≡ codes "0.0000"
unfolding number_text digits
zero_has_no_sign = refl

whole_average : number_text 4 (average (pos 4) 2) ≡ codes "2.0000"
unfolding number_text digits
whole_average = refl

third : number_text 4 (average (negsuc 0) 3) ≡ codes "-0.3333"
unfolding number_text digits
third = refl

-- ---- plans

-- an aggregate of a column by its name
abbrev named : ItemKind → List ℕ → NamedItem
named k name = record { kind = k; column = Some name; places = 0 }

abbrev counted : NamedItem
counted = record { kind = kind.Rows; column = None; places = 0 }

abbrev plan : List (List ℕ) → List NamedItem → NamedPlan
plan groups items = record { groups = groups; items = items; hash = false; filters = [] }

abbrev number_filter : List ℕ → FilterOp → ℤ → NamedFilter
number_filter name relation value = record { column = name; test = test.Number relation value; places = 0 }

abbrev is_filter : List ℕ → List ℕ → NamedFilter
is_filter name text = record { column = name; test = test.Is text; places = 0 }

abbrev is_not_filter : List ℕ → List ℕ → NamedFilter
is_not_filter name text = record { column = name; test = test.IsNot text; places = 0 }

abbrev filtered : NamedPlan → List ℕ → FilterOp → ℤ → NamedPlan
filtered p name relation value = record p { filters = number_filter name relation value ∷ [] }

-- ---- `g,v` over a,1 b,2 a,3

abbrev letters : List (List (List ℕ))
letters = (codes "g" ∷ codes "v" ∷ []) ∷ (codes "a" ∷ codes "1" ∷ []) ∷ (codes "b" ∷ codes "2" ∷ []) ∷ (codes "a" ∷ codes "3" ∷ []) ∷ []

abbrev letter_rows : List (List (List ℕ))
letter_rows = (codes "a" ∷ codes "1" ∷ []) ∷ (codes "b" ∷ codes "2" ∷ []) ∷ (codes "a" ∷ codes "3" ∷ []) ∷ []

abbrev letter_header : List (List ℕ)
letter_header = codes "g" ∷ codes "v" ∷ []

abbrev sums : NamedPlan
sums = plan (codes "g" ∷ []) (named kind.Sum (codes "v") ∷ named kind.Avg (codes "v") ∷ [])

sums_have_a_table : outcome (Some sums) 16 letters ≡ Table
unfolding outcome missing_name refused_rows refusal is_kept encoded number_of
sums_have_a_table = refl

sums_header : table_header sums ≡ codes "g" ∷ codes "sum(v)" ∷ codes "avg(v)" ∷ []
sums_header = refl

sums_of_a : group_record (bound_plan letter_header sums) letter_rows (codes "a" ∷ []) ≡ codes "a" ∷ codes "4" ∷ codes "2.0000" ∷ []
unfolding state_of_rows is_kept encoded number_of number_text digits
sums_of_a = refl

sums_of_b : group_record (bound_plan letter_header sums) letter_rows (codes "b" ∷ []) ≡ codes "b" ∷ codes "2" ∷ codes "2.0000" ∷ []
unfolding state_of_rows is_kept encoded number_of number_text digits
sums_of_b = refl

unknown_column : outcome (Some (plan [] (named kind.Sum (codes "w") ∷ []))) 4 (letter_header ∷ []) ≡ NoColumn (codes "w")
unfolding outcome missing_name
unknown_column = refl

unknown_filter_column : outcome (Some (filtered (plan [] (counted ∷ [])) (codes "u") op.Equal (pos 1))) 16 letters ≡ NoColumn (codes "u")
unfolding outcome missing_name
unknown_filter_column = refl

no_input : outcome (Some (plan [] (counted ∷ []))) 0 [] ≡ NoHeader
unfolding outcome
no_input = refl

too_long : outcome (Some (plan [] (counted ∷ []))) 67108865 letters ≡ TooManyBytes
unfolding outcome
too_long = refl

no_plan : outcome None 16 letters ≡ Usage
unfolding outcome
no_plan = refl

short_row : outcome (Some (plan [] (counted ∷ []))) 6 ((codes "a" ∷ codes "b" ∷ []) ∷ (codes "1" ∷ []) ∷ []) ≡ Refused ((1, record { cause = 1; item = 0 }) ∷ [])
unfolding outcome missing_name refused_rows refusal
short_row = refl

-- ---- nulls and no rows

-- a, a,-1 a,0 a,0
abbrev null_rows : List (List (List ℕ))
null_rows = (codes "a" ∷ [] ∷ []) ∷ (codes "a" ∷ codes "-1" ∷ []) ∷ (codes "a" ∷ codes "0" ∷ []) ∷ (codes "a" ∷ codes "0" ∷ []) ∷ []

nulls_are_no_values : group_record (bound_plan letter_header (plan (codes "g" ∷ []) (counted ∷ named kind.Count (codes "v") ∷ named kind.Avg (codes "v") ∷ []))) null_rows (codes "a" ∷ []) ≡ codes "a" ∷ codes "4" ∷ codes "3" ∷ codes "-0.3333" ∷ []
unfolding state_of_rows is_kept encoded number_of number_text digits
nulls_are_no_values = refl

sum_of_none_is_null : group_record (bound_plan letter_header (plan [] (counted ∷ named kind.Sum (codes "v") ∷ []))) [] [] ≡ codes "0" ∷ [] ∷ []
unfolding state_of_rows number_text digits
sum_of_none_is_null = refl

lone_null_is_quoted : table_text ((codes "sum(v)" ∷ []) ∷ ([] ∷ []) ∷ []) ≡ codes "sum(v)" ++ (10 ∷ 34 ∷ 34 ∷ 10 ∷ [])
unfolding table_text escaped fields_text is_blank
lone_null_is_quoted = refl

quoted_key : table_text ((codes "item" ∷ codes "count" ∷ []) ∷ (codes "box, large" ∷ codes "1000" ∷ []) ∷ []) ≡ codes "item,count" ++ (10 ∷ 34 ∷ (codes "box, large" ++ (34 ∷ (codes ",1000" ++ 10 ∷ []))))
unfolding table_text escaped fields_text is_blank
quoted_key = refl

least_and_greatest : group_record (bound_plan (codes "v" ∷ []) (plan [] (named kind.Min (codes "v") ∷ named kind.Max (codes "v") ∷ []))) ((codes " 7 " ∷ []) ∷ (codes "-3" ∷ []) ∷ (codes "+5" ∷ []) ∷ []) [] ≡ codes "-3" ∷ codes "7" ∷ []
unfolding state_of_rows is_kept encoded number_of number_text digits
least_and_greatest = refl

wide_sum : group_record (bound_plan (codes "v" ∷ []) (plan [] (named kind.Sum (codes "v") ∷ []))) ((codes "9223372036854775807" ∷ []) ∷ (codes "9223372036854775807" ∷ []) ∷ []) [] ≡ codes "18446744073709551614" ∷ []
unfolding state_of_rows is_kept encoded number_of number_text digits
wide_sum = refl

too_wide : outcome (Some (plan [] (named kind.Sum (codes "v") ∷ []))) 22 ((codes "v" ∷ []) ∷ (codes "9223372036854775808" ∷ []) ∷ []) ≡ Refused ((1, record { cause = 3; item = 0 }) ∷ [])
unfolding outcome missing_name refused_rows refusal is_kept encoded number_of
too_wide = refl

wide_is_counted : group_record (bound_plan (codes "v" ∷ []) (plan [] (named kind.Count (codes "v") ∷ []))) ((codes "9223372036854775808" ∷ []) ∷ []) [] ≡ codes "1" ∷ []
unfolding state_of_rows is_kept encoded number_text digits
wide_is_counted = refl

-- ---- filters, over `g,v,w` and a,1,5 b,2,x a,,7 b,9,1

abbrev filter_header : List (List ℕ)
filter_header = codes "g" ∷ codes "v" ∷ codes "w" ∷ []

abbrev filter_rows : List (List (List ℕ))
filter_rows = (codes "a" ∷ codes "1" ∷ codes "5" ∷ []) ∷ (codes "b" ∷ codes "2" ∷ codes "x" ∷ []) ∷ (codes "a" ∷ [] ∷ codes "7" ∷ []) ∷ (codes "b" ∷ codes "9" ∷ codes "1" ∷ []) ∷ []

abbrev sum_w : NamedPlan
sum_w = plan (codes "g" ∷ []) (counted ∷ named kind.Sum (codes "w") ∷ [])

filter_below : outcome (Some (filtered sum_w (codes "v") op.Less (pos 2))) 28 (filter_header ∷ filter_rows) ≡ Table
unfolding outcome missing_name refused_rows refusal is_kept encoded number_of
filter_below = refl

filter_below_group : group_record (bound_plan filter_header (filtered sum_w (codes "v") op.Less (pos 2))) filter_rows (codes "a" ∷ []) ≡ codes "a" ∷ codes "1" ∷ codes "5" ∷ []
unfolding state_of_rows is_kept encoded number_of number_text digits
filter_below_group = refl

kept_row_is_refused : outcome (Some (filtered sum_w (codes "v") op.GreaterEqual (pos 2))) 28 (filter_header ∷ filter_rows) ≡ Refused ((2, record { cause = 3; item = 1 }) ∷ [])
unfolding outcome missing_name refused_rows refusal is_kept encoded number_of
kept_row_is_refused = refl

filter_field_is_refused : outcome (Some (filtered (plan [] (counted ∷ [])) (codes "w") op.Greater (pos 0))) 28 (filter_header ∷ filter_rows) ≡ Refused ((2, record { cause = 4; item = 0 }) ∷ [])
unfolding outcome missing_name refused_rows refusal is_kept encoded number_of
filter_field_is_refused = refl

filter_unequal : group_record (bound_plan filter_header (filtered (plan [] (counted ∷ [])) (codes "v") op.NotEqual (pos 1))) filter_rows [] ≡ codes "2" ∷ []
unfolding state_of_rows is_kept encoded number_of number_text digits
filter_unequal = refl

filter_negative : group_record (bound_plan filter_header (filtered (plan [] (counted ∷ [])) (codes "v") op.GreaterEqual (negsuc 2))) filter_rows [] ≡ codes "3" ∷ []
unfolding state_of_rows is_kept encoded number_of number_text digits
filter_negative = refl

-- a text; a null is neither the text nor another
filter_text : group_record (bound_plan filter_header (record (plan [] (counted ∷ [])) { filters = is_filter (codes "g") (codes "a") ∷ [] })) filter_rows [] ≡ codes "2" ∷ []
unfolding state_of_rows is_kept encoded digits
filter_text = refl

filter_other_text : group_record (bound_plan filter_header (record (plan [] (counted ∷ [])) { filters = is_not_filter (codes "v") (codes "1") ∷ [] })) filter_rows [] ≡ codes "2" ∷ []
unfolding state_of_rows is_kept encoded digits
filter_other_text = refl

-- the empty text is the test for nulls
filter_null : group_record (bound_plan filter_header (record (plan [] (counted ∷ [])) { filters = is_filter (codes "v") [] ∷ [] })) filter_rows [] ≡ codes "1" ∷ []
unfolding state_of_rows is_kept encoded digits
filter_null = refl

filter_not_null : group_record (bound_plan filter_header (record (plan [] (counted ∷ [])) { filters = is_not_filter (codes "v") [] ∷ [] })) filter_rows [] ≡ codes "3" ∷ []
unfolding state_of_rows is_kept encoded digits
filter_not_null = refl

-- two filters, both of which must hold
filter_both : group_record (bound_plan filter_header (record sum_w { filters = is_filter (codes "g") (codes "a") ∷ number_filter (codes "w") op.Less (pos 7) ∷ [] })) filter_rows (codes "a" ∷ []) ≡ codes "a" ∷ codes "1" ∷ codes "5" ∷ []
unfolding state_of_rows is_kept encoded number_of number_text digits
filter_both = refl

-- what a filter leaves out is read by none after it; what it reads refuses the row, whatever comes after it
filter_spares : outcome (Some (record sum_w { filters = is_filter (codes "g") (codes "a") ∷ number_filter (codes "w") op.Less (pos 7) ∷ [] })) 28 (filter_header ∷ filter_rows) ≡ Table
unfolding outcome missing_name refused_rows refusal is_kept encoded number_of
filter_spares = refl

second_filter_is_refused : outcome (Some (record sum_w { filters = number_filter (codes "v") op.Greater (pos 0) ∷ number_filter (codes "w") op.Less (pos 7) ∷ [] })) 28 (filter_header ∷ filter_rows) ≡ Refused ((2, record { cause = 4; item = 1 }) ∷ [])
unfolding outcome missing_name refused_rows refusal is_kept encoded number_of
second_filter_is_refused = refl

first_filter_is_refused : outcome (Some (record sum_w { filters = number_filter (codes "w") op.Less (pos 7) ∷ is_filter (codes "g") (codes "a") ∷ [] })) 28 (filter_header ∷ filter_rows) ≡ Refused ((2, record { cause = 4; item = 0 }) ∷ [])
unfolding outcome missing_name refused_rows refusal is_kept encoded number_of
first_filter_is_refused = refl

-- a key that is too long refuses no row that the filter leaves out, and one that it keeps
long_key_left_out : outcome (Some (filtered (plan (codes "k" ∷ []) (counted ∷ [])) (codes "v") op.Equal (pos 1))) 252 ((codes "k" ∷ codes "v" ∷ []) ∷ (replicate 245 120 ∷ codes "0" ∷ []) ∷ []) ≡ Table
unfolding outcome missing_name refused_rows refusal is_kept encoded number_of
long_key_left_out = refl

long_key_kept : outcome (Some (plan (codes "k" ∷ []) (counted ∷ []))) 248 ((codes "k" ∷ []) ∷ (replicate 245 120 ∷ []) ∷ []) ≡ Refused ((1, record { cause = 2; item = 0 }) ∷ [])
unfolding outcome missing_name refused_rows refusal is_kept encoded
long_key_kept = refl

-- ---- prices with two places

abbrev priced : ItemKind → NamedItem
priced k = record { kind = k; column = Some (codes "price"); places = 2 }

abbrev prices : List (List (List ℕ))
prices = (codes "1.50" ∷ []) ∷ (codes "-2" ∷ []) ∷ (codes "+0.05" ∷ []) ∷ (codes ".5" ∷ []) ∷ []

price_sums : group_record (bound_plan (codes "price" ∷ []) (plan [] (priced kind.Sum ∷ priced kind.Min ∷ priced kind.Max ∷ priced kind.Avg ∷ []))) prices [] ≡ codes "0.05" ∷ codes "-2.00" ∷ codes "1.50" ∷ codes "0.012500" ∷ []
unfolding state_of_rows is_kept encoded number_of number_text digits
price_sums = refl

price_filter : group_record (bound_plan (codes "price" ∷ []) (record (plan [] (counted ∷ [])) { filters = record { column = codes "price"; test = test.Number op.GreaterEqual (pos 50); places = 2 } ∷ [] })) prices [] ≡ codes "2" ∷ []
unfolding state_of_rows is_kept encoded number_of digits
price_filter = refl
