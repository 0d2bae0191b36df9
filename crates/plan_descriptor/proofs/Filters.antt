-- The words of a filter, and the lengths of a descriptor.
use Rattle.std.proofs.Common.{◌≡◌, ◌==◌, ◌≤◌, ◌<◌, ◌+◌, ◌^◌, ◌∙◌, ℕ, ℤ, true, FitsSigned, List, [], ◌∷◌, map, Option, Some, None, ap, if◌then◌else◌, length, arith, nat_le, not, of_z, refl, subst, sym, to_z, w64}
use Rattle.std.proofs.lemmas.Bool.Decides.{nat_tests}
use Rattle.std.proofs.lemmas.Int.{of_z-to_z, to_z-of_z}
use Rattle.std.specs.Option.{ForSome, option_map_or}
use Rattle.std.specs.Prelude.{All, option_and_then, slice_get, slice_index}
use Rattle.par_model.specs.Plain.{are_plain, is_plain}
use Rattle.par_model.specs.Plan.{Plan}
use Rattle.par_model.specs.Refuse.{is_of_numbers}
use Rattle.par_model.specs.declared.plan.Filter.{Filter as AnyFilter}
use Rattle.par_model.specs.declared.plan.FilterTest.{FilterTest}
use Rattle.par_model.specs.declared.plan.FilterTest.TheVariants as test
use Rattle.plan_descriptor.specs.declared.words.NumberFilter.{NumberFilter as Filter}
use Rattle.par_model.specs.declared.plan.FilterOp.{FilterOp}
use Rattle.par_model.specs.declared.plan.FilterOp.TheVariants as op
use Rattle.par_model.specs.declared.plan.TheConstants.{MOST_PLACES}
use Rattle.plan_descriptor.proofs.Allowed.{AllowedFilter}
use Rattle.plan_descriptor.proofs.Columns.{placed_column, placed_nothing, same_parts}
use Rattle.plan_descriptor.proofs.Sections.{by_four}
use Rattle.plan_descriptor.specs.Descriptor.{column_word, filter_of, filter_word, is_filter, number_filter, plain_filters, relation_word, size_of}

-- a descriptor that is longer than one of version 1
pub whole : (words : List ℕ) → length words ≡ size_of (slice_index words 0) → 28 < length words → length words ≡ 32
whole words size long = grind (arith, nat_tests)

-- no relation, no filter
pub no_filter : (words : List ℕ) → AllowedFilter words → slice_index words 28 ≡ 0 → (k : ℕ) → k < 4 → 0 ≡ slice_index words (28 + k)
no_filter words is none = by_four (λ k. 0 ≡ slice_index words (28 + k)) (sym none) (sym (is.no_column none)) (sym (is.no_value none)) (sym is.last)

-- the words of a filter, whose value was read as a signed number and is written again
pub some_filter : (words : List ℕ) (relation column places : ℕ) (value : ℤ) → AllowedFilter words → relation ≡ slice_index words 28 → column_word column places ≡ slice_index words 29 → value ≡ to_z w64 (slice_index words 30) → FitsSigned w64 value
    → slice_index words 30 < 2 ^ 64 → (k : ℕ) → k < 4
    → (if k == 0 then relation else (if k == 1 then column_word column places else (if k == 2 then of_z w64 (to_z w64 (of_z w64 value)) else 0))) ≡ slice_index words (28 + k)
some_filter words relation column places value is same column_is read fits small =
    by_four (λ k. (if k == 0 then relation else (if k == 1 then column_word column places else (if k == 2 then of_z w64 (to_z w64 (of_z w64 value)) else 0))) ≡ slice_index words (28 + k))
    same column_is
    (ap (of_z w64) (to_z-of_z w64 value fits ∙ read) ∙ of_z-to_z w64 (slice_index words 30) small)
    (sym is.last)

pub long : (words : List ℕ) → length words ≡ size_of (slice_index words 0) → 28 ≤ length words
long words size = grind (arith, nat_tests)

-- a filter whose column, places and value fit
pub some_fits : (f : Filter) → f.column < 2 ^ 32 → f.places ≤ MOST_PLACES → FitsSigned w64 f.value → ForSome (Some f) (λ filter. (filter.column < 2 ^ 32) × (filter.places ≤ MOST_PLACES) × FitsSigned w64 filter.value)
some_fits f column places value filter is =
    let same : f ≡ filter = cc in
    (subst (λ (g : Filter). g.column < 2 ^ 32) same column, subst (λ (g : Filter). g.places ≤ MOST_PLACES) same places, subst (λ (g : Filter). FitsSigned w64 g.value) same value)

-- the relation of a word
relation_of : ℕ → FilterOp
relation_of w = if w == 1 then op.Equal else (if w == 2 then op.NotEqual else (if w == 3 then op.Less else (if w == 4 then op.LessEqual else (if w == 5 then op.Greater else op.GreaterEqual))))

relation_of-word : (o : FilterOp) → relation_of (relation_word o) ≡ o
unfolding relation_of
relation_of-word op.Equal = refl
relation_of-word op.NotEqual = refl
relation_of-word op.Less = refl
relation_of-word op.LessEqual = refl
relation_of-word op.Greater = refl
relation_of-word op.GreaterEqual = refl

a_relation : (o : FilterOp) → (0 < relation_word o) × (relation_word o ≤ 6)
a_relation op.Equal = (omega arith, omega arith)
a_relation op.NotEqual = (omega arith, omega arith)
a_relation op.Less = (omega arith, omega arith)
a_relation op.LessEqual = (omega arith, omega arith)
a_relation op.Greater = (omega arith, omega arith)
a_relation op.GreaterEqual = (omega arith, omega arith)

-- filters that have the same words
pub same_filter : (a b : Option Filter) → ForSome a (λ filter. (filter.column < 2 ^ 32) × FitsSigned w64 filter.value) → ForSome b (λ filter. (filter.column < 2 ^ 32) × FitsSigned w64 filter.value)
    → ((k : ℕ) → k < 4 → filter_word a k ≡ filter_word b k) → a ≡ b
same_filter None None fits fits' same = refl
same_filter None (Some g) fits fits' same = absurd (omega (arith, same 0 (omega arith), a_relation g.op))
same_filter (Some f) None fits fits' same = absurd (omega (arith, same 0 (omega arith), a_relation f.op))
same_filter (Some f) (Some g) fits fits' same =
    let ops : f.op ≡ g.op = sym (relation_of-word f.op) ∙ ap relation_of (same 0 (omega arith)) ∙ relation_of-word g.op in
    let columns = same_parts f.column g.column f.places g.places (fits f refl).0 (fits' g refl).0 (same 1 (omega arith)) in
    let values : f.value ≡ g.value = sym (to_z-of_z w64 f.value (fits f refl).1) ∙ ap (to_z w64) (same 2 (omega arith)) ∙ to_z-of_z w64 g.value (fits' g refl).1 in
    λ i. Some (record { column = columns.0 i; op = ops i; value = values i; places = columns.1 i })

le_true : (a b : ℕ) → a ≤ b → nat_le a b ≡ true
le_true a b h = grind (arith, nat_tests)

not_zero : (a : ℕ) → 0 < a → not (a == 0) ≡ true
not_zero a h = grind (arith, nat_tests)

-- the words of a filter are allowed in version 2, where word 28 is its relation's
pub filter_allowed : (words : List ℕ) (o : Option Filter) → ForSome o (λ filter. (filter.column < 2 ^ 32) × FitsSigned w64 filter.value) → ForSome o (λ filter. filter.places ≤ MOST_PLACES)
    → (slice_index words 0 ≡ 1 → ⊥) → slice_index words 28 ≡ filter_word o 0
    → (k : ℕ) → k < 4 → is_filter words k (filter_word o k) ≡ true
filter_allowed words None fits few new relation = by_four (λ k. is_filter words k (filter_word None k) ≡ true) refl (rw relation (placed_nothing words)) (rw relation refl) refl
filter_allowed words (Some f) fits few new relation =
    let some = a_relation f.op in
    let stands : not (slice_index words 28 == 0) ≡ true = rw relation (not_zero (relation_word f.op) some.0) in
    by_four (λ k. is_filter words k (filter_word (Some f) k) ≡ true) (le_true (relation_word f.op) 6 some.1)
    (rw stands (placed_column words f.column f.places (fits f refl).0 (few f refl) (λ one. absurd (new one)))) (rw stands refl) refl

-- ---- the filters of a plain plan

-- the filter that a list has, if it has one of numbers at its front
abbrev front_of : List AnyFilter → Option Filter
front_of filters = option_and_then (λ filter. number_filter filter.column filter.places filter.test) (slice_get filters 0)

plain_one : (column places : ℕ) (test : FilterTest) → is_of_numbers test ≡ true → (record { column = column; test = test; places = places } ∷ []) ≡ plain_filters (number_filter column places test)
plain_one column places (test.Number op value) e = refl
plain_one column places (test.Is text) e = cc e
plain_one column places (test.IsNot text) e = cc e

plain_list : (filters : List AnyFilter) → are_plain (map (λ filter. filter.test) filters) ≡ true → filters ≡ plain_filters (front_of filters)
plain_list [] e = refl
plain_list (f ∷ []) e = plain_one f.column f.places f.test e
plain_list (f ∷ (g ∷ more)) e = cc e

pub plain_is : (plan : Plan) → is_plain plan ≡ true → plan.filters ≡ plain_filters (filter_of plan)
plain_is plan e = plain_list plan.filters e

front_back : (filter : Option Filter) → front_of (plain_filters filter) ≡ filter
front_back None = refl
front_back (Some f) = refl

plain_back : (filter : Option Filter) → are_plain (map (λ filter. filter.test) (plain_filters filter)) ≡ true
plain_back None = refl
plain_back (Some f) = refl

-- a plan whose filters are those of one filter of numbers, or of none
pub filter_back : (plan : Plan) (filter : Option Filter) → plan.filters ≡ plain_filters filter → filter_of plan ≡ filter
filter_back plan filter e = ap front_of e ∙ front_back filter

pub is_plain_back : (plan : Plan) (filter : Option Filter) → plan.filters ≡ plain_filters filter → is_plain plan ≡ true
is_plain_back plan filter e = ap (λ (fs : List AnyFilter). are_plain (map (λ filter. filter.test) fs)) e ∙ plain_back filter

few_places : (column places : ℕ) (test : FilterTest) → places ≤ MOST_PLACES → ForSome (number_filter column places test) (λ filter. filter.places ≤ MOST_PLACES)
few_places column places (test.Number op value) few f is = subst (λ (n : ℕ). n ≤ MOST_PLACES) (ap (λ (o : Option Filter). option_map_or (λ g. g.places) o 0) is) few
few_places column places (test.Is text) few f is = cc is
few_places column places (test.IsNot text) few f is = cc is

front_places : (filters : List AnyFilter) → All (λ filter. filter.places ≤ MOST_PLACES) filters → ForSome (front_of filters) (λ filter. filter.places ≤ MOST_PLACES)
front_places [] few f is = cc is
front_places (g ∷ more) few f is = few_places g.column g.places g.test (few 0 g (omega arith)) f is

pub places_of_filter : (plan : Plan) → All (λ filter. filter.places ≤ MOST_PLACES) plan.filters → ForSome (filter_of plan) (λ filter. filter.places ≤ MOST_PLACES)
places_of_filter plan few = front_places plan.filters few
