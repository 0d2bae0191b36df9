use Rattle.std.proofs.Common.{rules, ◌≡◌, ◌∙◌, None, Some, ap, map, refl}
use Rattle.std.specs.Prelude.{option_and_then}
use Rattle.plan_spec.specs.Given.{entry_of, query_given, reading_of}
use Rattle.plan_spec.specs.Grammar.{Places, filters_in}
use Rattle.plan_spec.specs.Query.{groups_given, hash_given, items_given, number_given, places_given, query_by, text_of}
use Rattle.plan_spec.specs.declared.options.OptionValues.{OptionValues}
use Rattle.plan_spec.specs.declared.plan.TheConstants.{MOST_AREA_PAGES, MOST_WORKERS}
use Rattle.plan_spec.specs.declared.read.TheConstants.{AREA_PAGES, WORKERS}
use Rattle.plan_spec.proofs.Missing.{never, no_filters, no_hash, no_pages, no_reading, no_workers}
use Rattle.plan_spec.proofs.read.read_values.Goals as goal

pub returns-in_err-hash-clause-usage : goal.returns-in_err-hash-clause-usage
returns-in_err-hash-clause-usage c e =
    let given = c.args.given.now in
    let none : hash_given (text_of c.args.given.now.plan) ≡ None = search rules in
    rw none (never _ _ (λ places. no_hash (groups_given (text_of given.group)) (items_given places (text_of given.agg)) (filters_in given.texts places (map (λ s. s.now) given.filters.items))
    (number_given MOST_WORKERS WORKERS (text_of given.workers)) (number_given MOST_AREA_PAGES AREA_PAGES (text_of given.area_pages)) (reading_of given)))

pub returns-in_err-workers-clause-usage : goal.returns-in_err-workers-clause-usage
returns-in_err-workers-clause-usage c e =
    let given = c.args.given.now in
    let none : number_given MOST_WORKERS WORKERS (text_of c.args.given.now.workers) ≡ None = search rules in
    rw (c.in_ok-hash.ensures.hash, none) (never _ _ (λ places. no_workers (groups_given (text_of given.group)) (items_given places (text_of given.agg)) (filters_in given.texts places (map (λ s. s.now) given.filters.items))
    c.in_ok-hash.hash (number_given MOST_AREA_PAGES AREA_PAGES (text_of given.area_pages)) (reading_of given)))

pub returns-in_err-area_pages-clause-usage : goal.returns-in_err-area_pages-clause-usage
returns-in_err-area_pages-clause-usage c e =
    let given = c.args.given.now in
    let none : number_given MOST_AREA_PAGES AREA_PAGES (text_of c.args.given.now.area_pages) ≡ None = search rules in
    rw (c.in_ok-hash.ensures.hash, c.in_ok-workers.ensures.number, none)
    (never _ _ (λ places. no_pages (groups_given (text_of given.group)) (items_given places (text_of given.agg)) (filters_in given.texts places (map (λ s. s.now) given.filters.items)) c.in_ok-hash.hash c.in_ok-workers.workers (reading_of given)))

pub returns-in_err-reading-clause-usage : goal.returns-in_err-reading-clause-usage
returns-in_err-reading-clause-usage c e =
    let given = c.args.given.now in
    let none : reading_of c.args.given.now ≡ None = search rules in
    rw (c.in_ok-hash.ensures.hash, c.in_ok-workers.ensures.number, c.in_ok-area_pages.ensures.number, none)
    (never _ _ (λ places. no_reading (groups_given (text_of given.group)) (items_given places (text_of given.agg)) (filters_in given.texts places (map (λ s. s.now) given.filters.items)) c.in_ok-hash.hash c.in_ok-workers.workers c.in_ok-area_pages.area_pages))

-- the query of the values, once their places are known
placed : (g : OptionValues) (places : Places) → places_given (text_of g.decimals) ≡ Some places
    → query_given g ≡ query_by (groups_given (text_of g.group)) (items_given places (text_of g.agg)) (filters_in g.texts places (map (λ s. s.now) g.filters.items)) (hash_given (text_of g.plan)) (number_given MOST_WORKERS WORKERS (text_of g.workers)) (number_given MOST_AREA_PAGES AREA_PAGES (text_of g.area_pages)) (reading_of g)
placed g places is = ap (option_and_then (λ places. query_by (groups_given (text_of g.group)) (items_given places (text_of g.agg)) (filters_in g.texts places (map (λ s. s.now) g.filters.items))
    (hash_given (text_of g.plan)) (number_given MOST_WORKERS WORKERS (text_of g.workers)) (number_given MOST_AREA_PAGES AREA_PAGES (text_of g.area_pages)) (reading_of g))) is

pub returns-in_err-filters-clause-usage : goal.returns-in_err-filters-clause-usage
returns-in_err-filters-clause-usage c e =
    let given = c.args.given.now in
    let places = map entry_of c.in_ok-places.places.items in
    let raw : filters_in c.args.given.now.texts (map entry_of c.deref.result.now) (map (λ s. s.now) c.as_slice.result.now) ≡ None = search rules in
    let none = rw (c.deref.ensures.value, c.as_slice.ensures.value) at raw in
    placed given places c.in_ok-places.ensures.places
    ∙ rw none (no_filters (groups_given (text_of given.group)) (items_given places (text_of given.agg)) (hash_given (text_of given.plan)) (number_given MOST_WORKERS WORKERS (text_of given.workers)) (number_given MOST_AREA_PAGES AREA_PAGES (text_of given.area_pages)) (reading_of given))

pub returns-clause-plan : goal.returns-clause-plan
returns-clause-plan c =
    let items = rw c.deref-2.ensures.value at c.in_ok-items.ensures.items in
    let filters = rw (c.deref.ensures.value, c.as_slice.ensures.value) at c.in_ok-filters.ensures.filters in
    placed c.args.given.now (map entry_of c.in_ok-places.places.items) c.in_ok-places.ensures.places
    ∙ rw (c.in_ok-groups.ensures.groups, items, filters, c.in_ok-hash.ensures.hash, c.in_ok-workers.ensures.number, c.in_ok-area_pages.ensures.number, c.in_ok-reading.ensures.reading) refl
