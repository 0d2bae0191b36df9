-- What the values of each program's options come to.
use Rattle.std.proofs.Common.{◌≡◌, ◌∙◌, [], Bool, Option, Some, None, false, true, map, ap, ap₂}
use Rattle.std.specs.Borrow.{Bor}
use Rattle.std.specs.Prelude.{ℕ, List, option_and_then}
use Rattle.csv_rows.specs.Readings.{plain}
use Rattle.csv_rows.specs.declared.cleaning.Reading.{Reading}
use Rattle.plan_spec.specs.Given.{query_given, reading_of}
use Rattle.plan_spec.specs.Grammar.{filters_in}
use Rattle.plan_spec.specs.Query.{groups_given, hash_given, items_given, number_given, places_given, query_by, reading_given, text_of}
use Rattle.plan_spec.specs.declared.options.OptionValues.{OptionValues}
use Rattle.plan_spec.specs.declared.plan.TheConstants.{MOST_AREA_PAGES, MOST_WORKERS}
use Rattle.plan_spec.specs.declared.read.TheConstants.{AREA_PAGES, WORKERS}

-- fields are read as they are, between commas, if no option says otherwise
pub plain_reading : (g : OptionValues) → g.separator ≡ None → g.nulls ≡ None → g.trim ≡ false → reading_of g ≡ Some plain
plain_reading g separator nulls trim =
    ap₂ (λ (s : Option (Bor (List ℕ))) (t : Bool). reading_given (text_of s) t (text_of g.nulls)) separator trim
    ∙ ap (λ (n : Option (Bor (List ℕ))). reading_given None false (text_of n)) nulls

-- with no places, no texts in filters, and fields as they are: those of pargather
pub without-places : (g : OptionValues) → g.decimals ≡ None → g.texts ≡ false → reading_of g ≡ Some plain → query_given g ≡ query_by (groups_given (text_of g.group)) (items_given [] (text_of g.agg)) (filters_in false [] (map (λ s. s.now) g.filters.items))
    (hash_given (text_of g.plan)) (number_given MOST_WORKERS WORKERS (text_of g.workers)) (number_given MOST_AREA_PAGES AREA_PAGES (text_of g.area_pages)) (Some plain)
without-places g none texts reading = ap₂ (λ decimals t. option_and_then (λ places. query_by (groups_given (text_of g.group)) (items_given places (text_of g.agg)) (filters_in t places (map (λ s. s.now) g.filters.items))
    (hash_given (text_of g.plan)) (number_given MOST_WORKERS WORKERS (text_of g.workers)) (number_given MOST_AREA_PAGES AREA_PAGES (text_of g.area_pages)) (reading_of g)) (places_given (text_of decimals))) none texts
    ∙ ap (λ (r : Option Reading). query_by (groups_given (text_of g.group)) (items_given [] (text_of g.agg)) (filters_in false [] (map (λ s. s.now) g.filters.items))
    (hash_given (text_of g.plan)) (number_given MOST_WORKERS WORKERS (text_of g.workers)) (number_given MOST_AREA_PAGES AREA_PAGES (text_of g.area_pages)) r) reading

-- with no shared table, and texts: those of parstream
pub without-table : (g : OptionValues) → g.plan ≡ None → g.area_pages ≡ None → g.texts ≡ true → query_given g ≡ option_and_then (λ places. query_by (groups_given (text_of g.group)) (items_given places (text_of g.agg)) (filters_in true places (map (λ s. s.now) g.filters.items))
    (Some false) (number_given MOST_WORKERS WORKERS (text_of g.workers)) (Some AREA_PAGES) (reading_of g)) (places_given (text_of g.decimals))
without-table g plan pages texts =
    ap₂ (λ p a. option_and_then (λ places. query_by (groups_given (text_of g.group)) (items_given places (text_of g.agg)) (filters_in g.texts places (map (λ s. s.now) g.filters.items))
    (hash_given (text_of p)) (number_given MOST_WORKERS WORKERS (text_of g.workers)) (number_given MOST_AREA_PAGES AREA_PAGES (text_of a)) (reading_of g)) (places_given (text_of g.decimals))) plan pages
    ∙ ap (λ t. option_and_then (λ places. query_by (groups_given (text_of g.group)) (items_given places (text_of g.agg)) (filters_in t places (map (λ s. s.now) g.filters.items))
    (Some false) (number_given MOST_WORKERS WORKERS (text_of g.workers)) (Some AREA_PAGES) (reading_of g)) (places_given (text_of g.decimals))) texts
