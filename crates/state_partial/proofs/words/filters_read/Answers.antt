use Rattle.std.proofs.Common.{◌≡◌, ◌∙◌, ◌++◌, [], ℕ, Bool, List, Option, Some, None, ap, codes, false, map, option_map, refl}
use Rattle.std.specs.Borrow.{Bor}
use Rattle.std.specs.Option.{option_map_or}
use Rattle.std.specs.Prelude.{bytes_eq, unwrap_or}
use Rattle.clap.proofs.WalkLemmas.{first_value-rows, raw_values-rows}
use Rattle.clap.specs.Words.{found_of, rows_of}
use Rattle.state_partial.specs.Words.{filters_of, reading_texts}
use Rattle.state_partial.proofs.Commands.{right_filters, wrong_filter}
use Rattle.state_partial.proofs.words.filters_read.Goals as goal

given : (o : Option (Bor (List (Bor (List ℕ))))) (d : Bor (List (Bor (List ℕ)))) → d.now ≡ [] → map (λ s. s.now) (unwrap_or o d).now ≡ unwrap_or (option_map (λ s. map (λ v. v.now) s.now) o) []
given None d none = ap (map (λ s. s.now)) none
given (Some s) d none = refl

all_texts : (texts filters : List ℕ) (separator separator' nulls nulls' : Option (List ℕ)) (trim trim' : Bool) → texts ≡ filters → separator ≡ separator' → nulls ≡ nulls' → trim ≡ trim'
    → texts ++ filters_of (reading_texts separator nulls trim) ≡ filters ++ filters_of (reading_texts separator' nulls' trim')
all_texts texts filters separator separator' nulls nulls' trim trim' a b c d = rw (a, b, c, d) refl

pub returns-then-not-are_filters : goal.returns-then-not-are_filters
returns-then-not-are_filters c =
    let found = found_of c.args.matches.now in
    let is = ap (λ (s : Bor (List (Bor (List ℕ)))). map (λ v. v.now) s.now) c.unwrap_or-values.ensures ∙ given c.get_strs.result _ refl
    ∙ ap (λ (o : Option (List (List ℕ))). unwrap_or o []) (c.get_strs.ensures ∙ raw_values-rows found (codes "where")) in
    wrong_filter (rows_of found) _ c.are_filters.result is c.are_filters.ensures c.if-not-are_filters.true

pub returns : goal.returns
returns c =
    let found = found_of c.args.matches.now in
    let is = ap (λ (s : Bor (List (Bor (List ℕ)))). map (λ v. v.now) s.now) c.unwrap_or-values.ensures ∙ given c.get_strs.result _ refl
    ∙ ap (λ (o : Option (List (List ℕ))). unwrap_or o []) (c.get_strs.ensures ∙ raw_values-rows found (codes "where")) in
    let filters = c.in_ok-texts.ensures ∙ ap filters_of is in
    let separator = c.get_str-separator.ensures ∙ first_value-rows found (codes "separator") in
    let nulls = c.get_str-nulls.ensures ∙ first_value-rows found (codes "null") in
    let trim = c.is_true-trim.ensures ∙ ap (λ (o : Option (List ℕ)). option_map_or (bytes_eq (codes "true")) o false) (c.get_str.ensures ∙ first_value-rows found (codes "trim")) in
    right_filters (rows_of found) _ c.are_filters.result c.in_ok-all.all.items is c.are_filters.ensures c.if-not-are_filters.false
    (c.in_ok-all.ensures ∙ all_texts c.in_ok-texts.texts.items _ _ _ _ _ _ _ filters separator nulls trim)
