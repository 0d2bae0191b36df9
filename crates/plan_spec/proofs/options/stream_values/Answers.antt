use Rattle.std.proofs.Common.{rules, ◌≡◌, ◌∙◌, [], ℕ, List, Option, Some, None, ap, codes, false, map, refl, string_bytes}
use Rattle.std.specs.Borrow.{Bor}
use Rattle.std.specs.Option.{option_map_or}
use Rattle.std.specs.Prelude.{bytes_eq, option_map, unwrap_or}
use Rattle.clap.proofs.WalkLemmas.{first_value-rows, raw_values-rows}
use Rattle.clap.specs.Words.{App, all_of, app_of, first_of, found_of, is_simple_and_free}
use Rattle.plan_spec.specs.Options.{is_command_line, parstream_command, value_of, values_of}
use Rattle.plan_spec.proofs.Parsed.{parstream_is_free, refused_by, taken_by}
use Rattle.plan_spec.proofs.options.stream_values.Goals as goal

pub matches_in-requires : goal.matches_in-requires
matches_in-requires c = ap is_simple_and_free c.in-Ok.ensures ∙ parstream_is_free

pub returns-clause-takes : goal.returns-clause-takes
returns-clause-takes c = taken_by (app_of c.in-Ok.command) parstream_command _ c.in-Ok.ensures c.in_ok-matches.ensures.takes

pub returns-clause-group : goal.returns-clause-group
returns-clause-group c = c.get_str.ensures ∙ first_value-rows (found_of c.in_ok-matches.matches) (codes "group") ∙ ap (first_of (codes "group")) c.in_ok-matches.ensures.rows ∙ ap (λ (a : App). value_of a (codes "group") (map string_bytes c.args.words.now)) c.in-Ok.ensures

pub returns-clause-agg : goal.returns-clause-agg
returns-clause-agg c = c.get_str-2.ensures ∙ first_value-rows (found_of c.in_ok-matches.matches) (codes "agg") ∙ ap (first_of (codes "agg")) c.in_ok-matches.ensures.rows ∙ ap (λ (a : App). value_of a (codes "agg") (map string_bytes c.args.words.now)) c.in-Ok.ensures

given : (o : Option (Bor (List (Bor (List ℕ))))) (d : Bor (List (Bor (List ℕ)))) → d.now ≡ [] → map (λ s. s.now) (unwrap_or o d).now ≡ unwrap_or (option_map (λ s. map (λ v. v.now) s.now) o) []
given None d none = ap (map (λ s. s.now)) none
given (Some s) d none = refl

pub returns-clause-filters : goal.returns-clause-filters
returns-clause-filters c =
    c.in-Ok-copied.ensures ∙ ap (λ (s : Bor (List (Bor (List ℕ)))). map (λ v. v.now) s.now) c.unwrap_or.ensures ∙ given c.get_strs.result _ refl
    ∙ ap (λ (o : Option (List (List ℕ))). unwrap_or o []) (c.get_strs.ensures ∙ raw_values-rows (found_of c.in_ok-matches.matches) (codes "where") ∙ ap (all_of (codes "where")) c.in_ok-matches.ensures.rows)
    ∙ ap (λ (a : App). values_of a (codes "where") (map string_bytes c.args.words.now)) c.in-Ok.ensures

pub returns-clause-decimals : goal.returns-clause-decimals
returns-clause-decimals c = c.get_str-3.ensures ∙ first_value-rows (found_of c.in_ok-matches.matches) (codes "decimals") ∙ ap (first_of (codes "decimals")) c.in_ok-matches.ensures.rows ∙ ap (λ (a : App). value_of a (codes "decimals") (map string_bytes c.args.words.now)) c.in-Ok.ensures

pub returns-clause-separator : goal.returns-clause-separator
returns-clause-separator c = c.get_str-4.ensures ∙ first_value-rows (found_of c.in_ok-matches.matches) (codes "separator") ∙ ap (first_of (codes "separator")) c.in_ok-matches.ensures.rows ∙ ap (λ (a : App). value_of a (codes "separator") (map string_bytes c.args.words.now)) c.in-Ok.ensures

pub returns-clause-nulls : goal.returns-clause-nulls
returns-clause-nulls c = c.get_str-5.ensures ∙ first_value-rows (found_of c.in_ok-matches.matches) (codes "null") ∙ ap (first_of (codes "null")) c.in_ok-matches.ensures.rows ∙ ap (λ (a : App). value_of a (codes "null") (map string_bytes c.args.words.now)) c.in-Ok.ensures

pub returns-clause-trim : goal.returns-clause-trim
returns-clause-trim c =
    let told = c.get_str-6.ensures ∙ first_value-rows (found_of c.in_ok-matches.matches) (codes "trim") ∙ ap (first_of (codes "trim")) c.in_ok-matches.ensures.rows ∙ ap (λ (a : App). value_of a (codes "trim") (map string_bytes c.args.words.now)) c.in-Ok.ensures in
    c.is_true.ensures ∙ ap (λ (o : Option (List ℕ)). option_map_or (bytes_eq (codes "true")) o false) told

pub returns-clause-workers : goal.returns-clause-workers
returns-clause-workers c = c.get_str-7.ensures ∙ first_value-rows (found_of c.in_ok-matches.matches) (codes "workers") ∙ ap (first_of (codes "workers")) c.in_ok-matches.ensures.rows ∙ ap (λ (a : App). value_of a (codes "workers") (map string_bytes c.args.words.now)) c.in-Ok.ensures

pub returns-in_err-matches-clause-refuses : goal.returns-in_err-matches-clause-refuses
returns-in_err-matches-clause-refuses c = λ h.
    let no : is_command_line (app_of c.in-Ok.command) (map string_bytes c.args.words.now) ≡ false = search rules in
    refused_by (app_of c.in-Ok.command) parstream_command _ c.in-Ok.ensures no
