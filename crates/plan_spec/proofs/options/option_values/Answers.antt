use Rattle.std.proofs.Common.{rules, ◌≡◌, ◌∙◌, ap, codes, false, map, string_bytes}
use Rattle.std.specs.Prelude.{option_to_list}
use Rattle.clap.proofs.WalkLemmas.{first_value-rows}
use Rattle.clap.specs.Words.{App, app_of, first_of, found_of, is_simple_and_free}
use Rattle.plan_spec.specs.Options.{is_command_line, pargather_command, value_of}
use Rattle.plan_spec.proofs.Parsed.{pargather_is_free, refused_by, taken_by}
use Rattle.plan_spec.proofs.options.option_values.Goals as goal

pub matches_in-requires : goal.matches_in-requires
matches_in-requires c = ap is_simple_and_free c.in-Ok.ensures ∙ pargather_is_free

pub returns-clause-takes : goal.returns-clause-takes
returns-clause-takes c = taken_by (app_of c.in-Ok.command) pargather_command _ c.in-Ok.ensures c.in_ok-matches.ensures.takes

pub returns-clause-group : goal.returns-clause-group
returns-clause-group c = c.get_str-2.ensures ∙ first_value-rows (found_of c.in_ok-matches.matches) (codes "group") ∙ ap (first_of (codes "group")) c.in_ok-matches.ensures.rows ∙ ap (λ (a : App). value_of a (codes "group") (map string_bytes c.args.words.now)) c.in-Ok.ensures

pub returns-clause-agg : goal.returns-clause-agg
returns-clause-agg c = c.get_str-3.ensures ∙ first_value-rows (found_of c.in_ok-matches.matches) (codes "agg") ∙ ap (first_of (codes "agg")) c.in_ok-matches.ensures.rows ∙ ap (λ (a : App). value_of a (codes "agg") (map string_bytes c.args.words.now)) c.in-Ok.ensures

pub returns-clause-filters : goal.returns-clause-filters
returns-clause-filters c = c.in-Ok-list_of.ensures ∙ ap option_to_list (c.get_str.ensures ∙ first_value-rows (found_of c.in_ok-matches.matches) (codes "where") ∙ ap (first_of (codes "where")) c.in_ok-matches.ensures.rows ∙ ap (λ (a : App). value_of a (codes "where") (map string_bytes c.args.words.now)) c.in-Ok.ensures)

pub returns-clause-workers : goal.returns-clause-workers
returns-clause-workers c = c.get_str-4.ensures ∙ first_value-rows (found_of c.in_ok-matches.matches) (codes "workers") ∙ ap (first_of (codes "workers")) c.in_ok-matches.ensures.rows ∙ ap (λ (a : App). value_of a (codes "workers") (map string_bytes c.args.words.now)) c.in-Ok.ensures

pub returns-clause-plan : goal.returns-clause-plan
returns-clause-plan c = c.get_str-5.ensures ∙ first_value-rows (found_of c.in_ok-matches.matches) (codes "plan") ∙ ap (first_of (codes "plan")) c.in_ok-matches.ensures.rows ∙ ap (λ (a : App). value_of a (codes "plan") (map string_bytes c.args.words.now)) c.in-Ok.ensures

pub returns-clause-area_pages : goal.returns-clause-area_pages
returns-clause-area_pages c = c.get_str-6.ensures ∙ first_value-rows (found_of c.in_ok-matches.matches) (codes "area-pages") ∙ ap (first_of (codes "area-pages")) c.in_ok-matches.ensures.rows ∙ ap (λ (a : App). value_of a (codes "area-pages") (map string_bytes c.args.words.now)) c.in-Ok.ensures

pub returns-in_err-matches-clause-refuses : goal.returns-in_err-matches-clause-refuses
returns-in_err-matches-clause-refuses c = λ h.
    let no : is_command_line (app_of c.in-Ok.command) (map string_bytes c.args.words.now) ≡ false = search rules in
    refused_by (app_of c.in-Ok.command) pargather_command _ c.in-Ok.ensures no
