use Rattle.std.proofs.Common.{◌∙◌, ap, sym, rules, tests, true}
use Rattle.std.proofs.lemmas.Iterator.{YieldsList-from_slice}
use Rattle.std.proofs.lemmas.Iterator.Search.{find_from_yields_List}
use Rattle.std.specs.Prelude.{bytes_eq, option_map}
use Rattle.std.specs.Option.{option_map_or}
use Rattle.plan_spec.specs.Given.{entry_of}
use Rattle.plan_spec.proofs.Entries.{found-places}
use Rattle.plan_spec.proofs.grammar.places_of.Goals as goal

pub returns-in-Some-clause-value : goal.returns-in-Some-clause-value
returns-in-Some-clause-value c =
    let found = find_from_yields_List (λ entry. option_map_or (bytes_eq c.args.name.now) (entry_of entry).0 true) _ _ c.find.result c.find.ensures.ran (YieldsList-from_slice c.args.places.now cc) (λ x b q k. search (rules, tests)) in
    ap (λ o. option_map_or (λ entry. entry.places) o 0) (ap (option_map (λ entry. entry.now)) (sym c.in-Some.is) ∙ found) ∙ found-places c.args.places.now c.args.name.now

pub returns-in-None-clause-value : goal.returns-in-None-clause-value
returns-in-None-clause-value c =
    let found = find_from_yields_List (λ entry. option_map_or (bytes_eq c.args.name.now) (entry_of entry).0 true) _ _ c.find.result c.find.ensures.ran (YieldsList-from_slice c.args.places.now cc) (λ x b q k. search (rules, tests)) in
    ap (λ o. option_map_or (λ entry. entry.places) o 0) (ap (option_map (λ entry. entry.now)) (sym c.in-None.is) ∙ found) ∙ found-places c.args.places.now c.args.name.now
