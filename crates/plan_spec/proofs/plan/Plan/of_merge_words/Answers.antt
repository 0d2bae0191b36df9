use Rattle.std.proofs.Common.{◌≡◌, ◌∙◌, [], length, map, string_bytes, ap, ap₂, arith, sym}
use Rattle.std.proofs.lemmas.List.{get_or-map, length-map}
use Rattle.plan_spec.specs.Merging.{merge_of, merge_query}
use Rattle.plan_spec.proofs.Merges.{other_first, other_number, three_words}
use Rattle.plan_spec.proofs.plan.Plan.of_merge_words.Goals.{then-words-ne3-via-then-words-ne3, then-words-ne3-via-else-words-ne3+then-not-is_merge}
use Rattle.plan_spec.proofs.plan.Plan.of_merge_words.Goals as goal

pub returns-then-words-ne3-clause-usage : goal.returns-then-words-ne3-clause-usage
returns-then-words-ne3-clause-usage c = λ _.
    let words = map string_bytes c.args.words.now in
    let long = length-map c.args.words.now string_bytes in
    elim c.then-words-ne3.branch [
      | then-words-ne3-via-then-words-ne3 w ↦ other_number words (λ three. omega (arith, long, three, w.if-words-ne3.true))
      | then-words-ne3-via-else-words-ne3+then-not-is_merge w ↦ other_first words (sym w.is_merge.ensures ∙ w.if-not-is_merge.true)
    ]

-- the words are three, and the first is `merge`
abbrev is : (c : goal.After-merge_plan) → merge_of (map string_bytes c.args.words.now) ≡ merge_query c.as_str.result.now c.as_str-2.result.now
is c =
    let words = c.args.words.now in
    let long : length (map string_bytes words) ≡ 3 = length-map words string_bytes ∙ c.if-words-ne3.false in
    let columns = get_or-map string_bytes words 1 c.index-words-1.result [] (omega (arith, c.if-words-ne3.false)) ∙ ap string_bytes (sym c.index-words-1.is) ∙ sym c.as_str.ensures.value in
    let workers = get_or-map string_bytes words 2 c.index-words-2.result [] (omega (arith, c.if-words-ne3.false)) ∙ ap string_bytes (sym c.index-words-2.is) ∙ sym c.as_str-2.ensures.value in
    three_words (map string_bytes words) (sym c.is_merge.ensures ∙ c.if-not-is_merge.false) long ∙ ap₂ merge_query columns workers

pub returns-clause-plan : goal.returns-clause-plan
returns-clause-plan c = rw (is c) c.merge_plan.ensures.plan

pub returns-clause-usage : goal.returns-clause-usage
returns-clause-usage c = rw (is c) c.merge_plan.ensures.usage
