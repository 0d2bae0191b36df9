use Rattle.std.proofs.Common.{◌≡◌, ◌<◌, ◌+◌, ◌∷◌, List, ℕ, arith, ap, sym, ◌∙◌, slice_index, length, rules}
use Rattle.found_rows.specs.Found.{records_from}
use Rattle.found_rows.specs.Spans.{fields_in}
use Rattle.found_rows.proofs.Fields.{comma-or-feed}
use Rattle.found_rows.proofs.Records.{at-end, begins, field-comma, field-last, field-line, rest_of, too-wide}
use Rattle.found_rows.proofs.found.find_fields.Goals as goal

pub fields-init : goal.fields-init
fields-init c =
    let low : c.args.start < length c.args.text.now = omega arith in
    record {
      within = c.requires.within;
      block = c.requires.block;
      reached = c.requires.reached;
      spans = c.clear.ensures.spans c.args.text.now;
      law = begins c.args.text.now c.args.start c.requires.lines low (c.requires.begins low)
          ∙ ap (λ (fs : List (List ℕ)). rest_of c.args.text.now fs c.args.start) (sym (c.clear.ensures.none c.args.text.now));
    }

pub fields-preserved : goal.fields-preserved
fields-preserved c =
    let text = c.args.text.now in
    let inv = c.fields.invariant in
    let w = c.in_ok-end.ensures.written in
    let low : c.in_ok-end.end < length text = grind (arith, w.high) in
    let comma = comma-or-feed (slice_index text c.in_ok-end.end) (w.ends low) (search rules) in
    record {
      within = omega (arith, low);
      block = c.next_field.ensures.block;
      reached = omega (arith, c.in_ok-end.ensures.reached);
      spans = c.in_ok-end.ensures.spans;
      law = inv.law ∙ field-comma text (fields_in text c.fields.spans) c.fields.from c.in_ok-end.end w low comma
          ∙ ap (λ (fs : List (List ℕ)). rest_of text fs (c.in_ok-end.end + 1)) (sym c.in_ok-end.ensures.field);
    }

pub returns-then-start-text-clause-spans : goal.returns-then-start-text-clause-spans
returns-then-start-text-clause-spans c = c.clear.ensures.spans c.args.text.now

pub returns-then-start-text-clause-end : goal.returns-then-start-text-clause-end
returns-then-start-text-clause-end c _ =
    let is : c.args.start ≡ length c.args.text.now = search rules in
    at-end c.args.text.now c.args.start is

pub returns-then-end-text-clause-row : goal.returns-then-end-text-clause-row
returns-then-end-text-clause-row c _ =
    let text = c.args.text.now in
    let end = c.in_ok-end.end in
    let is : end ≡ length text = search rules in
    c.fields.invariant.law ∙ field-last text (fields_in text c.fields.spans) c.fields.from end c.in_ok-end.ensures.written is
    ∙ ap (λ (fs : List (List ℕ)). fs ∷ records_from text end) (sym c.in_ok-end.ensures.field)

pub returns-then-text-end-eq10-clause-row : goal.returns-then-text-end-eq10-clause-row
returns-then-text-end-eq10-clause-row c _ =
    let text = c.args.text.now in
    let end = c.in_ok-end.end in
    let w = c.in_ok-end.ensures.written in
    let low : end < length text = grind (arith, w.high) in
    let is : slice_index text end ≡ 10 = search rules in
    c.fields.invariant.law ∙ field-line text (fields_in text c.fields.spans) c.fields.from end w low is
    ∙ ap (λ (fs : List (List ℕ)). fs ∷ records_from text (end + 1)) (sym c.in_ok-end.ensures.field)

pub returns-clause-wide : goal.returns-clause-wide
returns-clause-wide c _ =
    let text = c.args.text.now in
    let many = c.count.ensures.count text c.fields.invariant.spans in
    too-wide text c.args.start c.fields.from (fields_in text c.fields.spans) c.fields.invariant.law (omega (arith, many, c.fields-test.false))
