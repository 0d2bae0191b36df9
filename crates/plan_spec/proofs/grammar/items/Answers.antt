use Rattle.std.proofs.Common.{rules, ◌≡◌, [], true, ap, arith, length, map, nat_le, refl}
use Rattle.std.proofs.lemmas.List.{length-map}
use Rattle.std.proofs.lemmas.List.Splits.{length-slice_split}
use Rattle.std.specs.Prelude.{◌==◌, Err}
use Rattle.std.specs.Result.{is_ok}
use Rattle.plan_spec.specs.Given.{entry_of}
use Rattle.plan_spec.specs.Grammar.{all_some, item_in}
use Rattle.plan_spec.specs.declared.plan.PlanAnswer.TheVariants as answer
use Rattle.plan_spec.proofs.Present.{if-none, more-read, none-read}
use Rattle.plan_spec.proofs.grammar.items.Goals as goal

pub returns-in-Err-clause-none : goal.returns-in-Err-clause-none
returns-in-Err-clause-none c = λ h.
    let same : c.in-Err.answer ≡ answer.Usage = cc h in
    let parts = c.as_slice-part-items.result.now in
    let none = none-read (λ s. s.now) (item_in (map entry_of c.args.places.now)) parts c.parts.part-index (record { ref_ptr = (0, 0); now = [] }) c.parts-test.true (c.in-Err.ensures.none (ap Err same)) in
    rw (← c.in-Ok.ensures, ← c.as_slice-part-items.ensures.value) (if-none (nat_le (length (map (λ s. s.now) parts)) 8) (all_some (map (item_in (map entry_of c.args.places.now)) (map (λ s. s.now) parts))) none)

pub parts-preserved : goal.parts-preserved
parts-preserved c =
    let inv = c.parts.invariant in
    let good : is_ok c.push.result ≡ true = search rules in
    let items = rw good at c.push.ensures.items in
    let len = rw good at c.push.ensures.len in
    record {
      read = rw items (more-read (λ s. s.now) (item_in (map entry_of c.args.places.now)) c.as_slice-part-items.result.now c.parts.part-index (record { ref_ptr = (0, 0); now = [] }) c.parts.items.items c.in-Ok-item.item c.parts-test.true inv.read c.in-Ok-item.ensures.item);
      count = rw (len, inv.count) refl;
    }

pub returns-clause-some : goal.returns-clause-some
returns-clause-some c =
    let parts = length-slice_split (λ byte. byte == 44) c.args.text.now in
    let size = length-map c.in-Ok.parts.items (λ s. s.now) in
    omega (arith, parts, size, ap length c.in-Ok.ensures, ap length c.as_slice-part-items.ensures.value, c.parts-test.false, c.parts.invariant.count)
