use Rattle.std.proofs.Common.{rules, ◌≡◌, [], true, false, ap, arith, length, map, nat_le, refl}
use Rattle.std.proofs.lemmas.Bool.Decides.{nat_tests}
use Rattle.std.proofs.lemmas.List.{length-map}
use Rattle.std.specs.Prelude.{Err}
use Rattle.std.specs.Result.{is_ok}
use Rattle.plan_spec.specs.Given.{entry_of}
use Rattle.plan_spec.specs.Grammar.{filter_in}
use Rattle.plan_spec.specs.declared.plan.PlanAnswer.TheVariants as answer
use Rattle.plan_spec.proofs.Present.{more-read, none-read}
use Rattle.plan_spec.proofs.grammar.filters.Goals as goal

pub returns-then-values-gt8-clause-none : goal.returns-then-values-gt8-clause-none
returns-then-values-gt8-clause-none c = λ _.
    let many : nat_le (length (map (λ s. s.now) c.args.values.now)) 8 ≡ false = grind (arith, nat_tests, length-map c.args.values.now (λ s. s.now), c.if-values-gt8.true) in
    rw many refl

pub returns-in-Err-clause-none : goal.returns-in-Err-clause-none
returns-in-Err-clause-none c = λ h.
    let same : c.in-Err.answer ≡ answer.Usage = cc h in
    let few : nat_le (length (map (λ s. s.now) c.args.values.now)) 8 ≡ true = grind (arith, nat_tests, length-map c.args.values.now (λ s. s.now), c.if-values-gt8.false) in
    rw few (none-read (λ s. s.now) (filter_in c.args.texts (map entry_of c.args.places.now)) c.args.values.now c.values.value-index (record { ref_ptr = (0, 0); now = [] }) c.values-test.true (c.in-Err.ensures.none (ap Err same)))

pub values-preserved : goal.values-preserved
values-preserved c =
    let inv = c.values.invariant in
    let good : is_ok c.push.result ≡ true = search rules in
    let items = rw good at c.push.ensures.items in
    let len = rw good at c.push.ensures.len in
    record {
      read = rw items (more-read (λ s. s.now) (filter_in c.args.texts (map entry_of c.args.places.now)) c.args.values.now c.values.value-index (record { ref_ptr = (0, 0); now = [] }) c.values.filters.items c.in-Ok.filter c.values-test.true inv.read c.in-Ok.ensures.filter);
      count = rw (len, inv.count) refl;
    }
