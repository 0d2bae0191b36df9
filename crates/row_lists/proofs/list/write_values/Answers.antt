use Rattle.std.proofs.Common.{◌+◌, ◌++◌, ◌∙◌, ℕ, ℤ, List, Option, None, FitsSigned, ap, append-nil, append_assoc, drop, get_or, refl, rules, subst, sym, to_z, w64}
use Rattle.std.specs.List.{AllByRecursion}
use Rattle.std.proofs.lemmas.Int.{to_z-of_z}
use Rattle.std.proofs.lemmas.List.{drop_all, take_all}
use Rattle.key_index.proofs.Front.{front-of-front, front-same}
use Rattle.row_lists.specs.Carried.{IsValue, last_of, value_bytes, values_bytes}
use Rattle.row_lists.proofs.Reading.{next_value, values_more}
use Rattle.row_lists.proofs.list.write_values.Goals as goal

pub loop-value-init : goal.loop-value-init
loop-value-init c = record { whole = refl; front = front-same c.args.bytes.now.items c.args.bytes.now.items refl; values = tt }

pub loop-value-preserved : goal.loop-value-preserved
loop-value-preserved c =
    let at = c.loop-value.value-index in
    let values = c.args.values.now in
    let bytes = c.loop-value.bytes.items in
    let last = to_z w64 c.loop-value.last-bits in
    let value = get_or values at None in
    let written = c.in_ok-write_value.ensures in
    let known = c.write_value.new.last in
    let fits : FitsSigned w64 known = search rules in
    record {
      whole = (λ i. written.bytes i ++ values_bytes ((to_z-of_z w64 known fits ∙ written.last) i) (drop (at + 1) values))
          ∙ append_assoc bytes (value_bytes last value) (values_bytes (last_of last value) (drop (at + 1) values))
          ∙ ap (λ (bs : List ℕ). bytes ++ bs) (sym (next_value last values at c.loop-value-test.true))
          ∙ c.loop-value.invariant.whole;
      front = front-of-front c.args.bytes.now.items bytes c.write_value.new.bytes.items c.loop-value.invariant.front c.write_value.ensures.front;
      values = values_more values at c.loop-value-test.true c.loop-value.invariant.values written.whole;
    }

pub returns-clause-bytes : goal.returns-clause-bytes
unfolding values_bytes
returns-clause-bytes c =
    let bytes = c.loop-value.bytes.items in
    let last = to_z w64 c.loop-value.last-bits in
    let ended = drop_all c.loop-value.value-index c.args.values.now c.loop-value-test.false in
    sym (append-nil bytes) ∙ ap (λ (values : List (Option ℤ)). bytes ++ values_bytes last values) (sym ended) ∙ c.loop-value.invariant.whole

pub returns-clause-whole : goal.returns-clause-whole
returns-clause-whole c = subst (AllByRecursion IsValue) (take_all c.loop-value.value-index c.args.values.now c.loop-value-test.false) c.loop-value.invariant.values
