use Rattle.std.proofs.Common.{◌≡◌, ◌<◌, ℕ, List, Bor, [], length, take, get_or, sym, ap, subst, ◌∙◌, arith, length-append}
use Rattle.std.proofs.lemmas.List.{take_all}
use Rattle.std.proofs.lemmas.List.Elements.{All-append}
use Rattle.std.proofs.lemmas.List.Folds.{length-flat_map-take}
use Rattle.rel_pointer.specs.Bytes.{AllBytes}
use Rattle.mq_handle.specs.Parts.{joined}
use Rattle.mq_handle.proofs.Gathered.{next_part}
use Rattle.mq_handle.proofs.body.Body.of_parts.Goals as goal

pub overflow_add-len : goal.overflow_add-len
overflow_add-len c =
    let bound = length-flat_map-take (λ (p : Bor (List ℕ)). p.now) c.args.parts.now c.loop-part.part-index (record { ref_ptr = (0, 0); now = [] }) c.loop-part-test.true in
    omega (arith, bound, c.loop-part.invariant.count, c.length_of-len.ensures.count, c.requires.few)

pub loop-part-preserved : goal.loop-part-preserved
loop-part-preserved c =
    let i = c.loop-part.invariant in
    let k = c.loop-part.part-index in
    let none : Bor (List ℕ) = record { ref_ptr = (0, 0); now = [] } in
    let part = (get_or c.args.parts.now k none).now in
    let front = joined (take k c.args.parts.now) in
    let more = next_part c.args.parts.now k none c.loop-part-test.true in
    record {
      count = omega (arith, ap length more, length-append front part, i.count, c.length_of-len.ensures.count);
      bytes = subst AllBytes (sym more) (All-append (λ b. b < 256) front part i.bytes c.length_of-len.ensures.bytes);
    }

pub invariant_of-result : goal.invariant_of-result
invariant_of-result c =
    let all : take c.loop-part.part-index c.args.parts.now ≡ c.args.parts.now = take_all c.loop-part.part-index c.args.parts.now (omega (arith, c.loop-part-test.false)) in
    (c.loop-part.invariant.count ∙ ap (λ ps. length (joined ps)) all, subst (λ ps. AllBytes (joined ps)) all c.loop-part.invariant.bytes)
