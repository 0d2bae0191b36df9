use Rattle.std.proofs.Common.{◌≡◌, ◌+◌, ◌-◌, ℕ, List, Bor, [], min, length, take, drop, get_or, sym, ap, ◌∙◌, arith, length-append, length-drop}
use Rattle.mq_handle.specs.Parts.{joined}
use Rattle.mq_handle.proofs.Gathered.{next_part, part_more, slice_rest}
use borrow.Rule.Slice.PartMut.{same_len_mid}
use Rattle.mq_handle.proofs.body.gather.Goals as goal

pub loop-part-preserved : goal.loop-part-preserved
loop-part-preserved c =
    let i = c.loop-part.invariant in
    let k = c.loop-part.part-index in
    let none : Bor (List ℕ) = record { ref_ptr = (0, 0); now = [] } in
    let part = (get_or c.args.parts.now k none).now in
    let front = joined (take k c.args.parts.now) in
    let more = next_part c.args.parts.now k none c.loop-part-test.true in
    let size = length-append front part in
    let rest = slice_rest part c.min-passed.result in
    let left : length (drop c.min-passed.result part) ≡ length part - c.min-passed.result = length-drop c.min-passed.result part in
    let count : c.min-count.result ≡ min (length part - c.min-passed.result) (length c.args.out.now - c.loop-part.done) = omega (arith, c.min-count.ensures, ap length rest, left, i.size) in
    record {
      skip = omega (arith, ap length more, size, i.skip, c.min-passed.ensures);
      done = omega (arith, ap length more, size, i.skip, i.done, c.min-passed.ensures, count);
      size = same_len_mid c.loop-part.done (c.loop-part.done + c.min-count.result - c.loop-part.done) c.loop-part.out c.copy_from_slice.new.self c.copy_from_slice.ensures.len ∙ i.size;
      copied = part_more c.args.from (length c.args.out.now) c.loop-part.skip c.loop-part.done c.min-passed.result c.min-count.result (c.loop-part.done + c.min-count.result - c.loop-part.done) front part c.loop-part.out c.copy_from_slice.new.self
          i.skip i.done c.min-passed.ensures count (c.copy_from_slice.ensures.after ∙ ap (take c.min-count.result) rest) i.size i.copied
          ∙ ap (λ (bytes : List ℕ). take (length c.args.out.now) (drop c.args.from bytes)) (sym more);
    }
