use Rattle.rel_pointer.proofs.Words.{word_put}
use Rattle.std.proofs.Common.{◌≡◌, ◌+◌, ◌*◌, ◌-◌, ◌∙◌, ℕ, List, arith, ap, take, subst, cond, slice_index, sym}
use Rattle.rel_pointer.specs.Bytes.{byte_of, is_of_word}
use borrow.Rule.Slice.PartMut.{put_mid}
use Rattle.std.specs.Int.{to_le_bytes, w64}
use Rattle.mq_ring.proofs.bursts.write_whole.Goals as goal

pub returns-clause-bytes : goal.returns-clause-bytes
returns-clause-bytes c = λ i inside.
    let at = c.args.at in
    let out = c.args.out.now in
    let k : ℕ = at * 8 + 8 - at * 8 in
    let eight : 8 ≡ k = omega arith in
    let put : c.copy_from_slice.new.self ≡ take k (to_le_bytes w64 c.args.word) =
    c.copy_from_slice.ensures.after ∙ c.to_le_bytes-bytes.ensures ∙ ap (λ (n : ℕ). take n (to_le_bytes w64 c.args.word)) eight in
    subst (λ (ys : List ℕ). slice_index (put_mid (at * 8) k out ys) i ≡ cond (is_of_word at i) (byte_of c.args.word i) (slice_index out i)) (sym put)
    (word_put out at (at * 8) k c.args.word i (omega arith) (omega (arith, c.requires)) (omega (arith, c.requires)) inside)
