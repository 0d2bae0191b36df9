use Rattle.rel_pointer.proofs.Words.{word_put}
use Rattle.std.proofs.Common.{◌≡◌, ◌+◌, ◌*◌, ◌-◌, ◌∙◌, ℕ, List, arith, ap, take, subst, cond, slice_index, sym}
use Rattle.rel_pointer.specs.Bytes.{byte_of, is_of_word}
use borrow.Rule.Slice.PartMut.{put_mid}
use Rattle.std.specs.Int.{to_le_bytes, w64}
use Rattle.rel_pointer.proofs.bytes.unpack.Goals as goal

-- the whole word has room
pub returns-then-out-start-ge8-clause-bytes : goal.returns-then-out-start-ge8-clause-bytes
returns-then-out-start-ge8-clause-bytes c = λ i inside.
    let at = c.args.at in
    let out = c.args.out.now in
    let k : ℕ = at * 8 + 8 - at * 8 in
    let eight : 8 ≡ k = omega arith in
    let put : c.copy_from_slice.new.self ≡ take k (to_le_bytes w64 c.args.word) =
    c.copy_from_slice.ensures.after ∙ c.to_le_bytes-bytes.ensures ∙ ap (λ (n : ℕ). take n (to_le_bytes w64 c.args.word)) eight in
    subst (λ (ys : List ℕ). slice_index (put_mid (at * 8) k out ys) i ≡ cond (is_of_word at i) (byte_of c.args.word i) (slice_index out i)) (sym put)
    (word_put out at (at * 8) k c.args.word i (omega arith) (omega arith) (omega (arith, c.if-out-start-ge8.true)) inside)

pub returns-clause-bytes : goal.returns-clause-bytes
returns-clause-bytes c = λ i inside.
    let at = c.args.at in
    let out = c.args.out.now in
    let k : ℕ = c.min-end.result - at * 8 in
    let put : c.copy_from_slice-2.new.self ≡ take k (to_le_bytes w64 c.args.word) = c.copy_from_slice-2.ensures.after ∙ (λ i. take k (c.to_le_bytes-bytes.ensures i)) in
    subst (λ (ys : List ℕ). slice_index (put_mid (at * 8) k out ys) i ≡ cond (is_of_word at i) (byte_of c.args.word i) (slice_index out i)) (sym put)
    (word_put out at (at * 8) k c.args.word i (omega arith) (omega arith) (omega (arith, c.min-end.ensures)) inside)
