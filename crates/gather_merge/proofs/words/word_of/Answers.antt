use Rattle.std.proofs.Common.{◌≡◌, ◌∙◌, ap, ap₂, ◌+◌, ◌*◌, arith, sym}
use Rattle.gather_merge.specs.RowWords.{AreBytes, chunk}
use Rattle.gather_merge.proofs.Chunks.{chunk_more, word_is, word_room}
use Rattle.gather_merge.proofs.words.word_of.Goals as goal

pub overflow_mul-bytes : goal.overflow_mul-bytes
overflow_mul-bytes c =
    let bytes : AreBytes c.args.text.now = λ k. omega (arith, (c.type_inv.text k).fits) in
    omega (arith, word_room c.loop-at.bytes c.loop-at.at c.args.text.now bytes c.loop-at.invariant.is (omega (arith, c.loop-at-test.true)))

pub overflow_add-bytes : goal.overflow_add-bytes
overflow_add-bytes c =
    let bytes : AreBytes c.args.text.now = λ k. omega (arith, (c.type_inv.text k).fits) in
    omega (arith, word_room c.loop-at.bytes c.loop-at.at c.args.text.now bytes c.loop-at.invariant.is (omega (arith, c.loop-at-test.true)), c.byte_at.ensures)

pub loop-at-preserved : goal.loop-at-preserved
loop-at-preserved c = record { is = omega (arith, chunk_more c.loop-at.at c.args.text.now, c.loop-at.invariant.is, c.byte_at.ensures.0) }

pub overflow_mul-result : goal.overflow_mul-result
overflow_mul-result c =
    let bytes : AreBytes c.args.text.now = λ k. omega (arith, (c.type_inv.text k).fits) in
    omega (arith, word_room c.loop-at.bytes c.loop-at.at c.args.text.now bytes c.loop-at.invariant.is (omega (arith, c.loop-at.auto.at-end)))

pub overflow_add-result : goal.overflow_add-result
overflow_add-result c =
    let bytes : AreBytes c.args.text.now = λ k. omega (arith, (c.type_inv.text k).fits) in
    omega (arith, word_room c.loop-at.bytes c.loop-at.at c.args.text.now bytes c.loop-at.invariant.is (omega (arith, c.loop-at.auto.at-end)), c.min.ensures)

pub returns-clause-is : goal.returns-clause-is
returns-clause-is c =
    let seven : c.loop-at.at ≡ 7 = omega (arith, c.loop-at-test.false, c.loop-at.auto.at-end) in
    let all : c.loop-at.bytes ≡ chunk 7 c.args.text.now = c.loop-at.invariant.is ∙ ap (λ n. chunk n c.args.text.now) seven in
    ap₂ (λ m n. m * 256 + n) all c.min.ensures ∙ sym (word_is c.args.text.now)
