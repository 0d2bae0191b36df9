use Rattle.std.proofs.Common.{◌≡◌, ◌+◌, ◌*◌, ◌^◌, ◌∙◌, ap, arith, FitsSigned}
use Rattle.std.specs.Int.{cast_signed, w128}
use Rattle.std.proofs.lemmas.Int.{to_z-of_z}
use Rattle.tuple_codec.specs.Tuple.{sum_bytes}
use Rattle.tuple_codec.proofs.Words.{sum_read}
use Rattle.tuple_codec.proofs.read.sum_at.Goals as goal

pub returns : goal.returns
returns c =
    let fits : FitsSigned w128 c.cast_signed.result = record { sfits = c.cast_signed.type_inv } in
    let sum : c.cast_signed.result ≡ cast_signed w128 (c.word_at-2.result * 2 ^ 64 + c.word_at.result) = c.cast_signed.ensures ∙ ap (cast_signed w128) (omega (arith, c.from-high.ensures, c.from-low.ensures)) in
    ap sum_bytes (to_z-of_z w128 c.cast_signed.result fits ∙ sum)
    ∙ sum_read c.word_at.result c.word_at-2.result c.args.at c.args.bytes.now c.word_at.type_inv c.word_at-2.type_inv c.word_at.ensures c.word_at-2.ensures
