use Rattle.std.proofs.Common.{◌∙◌, ap, FitsSigned}
use Rattle.std.specs.Int.{w64, w128}
use Rattle.std.proofs.lemmas.Int.{to_z-of_z}
use Rattle.tuple_codec.specs.Tuple.{signed_word, sum_bytes}
use Rattle.tuple_codec.proofs.Words.{signed_read, slot_read}
use Rattle.tuple_codec.proofs.read.slot_at.Goals as goal

pub returns-clause-bytes : goal.returns-clause-bytes
returns-clause-bytes c =
    let at = c.args.at in
    let bytes = c.args.bytes.now in
    let sum_fits : FitsSigned w128 c.sum_at.result = record { sfits = c.sum_at.type_inv } in
    let least_fits : FitsSigned w64 c.cast_signed.result = record { sfits = c.cast_signed.type_inv } in
    let greatest_fits : FitsSigned w64 c.cast_signed-2.result = record { sfits = c.cast_signed-2.type_inv } in
    slot_read at bytes _ _ _ _ c.word_at.ensures
    (ap sum_bytes (to_z-of_z w128 c.sum_at.result sum_fits) ∙ c.sum_at.ensures)
    (ap signed_word (to_z-of_z w64 c.cast_signed.result least_fits ∙ c.cast_signed.ensures) ∙ signed_read c.word_at-2.result c.word_at-2.type_inv ∙ c.word_at-2.ensures)
    (ap signed_word (to_z-of_z w64 c.cast_signed-2.result greatest_fits ∙ c.cast_signed-2.ensures) ∙ signed_read c.word_at-3.result c.word_at-3.type_inv ∙ c.word_at-3.ensures)
