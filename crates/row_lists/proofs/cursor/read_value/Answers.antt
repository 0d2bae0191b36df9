use Rattle.std.proofs.Common.{◌≡◌, ◌∙◌, ℕ, ℤ, List, Some, FitsSigned, ap, of_z, sym, to_z, w64}
use Rattle.std.proofs.lemmas.Int.{to_z-of_z}
use Rattle.std.specs.Int.{cast_signed, from_le_bytes}
use Rattle.row_lists.specs.Carried.{number_in}
use Rattle.row_lists.proofs.Reading.{new_read}
use Rattle.row_lists.proofs.cursor.read_value.Goals as goal

pub returns : goal.returns
returns c = λ value more h e.
    let n = c.from_le_bytes.result in
    let rest = c.in-Some.rest.now in
    let chunk = c.in-Some-split_first_chunk.ensures.cases in
    let r = (new_read c.in-Some.kind.now rest c.args.last.now value more h (sym c.in-Some.ensures.cases.0 ∙ e) c.if-kind-eq-NONE.false c.if-kind-eq-SAME.false).1 in
    let fits : FitsSigned w64 n = record { sfits = c.from_le_bytes.type_inv } in
    let back : to_z w64 (of_z w64 n) ≡ n = to_z-of_z w64 n fits in
    let number : n ≡ number_in rest = c.from_le_bytes.ensures ∙ ap (λ (bytes : List ℕ). cast_signed w64 (from_le_bytes w64 bytes)) chunk.0 in
    (ap (λ (z : ℤ). Some (to_z w64 (of_z w64 z))) back ∙ ap Some (back ∙ number) ∙ r.same, chunk.1 ∙ r.left, back ∙ number ∙ r.known)
