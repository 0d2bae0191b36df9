use Rattle.std.proofs.Common.{◌≡◌, ◌++◌, Some, length, take}
use Rattle.std.proofs.lemmas.Bool.Decides.{Decides-eqb}
use Rattle.std.proofs.lemmas.Slice.Eq.{strip_prefix_is}
use Rattle.std.specs.Int.{to_le_bytes, w32}
use Rattle.slow_model.proofs.KeyFields.{behind_both}
use Rattle.slow_model.proofs.slow_group.after_field.Goals as goal

pub returns : goal.returns
returns c =
    let text = c.args.text.now in
    let field = c.args.field.now in
    let middle = c.in_ok-strip_prefix.field-0 in
    let size = to_le_bytes w32 (length field) in
    let front : text ≡ take 4 c.to_le_bytes-length.result ++ middle.now = strip_prefix_is Decides-eqb text (take 4 c.to_le_bytes-length.result) (Some middle) c.in_ok-strip_prefix.ensures.cases in
    let begins : text ≡ size ++ middle.now = rw c.to_le_bytes-length.ensures at front in
    let is = strip_prefix_is Decides-eqb middle.now field c.strip_prefix-2.result c.strip_prefix-2.ensures.cases in
    behind_both text size field middle.now c.strip_prefix-2.result begins is
