use Rattle.std.proofs.Common.{◌<◌, ◌++◌, ◌∙◌, [], ℕ, List, ap, append_assoc, arith, get_or, length, map, string_bytes, sym, take}
use Rattle.std.specs.List.{concat}
use Rattle.shown_text.specs.Header.{field_text}
use Rattle.shown_text.proofs.Pieces.{pieces_more}
use Rattle.shown_text.proofs.header.put_fields.Goals as goal

pub loop-at-preserved : goal.loop-at-preserved
loop-at-preserved c =
    let at = c.loop-at.at in
    let header = c.args.header.now in
    let before = string_bytes c.args.text.now in
    let lt : at < length header = omega (arith, c.loop-at-test.true, c.requires) in
    c.in_ok-put_field.ensures
    ∙ ap (λ (f : List ℕ). string_bytes c.loop-at.text ++ field_text f) c.field.ensures
    ∙ ap (λ (t : List ℕ). t ++ field_text (get_or header at [])) c.loop-at.invariant
    ∙ append_assoc before (concat (map field_text (take at header))) (field_text (get_or header at []))
    ∙ ap (λ (l : List ℕ). before ++ l) (sym (pieces_more field_text header at [] lt))
