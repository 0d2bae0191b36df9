use Rattle.std.proofs.Common.{◌∙◌, ◌++◌, ◌∷◌, [], List, ℕ, ap, refl, sym}
use Rattle.csv.proofs.WriteFacts.{escaped-double, escaped-other}
use Rattle.csv.specs.Writing.{default_writer}
use Rattle.result_text.proofs.LineTexts.{put-if-ok}
use Rattle.result_text.proofs.lines.push_byte.Goals as goal

pub returns-then-byte-eq34 : goal.returns-then-byte-eq34
returns-then-byte-eq34 c =
    let same = c.if-byte-eq34.true in
    let text = ap (λ (b : ℕ). b ∷ b ∷ []) (sym same) ∙ sym (escaped-double default_writer c.args.byte same refl) in
    put-if-ok c.extend_from_slice.result _ _ _ _ (ap (λ (t : List ℕ). c.args.text.now.items ++ t) text) c.extend_from_slice.ensures.items

pub returns : goal.returns
returns c = c.in_ok-push.ensures.items ∙ ap (λ (t : List ℕ). c.args.text.now.items ++ t) (sym (escaped-other default_writer c.args.byte c.if-byte-eq34.false))
