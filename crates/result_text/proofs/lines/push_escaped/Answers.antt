use Rattle.std.proofs.Common.{◌∙◌, ◌++◌, ◌∷◌, [], List, ℕ, ap, append_assoc, append-nil, get_or, sym, take, take_all}
use Rattle.csv.specs.Writing.{default_writer, escaped}
use Rattle.result_text.proofs.LineTexts.{escaped-more}
use Rattle.result_text.proofs.lines.push_escaped.Goals as goal

pub loop-byte-init : goal.loop-byte-init
unfolding escaped
loop-byte-init c = sym (append-nil c.args.text.now.items)

pub loop-byte-preserved : goal.loop-byte-preserved
loop-byte-preserved c =
    let i = c.loop-byte.byte-index in
    let field = c.args.field.now in
    let old = c.args.text.now.items in
    let byte = escaped default_writer (get_or field i 0 ∷ []) in
    c.in_ok-push_byte.ensures ∙ ap (λ (t : List ℕ). t ++ byte) c.loop-byte.invariant ∙ append_assoc old (escaped default_writer (take i field)) byte
    ∙ ap (λ (t : List ℕ). old ++ t) (escaped-more field i c.loop-byte-test.true)

pub returns : goal.returns
returns c = c.loop-byte.invariant ∙ ap (λ (t : List ℕ). c.args.text.now.items ++ escaped default_writer t) (take_all _ _ c.loop-byte-test.false)
