use Rattle.std.proofs.Common.{◌+◌, ◌∙◌, ◌++◌, List, ℕ, ap, append-nil, drop, false, sym}
use Rattle.std.proofs.lemmas.List.{drop_all, drop_more}
use Rattle.table_form.specs.Reading.{once}
use Rattle.table_form.proofs.FieldTexts.{once-none}
use Rattle.table_form.proofs.row.put_once.Goals as goal

pub loop-byte-init : goal.loop-byte-init
loop-byte-init c = ap (λ (t : List ℕ). t ++ once false c.args.inner.now) c.clear.ensures.items

pub loop-byte-preserved : goal.loop-byte-preserved
loop-byte-preserved c =
    let i = c.loop-byte.byte-index in
    let inner = c.args.inner.now in
    c.in_ok-next.ensures (drop (i + 1) inner) ∙ ap (λ (t : List ℕ). c.loop-byte.buffer.items ++ once c.loop-byte.after_quote t) (sym (drop_more inner i 0 c.loop-byte-test.true)) ∙ c.loop-byte.invariant

pub returns : goal.returns
returns c =
    sym (append-nil c.loop-byte.buffer.items) ∙ ap (λ (t : List ℕ). c.loop-byte.buffer.items ++ t) (sym (once-none c.loop-byte.after_quote))
    ∙ ap (λ (t : List ℕ). c.loop-byte.buffer.items ++ once c.loop-byte.after_quote t) (sym (drop_all c.loop-byte.byte-index c.args.inner.now c.loop-byte-test.false)) ∙ c.loop-byte.invariant
