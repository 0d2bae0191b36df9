use Rattle.std.proofs.Common.{◌∙◌, arith, sym}
use Rattle.gen_query.proofs.Steps.{text_grows, text_last, text_starts}
use Rattle.gen_query.proofs.generator.generated_text.Goals as goal

pub rows-init : goal.rows-init
rows-init c = text_starts _ _ c.args.seed c.args.rows _ c.in_ok-text.ensures.items c.in_ok-extend_from_slice.ensures.items (omega arith)

pub rows-preserved : goal.rows-preserved
rows-preserved c = text_grows _ _ _ _ _ _ _ c.next_of-x.ensures (omega arith) c.in_ok-put_row.ensures c.rows.invariant

pub returns : goal.returns
returns c = sym (text_last c.rows.text.items c.rows.x _ (omega (arith, c.rows-test.false))) ∙ c.rows.invariant
