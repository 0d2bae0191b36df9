use Rattle.result_text.proofs.LineTexts.{value-put}
use Rattle.result_text.proofs.lines.push_value.Goals as goal

pub returns : goal.returns
returns c = value-put c.args.item.kind c.args.item.places c.args.rows c.args.slot.now c.args.text.now.items _ _ c.in_ok-push_bare_value.ensures c.in_ok-push.ensures.items
