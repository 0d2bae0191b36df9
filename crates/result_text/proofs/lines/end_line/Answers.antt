use Rattle.result_text.proofs.LineTexts.{comma-gone, line-ended}
use Rattle.result_text.proofs.lines.end_line.Goals as goal

pub returns : goal.returns
returns c =
    λ before fields at is.
    line-ended before c.drop_comma.new.text.items c.mark_blank.new.text.items _ c.args.from fields at
    (comma-gone before c.args.text.now.items c.drop_comma.new.text.items c.args.from fields at is c.drop_comma.ensures.some c.drop_comma.ensures.none)
    c.in_ok-mark_blank.ensures c.in_ok-push.ensures.items
