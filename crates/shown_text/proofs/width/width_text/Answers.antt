use Rattle.std.proofs.Common.{codes, decimal}
use Rattle.shown_text.proofs.Fronts.{three_after}
use Rattle.shown_text.proofs.width.width_text.Goals as goal

pub returns : goal.returns
returns c =
    rw (c.in_ok-put_number-2.ensures, c.in_ok-push_str.ensures.bytes, c.in_ok-put_number.ensures, c.in_ok-text.ensures.ok)
    (three_after (codes "wrong number of fields: ") (decimal c.args.fields) (codes ", the header has ") (decimal c.args.header))
