use Rattle.std.proofs.Common.{append_assoc, codes, decimal}
use Rattle.stream_groups.proofs.place.open_says.Goals as goal

pub returns : goal.returns
returns c =
    rw (c.in_ok-push_str.ensures.bytes, c.in_ok-put_number.ensures, c.in_ok-said.ensures.ok)
    (append_assoc (codes "; the quote in line ") (decimal c.args.line) (codes " is not closed"))
