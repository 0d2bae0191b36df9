use Rattle.std.proofs.Common.{string_bytes}
use Rattle.shown_text.proofs.Fronts.{three_after}
use Rattle.shown_text.proofs.escaped.put_shown.Goals as goal

pub returns : goal.returns
returns c =
    rw (c.in_ok-push_str-2.ensures.bytes, c.in_ok-put_escaped.ensures, c.in_ok-push_str.ensures.bytes, c.first_bytes.ensures, c.end_quote.ensures)
    (three_after (string_bytes c.args.text.now) _ _ _)
