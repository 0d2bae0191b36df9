use Rattle.std.proofs.Common.{◌+◌, arith}
use Rattle.found_rows.proofs.Fields.{paired-first, quoted}
use Rattle.found_rows.proofs.found.quoted_field.Goals as goal

pub push_quoted-requires-clause-written : goal.push_quoted-requires-clause-written
push_quoted-requires-clause-written c =
    let text = c.args.text.now in
    let next = c.quote_from-quote.ensures.first in
    let closed = c.past_pairs-close.ensures.closed (c.args.from + 1) next.low (paired-first text (c.args.from + 1) c.quote_from-quote.result next) in
    quoted text c.args.from c.past_pairs-close.result c.end_from-end.result c.requires.lines c.requires.quote (omega (arith, next.low, c.past_pairs-close.ensures.low)) closed c.end_from-end.ensures.first

pub returns-clause-written : goal.returns-clause-written
returns-clause-written c =
    let text = c.args.text.now in
    let next = c.quote_from-quote.ensures.first in
    let closed = c.past_pairs-close.ensures.closed (c.args.from + 1) next.low (paired-first text (c.args.from + 1) c.quote_from-quote.result next) in
    quoted text c.args.from c.past_pairs-close.result c.end_from-end.result c.requires.lines c.requires.quote (omega (arith, next.low, c.past_pairs-close.ensures.low)) closed c.end_from-end.ensures.first
