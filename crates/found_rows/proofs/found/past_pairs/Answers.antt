use Rattle.std.proofs.Common.{◌≡◌, ◌<◌, arith, slice_index, length, rules}
use Rattle.std.proofs.lemmas.Bool.{eqb-true}
use Rattle.found_rows.proofs.Fields.{closed-end, closed-quote, paired-more}
use Rattle.found_rows.proofs.found.past_pairs.Goals as goal

pub pairs-preserved : goal.pairs-preserved
pairs-preserved c =
    let inv = c.pairs.invariant in
    let first = c.quote_from-quote.ensures.first in
    let two = c.is_quote_at.ensures.quote (search rules) in
    record {
      low = omega (arith, inv.low, first.low);
      high = first.high;
      is = λ lt. eqb-true (slice_index c.args.text.now c.quote_from-quote.result) 34 (first.here lt);
      block = c.quote_from-quote.ensures.block;
      reached = c.quote_from-quote.ensures.reached;
      paired = λ start low p. paired-more c.args.text.now start c.pairs.quote c.quote_from-quote.result (omega (arith, low, inv.low)) (inv.paired start low p) two.0 (inv.is (omega (arith, two.0))) two.1 first;
    }

pub returns-then-quote-text-clause-closed : goal.returns-then-quote-text-clause-closed
returns-then-quote-text-clause-closed c start low p =
    let end : c.pairs.quote ≡ length c.args.text.now = search rules in
    closed-end c.args.text.now start c.pairs.quote end (c.pairs.invariant.paired start low p)

pub returns-clause-closed : goal.returns-clause-closed
returns-clause-closed c start low p =
    let inv = c.pairs.invariant in
    let within : c.pairs.quote < length c.args.text.now = omega (arith, inv.high) in
    let other = c.is_quote_at.ensures.other (search rules) in
    closed-quote c.args.text.now start c.pairs.quote (omega (arith, low, inv.low)) within (inv.is within) other (inv.paired start low p)
