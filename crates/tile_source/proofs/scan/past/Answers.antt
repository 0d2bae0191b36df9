use Rattle.std.proofs.Common.{◌∙◌, ap, arith}
use Rattle.csv_rows.specs.Places.{after_quote}
use Rattle.tile_source.proofs.Marks.{past-quote-is}
use Rattle.tile_source.proofs.scan.past.Goals as goal

pub returns-clause-scanned : goal.returns-clause-scanned
returns-clause-scanned c = record {
  within = omega (arith, c.requires.within);
  place = c.past_quote.ensures ∙ (ap after_quote c.past_others.ensures ∙ past-quote-is c.args.start c.args.before.place c.args.text.now c.args.before.from c.args.quote c.requires.scanned.place c.requires.low c.requires.within c.requires.quote);
}
