use Rattle.std.proofs.Common.{◌∙◌, sym, arith, take}
use Rattle.std.proofs.lemmas.List.{take_all}
use Rattle.std.proofs.lemmas.List.Elements.{All-more, All-same, recursion_from_All}
use Rattle.par_model.specs.Aggregate.{no_values}
use Rattle.agg_cell.specs.StateWords.{IsSlot}
use Rattle.agg_cell.proofs.Written.{written_more}
use Rattle.agg_cell.proofs.words.write_slots.Goals as goal

pub loop-i-preserved : goal.loop-i-preserved
loop-i-preserved c =
    let i = c.loop-i.i in
    let slots = c.args.slots.now in
    record {
      long = c.loop-i.invariant.long;
      written = written_more c.loop-i.words _ i _ slots (omega arith) c.loop-i.invariant.long c.loop-i-test.true (c.copy_from_slice.ensures.after ∙ c.words_of.ensures.words) c.loop-i.invariant.written;
      numbers = All-more IsSlot slots i no_values (omega (arith, c.loop-i.invariant.long)) c.loop-i.invariant.numbers c.words_of.ensures.numbers;
    }

pub returns-clause-numbers : goal.returns-clause-numbers
returns-clause-numbers c =
    let slots = c.args.slots.now in
    recursion_from_All IsSlot slots (All-same IsSlot slots (take c.loop-i.i slots) (sym (take_all c.loop-i.i slots (omega (arith, c.loop-i.invariant.long)))) c.loop-i.invariant.numbers)
