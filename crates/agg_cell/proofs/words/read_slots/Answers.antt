use Rattle.std.proofs.Common.{arith}
use Rattle.std.proofs.lemmas.List.FromFn.{fill_by_all}
use Rattle.par_model.specs.Aggregate.{no_values}
use Rattle.agg_cell.specs.StateWords.{slot_at, slot_start}
use Rattle.agg_cell.proofs.words.read_slots.Goals as goal

pub returns : goal.returns
returns c =
    let words = c.args.words.now in
    fill_by_all (λ i. slot_at words (slot_start i)) c.loop-i.slots 8 no_values c.loop-i.invariant.long (λ k below. c.loop-i.invariant.filled k (omega arith))
