use Rattle.std.proofs.Common.{◌++◌, [], ◌∷◌, ◌∙◌}
use Rattle.agg_table.specs.Shown.{use_of}
use Rattle.agg_table.proofs.Putting.{has_put_more, has_put_nothing}
use Rattle.uses_table.proofs.groups.put_four.Goals as goal

pub loop-number-init : goal.loop-number-init
loop-number-init g c = record {
  seat = c.requires.seat;
  number = c.requires.unused.number_is;
  has = ([], has_put_nothing (use_of c.args.seat.now) c.requires.unused.turns);
}

pub loop-number-preserved : goal.loop-number-preserved
loop-number-preserved g c =
    let has = c.loop-number.invariant.has in
    record {
      seat = c.put.ensures.seat;
      number = c.put.ensures.grew.number ∙ c.loop-number.invariant.number;
      has = (has.0 ++ _ ∷ [], has_put_more has.0 has.0 [] (use_of c.loop-number.seat) (use_of c.put.new.seat) _ has.1 c.if-not-put.ensures.put);
    }
