use Rattle.std.proofs.Common.{refl}
use Rattle.chunk_table.specs.Tables.{sight_of}
use Rattle.chunk_table.proofs.calls.double.Goals as goal

pub returns-in-Err-clause-refused : goal.returns-in-Err-clause-refused
returns-in-Err-clause-refused g c = λ bytes size. record {
  between = sight_of c.grow_all.new.pass c.grow_all.new.apass;
  until = c.in-Err.ensures.swept;
  gave = c.give_back.ensures.gave bytes size;
  caller = c.give_back.ensures.caller;
  same_seen = refl;
  same_mine = refl;
}
