use Rattle.std.proofs.Common.{◌≡◌}
use Rattle.lock_book.specs.Shown.{number_of}
use Rattle.par_exchange.specs.Shown.{Belongs, stage_of}
use Rattle.par_exchange.specs.declared.history.PartyStage.TheVariants.{Free}
use Rattle.uses_book.proofs.leaving.rounds.Given as goal

abbrev pub invariant-loop : goal.invariant-loop
invariant-loop g l = record {
  own : Belongs l.exchange l.pass;
  number : number_of l.pass ≡ number_of l.fn.pass;
  free : stage_of l.pass ≡ Free;
  last : l.last ≡ number_of l.fn.pass;
}
