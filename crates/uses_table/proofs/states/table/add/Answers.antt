use Rattle.lock_book.specs.Shown.{number_of, seen_of}
use Rattle.agg_cell.proofs.CellRuns.{seen_is, seen_last}
use Rattle.uses_table.proofs.states.table.add.Goals as goal

pub returns-clause-all : goal.returns-clause-all
returns-clause-all g c = λ k. seen_is (seen_of c.call.new.pass) k (c.call.ensures.cells k)

pub returns-clause-last : goal.returns-clause-last
returns-clause-last g c = seen_last (number_of c.args.pass.now) c.args.key.now c.args.state.now (seen_of c.call.new.pass) c.call.result c.call.ensures.last
