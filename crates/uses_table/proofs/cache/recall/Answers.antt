use Rattle.std.proofs.Common.{◌∙◌, None, sym}
use Rattle.lock_book.specs.Shown.{mine_of, number_of, seen_of}
use Rattle.uses_table.proofs.Calls.{looked_up, owns, run_leaves}
use Rattle.uses_table.proofs.cache.recall.Goals as goal

pub returns-clause-found : goal.returns-clause-found
returns-clause-found g c = c.find.ensures.found.replied ∙ sym c.find.ensures.found.stands

pub returns-clause-own_found : goal.returns-clause-own_found
returns-clause-own_found g c = λ owner.
    let runs = run_leaves None _ _ (c.find.ensures.owned c.args.name.now (owns (number_of c.args.pass.now) c.args.name.now owner)) in
    returns-clause-found g c ∙ (sym runs ∙ looked_up (number_of c.args.pass.now) (seen_of c.args.pass.now) (mine_of c.args.pass.now) (seen_of c.find.new.pass) (mine_of c.find.new.pass) c.args.name.now c.find.result c.find.ensures.event)
