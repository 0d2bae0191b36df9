use Rattle.std.proofs.Common.{◌∙◌, append-nil, arith, sym}
use Rattle.state_runs.proofs.Whole.{pop_one}
use Rattle.state_runs.proofs.all.only_map.Goals as goal

pub returns-in-Some-clause-one : goal.returns-in-Some-clause-one
returns-in-Some-clause-one c = pop_one c.args.maps.items c.pop.new.self.items c.in-Some.map c.in-Some.ensures.items (omega (arith, c.len.ensures, c.if-len-ne1.false))

pub returns-in-None-clause-all : goal.returns-in-None-clause-all
returns-in-None-clause-all c = sym (c.in-None.ensures.items ∙ append-nil c.pop.new.self.items)
