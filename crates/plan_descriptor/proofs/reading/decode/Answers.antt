use Rattle.std.proofs.Common.{Ok, ap}
use Rattle.plan_descriptor.proofs.ReadBack.{descriptor_allowed, one_plan}
use Rattle.plan_descriptor.proofs.reading.decode.Goals as goal

pub returns-in-Some-clause-reads_back : goal.returns-in-Some-clause-reads_back
returns-in-Some-clause-reads_back c = λ plan can is.
    let none = descriptor_allowed c.args.words.now plan can is in
    cc (c.first_bad.ensures, c.in-Some.is)

pub returns-in-None-clause-reads_back : goal.returns-in-None-clause-reads_back
returns-in-None-clause-reads_back c = λ plan can is. ap Ok (one_plan c.args.words.now c.allowed_plan.result plan c.allowed_plan.ensures.plan can c.allowed_plan.ensures.descriptor is)
