use Rattle.state_body.proofs.Taking.{first_is, takes}
use Rattle.state_body.proofs.body.take_block.Goals as goal

pub returns-in_default-clause-written : goal.returns-in_default-clause-written
returns-in_default-clause-written c =
    let read = c.in_ok-groups.ensures.read in
    absurd (first_is c.args.columns c.args.kinds.now read.0 c.args.part.now read.1 read.2 c.requires.some c.in_default.ensures.written)

pub returns-in_default-clause-refused : goal.returns-in_default-clause-refused
returns-in_default-clause-refused c =
    let read = c.in_ok-groups.ensures.read in
    absurd (first_is c.args.columns c.args.kinds.now read.0 c.args.part.now read.1 read.2 c.requires.some c.in_default.ensures.written)

pub returns-in_err-groups-clause-written : goal.returns-in_err-groups-clause-written
returns-in_err-groups-clause-written c = λ block is e. absurd (c.in_err-groups.ensures.written block is.each e)

pub returns-in-Ok-clause-read : goal.returns-in-Ok-clause-read
returns-in-Ok-clause-read c =
    let read = c.in_ok-groups.ensures.read in
    takes c.args.columns c.args.kinds.now read.0 c.args.part.now c.in-Some.first.now c.in_ok-groups.groups c.args.index.now _ read.1 read.2 c.requires.some c.requires.short c.in_ok-groups.ensures.written c.in-Some.ensures.written
    (λ start blocks b is key many long. c.in-Ok.ensures.ok c.args.kinds.now start blocks b is key many long)
