use Rattle.std.proofs.Common.{length, refl, take}
use Rattle.state_blocks.proofs.Tuples.{made_of, tuple_read, tuple_written}
use Rattle.state_blocks.proofs.block.read_first.Goals as goal

pub returns-in-Some-clause-read : goal.returns-in-Some-clause-read
returns-in-Some-clause-read c =
    let rows = c.read_group.new.state.rows in
    let slots = take (length c.args.kinds.now) c.read_group.new.state.slots in
    let two = c.in-Some.ensures.read in (
      made_of c.in-Some.key.now rows slots,
      c.in-Some._rest.now,
      two.1,
      tuple_read c.args.kinds.now c.args.bytes.now c.in-Some.key.now c.in-Some._rest.now rows slots two.0,
      refl,
    )

pub returns-in-Some-clause-written : goal.returns-in-Some-clause-written
returns-in-Some-clause-written c = λ g rest is e. (c.in-Some.ensures.written g.key g.rows g.slots rest is (tuple_written c.args.kinds.now c.args.bytes.now rest g e)).0

pub returns-in-None-clause-written : goal.returns-in-None-clause-written
returns-in-None-clause-written c = λ g rest is e. c.in-None.ensures.written g.key g.rows g.slots rest is (tuple_written c.args.kinds.now c.args.bytes.now rest g e)
