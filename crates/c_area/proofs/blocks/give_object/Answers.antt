use Rattle.std.proofs.Common.{inr}
use Rattle.c_area.proofs.Served.{some_reply}
use Rattle.c_area.proofs.blocks.give_object.Goals as goal

pub returns-in-Ok-Some-clause-taken : goal.returns-in-Ok-Some-clause-taken
returns-in-Ok-Some-clause-taken c =
    let run = c.in-Ok-Some.run' in
    let reply = some_reply _ c.args.pages.now.first c.args.pages.now.state c.give-handed_back.new.self.state run c.args.pool.now.layout c.give-handed_back.result (rw c.in-Ok-Some.field-0-is at c.in-Ok-Some.ensures.run) c.give-handed_back.ensures.given c.give-handed_back.ensures.refused in
    inr (run.at, reply.0, (rw c.in-Ok-Some.field-0-is at c.in-Ok-Some.ensures.whole), reply.1)
