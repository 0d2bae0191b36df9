use Rattle.std.proofs.Common.{rules, ◌≡◌, ◌∙◌, sym}
use Rattle.partial_agg.specs.Groups.{added}
use Rattle.gather_run.proofs.Looking.{on_ok, over_is, read_is, takes_none, takes_one}
use Rattle.gather_run.proofs.messages.take_tuple.Goals as goal

pub returns-in-WouldBlock-clause-look : goal.returns-in-WouldBlock-clause-look
returns-in-WouldBlock-clause-look c = takes_none c.args.tuples.now.end c.try_receive.new.self.end c.args.groups.now c.args.groups.now c.in-WouldBlock.ensures.answer.0 (search rules)

pub returns-in-Detached-clause-look : goal.returns-in-Detached-clause-look
returns-in-Detached-clause-look c =
    let a = c.in-Detached.ensures.answer in
    (takes_none c.args.tuples.now.end c.try_receive.new.self.end c.args.groups.now c.args.groups.now a.0 (search rules), over_is c.try_receive.new.self.end a.2.final a.2.empty.1)

pub add_bytes-requires : goal.add_bytes-requires
add_bytes-requires c = c.in-Ok.ensures.tuple.1.key_fits

pub returns-else-is_err-clause-look : goal.returns-else-is_err-clause-look
returns-else-is_err-clause-look c =
    let key = c.in-Ok.key.now in
    let state = c.decode_into.new.state in
    takes_one c.args.tuples.now.end c.try_receive.new.self.end c.args.groups.now c.add_bytes.new.self c.try_receive.new.self.message (key, state) c.in-Message.ensures.answer.whole
    (record { each = λ k s n t e. read_is c.decode_into.result c.in-Ok.key (λ found. found.now) state k s c.in-Ok.is (c.decode_into.ensures.written k s n t (c.message.ensures ∙ e)) })
    (on_ok c.add_bytes.result (c.add_bytes.new.self ≡ added c.args.groups.now key state) (sym c.if-is_err.ensures.value) c.add_bytes.ensures.ok)
