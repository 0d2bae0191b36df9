use Rattle.std.proofs.Common.{rules, get_or, refl, subst}
use Rattle.std.proofs.lemmas.List.{take_all}
use Rattle.gather_merge.specs.Sent.{HasSentRows}
use Rattle.gather_merge.proofs.Sent.{sent_more, sent_none, sent_stopped, still_ready}
use Rattle.gather_merge.proofs.sending.send_rows.Goals as goal

pub loop-row-init : goal.loop-row-init
loop-row-init g c = record { kept = search rules; ready = c.requires.ready; sent = sent_none c.args.list.now c.args.tuples.now.end c.requires.ready }

pub returns-then-not-send_row-clause-sent : goal.returns-then-not-send_row-clause-sent
returns-then-not-send_row-clause-sent g c =
    sent_stopped c.args.list.now c.loop-row.row-index c.args.tuples.now.end c.loop-row.tuples.end c.send_row.new.tuples.end c.loop-row.invariant.sent c.if-not-send_row.ensures.sent

pub loop-row-preserved : goal.loop-row-preserved
loop-row-preserved g c =
    let sent = c.if-not-send_row.ensures.sent in
    record {
      kept = search rules;
      ready = still_ready 8 c.loop-row.tuples.end c.send_row.new.tuples.end _ c.loop-row.invariant.ready sent;
      sent = sent_more c.args.list.now c.loop-row.row-index (get_or c.args.list.now c.loop-row.row-index 0) c.args.tuples.now.end c.loop-row.tuples.end c.send_row.new.tuples.end c.loop-row-test.true refl c.loop-row.invariant.sent sent;
    }

pub returns-clause-sent : goal.returns-clause-sent
returns-clause-sent g c =
    subst (λ rows. HasSentRows rows c.args.tuples.now.end c.loop-row.tuples.end) (take_all c.loop-row.row-index c.args.list.now c.loop-row-test.false) c.loop-row.invariant.sent
