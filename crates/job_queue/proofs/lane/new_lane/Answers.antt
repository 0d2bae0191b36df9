use Rattle.std.proofs.Common.{◌∙◌, [], ap, sym}
use Rattle.std.proofs.lemmas.List.{append-nil}
use Rattle.mq_ring.specs.Ends.{SendingEnd, ReceivingEnd}
use Rattle.mq_handle.specs.Receives.{Incoming}
use Rattle.job_queue.specs.Lanes.{jobs_in}
use Rattle.job_queue.proofs.Queues.{nothing_in}
use Rattle.job_queue.proofs.lane.new_lane.Goals as goal

-- nothing went through a new queue
pub returns : goal.returns
returns c =
    let e = c.in-Ok.ensures in
    let tx = e.ends.0 ∙ c.create-tx.ensures.tx in
    let rx = c.create-tx.ensures.rx in
    let q = e.ends.1 in
    let put = ap (λ (s : SendingEnd). jobs_in s.end.put) tx ∙ nothing_in in
    record {
      lane = record { here = ap (λ (s : SendingEnd). s.region) tx; jobs = ([], c.new-jobs.ensures.items ∙ sym put ∙ sym (append-nil (jobs_in c.in-Ok.sender.end.put))) };
      ready = record { stays = λ _. ap (λ (s : SendingEnd). s.end.gone) tx; fresh = λ _. e.fresh; sent = λ _. c.new-jobs.ensures.items ∙ sym put };
      idle = c.new-jobs.ensures.items;
      worker = record {
        here = ap (λ (i : Incoming). i.region) q ∙ ap (λ (r : ReceivingEnd). r.region) rx;
        stays = ap (λ (i : Incoming). i.end.gone) q ∙ ap (λ (r : ReceivingEnd). r.end.gone) rx;
        nothing = ap (λ (i : Incoming). jobs_in i.end.taken) q ∙ ap (λ (r : ReceivingEnd). jobs_in r.end.taken) rx ∙ nothing_in;
      };
      one_ring = ap (λ (s : SendingEnd). s.end.ring) tx ∙ sym (ap (λ (r : ReceivingEnd). r.end.ring) rx) ∙ sym (ap (λ (i : Incoming). i.end.ring) q);
    }
