use Rattle.std.proofs.Common.{◌≡◌, false, sym, subst}
use Rattle.mq_handle.specs.Receives.{Incoming}
use Rattle.gather_run.specs.Looks.{LooksOnce}
use Rattle.gather_run.proofs.messages.take_next.Goals as goal

pub returns-clause-region : goal.returns-clause-region
returns-clause-region c = subst (λ (x : Incoming). x.region ≡ c.args.tuples.now.region) (sym c.wake_sender.ensures) c.take_tuple-look.ensures.region

pub returns-clause-ring : goal.returns-clause-ring
returns-clause-ring c = subst (λ (x : Incoming). x.end.ring ≡ c.args.tuples.now.end.ring) (sym c.wake_sender.ensures) c.take_tuple-look.ensures.ring

pub returns-clause-stays : goal.returns-clause-stays
returns-clause-stays c = subst (λ (x : Incoming). x.end.gone ≡ false) (sym c.wake_sender.ensures) c.take_tuple-look.ensures.stays

pub returns-clause-look : goal.returns-clause-look
returns-clause-look c = subst (λ (x : Incoming). LooksOnce c.args.tuples.now.end x.end c.args.groups.now c.take_tuple-look.new.groups c.take_tuple-look.result) (sym c.wake_sender.ensures) c.take_tuple-look.ensures.look
