use Rattle.std.proofs.Common.{◌≡◌, sym, subst}
use Rattle.mq_ring.specs.Ends.{SendingEnd}
use Rattle.mq_handle.specs.Parts.{joined}
use Rattle.mq_handle.specs.Sends.{StaysOpen}
use Rattle.mq_handle.specs.SendAnswers.{Answers}
use Rattle.mq_handle.specs.Told.{SendFound}
use Rattle.mq_handle.proofs.sender.Sender.send_parts_once.Goals as goal

pub returns-clause-kept : goal.returns-clause-kept
returns-clause-kept g c = subst (λ (x : SendingEnd). x ≡ record c.args.self.now { end = x.end }) (sym c.after_try.ensures) c.try_send_parts-answer.ensures.kept

pub returns-clause-stays : goal.returns-clause-stays
returns-clause-stays g c = subst (λ (x : SendingEnd). StaysOpen c.args.self.now.end x.end) (sym c.after_try.ensures) c.try_send_parts-answer.ensures.stays

pub returns-clause-answer : goal.returns-clause-answer
returns-clause-answer g c = subst (λ (x : SendingEnd). Answers c.args.self.now.end x.end (joined c.args.parts.now) c.args.flush c.try_send_parts-answer.result) (sym c.after_try.ensures) c.try_send_parts-answer.ensures.answer

pub returns-clause-told : goal.returns-clause-told
returns-clause-told g c = subst (λ (x : SendingEnd). SendFound c.args.self.now.told c.args.self.now.end x.end c.try_send_parts-answer.result) (sym c.after_try.ensures) c.try_send_parts-answer.ensures.told
