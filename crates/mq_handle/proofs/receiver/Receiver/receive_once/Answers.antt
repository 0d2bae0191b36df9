use Rattle.std.proofs.Common.{◌≡◌, ◌≤◌, ◌++◌, List, ℕ, false, sym, subst}
use Rattle.mq_handle.specs.Receives.{Incoming, incoming}
use Rattle.mq_handle.specs.ReceiveAnswers.{Gives}
use Rattle.mq_handle.specs.Told.{ReceiveFound}
use Rattle.mq_handle.proofs.receiver.Receiver.receive_once.Goals as goal

pub returns-clause-kept : goal.returns-clause-kept
returns-clause-kept g c = subst (λ (x : Incoming). x ≡ incoming c.args.self.now.region x.end c.args.self.now.told x.message) (sym c.after_try.ensures) c.try_receive-answer.ensures.kept

pub returns-clause-ring : goal.returns-clause-ring
returns-clause-ring g c = subst (λ (x : Incoming). x.end.ring ≡ c.args.self.now.end.ring) (sym c.after_try.ensures) c.try_receive-answer.ensures.ring

pub returns-clause-stays : goal.returns-clause-stays
returns-clause-stays g c = subst (λ (x : Incoming). x.end.gone ≡ false) (sym c.after_try.ensures) c.try_receive-answer.ensures.stays

pub returns-clause-later : goal.returns-clause-later
returns-clause-later g c = subst (λ (x : Incoming). c.args.self.now.end.turn ≤ x.end.turn) (sym c.after_try.ensures) c.try_receive-answer.ensures.later

pub returns-clause-grows : goal.returns-clause-grows
returns-clause-grows g c = subst (λ (x : Incoming). (rest : List ℕ) × (x.end.taken ≡ c.args.self.now.end.taken ++ rest)) (sym c.after_try.ensures) c.try_receive-answer.ensures.grows

pub returns-clause-set : goal.returns-clause-set
returns-clause-set g c = subst (λ (x : Incoming). c.args.self.now.end.flag_value ≡ 1 → x.end.flag_value ≡ 1) (sym c.after_try.ensures) c.try_receive-answer.ensures.set

pub returns-clause-answer : goal.returns-clause-answer
returns-clause-answer g c = subst (λ (x : Incoming). Gives c.args.self.now.end x.end x.message c.try_receive-answer.result) (sym c.after_try.ensures) c.try_receive-answer.ensures.answer

pub returns-clause-told : goal.returns-clause-told
returns-clause-told g c = subst (λ (x : Incoming). ReceiveFound c.args.self.now.told c.args.self.now.end x.end c.try_receive-answer.result) (sym c.after_try.ensures) c.try_receive-answer.ensures.told
