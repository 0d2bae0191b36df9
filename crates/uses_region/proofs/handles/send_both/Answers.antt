use Rattle.std.proofs.Common.{◌≡◌, ◌++◌, List, [], ℕ, true, length, sym, ap, subst, arith, length-append}
use Rattle.std.proofs.lemmas.List.{append-nil}
use Rattle.mq_handle.specs.Sends.{Continues}
use Rattle.mq_handle.specs.Waiting.{EndsSend}
use Rattle.uses_region.proofs.handles.send_both.Goals as goal

-- two parts are their bytes one after another
two : (head body : List ℕ) → head ++ (body ++ []) ≡ head ++ body
two head body = ap (λ (bytes : List ℕ). head ++ bytes) (append-nil body)

pub send_parts-requires-clause-few : goal.send_parts-requires-clause-few
send_parts-requires-clause-few g c = omega (arith, c.requires.few, ap length (two c.args.head.now c.args.body.now), length-append c.args.head.now c.args.body.now)

pub send_parts-requires-clause-continues : goal.send_parts-requires-clause-continues
send_parts-requires-clause-continues g c = subst (Continues c.args.s.now.end.put) (sym (two c.args.head.now c.args.body.now)) c.requires.continues

pub returns-clause-sent : goal.returns-clause-sent
returns-clause-sent g c = subst (λ (message : List ℕ). EndsSend c.args.s.now.end c.send_parts.new.self.end message true c.send_parts.result) (two c.args.head.now c.args.body.now) c.send_parts.ensures.answer
