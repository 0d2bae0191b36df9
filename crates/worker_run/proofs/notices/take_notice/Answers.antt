use Rattle.std.proofs.Common.{◌∙◌, sym, subst, Any, List, ℕ}
use Rattle.mq_handle.specs.Messages.{whole_of}
use Rattle.worker_run.specs.Notices.{ReadsRow}
use Rattle.std.proofs.lemmas.List.Quantifiers.{Any-push}
use Rattle.worker_run.proofs.Judging.{ok_inj}
use Rattle.worker_run.proofs.notices.take_notice.Goals as goal

pub returns-in-Ok-Row-clause-news : goal.returns-in-Ok-Row-clause-news
returns-in-Ok-Row-clause-news c =
    let it = c.in-Ok-Row in
    subst (λ (l : List (List ℕ)). Any (ReadsRow it.row it.cause it.item) l) (sym c.in-Message.ensures.answer.whole)
    (Any-push (ReadsRow it.row it.cause it.item) (whole_of c.args.errors.now.end.taken) c.try_receive.new.self.message
    (record { each = λ m t e. ok_inj c.read.result m it.field-0 (c.read.ensures.written m t (c.message.ensures ∙ e)) it.is ∙ it.field-0-is }))

pub returns-in-Detached-clause-news : goal.returns-in-Detached-clause-news
returns-in-Detached-clause-news c = let a = c.in-Detached.ensures.answer in record { final = a.2.final; all = a.2.empty.1 }
