use Rattle.std.proofs.Common.{◌≡◌, Option, None, Some, is_none, true, sym, ap, ◌∙◌, subst, refl}
use Rattle.std.specs.Prelude.{T}
use Rattle.mq_handle.proofs.Uses.{left_nothing}
use Rattle.c_queue.specs.Sides.{outgoing}
use Rattle.c_queue.specs.declared.end.End.{End}
use Rattle.c_queue.specs.declared.end.End.TheVariants.{Sends as Out}
use Rattle.c_given.proofs.open.open_sender.Goals as goal

none_of : (o : Option End) → is_none o ≡ true → o ≡ None
none_of None e = refl
none_of (Some x) e = absurd (subst T (sym e) tt)

pub over-requires-clause-fresh : goal.over-requires-clause-fresh
over-requires-clause-fresh c = rw c.in-Sender.ensures.unsent.put left_nothing

pub give_back-requires : goal.give_back-requires
give_back-requires c = (
  outgoing c.in-Sender.waiting.sender None,
  c.in-Err.ensures.value_returned ∙ ap Out c.over.ensures,
  c.in-Sender.ensures,
)

pub returns-in-Ok-new : goal.returns-in-Ok-new
returns-in-Ok-new c = (
  c.get-head.result.now,
  outgoing c.in-Sender.waiting.sender None,
  c.get-head.ensures,
  none_of c.args.tx.now.value (sym c.is_blank.ensures.blank ∙ c.if-not-is_blank.false),
  c.put.ensures ∙ ap Some (c.in-Ok-new.ensures.ok ∙ ap Out c.over.ensures),
  c.in-Sender.ensures,
  refl,
)
