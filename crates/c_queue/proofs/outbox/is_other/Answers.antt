use Rattle.std.proofs.Common.{ℕ, not, sym, ap, ◌∙◌, subst, take}
use Rattle.std.specs.Prelude.{Option, T}
use Rattle.std.proofs.lemmas.Slice.Eq.{bytes_eq-Decides}
use Rattle.c_queue.specs.Sides.{begun_of}
use Rattle.c_queue.proofs.outbox.is_other.Goals as goal

pub returns-in-Some-clause-other : goal.returns-in-Some-clause-other
returns-in-Some-clause-other c = λ t. (
  take c.in-Some.len c.args.buffer.now,
  ap (λ (o : Option ℕ). begun_of o c.args.buffer.now) c.in-Some.is,
  λ e. subst T (sym t ∙ (c.ne.ensures ∙ ap not ((bytes_eq-Decides (take c.in-Some.len c.args.buffer.now) c.args.message.now).1 e))) tt,
)
