use Rattle.std.proofs.Common.{inl, inr, subst, ◌<◌, ℕ, ◌∙◌}
use Rattle.size_classes.proofs.Sizes.{no_class, no_such_size}
use Rattle.size_classes.proofs.class_with.Goals.{then-bytes-eq0-via-then-bytes-eq0, then-bytes-eq0-via-else-bytes-eq0+then-bytes-from}
use Rattle.size_classes.proofs.class_with.Goals as goal

pub returns-then-bytes-eq0-clause-none : goal.returns-then-bytes-eq0-clause-none
returns-then-bytes-eq0-clause-none c = elim c.then-bytes-eq0.branch [
  | then-bytes-eq0-via-then-bytes-eq0 w ↦ no_such_size c.args.bytes (inl w.if-bytes-eq0.true)
  | then-bytes-eq0-via-else-bytes-eq0+then-bytes-from w ↦ no_such_size c.args.bytes (inr (subst (λ (z : ℕ). z < c.args.bytes) w.from.ensures w.if-bytes-from.true))
]

pub returns-else-from-bytes-clause-none : goal.returns-else-from-bytes-clause-none
returns-else-from-bytes-clause-none c = no_class c.args.bytes c.in_ok-class.class c.in_ok-class.ensures.least (λ e. c.if-from-bytes.false (c.from-2.ensures ∙ (c.class_bytes.ensures.size ∙ e)))
