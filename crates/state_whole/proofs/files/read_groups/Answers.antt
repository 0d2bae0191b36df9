use Rattle.std.proofs.Common.{◌<◌, ℕ, subst, sym}
use Rattle.state_whole.specs.Sums.{HasRefused}
use Rattle.state_whole.proofs.files.read_groups.Goals as goal

pub returns-then-has_both-clause-refused : goal.returns-then-has_both-clause-refused
returns-then-has_both-clause-refused c =
    let read = c.in-Ok.ensures.read in
    let both = c.has_both.ensures.both c.if-has_both.true in (
      record { blocks = read.0; rest = c.in-Ok.body.rest.now; is_body = read.1; is = read.2 },
      subst (λ (n : ℕ). 0 < n) read.4 both.0,
      subst HasRefused c.as_slice.ensures.value both.1,
    )

pub returns-else-has_both-clause-read : goal.returns-else-has_both-clause-read
returns-else-has_both-clause-read c =
    let read = c.in-Ok.ensures.read in (
      read.0,
      read.1,
      read.2,
      read.3,
      λ some bad. c.has_both.ensures.not_both c.if-has_both.false (subst (λ (n : ℕ). 0 < n) (sym read.4) some) (subst HasRefused (sym c.as_slice.ensures.value) bad),
    )

pub returns-else-has_both-clause-written : goal.returns-else-has_both-clause-written
returns-else-has_both-clause-written c = λ blocks rest is e.
    let w = c.in-Ok.ensures.written blocks rest is e in
    (w.0, w.1)
