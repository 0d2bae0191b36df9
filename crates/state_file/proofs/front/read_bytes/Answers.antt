use Rattle.std.proofs.Common.{◌∙◌, ℕ, length, ap, sym, arith, length-append}
use Rattle.state_file.proofs.Parts.{parts}
use Rattle.state_file.proofs.front.read_bytes.Goals as goal

pub returns-then-bytes-count-clause-written : goal.returns-then-bytes-count-clause-written
returns-then-bytes-count-clause-written c = λ part rest long e. omega (arith, ap (length {A = ℕ}) e, length-append part rest)

pub returns-clause-written : goal.returns-clause-written
returns-clause-written c = λ part rest long e.
    parts c.split_at.result.0.now part c.split_at.result.1.now rest (c.split_at.ensures.front_len ∙ sym long) (sym c.split_at.ensures.by_index.0 ∙ e)
