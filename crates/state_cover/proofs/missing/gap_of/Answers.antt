use Rattle.state_cover.proofs.Gaps.{after_of, front_of, other_of}
use Rattle.state_cover.proofs.missing.gap_of.Goals as goal

pub returns-then-place-source-clause-some : goal.returns-then-place-source-clause-some
returns-then-place-source-clause-some c =
    let are = c.requires.stretches in
    other_of are.0 are.1 c.args.source c.args.stretches.now _ are.2 c.in-len1-up.len_at_least c.requires.from c.if-place-source.true

pub returns-then-place-gt0-clause-some : goal.returns-then-place-gt0-clause-some
returns-then-place-gt0-clause-some c =
    let are = c.requires.stretches in
    front_of are.0 are.1 c.args.source c.args.stretches.now _ are.2 c.in-len1-up.len_at_least c.if-place-source.false c.if-place-gt0.true

pub returns-clause-some : goal.returns-clause-some
returns-clause-some c =
    let are = c.requires.stretches in
    after_of are.0 are.1 c.args.source c.args.stretches.now _ c.after_first.result.now c.end_of.result are.2 c.in-len1-up.len_at_least c.if-place-source.false c.if-place-gt0.false c.if-place.false c.after_first.ensures c.end_of.ensures
