use Rattle.std.proofs.Common.{◌≡◌, ap}
use Rattle.state_head.specs.Words.{Keys, keys_of}
use Rattle.state_whole.proofs.Subjects.{fails, same_keys}
use Rattle.state_whole.proofs.alike.check_range.Goals as goal

pub returns-then-not-have_same-clause-refused : goal.returns-then-not-have_same-clause-refused
returns-then-not-have_same-clause-refused c = λ same.
    fails c.have_same.result ((c.args.other.low.now ≡ c.args.first.low.now) × (c.args.other.high.now ≡ c.args.first.high.now)) c.have_same.ensures.1 c.if-not-have_same.true (ap (λ (k : Keys). k.low) same, ap (λ (k : Keys). k.high) same)

pub returns-clause-same : goal.returns-clause-same
returns-clause-same c =
    let two = c.have_same.ensures.0 c.if-not-have_same.false in
    same_keys (keys_of c.args.other) (keys_of c.args.first) two.0 two.1
