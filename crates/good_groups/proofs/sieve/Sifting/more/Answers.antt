use Rattle.std.proofs.Common.{◌≡◌, Err, None, ap, rules, subst}
use Rattle.std.specs.Io.KnownBytes.{Keeps}
use Rattle.good_groups.specs.Sifting.{IsOpen, sifter_left}
use Rattle.good_groups.proofs.Goes.{goes_then, halted_goes, sifted_goes}
use Rattle.good_groups.proofs.sieve.Sifting.more.Goals as goal

pub returns-in-Ok-clause-goes : goal.returns-in-Ok-clause-goes
returns-in-Ok-clause-goes g c = λ o are.
    let r = c.args.rules.now in
    let s = c.args.self.now in
    let old = g.S.Source.left c.args.source.now in
    let new = g.S.Source.left c.refill.new.source in
    let free : s.halt ≡ None = search rules in
    let keeps = subst (Keeps (sifter_left r old s.sifter)) (c.in-Ok.ensures.sifts.left new) (c.in_ok-refill.ensures.left r) in
    sifted_goes o r old new s c.requires.going c.sift.new.sifter free keeps (λ (before : IsOpen o old r s.sifter). c.in-Ok.ensures.sifts.counts o new are (c.in_ok-refill.ensures.counts r o before))

pub returns-in-Err-clause-goes : goal.returns-in-Err-clause-goes
returns-in-Err-clause-goes g c = λ o are.
    let r = c.args.rules.now in
    let s = c.args.self.now in
    let old = g.S.Source.left c.args.source.now in
    let new = g.S.Source.left c.refill.new.source in
    let keeps = subst (Keeps (sifter_left r old s.sifter)) (c.in-Err.ensures.sifts.left new) (c.in_ok-refill.ensures.left r) in
    halted_goes o r old new s c.requires.going c.sift.new.sifter c.in-Err.halt c.stop-in-Err.new.self c.stop-in-Err.ensures.same keeps
    (λ (before : IsOpen o old r s.sifter). c.in-Err.ensures.sifts.counts o new are (c.in_ok-refill.ensures.counts r o before)) (λ e. c.in-Err.ensures.too_many (ap Err e))
    (λ e (before : IsOpen o old r s.sifter). c.in-Err.ensures.many (ap Err e) o new are (c.in_ok-refill.ensures.counts r o before)) (λ e. c.in-Err.ensures.long (ap Err e))

pub returns-then-not-branch-clause-goes : goal.returns-then-not-branch-clause-goes
returns-then-not-branch-clause-goes g c = λ o are.
    let r = c.args.rules.now in
    let s = c.args.self.now in
    let old = g.S.Source.left c.args.source.now in
    let new = g.S.Source.left c.refill.new.source in
    let free : s.halt ≡ None = search rules in
    let mid = record s { sifter = c.refill.new.sifter } in
    let first = sifted_goes o r old new s c.requires.going c.refill.new.sifter free (c.in_ok-refill.ensures.left r) (c.in_ok-refill.ensures.counts r o) in
    goes_then o r old new new s mid c.close.new.self first (c.close.ensures.goes o new (c.in_ok-refill.ensures.end c.if-not-branch.true).1 are)
