use Rattle.std.proofs.Common.{[], Err, ap, refl}
use Rattle.good_groups.specs.Sifting.{IsOpen}
use Rattle.good_groups.proofs.Goes.{halted_goes, keeps_same}
use Rattle.good_groups.proofs.Steps.{done_goes, next_end, not_counted, sifts_same}
use Rattle.good_groups.proofs.sieve.Sifting.close.Goals as goal

pub returns-in-Ok-clause-goes : goal.returns-in-Ok-clause-goes
returns-in-Ok-clause-goes c = λ o left end are.
    let self = c.args.self.now in
    done_goes c.args.rules.now self.sifter c.requires.none o left self c.close_line.new.self refl c.requires.going c.requires.open end are c.in-Ok.ensures.ahead c.in-Ok.ensures.counts

pub returns-in-Err-clause-goes : goal.returns-in-Err-clause-goes
returns-in-Err-clause-goes c = λ o left end are.
    let self = c.args.self.now in
    let r = c.args.rules.now in
    let s = self.sifter in
    let n = c.close_line.new.self in
    let is = c.in-Err.ensures in
    let keeps = keeps_same _ _ (sifts_same r s n is.same is.err left) in
    let opens = λ (before : IsOpen o left r s). not_counted r s n is.same is.not_feeds o left before (is.not o _ before.rows [] are (next_end r s c.requires.none o left end before) before.counted) in
    halted_goes o r left left self c.requires.going n c.in-Err.halt c.stop.new.self c.stop.ensures.same keeps opens (λ e. is.too_many (ap Err e))
    (λ e (before : IsOpen o left r s). is.many (ap Err e) o _ before.rows [] are (next_end r s c.requires.none o left end before) before.counted) (λ e. absurd (is.why (ap Err e)))
