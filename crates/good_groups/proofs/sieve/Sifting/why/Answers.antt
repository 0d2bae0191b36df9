use Rattle.std.proofs.Common.{◌≡◌, ◌+◌, ◌⊎◌, List, ℕ, Some, rules, subst}
use Rattle.stream_groups.specs.Stops.{IsStopOfLong}
use Rattle.stream_groups.specs.declared.stop.Stop.TheVariants as stop
use Rattle.good_groups.specs.Sifting.{IsHalted}
use Rattle.good_groups.specs.declared.sifter.Halt.TheVariants as halt
use Rattle.good_groups.proofs.Long.{long_after, long_tells}
use Rattle.good_groups.proofs.sieve.Sifting.why.Goals as goal

pub returns-in-Some-first-clause-many : goal.returns-in-Some-first-clause-many
returns-in-Some-first-clause-many c = λ o left r are is first e.
    let s = c.args.self in
    let halt_is : s.halt ≡ Some halt.Long = search rules in
    let halted = subst (λ h. IsHalted o h s) halt_is is.halted in
    long_after o r left s.sifter are (is.going halted.0) halted.1

pub returns-clause-why : goal.returns-clause-why
returns-clause-why c = λ o left r are is.
    let s = c.args.self in
    let halt_is : s.halt ≡ Some halt.Long = search rules in
    let halted = subst (λ h. IsHalted o h s) halt_is is.halted in
    long_tells o r left s.sifter are (is.going halted.0) halted.1 c.in-None-first-2.is c.long_stop.result
    (subst (λ (t : List ℕ). IsStopOfLong (s.sifter.tally.rows + 1) s.sifter.tally.feeds t c.long_stop.result ⊎ (c.long_stop.result ≡ stop.Memory)) c.as_slice.ensures.value c.long_stop.ensures)
