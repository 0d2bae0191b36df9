use Rattle.std.proofs.Common.{◌<◌, ◌++◌, ◌∙◌, ℕ, ap, arith, subst, sym}
use Rattle.std.proofs.lemmas.Option.{IfSome_then}
use Rattle.state_file.specs.Number.{GoesOnAs, number_bytes}
use Rattle.state_file.proofs.Short.{short_more, short_one}
use Rattle.state_file.proofs.number.read_short.Goals as goal

pub returns-then-first-lt128 : goal.returns-then-first-lt128
returns-then-first-lt128 c =
    let tail = c.in-Some.rest.now in
    short_one c.args.bytes.now tail c.in-Some.first.now c.in-Some.ensures.cases.0 c.if-first-lt128.true ∙ ap (λ (n : ℕ). number_bytes n ++ tail) (sym c.from.ensures)

pub returns : goal.returns
returns c =
    let is = c.seven_bits.ensures.is in
    let few = c.seven_bits.ensures.few in
    let byte : c.in-Some.first.now < 256 = omega (arith, is, few) in
    let tail = c.in-Some.rest.now in
    IfSome_then c.read_on.result c.read_on.ensures (λ found on.
    short_more c.args.bytes.now tail c.in-Some.first.now found.0 found.1.now c.in-Some.ensures.cases.0 (omega (arith, c.if-first-lt128.false)) byte
    (subst (λ (d : ℕ). GoesOnAs tail d 128 7 found.0 found.1.now) is on))
