use Rattle.std.proofs.Common.{◌<◌, ◌+◌, ◌*◌, ◌-◌, ◌∷◌, ◌∙◌, ℕ, ap, arith, refl, subst, sym}
use Rattle.std.proofs.lemmas.Option.{IfSome_then}
use Rattle.state_file.specs.Number.{GoesOnAs}
use Rattle.state_file.proofs.Short.{below, ended, fit_on, less_room, went_on}
use Rattle.state_file.proofs.number.+read_on.Goals as goal

pub overflow_mul-result : goal.overflow_mul-result
overflow_mul-result t c =
    let few : c.from.result < 128 = omega (arith, c.from.ensures, c.if-first-lt128.true) in
    let f = (fit_on c.args.low c.args.worth c.args.more c.from.result c.requires.low c.requires.short few).0 in
    omega (arith, f)

pub overflow_add-result : goal.overflow_add-result
overflow_add-result t c =
    let few : c.from.result < 128 = omega (arith, c.from.ensures, c.if-first-lt128.true) in
    let f = (fit_on c.args.low c.args.worth c.args.more c.from.result c.requires.low c.requires.short few).1 in
    omega (arith, f)

pub returns-then-first-lt128 : goal.returns-then-first-lt128
returns-then-first-lt128 t c =
    let same = c.from.ensures in
    let some : 0 < c.from.result = omega (arith, same, c.if-first-eq0.false) in
    let few : c.from.result < 128 = omega (arith, same, c.if-first-lt128.true) in
    ended c.in-Some.rest.now c.from.result c.args.low c.args.worth c.args.more _ c.args.bytes.now (c.in-Some.ensures.cases.0 ∙ ap (λ (b : ℕ). b ∷ c.in-Some.rest.now) (sym same)) some few refl

pub overflow_mul-seven_bits : goal.overflow_mul-seven_bits
overflow_mul-seven_bits t c =
    let few = c.seven_bits.ensures.few in
    let f = (fit_on c.args.low c.args.worth c.args.more c.seven_bits.result c.requires.low c.requires.short few).0 in
    omega (arith, f)

pub overflow_add-low : goal.overflow_add-low
overflow_add-low t c =
    let few = c.seven_bits.ensures.few in
    let f = (fit_on c.args.low c.args.worth c.args.more c.seven_bits.result c.requires.low c.requires.short few).1 in
    omega (arith, f)

pub overflow_mul-worth : goal.overflow_mul-worth
overflow_mul-worth t c =
    let f = (fit_on c.args.low c.args.worth c.args.more 0 c.requires.low c.requires.short (omega arith)).2 in
    omega (arith, f)

pub read_on-requires : goal.read_on-requires
read_on-requires t c =
    let few = c.seven_bits.ensures.few in
    let some : 0 < c.args.more = omega (arith, c.if-more-eq0.false) in (
      omega (arith, c.decreases, some),
      (below c.args.low c.args.worth c.seven_bits.result c.requires.low few, less_room c.args.worth c.args.more some c.requires.short),
    )

pub returns : goal.returns
returns t c =
    let first = c.in-Some.first.now in
    let is = c.seven_bits.ensures.is in
    let few = c.seven_bits.ensures.few in
    let byte : first < 256 = omega (arith, is, few) in
    IfSome_then c.read_on.result c.read_on.ensures (λ found on.
    went_on c.in-Some.rest.now first c.args.low c.args.worth c.args.more found.0 c.args.bytes.now found.1.now c.in-Some.ensures.cases.0 (omega (arith, c.if-first-lt128.false)) byte (omega (arith, c.if-more-eq0.false))
    (subst (λ (d : ℕ). GoesOnAs c.in-Some.rest.now (c.args.low + d * c.args.worth) (c.args.worth * 128) (c.args.more - 1) found.0 found.1.now) is on))
