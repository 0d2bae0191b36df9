use Rattle.std.proofs.Common.{◌<◌, ◌^◌, ◌++◌, ◌∙◌, ℕ, ap, arith, sym}
use Rattle.state_file.specs.Number.{number_bytes}
use Rattle.state_file.proofs.Short.{one_number}
use Rattle.state_file.proofs.number.read_number.Goals as goal

pub returns-in-Some-clause-read : goal.returns-in-Some-clause-read
returns-in-Some-clause-read c = c.in-Some.ensures ∙ ap (λ (n : ℕ). number_bytes n ++ c.in-Some.rest.now) (sym c.from.ensures)

pub returns-in-Some-clause-written : goal.returns-in-Some-clause-written
returns-in-Some-clause-written c = λ n rest fits e.
    let few : c.in-Some.n < 2 ^ 128 = omega (arith, c.from.ensures, c.from.type_inv) in
    let same = one_number c.args.bytes.now c.in-Some.n n c.in-Some.rest.now rest few fits c.in-Some.ensures e in
    (c.from.ensures ∙ same.0, same.1)

pub returns-in-None-clause-read : goal.returns-in-None-clause-read
unfolding number_bytes
returns-in-None-clause-read c = c.read_sevens.ensures.read

pub returns-in-None-clause-written : goal.returns-in-None-clause-written
unfolding number_bytes
returns-in-None-clause-written c = λ n rest fits e. c.read_sevens.ensures.written n rest fits (omega arith) e
