use Rattle.std.proofs.Common.{◌≡◌, sym, ◌∙◌, true, ◌==◌, arith}
use Rattle.std.proofs.lemmas.Bool.Decides.{nat_tests}
use Rattle.std.specs.Prelude.{count_ones}
use Rattle.shell_lines.proofs.Powers.{power-to-20}
use Rattle.shell_lines.proofs.rings.ring_size.Goals as goal

pub returns-then-is_power_of_two-clause-power : goal.returns-then-is_power_of_two-clause-power
returns-then-is_power_of_two-clause-power c =
    let test : (count_ones c.in_ok-words.words == 1) ≡ true = sym c.is_power_of_two.ensures ∙ c.if-is_power_of_two.true in
    let one : count_ones c.in_ok-words.words ≡ 1 = grind (arith, nat_tests, test) in
    power-to-20 c.in_ok-words.words one c.in_ok-words.ensures.within.1
