use Rattle.std.proofs.Common.{◌<◌, ◌+◌, ◌%◌, ◌^◌, arith}
use Rattle.std.proofs.Math.Nat.{mod-lt}
use Rattle.result_text.proofs.Numbers.{some_digit}
use Rattle.result_text.proofs.decimal.push_places.Goals as goal

pub after_first-requires : goal.after_first-requires
after_first-requires c =
    let n = c.args.unit + c.args.size % c.args.unit in
    let below = mod-lt c.args.size c.requires.some in
    let within : n < 10 ^ 64 = omega (arith, below, c.requires.within) in
    rw c.format.ensures.text (some_digit n within)
