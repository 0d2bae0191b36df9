use Rattle.std.proofs.Common.{◌∙◌, ap, arith}
use Rattle.std.specs.Prelude.{◌-◌, ◌^◌, min}
use Rattle.table_order.proofs.Values.{value-append}
use Rattle.table_order.proofs.number.Number.size.Goals as goal

pub returns : goal.returns
returns c =
    let n = c.args.self.now in
    c.push_digits-2.ensures _ (c.push_digits.ensures 0 (omega arith)) ∙ ap (λ size. min size (2 ^ 64 - 1)) (value-append 0 n.whole.now n.part.now)
