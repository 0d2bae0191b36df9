use Rattle.std.proofs.Common.{rules, ◌≡◌, ◌<◌, ◌^◌, ◌∙◌, ℕ, ap, arith, bit_xor, length}
use Rattle.std.proofs.lemmas.Nat.{xor_lt}
use Rattle.std.specs.Int.{from_le_bytes, w64}
use Rattle.state_file.proofs.Linear.{AreBytes, eight_in}
use Rattle.state_file.proofs.eights.eight_in.Goals as goal

pub returns : goal.returns
returns c =
    let register = c.from.result in
    let number = c.from_le_bytes.result in
    let word = bit_xor register number in
    let long : length c.args.eight.now ≡ 8 = search rules in
    let small : AreBytes c.args.eight.now = c.fits-eight in
    let low : register < 2 ^ 64 = omega (arith, c.from.ensures, c.ranges.register.fits) in
    let fits : word < 2 ^ 64 = xor_lt 64 register number low c.from_le_bytes.type_inv in
    let is : word ≡ bit_xor c.args.register (from_le_bytes w64 c.args.eight.now) = ap (λ (n : ℕ). bit_xor n number) c.from.ensures ∙ ap (bit_xor c.args.register) c.from_le_bytes.ensures in
    eight_in c.args.register word c.args.eight.now _ _ _ _ _ _ _ _ long small is fits c.entry.ensures c.entry-2.ensures c.entry-3.ensures c.entry-4.ensures c.entry-5.ensures c.entry-6.ensures c.entry-7.ensures c.entry-8.ensures
