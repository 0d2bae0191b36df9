use Rattle.std.proofs.Common.{◌≡◌, ℕ, arith, ap, ◌∙◌}
use Rattle.std.proofs.lemmas.Grind.{common_steps}
use Rattle.rel_pointer.specs.Bytes.{packed, byte_of}
use Rattle.rel_pointer.proofs.Words.{packed_byte}
use Rattle.rel_pointer.proofs.bytes.pack.Goals as goal

pub returns-in-Some-clause-unpacks : goal.returns-in-Some-clause-unpacks
returns-in-Some-clause-unpacks c = λ i within inside.
    let e : c.from_le_bytes.result ≡ packed c.args.bytes.now c.args.at = grind (arith, common_steps) in
    ap (λ (w : ℕ). byte_of w i) e ∙ packed_byte c.args.bytes.now c.args.at i (λ k. omega (arith, c.type_inv.bytes k)) within inside

pub returns-in-None-clause-unpacks : goal.returns-in-None-clause-unpacks
returns-in-None-clause-unpacks c = λ i within inside.
    let e : c.value.result ≡ packed c.args.bytes.now c.args.at = grind (arith, common_steps) in
    ap (λ (w : ℕ). byte_of w i) e ∙ packed_byte c.args.bytes.now c.args.at i (λ k. omega (arith, c.type_inv.bytes k)) within inside
