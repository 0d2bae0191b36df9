use Rattle.std.proofs.Common.{◌≡◌, ◌↔◌, ◌<◌, eqb, get_or, length, map, sym, subst, ◌∙◌, arith, w8}
use Rattle.std.specs.Int.{bit_at}
use Rattle.std.proofs.lemmas.Simd.{bit_mask_l, bitmask_splat}
use Rattle.csv_rows.proofs.Bits.{bit-of}
use Rattle.row_windows.proofs.quotes.places_of.Goals as goal

pub returns : goal.returns
returns c k =
    let bytes = c.args.bytes in
    let byte = c.args.byte in
    let long : length bytes ≡ 64 = c.fits-bytes.0 in
    let whole = bitmask_splat w8 eqb bytes 64 byte long (omega arith) in
    let bit = bit_mask_l (map (λ x. eqb x byte) bytes) k in
    let is = bit-of bytes byte k in
    subst (λ m. (bit_at m k ≡ 1) ↔ ((k < 64) × (get_or bytes k 0 ≡ byte))) (sym whole)
    (λ h. let b = is.0 (sym bit ∙ h) in (rw long at b.0, b.1), λ h. bit ∙ is.1 (rw (sym long) at h.0, h.1))
