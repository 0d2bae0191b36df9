use Rattle.std.proofs.Common.{◌≡◌, ◌++◌, ◌∙◌, List, ℕ, ap, drop, length}
use Rattle.std.specs.Int.{from_be_bytes, w128}
use Rattle.key_index.proofs.Front.{number-is, padded, zeros}
use Rattle.key_index.proofs.list.number.Goals as goal

pub returns-clause-number : goal.returns-clause-number
returns-clause-number c =
    let bytes = c.args.bytes.now in
    let h : c.from_be_bytes.result ≡ from_be_bytes w128 (c.copy_from_slice.new.self ++ drop (length bytes) (zeros 16)) = c.from_be_bytes.ensures in
    h ∙ ap (λ (front : List ℕ). from_be_bytes w128 (front ++ drop (length bytes) (zeros 16))) c.copy_from_slice.ensures.after ∙ number-is bytes (bytes ++ drop (length bytes) (zeros 16)) (padded bytes)
