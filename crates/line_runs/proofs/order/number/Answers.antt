use Rattle.std.proofs.Common.{◌≡◌, ◌++◌, ◌∙◌, List, ℕ, ap, drop, length}
use Rattle.std.specs.Int.{from_be_bytes, w64}
use Rattle.line_runs.proofs.Numbers.{number-is, padded, zeros}
use Rattle.line_runs.proofs.order.number.Goals as goal

pub returns-clause-number : goal.returns-clause-number
returns-clause-number c =
    let bytes = c.args.bytes.now in
    let h : c.from_be_bytes.result ≡ from_be_bytes w64 (c.copy_from_slice.new.self ++ drop (length bytes) (zeros 8)) = c.from_be_bytes.ensures in
    h ∙ ap (λ (front : List ℕ). from_be_bytes w64 (front ++ drop (length bytes) (zeros 8))) c.copy_from_slice.ensures.after ∙ number-is bytes (bytes ++ drop (length bytes) (zeros 8)) (padded bytes)
