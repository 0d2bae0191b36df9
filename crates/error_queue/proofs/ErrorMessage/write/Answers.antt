use Rattle.std.proofs.Common.{arith, length, ◌≡◌, ◌∙◌, ap}
use Rattle.std.proofs.lemmas.List.{take_more_set}
use Rattle.std.specs.Int.{w32, w64, to_le_bytes}
use Rattle.error_queue.specs.Message.{row_bytes}
use Rattle.error_queue.proofs.Laid.{row_laid}
use Rattle.error_queue.proofs.ErrorMessage.write.Goals as goal

pub returns-in-Row-clause-bytes : goal.returns-in-Row-clause-bytes
returns-in-Row-clause-bytes c =
    let row : c.copy_from_slice.new.self ≡ to_le_bytes w64 c.in-Row.row = c.copy_from_slice.ensures.after ∙ c.to_le_bytes.ensures in
    let item : c.copy_from_slice-in-Row.new.self ≡ to_le_bytes w32 c.in-Row.item = c.copy_from_slice-in-Row.ensures.after ∙ c.to_le_bytes-in-Row.ensures in
    rw c.in-Row.is (row_laid c.args.out.now _ _ 69 c.in-Row.cause c.told-out (ap length row) (ap length item) ∙ ap (λ zs. row_bytes zs c.in-Row.cause c.copy_from_slice-in-Row.new.self) row ∙ ap (row_bytes (to_le_bytes w64 c.in-Row.row) c.in-Row.cause) item)

pub returns-in-End-clause-bytes : goal.returns-in-End-clause-bytes
returns-in-End-clause-bytes c = rw c.in-End.is (take_more_set c.args.out.now 0 88 (omega arith))
