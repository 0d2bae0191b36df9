use Rattle.std.proofs.Common.{◌≡◌, ◌<◌, ◌∙◌, true, sym, length, arith, rules}
use Rattle.std.specs.Result.{is_ok}
use Rattle.csv_rows.specs.Records.{records_of}
use Rattle.csv_rows.specs.InPieces.{joined}
use Rattle.csv_rows.proofs.Joined.{joined-append}
use Rattle.csv_rows.proofs.Parts.{parts-at}
use Rattle.csv_rows.proofs.pieces.+fn-read_pieces-join+arg2+fn-read_pieces-join+arg3+read_pieces.Goals as goal

pub returns-in-Err-clause-too_many : goal.returns-in-Err-clause-too_many
returns-in-Err-clause-too_many g t c =
    let cut = c.in-Some.ensures in
    let parts = parts-at c.args.bytes.now c.split_at.result.0.now c.split_at.result.1.now c.in-Some.at cut.bound cut.line cut.cut c.split_at.ensures.front c.split_at.ensures.back in
    λ h.
    let most : 4194305 < length (records_of c.split_at.result.0.now) = c.join-first.ensures.first.2 (c.in-Err.is ∙ h) in
    omega (arith, most, parts.front_most)

pub returns-in-Err-second-clause-too_many : goal.returns-in-Err-second-clause-too_many
returns-in-Err-second-clause-too_many g t c =
    let cut = c.in-Some.ensures in
    let parts = parts-at c.args.bytes.now c.split_at.result.0.now c.split_at.result.1.now c.in-Some.at cut.bound cut.line cut.cut c.split_at.ensures.front c.split_at.ensures.back in
    λ h.
    let most : 4194305 < length (records_of c.split_at.result.1.now) = c.join-first.ensures.second.2 (c.in-Err-second.is ∙ h) in
    omega (arith, most, parts.back_most)

pub returns-clause-records : goal.returns-clause-records
returns-clause-records g t c =
    let cut = c.in-Some.ensures in
    let parts = parts-at c.args.bytes.now c.split_at.result.0.now c.split_at.result.1.now c.in-Some.at cut.bound cut.line cut.cut c.split_at.ensures.front c.split_at.ensures.back in
    let front : joined c.in-Ok.all.items ≡ records_of c.split_at.result.0.now = rw c.in-Ok.is at c.join-first.ensures.first.0 in
    let back : joined c.in-Ok-second.rest.items ≡ records_of c.split_at.result.1.now = rw c.in-Ok-second.is at c.join-first.ensures.second.0 in
    let good : is_ok c.append.result ≡ true = search rules in
    let items = rw good at c.append.ensures.items in
    rw (items, joined-append c.in-Ok.all.items c.in-Ok-second.rest.items, front, back) (sym parts.records)
