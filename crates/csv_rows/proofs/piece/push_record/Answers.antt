use Rattle.std.proofs.Common.{◌≡◌, ◌≤◌, ◌∷◌, ◌++◌, [], length, arith, rules}
use Rattle.std.proofs.lemmas.List.{length-append}
use Rattle.std.proofs.lemmas.Result.{on_ok_weaker}
use Rattle.csv.specs.Records.{cut_from, fields_of}
use Rattle.csv.proofs.RecordFacts.{cut-length}
use Rattle.csv_rows.specs.Store.{Covers, stored}
use Rattle.csv_rows.proofs.Groups.{covers-more, group-push}
use Rattle.csv_rows.proofs.piece.push_record.Goals as goal

pub returns-clause-rows : goal.returns-clause-rows
returns-clause-rows c =
    let fields = c.in_ok-push_fields.ensures.fields in
    let end : c.len.result ≡ length c.push_fields.new.ends.items = search rules in
    let before = cut-length 0 c.args.ends.now.items c.args.bytes.now.items in
    let after = rw fields at (cut-length 0 c.push_fields.new.ends.items c.push_fields.new.bytes.items) in
    let grown = length-append (cut_from 0 c.args.ends.now.items c.args.bytes.now.items) (fields_of c.args.row.now) in
    let le : length c.args.ends.now.items ≤ length c.push_fields.new.ends.items = omega arith in
    let more = covers-more c.args.row_ends.now (length c.args.ends.now.items) (length c.push_fields.new.ends.items) c.requires.rows le in
    on_ok_weaker {Q = Covers c.push.new.self (length c.push_fields.new.ends.items)} _ (λ (e : c.push.new.self ≡ c.args.row_ends.now ++ (c.len.result ∷ [])). rw (e, end) more) c.push.ensures

pub returns-clause-stored : goal.returns-clause-stored
returns-clause-stored c =
    let fields = c.in_ok-push_fields.ensures.fields in
    let end : c.len.result ≡ length c.push_fields.new.ends.items = search rules in
    let after = rw fields at (cut-length 0 c.push_fields.new.ends.items c.push_fields.new.bytes.items) in
    let h : Covers c.args.row_ends.now (length (cut_from 0 c.args.ends.now.items c.args.bytes.now.items)) =
    rw (cut-length 0 c.args.ends.now.items c.args.bytes.now.items) c.requires.rows in
    let more = group-push c.args.row_ends.now (cut_from 0 c.args.ends.now.items c.args.bytes.now.items) (fields_of c.args.row.now) h in
    on_ok_weaker {Q = stored c.push_fields.new.bytes.items c.push_fields.new.ends.items c.push.new.self ≡ stored c.args.bytes.now.items c.args.ends.now.items c.args.row_ends.now ++ (fields_of c.args.row.now ∷ [])} _ (λ (e : c.push.new.self ≡ c.args.row_ends.now ++ (c.len.result ∷ [])). rw (e, end, fields, ← after) more) c.push.ensures
