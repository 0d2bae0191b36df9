use Rattle.std.proofs.Common.{rules, ◌≡◌, ◌≤◌, ◌∷◌, ◌++◌, [], length, arith}
use Rattle.std.proofs.lemmas.List.{length-append}
use Rattle.std.proofs.lemmas.Result.{on_ok_weaker}
use Rattle.csv.specs.Records.{cut_from}
use Rattle.csv_rows.specs.Store.{Covers}
use Rattle.csv_rows.proofs.Groups.{covers-more, cut-push}
use Rattle.csv_rows.proofs.piece.push_field.Goals as goal

pub returns-clause-covers : goal.returns-clause-covers
returns-clause-covers c =
    let e = c.in_ok-extend_from_slice.ensures.items in
    let end : c.len.result ≡ length c.extend_from_slice.new.self.items = search rules in
    let grown = length-append c.args.bytes.now.items c.args.field.now in
    let le : length c.args.bytes.now.items ≤ length c.extend_from_slice.new.self.items = rw e (omega arith) in
    let more = covers-more c.args.ends.now.items (length c.args.bytes.now.items) (length c.extend_from_slice.new.self.items) c.requires.covers le in
    on_ok_weaker {Q = Covers c.push_end.new.ends.items (length c.extend_from_slice.new.self.items)} _ (λ (is : c.push_end.new.ends.items ≡ c.args.ends.now.items ++ (c.len.result ∷ [])). rw (is, end) more) c.push_end.ensures

pub returns-clause-fields : goal.returns-clause-fields
returns-clause-fields c =
    let e = c.in_ok-extend_from_slice.ensures.items in
    let end : c.len.result ≡ length c.extend_from_slice.new.self.items = search rules in
    let more = cut-push c.args.ends.now.items c.args.bytes.now.items c.args.field.now c.requires.covers in
    on_ok_weaker {Q = cut_from 0 c.push_end.new.ends.items c.extend_from_slice.new.self.items ≡ cut_from 0 c.args.ends.now.items c.args.bytes.now.items ++ (c.args.field.now ∷ [])} _ (λ (is : c.push_end.new.ends.items ≡ c.args.ends.now.items ++ (c.len.result ∷ [])). rw (is, end, e) more) c.push_end.ensures
