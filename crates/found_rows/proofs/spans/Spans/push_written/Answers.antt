use Rattle.std.proofs.Common.{◌≡◌, length, rules}
use Rattle.found_rows.specs.Written.{read_as}
use Rattle.found_rows.proofs.Places.{fields-many, pushed-written}
use Rattle.found_rows.proofs.spans.Spans.push_written.Goals as goal

pub returns-clause-fields : goal.returns-clause-fields
returns-clause-fields c =
    let text = c.args.text.now in
    let old = c.args.self.now in
    let many = fields-many text old.copied.items old.list old.count (search rules) in
    let start : c.len-start.result ≡ length old.copied.items = search rules in
    let end : c.len.result ≡ length c.copy_field.new.copied.items = search rules in
    pushed-written text old.copied.items (read_as c.args.written.now) c.copy_field.new.copied.items old.list old.count c.len-start.result c.len.result (search rules) c.requires.spans.each c.in_ok-copy_field.ensures start end
