use Rattle.std.proofs.Common.{◌≡◌, ◌≤◌, rules, length, arith}
use Rattle.std.proofs.lemmas.List.{length-append}
use Rattle.csv_rows.proofs.Groups.{covers-more, cut-push}
use Rattle.key_index.proofs.list.KeyList.push.Goals as goal

pub invariant_of-self-in-Ok : goal.invariant_of-self-in-Ok
invariant_of-self-in-Ok c =
    let e = c.in_ok-extend_from_slice.ensures.items in
    let end : c.len.result ≡ length c.extend_from_slice.new.self.items = search rules in
    let grown = length-append c.self.inside.bytes.items c.args.key.now in
    let le : length c.self.inside.bytes.items ≤ length c.extend_from_slice.new.self.items = rw e (omega arith) in
    let more = covers-more c.self.inside.ends.items (length c.self.inside.bytes.items) (length c.extend_from_slice.new.self.items) c.self.invariant le in
    rw (c.in-Ok.ensures.items, end) more

pub returns-in-Ok-clause-ok : goal.returns-in-Ok-clause-ok
returns-in-Ok-clause-ok c =
    let e = c.in_ok-extend_from_slice.ensures.items in
    let end : c.len.result ≡ length c.extend_from_slice.new.self.items = search rules in
    let more = cut-push c.self.inside.ends.items c.self.inside.bytes.items c.args.key.now c.self.invariant in
    rw (c.in-Ok.ensures.items, end, e, ← c.self.view_is) more
