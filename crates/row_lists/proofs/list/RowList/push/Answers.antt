use Rattle.std.proofs.Common.{◌≡◌, ◌∙◌, ap, length, rules, subst, sym}
use Rattle.row_lists.specs.Carried.{AreRows, carried, rows_in}
use Rattle.row_lists.proofs.Rows.{cut_back, push_are, push_is}
use Rattle.row_lists.proofs.list.RowList.push.Goals as goal

pub invariant_of-self : goal.invariant_of-self
invariant_of-self c =
    rw c.in-Ok.ensures.bytes (push_are c.self.inside.bytes.items (carried c.args.key.now c.args.values.now) c.self.invariant (record { short = c.requires.short; few = c.requires.few; whole = c.in-Ok.ensures.whole }))

pub returns-in-Ok-clause-ok : goal.returns-in-Ok-clause-ok
returns-in-Ok-clause-ok c =
    rw (c.in-Ok.ensures.bytes, ← c.self.view_is) (push_is c.self.inside.bytes.items (carried c.args.key.now c.args.values.now) c.self.invariant (record { short = c.requires.short; few = c.requires.few; whole = c.in-Ok.ensures.whole }))

pub invariant_of-self-in-Err : goal.invariant_of-self-in-Err
invariant_of-self-in-Err c =
    let from : c.len-from.result ≡ length c.self.inside.bytes.items = search rules in
    subst AreRows (sym (c.truncate.ensures.items ∙ cut_back c.self.inside.bytes.items c.write_row.new.bytes.items c.len-from.result from c.write_row.ensures.front)) c.self.invariant

pub returns-in-Err-clause-err : goal.returns-in-Err-clause-err
returns-in-Err-clause-err c =
    let from : c.len-from.result ≡ length c.self.inside.bytes.items = search rules in
    ap rows_in (c.truncate.ensures.items ∙ cut_back c.self.inside.bytes.items c.write_row.new.bytes.items c.len-from.result from c.write_row.ensures.front) ∙ c.self.view_is
