use Rattle.std.proofs.Common.{sym, ◌∙◌}
use Rattle.c_table.proofs.Handles.{none_of, opens}
use Rattle.c_table.proofs.handle.open.Goals as goal

pub returns-in-Ok : goal.returns-in-Ok
returns-in-Ok c =
    opens c.args.callers c.args.words c.args.seed c.args.first.now.value c.fill.new.handle.value c.fill.result c.in-Ok.caller (none_of c.args.first.now.value (sym c.is_blank.ensures.blank ∙ c.if-not-is_blank.false)) c.in-Ok.ensures.made c.fill.ensures
