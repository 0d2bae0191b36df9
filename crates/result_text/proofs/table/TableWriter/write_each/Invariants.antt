use Rattle.std.proofs.Common.{◌≡◌, ◌++◌, All, length, map, take}
use Rattle.par_model.specs.Table.{table_text}
use Rattle.result_text.specs.GroupOrder.{line_of}
use Rattle.result_text.specs.Printable.{IsSmallSlot}
use Rattle.result_text.specs.Text.{line_record}
use Rattle.result_text.specs.Written.{IsBetween, written}
use Rattle.result_text.proofs.table.TableWriter.write_each.Given as goal

-- a line is written for each group so far
abbrev pub invariant-loop-group : goal.invariant-loop-group
invariant-loop-group l = record {
  between : IsBetween l.self.writer;
  small : All IsSmallSlot l.state.slots;
  text : written l.self.writer ≡ written l.fn.self.writer ++ table_text (map (line_record l.bound) (map (line_of (length l.bound.groups) l.groups) (take l.group-index l.refs)));
}
