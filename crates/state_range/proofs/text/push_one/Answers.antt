use Rattle.std.proofs.Common.{◌≡◌, ◌++◌, All, OnOk, length, subst, sym}
use Rattle.csv.specs.Writing.{default_writer, row_text}
use Rattle.par_model.specs.Table.{values_text}
use Rattle.par_model.specs.declared.state.AggState.{AggState}
use Rattle.result_text.specs.KeyColumns.{columns_in}
use Rattle.result_text.specs.Printable.{IsSmallSlot}
use Rattle.state_range.proofs.Lines.{small_at, state_is}
use Rattle.state_range.proofs.text.push_one.Goals as goal

pub push_line-requires : goal.push_line-requires
push_line-requires c = record { small = small_at (λ (s : AggState). All IsSmallSlot s.slots) c.args.groups.now c.args.group.at c.state.result c.state.ensures c.requires.within c.requires.small }

pub returns : goal.returns
returns c =
    subst (λ (s : AggState). OnOk c.push_line.result (c.push_line.new.text.items ≡ c.args.text.now.items ++ row_text default_writer (columns_in (length c.args.bound.now.groups) c.args.group.key.now ++ values_text c.args.bound.now s)))
    (sym (state_is c.args.groups.now c.args.group c.state.result c.state.ensures)) c.push_line.ensures
