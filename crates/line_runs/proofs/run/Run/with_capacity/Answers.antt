use Rattle.std.proofs.Common.{◌∙◌}
use Rattle.line_runs.proofs.Entries.{none_covers, none_there}
use Rattle.line_runs.proofs.run.Run.with_capacity.Goals as goal

pub of-requires : goal.of-requires
of-requires c = none_covers c.in_ok-bytes.bytes.items c.in_ok-ends.ends.items c.in_ok-bytes.ensures.items c.in_ok-ends.ensures.items

pub returns : goal.returns
returns c = c.of.ensures ∙ none_there c.in_ok-bytes.bytes.items c.in_ok-ends.ends.items c.in_ok-ends.ensures.items
