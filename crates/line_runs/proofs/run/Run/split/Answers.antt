use Rattle.std.proofs.Common.{◌∙◌, ap}
use Rattle.line_runs.specs.Entries.{Entry}
use Rattle.line_runs.proofs.run.Run.split.Goals as goal

pub returns-clause-key : goal.returns-clause-key
returns-clause-key c = c.split_entry.ensures.key ∙ ap (λ (e : Entry). e.0) c.entry.ensures

pub returns-clause-line : goal.returns-clause-line
returns-clause-line c = c.split_entry.ensures.line ∙ ap (λ (e : Entry). e.1) c.entry.ensures
