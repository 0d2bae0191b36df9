use Rattle.std.proofs.Common.{◌∙◌, ap, sym}
use Rattle.state_query.specs.Stops.{line, stop_says}
use Rattle.state_query.specs.declared.stop.Stop.{Stop}
use Rattle.state_query.proofs.stop.Stop.pieces.Goals as goal

pub returns-in-Rows : goal.returns-in-Rows
returns-in-Rows c = c.plain-in-Rows.ensures ∙ ap (λ (s : Stop). line (stop_says s).1) (sym c.in-Rows.is)

pub returns-in-Long : goal.returns-in-Long
returns-in-Long c = c.plain-in-Long.ensures ∙ ap (λ (s : Stop). line (stop_says s).1) (sym c.in-Long.is)

pub returns-in-WriteFault : goal.returns-in-WriteFault
returns-in-WriteFault c = c.plain-in-WriteFault.ensures ∙ ap (λ (s : Stop). line (stop_says s).1) (sym c.in-WriteFault.is)

pub returns-in-Memory : goal.returns-in-Memory
returns-in-Memory c = c.plain-in-Memory.ensures ∙ ap (λ (s : Stop). line (stop_says s).1) (sym c.in-Memory.is)

pub returns-in-NoKey : goal.returns-in-NoKey
returns-in-NoKey c = c.plain-in-NoKey.ensures ∙ ap (λ (s : Stop). line (stop_says s).1) (sym c.in-NoKey.is)
