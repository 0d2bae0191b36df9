use Rattle.std.proofs.Common.{refl, subst, sym}
use Rattle.row_windows.specs.declared.window.WindowAnswer.{WindowAnswer}
use Rattle.stream_groups.specs.Stops.{IsStopOfWindow}
use Rattle.stream_groups.specs.declared.stop.Stop.TheVariants as stop
use Rattle.stream_groups.proofs.filling.stop_of_window.Goals as goal

pub returns-in-ReadFault : goal.returns-in-ReadFault
returns-in-ReadFault c = subst (λ (w : WindowAnswer). IsStopOfWindow w c.args.row c.args.feeds c.args.text.now stop.ReadFault) (sym c.in-ReadFault.is) refl

pub returns-in-LongRecord : goal.returns-in-LongRecord
returns-in-LongRecord c = subst (λ (w : WindowAnswer). IsStopOfWindow w c.args.row c.args.feeds c.args.text.now c.stop_of_long.result) (sym c.in-LongRecord.is) c.stop_of_long.ensures

pub returns-in-Memory : goal.returns-in-Memory
returns-in-Memory c = subst (λ (w : WindowAnswer). IsStopOfWindow w c.args.row c.args.feeds c.args.text.now stop.Memory) (sym c.in-Memory.is) refl
