use Rattle.std.proofs.Common.{ℕ, List, ap, length}
use Rattle.stream_groups.proofs.Windows.{is_filled, is_not_filled}
use Rattle.stream_groups.proofs.Takes.{takes_filling}
use Rattle.stream_groups.proofs.filling.fill.Goals as goal

pub returns-clause-filled : goal.returns-clause-filled
returns-clause-filled g c =
    let e = c.fill-filled.ensures in
    is_filled (g.S.Source.left c.args.source.now) (g.S.Source.left c.fill-filled.new.source) c.args.window.now c.fill-filled.new.self c.fill-filled.result e.header e.reading e.reads e.last e.seam

pub returns-clause-why : goal.returns-clause-why
returns-clause-why g c =
    let e = c.fill-filled.ensures in
    is_not_filled (g.S.Source.left c.args.source.now) (g.S.Source.left c.fill-filled.new.source) (g.S.Source.faults c.args.source.now) (g.S.Source.faults c.fill-filled.new.source) c.args.window.now c.fill-filled.new.self c.fill-filled.result e.read_fault e.long

pub returns-clause-taken : goal.returns-clause-taken
returns-clause-taken g c =
    let e = c.fill-filled.ensures in
    takes_filling (g.S.Source.left c.args.source.now) (g.S.Source.left c.fill-filled.new.source) (g.S.Source.faults c.args.source.now) (g.S.Source.faults c.fill-filled.new.source) c.args.window.now c.fill-filled.new.self
    _ c.args.taken.now c.after_filling.result c.fill-filled.result e.faults (ap (λ (l : List ℕ). length l) c.rest-had.ensures) e.reads e.read_fault e.long c.after_filling.ensures
