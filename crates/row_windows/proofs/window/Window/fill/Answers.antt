use Rattle.std.proofs.Common.{◌≡◌, ◌+◌, ◌∙◌, arith, refl}
use Rattle.row_windows.specs.declared.window.Found.TheVariants as found
use Rattle.row_windows.proofs.Stretches.{fills-more, lost-window}
use Rattle.row_windows.proofs.window.Window.fill.Goals as goal

pub returns-in-Ok-NoCut-read_on-clause-long : goal.returns-in-Ok-NoCut-read_on-clause-long
returns-in-Ok-NoCut-read_on-clause-long g c =
    let on = c.in-Ok-NoCut-read_on.ensures in
    let is : c.in-Ok-NoCut-read_on.field-0 ≡ found.NoCut = c.in-Ok-NoCut-read_on.field-0-is in
    let none = on.no_cut is in
    let rest = c.read_on-2.new.self.rest in
    let fills = fills-more _ _ _ c.args.self.now.rest c.longer.self.rest rest c.longer.invariant.reads (rw none.0 at on.reads) in
    λ why. record { reading = on.reading ∙ c.longer.invariant.reading; header = on.header ∙ c.longer.invariant.header; lines = none.0; reads = fills; long = record { long = omega (arith, none.1); no_cut = none.2 refl } }

pub returns-in-Err-clause-lost : goal.returns-in-Err-clause-lost
returns-in-Err-clause-lost g c = λ _. lost-window _ _ _ c.args.self.now c.longer.self.rest c.longer.goal c.longer.invariant.reads c.in-Err.ensures.lost (omega (arith, c.longer-test.true))

pub returns-in-Err-read_on-clause-lost : goal.returns-in-Err-read_on-clause-lost
returns-in-Err-read_on-clause-lost g c = λ _. lost-window _ _ _ c.args.self.now c.longer.self.rest (67108864 + 1) c.longer.invariant.reads c.in-Err-read_on.ensures.lost (omega arith)
