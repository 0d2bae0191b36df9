use Rattle.std.proofs.Common.{ℕ, List, arith, refl, subst}
use Rattle.std.proofs.lemmas.List.{take_all}
use Rattle.csv.specs.Reading.{strip_bom}
use Rattle.row_windows.specs.Seams.{NoCut}
use Rattle.row_windows.proofs.Cuts.{cut-longer}
use Rattle.row_windows.proofs.cut.cut_in.Goals as goal

pub returns-in-Some-clause-cut : goal.returns-in-Some-clause-cut
returns-in-Some-clause-cut c = cut-longer c.args.bytes.now _ c.first_cut.result c.first_cut.ensures

pub returns-in-None-clause-none : goal.returns-in-None-clause-none
returns-in-None-clause-none c = λ is few. subst (λ (text : List ℕ). NoCut (strip_bom text)) (take_all _ c.args.bytes.now (omega (arith, few, c.min.ensures))) (c.in-None.ensures.none refl)
