use Rattle.std.proofs.Common.{◌≡◌, ℕ, List, length, subst}
use Rattle.std.specs.Prelude.{IfErr, IfOk}
use Rattle.state_plan.specs.FilePlans.{IsNoHeader}
use Rattle.state_plan.proofs.Plans.{comma_records}
use Rattle.state_plan.proofs.file_plan.header_of.Goals as goal

pub returns-clause-one : goal.returns-clause-one
returns-clause-one c =
    let same = comma_records c.args.plan.now.reading c.reading-reading.result.now c.args.bytes.now c.in_ok-text.text.items c.as_slice.result.now c.reading-reading.ensures.value c.reading-reading.ensures.separator c.in_ok-text.ensures c.as_slice.ensures.value in
    subst (λ (t : List (List (List ℕ))). IfOk c.one_record.result (λ header. (header ≡ t) × (length header ≡ 1))) same c.one_record.ensures.one

pub returns-clause-refused : goal.returns-clause-refused
returns-clause-refused c =
    let same = comma_records c.args.plan.now.reading c.reading-reading.result.now c.args.bytes.now c.in_ok-text.text.items c.as_slice.result.now c.reading-reading.ensures.value c.reading-reading.ensures.separator c.in_ok-text.ensures c.as_slice.ensures.value in
    subst (λ (t : List (List (List ℕ))). IfErr c.one_record.result (IsNoHeader t)) same c.one_record.ensures.refused
