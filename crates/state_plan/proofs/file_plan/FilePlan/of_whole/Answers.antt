use Rattle.std.proofs.lemmas.Result.{err_from_is_err_and}
use Rattle.state_head.specs.Head.{subject_of}
use Rattle.state_plan.proofs.Plans.{by_column, by_header, by_words}
use Rattle.state_plan.proofs.file_plan.FilePlan.of_whole.Goals as goal

pub returns-in_err-plan-clause-refused : goal.returns-in_err-plan-clause-refused
returns-in_err-plan-clause-refused c =
    let why = err_from_is_err_and c.from_residual.result c.from_residual.ensures.1 in
    rw (why.1, why.2) (by_words (subject_of c.args.whole) c.in_err-plan.field-0.0 c.in_err-plan.ensures.refused)

pub returns-in_err-header-clause-refused : goal.returns-in_err-header-clause-refused
returns-in_err-header-clause-refused c =
    let why = err_from_is_err_and c.from_residual-in_err-header.result c.from_residual-in_err-header.ensures.1 in
    rw (why.1, why.2) (by_header (subject_of c.args.whole) c.in_ok-plan.plan c.in_err-header.field-0.0 c.in_ok-plan.ensures.plan c.in_err-header.ensures.refused)

pub returns-in_default-clause-refused : goal.returns-in_default-clause-refused
returns-in_default-clause-refused c = by_column (subject_of c.args.whole) c.in_ok-plan.plan c.in_ok-header.header _ c.in_ok-plan.ensures.plan c.in_ok-header.ensures.one.0 c.in_default.ensures.name
