use Rattle.std.proofs.Common.{List, subst}
use Rattle.partial_agg.specs.declared.groups.Group.{Group}
use Rattle.result_text.specs.Pieces.{joined}
use Rattle.result_text.specs.Text.{IsTextOf}
use Rattle.state_finalize.specs.Finished.{HaveSmallSlots}
use Rattle.state_finalize.proofs.Printing.{printable}
use Rattle.state_finalize.proofs.finishing.table_of.Goals as goal

pub returns-then-not-are_small-clause-refused : goal.returns-then-not-are_small-clause-refused
returns-then-not-are_small-clause-refused g c = subst (λ (gs : List Group). HaveSmallSlots gs → ⊥) c.into_groups-groups.ensures (c.are_small.ensures.not_small c.if-not-are_small.true)

pub text_in_threads-requires-clause-printable : goal.text_in_threads-requires-clause-printable
text_in_threads-requires-clause-printable g c = λ κs within.
    printable c.args.bound.now c.args.map c.into_groups-groups.result c.into_groups-groups.ensures c.requires.keys (c.are_small.ensures.small c.if-not-are_small.false)

pub returns-in-Ok-clause-text : goal.returns-in-Ok-clause-text
returns-in-Ok-clause-text g c = subst (λ (gs : List Group). IsTextOf c.args.plan.now.plan c.args.bound.now gs (joined c.in-Ok.text.items)) c.into_groups-groups.ensures c.in-Ok.ensures.text
