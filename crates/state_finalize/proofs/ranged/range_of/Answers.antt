use Rattle.std.proofs.Common.{length}
use Rattle.result_text.specs.Pieces.{joined}
use Rattle.state_head.specs.Words.{keys_of}
use Rattle.state_finalize.proofs.Printing.{printable}
use Rattle.state_finalize.proofs.Within.{not_small, text_within}
use Rattle.state_finalize.proofs.ranged.range_of.Goals as goal

pub returns-then-not-are_small-clause-refused : goal.returns-then-not-are_small-clause-refused
returns-then-not-are_small-clause-refused c = λ m are.
    not_small (length c.args.bound.now.groups) (keys_of c.args.range) m c.args.map c.into_groups-groups.result c.into_groups-groups.ensures are (c.are_small.ensures.not_small c.if-not-are_small.true)

pub text_within-requires-clause-printable : goal.text_within-requires-clause-printable
text_within-requires-clause-printable c =
    printable c.args.bound.now c.args.map c.into_groups-groups.result c.into_groups-groups.ensures c.requires.keys (c.are_small.ensures.small c.if-not-are_small.false)

pub returns-in-Ok-one_piece-clause-text : goal.returns-in-Ok-one_piece-clause-text
returns-in-Ok-one_piece-clause-text c = λ m are.
    text_within c.args.plan.now.plan c.args.bound.now (keys_of c.args.range) m c.args.map c.into_groups-groups.result c.in-Ok.text.items (joined c.in-Ok-one_piece.pieces.items) c.into_groups-groups.ensures are c.in-Ok.ensures c.in-Ok-one_piece.ensures
