use Rattle.std.proofs.Common.{IfOk, subst, sym}
use Rattle.par_stream.specs.Answers.{AnswersGathered}
use Rattle.stream_groups.specs.Gathering.{AreGathered}
use Rattle.stream_groups.specs.declared.gathered.Gathered.{Gathered}
use Rattle.par_stream.proofs.output.text_of.Goals as goal

pub near_text-requires-clause-rows : goal.near_text-requires-clause-rows
near_text-requires-clause-rows g c κs within = subst (AreGathered c.args.bound.now) c.in-Near.is c.requires.rows

pub parts_text-requires-clause-rows : goal.parts_text-requires-clause-rows
parts_text-requires-clause-rows g c κs within = subst (AreGathered c.args.bound.now) c.in-Parted.is c.requires.rows

pub returns-in-Near : goal.returns-in-Near
returns-in-Near g c = subst (λ (old : Gathered). IfOk c.near_text.result (λ pieces. AnswersGathered c.args.plan.now.plan c.args.bound.now old pieces.items)) (sym c.in-Near.is) c.near_text.ensures

pub returns-in-Parted : goal.returns-in-Parted
returns-in-Parted g c = subst (λ (old : Gathered). IfOk c.parts_text.result (λ pieces. AnswersGathered c.args.plan.now.plan c.args.bound.now old pieces.items)) (sym c.in-Parted.is) c.parts_text.ensures
