use Rattle.std.proofs.Common.{[], ap}
use Rattle.std.specs.FinMap as finite
use Rattle.state_head.specs.Head.{subject_of}
use Rattle.state_head.specs.Words.{keys_of}
use Rattle.state_source.proofs.Nowhere.{none_added, none_of_any}
use Rattle.state_whole.specs.declared.adding.Kept.{Kept}
use Rattle.state_source.proofs.beside.none_left.Goals as goal

pub returns-in-Ok-eq0-clause-none : goal.returns-in-Ok-eq0-clause-none
returns-in-Ok-eq0-clause-none c =
    none_added c.args.shape.now (subject_of c.args.query.whole) (keys_of c.args.query.range) c.args.bytes.now finite.empty [] c.add_files.new.sum c.in-Ok-eq0.field-0 c.in-Ok-eq0.field-0-test
    (c.in-Ok-eq0.ensures.added finite.empty [] c.new-none.ensures.none)

pub returns-clause-refused : goal.returns-clause-refused
returns-clause-refused c = λ m. c.in-Err.ensures.refused m [] (none_of_any m c.new-none.result 45 [] (ap (λ (k : Kept). keys_of k.range) c.new-none.ensures.kept) c.new-none.ensures.none)
