use Rattle.std.proofs.Common.{◌∙◌, ℕ, List, sym, subst, take}
use Rattle.std.specs.Io.KnownBytes.{Appends}
use Rattle.par_model.specs.Table.{table_text}
use Rattle.join_pairs.specs.Join.{joined_records}
use Rattle.join_pairs.specs.declared.pairs.Pair.{Pair}
use Rattle.answer_text.proofs.Going.{all_gone, faults_rose, part_gone}
use Rattle.join_query.specs.Writable.{AreWritable}
use Rattle.join_query.proofs.writing.write_joined.Goals as goal

pub put_all-requires-clause-pairs : goal.put_all-requires-clause-pairs
put_all-requires-clause-pairs g c =
    let Writable : List Pair → Type 0 = AreWritable c.args.left.now c.args.right.now in
    λ κs bounds. subst Writable (sym c.list.ensures) c.requires.pairs

pub returns-then-is_broken-clause-part : goal.returns-then-is_broken-clause-part
returns-then-is_broken-clause-part g c =
    let taken = g.O.Sink.taken in
    let Part : List Pair → Type 0 = λ pairs. (n : ℕ) × Appends (taken c.args.out.now) (taken c.put_all.new.out) (take n (table_text (joined_records c.args.left.now c.args.right.now pairs))) in
    λ _. subst Part c.list.ensures (part_gone taken g.O.Sink.faults c.args.out.now c.put_all.new.out c.in_ok-held.held c.put_all.new.held (table_text (joined_records c.args.left.now c.args.right.now c.list.result.now)) c.in_ok-held.ensures.empty c.put_all.ensures.puts)

pub returns-then-is_broken-clause-write_fault : goal.returns-then-is_broken-clause-write_fault
returns-then-is_broken-clause-write_fault g c =
    λ _. faults_rose g.O.Sink.taken g.O.Sink.faults c.args.out.now c.put_all.new.out c.in_ok-held.held c.put_all.new.held (table_text (joined_records c.args.left.now c.args.right.now c.list.result.now)) c.in_ok-held.ensures.whole
    (sym c.is_broken.ensures ∙ c.if-is_broken.true) c.put_all.ensures.puts

pub returns-clause-records : goal.returns-clause-records
returns-clause-records g c =
    let taken = g.O.Sink.taken in
    let fine = sym c.is_broken.ensures ∙ c.if-is_broken.false in
    let Whole : List Pair → Type 0 = λ pairs. Appends (taken c.args.out.now) (taken c.put_all.new.out) (table_text (joined_records c.args.left.now c.args.right.now pairs)) in
    subst Whole c.list.ensures
    (all_gone taken g.O.Sink.faults c.args.out.now c.put_all.new.out c.in_ok-held.held c.put_all.new.held (table_text (joined_records c.args.left.now c.args.right.now c.list.result.now)) c.in_ok-held.ensures.empty fine (c.put_all.ensures.none fine) c.put_all.ensures.puts)
