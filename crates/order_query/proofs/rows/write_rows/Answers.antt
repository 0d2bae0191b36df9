use Rattle.std.proofs.Common.{◌<◌, ◌∙◌, ℕ, List, All, length, subst, sym, take}
use Rattle.std.specs.Io.KnownBytes.{Appends}
use Rattle.par_model.specs.Table.{table_text}
use Rattle.gather_merge.specs.Order.{ordered}
use Rattle.answer_text.proofs.Going.{all_gone, faults_rose, part_gone}
use Rattle.order_query.proofs.Ordering.{order_within}
use Rattle.order_query.proofs.rows.write_rows.Goals as goal

pub put_all-requires-clause-rows : goal.put_all-requires-clause-rows
put_all-requires-clause-rows g c =
    let Within : List ℕ → Type 0 = λ numbers. All (λ row. row < length c.args.ready.now.rows) numbers in
    λ κs bounds. subst Within (sym c.numbers.ensures) (order_within c.args.ready.now.bound c.args.ready.now.rows c.args.order.now c.requires.order)

pub returns-then-is_broken-clause-part : goal.returns-then-is_broken-clause-part
returns-then-is_broken-clause-part g c =
    let taken = g.O.Sink.taken in
    let rows = c.args.ready.now.rows in
    let Part : List ℕ → Type 0 = λ order. (n : ℕ) × Appends (taken c.args.out.now) (taken c.put_all.new.out) (take n (table_text (ordered rows order))) in
    λ _. subst Part c.numbers.ensures (part_gone taken g.O.Sink.faults c.args.out.now c.put_all.new.out c.in_ok-held.held c.put_all.new.held (table_text (ordered rows c.numbers.result.now)) c.in_ok-held.ensures.empty c.put_all.ensures.puts)

pub returns-then-is_broken-clause-write_fault : goal.returns-then-is_broken-clause-write_fault
returns-then-is_broken-clause-write_fault g c =
    λ _. faults_rose g.O.Sink.taken g.O.Sink.faults c.args.out.now c.put_all.new.out c.in_ok-held.held c.put_all.new.held (table_text (ordered c.args.ready.now.rows c.numbers.result.now)) c.in_ok-held.ensures.whole
    (sym c.is_broken.ensures ∙ c.if-is_broken.true) c.put_all.ensures.puts

pub returns-clause-rows : goal.returns-clause-rows
returns-clause-rows g c =
    let taken = g.O.Sink.taken in
    let rows = c.args.ready.now.rows in
    let fine = sym c.is_broken.ensures ∙ c.if-is_broken.false in
    let Whole : List ℕ → Type 0 = λ order. Appends (taken c.args.out.now) (taken c.put_all.new.out) (table_text (ordered rows order)) in
    subst Whole c.numbers.ensures
    (all_gone taken g.O.Sink.faults c.args.out.now c.put_all.new.out c.in_ok-held.held c.put_all.new.held (table_text (ordered rows c.numbers.result.now)) c.in_ok-held.ensures.empty fine (c.put_all.ensures.none fine) c.put_all.ensures.puts)
