use Rattle.std.proofs.Common.{◌≡◌, ◌<◌, ◌++◌, sym, subst, All, ℕ, List, length, map}
use Rattle.std.proofs.lemmas.Result.{IfOk-weaker}
use Rattle.std.specs.List.Sorted.{IsSortedBy}
use Rattle.par_model.specs.Table.{table_text}
use Rattle.result_text.specs.GroupOrder.{is_before, line_of}
use Rattle.partial_agg.specs.declared.groups.Group.{Group}
use Rattle.result_text.specs.Printable.{IsKeyOf}
use Rattle.result_text.specs.Text.{line_record, shown}
use Rattle.result_text.specs.Written.{written}
use Rattle.result_text.specs.declared.order.GroupRef.{GroupRef}
use Rattle.result_text.proofs.Answering.{answers}
use Rattle.result_text.proofs.Whole.{written_text}
use Rattle.result_text.proofs.text_of.Goals as goal

pub write_groups-requires-clause-within : goal.write_groups-requires-clause-within
write_groups-requires-clause-within c =
    subst (λ (refs : List GroupRef). All (λ (r : GroupRef). r.at < length c.args.groups.now) refs) (sym c.deref.ensures.value) c.in_ok-refs.ensures.within

pub returns-clause-text : goal.returns-clause-text
returns-clause-text c =
    let plan = c.args.bound.now in
    let refs = c.in_ok-refs.refs.items in
    let count = c.group_count.ensures.count in
    let wrote = subst (λ (rs : List GroupRef). written c.write_groups.new.self.writer ≡ written c.write_header.new.self.writer ++ table_text (map (line_record plan) (shown plan (map (line_of (length plan.groups) c.args.groups.now) rs)))) c.deref.ensures.value c.in_ok-write_groups.ensures.text in
    let sorted = subst (λ (n : ℕ). IsSortedBy (is_before n) refs) count c.in_ok-refs.ensures.sorted in
    IfOk-weaker c.into_text.result _ _ (λ text is. written_text c.args.plan.now.plan plan c.args.groups.now refs _ _ _ text.items c.requires.printable c.in_ok-refs.ensures.short c.in_ok-refs.ensures.same sorted
    c.new-table.ensures.empty c.in_ok-write_header.ensures.text wrote is) c.into_text.ensures

pub returns-clause-answer : goal.returns-clause-answer
returns-clause-answer c =
    let plan = c.args.bound.now in
    let few = c.group_count.ensures.items in
    IfOk-weaker c.into_text.result _ _ (λ text is header rows m bound are listed. answers c.args.plan.now.plan plan c.args.groups.now text.items header rows m is c.in_ok-refs.ensures.short few bound are listed) (returns-clause-text c)

pub in_order-requires : goal.in_order-requires
in_order-requires c =
    let plan = c.args.bound.now in
    let groups = c.args.groups.now in
    let count = c.group_count.ensures.count in
    subst (λ (n : ℕ). All (λ (g : Group). IsKeyOf n g.key) groups) (sym count) c.requires.printable.keys
