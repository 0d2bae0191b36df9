use Rattle.std.proofs.Common.{◌≡◌, ◌<◌, ◌≤◌, ◌++◌, ◌∷◌, ◌∙◌, [], ℕ, All, List, ap, sym, subst, arith, drop, get_or, length, refl, rules, take}
use Rattle.std.proofs.lemmas.List.{get_or-map}
use Rattle.std.proofs.lemmas.List.Elements.{All-replicate}
use Rattle.csv.specs.Writing.{default_writer, row_text}
use Rattle.csv.specs.Records.{cut_from}
use Rattle.csv_rows.proofs.Groups.{covers-none}
use Rattle.par_model.specs.Aggregate.{no_values}
use Rattle.par_model.specs.Table.{values_text}
use Rattle.par_model.specs.declared.plan.Item.{Item}
use Rattle.par_model.specs.declared.state.AggState.{AggState}
use Rattle.par_model.specs.declared.state.SlotState.{SlotState}
use Rattle.partial_agg.specs.Listed.{state_at}
use Rattle.partial_agg.specs.State.{empty_state}
use Rattle.partial_agg.specs.declared.groups.Group.{Group}
use Rattle.result_text.specs.KeyColumns.{columns_in}
use Rattle.result_text.specs.GroupOrder.{group_of, state_in}
use Rattle.result_text.specs.Printable.{IsSmallSlot}
use Rattle.result_text.specs.declared.order.GroupRef.{GroupRef}
use Rattle.result_text.proofs.Fronts.{front-small, values-front}
use Rattle.result_text.proofs.Small.{none_small}
use Rattle.line_runs.specs.Entries.{entry_bytes}
use Rattle.line_runs.proofs.Entries.{bytes_of, one_more, run_is}
use Rattle.line_runs.proofs.run.Run.of_groups.Goals as goal

abbrev no_ref : GroupRef
no_ref = record { key = record { ref_ptr = (0, 0); now = [] }; at = 0 }

abbrev no_group : Group
no_group = record { key = []; state = empty_state }

-- the aggregates of a group of the list are small if those of all are
small_state : (groups : List Group) (at : ℕ) → All (λ (g : Group). All IsSmallSlot g.state.slots) groups → at < length groups → All IsSmallSlot (state_at groups at).slots
small_state groups at small lt = subst (λ (s : AggState). All IsSmallSlot s.slots) (sym (get_or-map (λ (g : Group). g.state) groups at no_group empty_state lt)) (small at no_group lt)

-- the group of a turn is one of the list
within_lent : (groups lent : List Group) (refs : List GroupRef) (k : ℕ) → lent ≡ groups → All (λ (r : GroupRef). r.at < length groups) refs → k < length refs → (get_or refs k no_ref).at < length lent
within_lent groups lent refs k same within lt = subst (λ (gs : List Group). (get_or refs k no_ref).at < length gs) (sym same) (within k no_ref lt)

-- what was read of it over small slots is small
small_read : (groups lent : List Group) (refs : List GroupRef) (k n : ℕ) (read old : List SlotState) → lent ≡ groups → All (λ (g : Group). All IsSmallSlot g.state.slots) groups → All (λ (r : GroupRef). r.at < length groups) refs → k < length refs
    → take n read ≡ take n (state_at lent (get_or refs k no_ref).at).slots → drop n read ≡ drop n old → All IsSmallSlot old → All IsSmallSlot read
small_read groups lent refs k n read old same small within lt front rest others =
    let ref : GroupRef = get_or refs k no_ref in
    let all = subst (λ (gs : List Group). All (λ (g : Group). All IsSmallSlot g.state.slots) gs) (sym same) small in
    front-small n read (state_at lent ref.at).slots old front rest (small_state lent ref.at all (within_lent groups lent refs k same within lt)) others

pub read_state-requires-clause-place : goal.read_state-requires-clause-place
read_state-requires-clause-place c = within_lent c.args.groups.now c.lent-lent.result c.args.refs.now c.loop-group.group-index c.lent-lent.ensures c.requires.within c.loop-group-test.true

pub read_state-requires-clause-few : goal.read_state-requires-clause-few
read_state-requires-clause-few c = c.items.ensures.few

pub push_entry-requires-clause-small : goal.push_entry-requires-clause-small
push_entry-requires-clause-small c =
    small_read c.args.groups.now c.lent-lent.result c.args.refs.now c.loop-group.group-index (length c.items.result.now) c.read_state.new.state.slots c.loop-group.state.slots c.lent-lent.ensures c.requires.small c.requires.within c.loop-group-test.true
    c.read_state.ensures.front c.read_state.ensures.rest c.loop-group.invariant.small

pub push_entry-requires-clause-short : goal.push_entry-requires-clause-short
push_entry-requires-clause-short c = c.requires.short c.loop-group.group-index no_ref c.loop-group-test.true

pub loop-group-init : goal.loop-group-init
unfolding cut_from
loop-group-init c = record {
  small = subst (λ (s : AggState). All IsSmallSlot s.slots) (sym c.empty-state.ensures.zeros) (All-replicate IsSmallSlot 8 no_values none_small);
  have = record {
    covers = rw (c.in_ok-bytes.ensures.items, c.in_ok-ends.ensures.items) covers-none;
    entries = rw (c.in_ok-bytes.ensures.items, c.in_ok-ends.ensures.items) refl;
  };
}

pub loop-group-preserved : goal.loop-group-preserved
loop-group-preserved c =
    let plan = c.args.bound.now in
    let lent = c.lent-lent.result in
    let ref : GroupRef = get_or c.args.refs.now c.loop-group.group-index no_ref in
    let columns = columns_in (length plan.groups) ref.key.now in
    let few : length plan.items ≤ length c.items.result.now = omega (arith, ap (length {A = Item}) c.items.ensures.items) in
    let values = values-front plan (length c.items.result.now) c.read_state.new.state (state_at lent ref.at) few c.read_state.ensures.rows c.read_state.ensures.front in
    let its : state_at lent ref.at ≡ state_in c.args.groups.now ref = ap (λ (gs : List Group). state_at gs ref.at) c.lent-lent.ensures in
    let size : c.len.result ≡ length c.push_entry.new.bytes.items = search rules in
    let own : entry_bytes plan ref.key.now c.read_state.new.state ≡ bytes_of plan (group_of c.args.groups.now ref) =
    ap (λ (vs : List (List ℕ)). length ref.key.now ∷ (ref.key.now ++ row_text default_writer (columns ++ vs))) (values ∙ ap (values_text plan) its) in
    record {
      small =
          small_read c.args.groups.now lent c.args.refs.now c.loop-group.group-index (length c.items.result.now) c.read_state.new.state.slots c.loop-group.state.slots c.lent-lent.ensures c.requires.small c.requires.within c.loop-group-test.true
          c.read_state.ensures.front c.read_state.ensures.rest c.loop-group.invariant.small;
      have = one_more plan c.args.groups.now c.args.refs.now c.loop-group.group-index c.len.result no_ref c.loop-group.bytes.items c.loop-group.ends.items _ _ c.loop-group-test.true c.loop-group.invariant.have
          (c.in_ok-push_entry.ensures ∙ ap (λ (t : List ℕ). c.loop-group.bytes.items ++ t) own) size c.in_ok-push.ensures.items;
    }

pub of-requires : goal.of-requires
of-requires c = c.loop-group.invariant.have.covers

pub returns : goal.returns
returns c = c.of.ensures ∙ run_is c.args.bound.now c.args.groups.now c.args.refs.now c.loop-group.bytes.items c.loop-group.ends.items c.loop-group.group-index c.loop-group-test.false c.loop-group.invariant.have.entries
