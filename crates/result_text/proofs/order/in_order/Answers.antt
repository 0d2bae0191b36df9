use Rattle.std.proofs.Common.{◌≡◌, ◌<◌, ◌∙◌, All, List, ap, get_or, length, map, rules, subst, sym}
use Rattle.std.proofs.lemmas.Fn.{always_returns_same}
use Rattle.std.proofs.lemmas.List.Sorted.{All-permutation, IsPermutation-map, IsPermutation-refl, ranks_by}
use Rattle.std.specs.List.Sorted.{IsPermutation, IsStrictlySortedBy}
use Rattle.partial_agg.specs.Groups.{key_cmp}
use Rattle.partial_agg.specs.declared.groups.Group.{Group}
use Rattle.result_text.specs.KeyColumns.{columns_in, lengths_in}
use Rattle.result_text.specs.GroupOrder.{group_of, is_before}
use Rattle.result_text.specs.declared.order.GroupRef.{GroupRef}
use Rattle.result_text.proofs.Columns.{columns_total}
use Rattle.result_text.proofs.Even.{in_order as even_order, keys-refs}
use Rattle.result_text.proofs.KeyColumns.{encoded-columns_in}
use Rattle.result_text.proofs.Sorting.{IsRead, all_refs}
use Rattle.result_text.proofs.order.in_order.Goals as goal

pub returns-clause-same : goal.returns-clause-same
returns-clause-same c = rw c.in_ok-refs.ensures.same at (IsPermutation-map (group_of c.args.groups.now) _ _ c.sort_unstable_by.ensures.permutation)

pub returns-clause-sorted : goal.returns-clause-sorted
returns-clause-sorted c = c.sort_unstable_by.ensures.sorted (is_before c.args.columns) (ranks_by columns_total (λ (group : GroupRef). columns_in c.args.columns group.key.now)) (always_returns_same _ _ _ (λ a r f k. search rules))

pub returns-clause-within : goal.returns-clause-within
returns-clause-within c = All-permutation (λ (r : GroupRef). r.at < length c.args.groups.now) _ _ c.sort_unstable_by.ensures.permutation c.in_ok-refs.ensures.within

pub returns-then-are_alike-clause-sorted : goal.returns-then-are_alike-clause-sorted
returns-then-are_alike-clause-sorted c =
    let groups = c.args.groups.now in
    let refs = c.in_ok-refs.refs.items in
    let same = c.in_ok-refs.ensures.same in
    let rise : IsStrictlySortedBy key_cmp (map (λ (r : GroupRef). r.key.now) refs) = subst (IsStrictlySortedBy key_cmp) (ap (map (λ (g : Group). g.key)) (sym same) ∙ keys-refs groups refs) c.keys_rise.ensures in
    let read : All (IsRead c.args.columns) groups = λ k d lt. encoded-columns_in c.args.columns (get_or groups k d).key (c.requires k d lt) (c.in_ok-refs.ensures.short k d lt) in
    let lie : IsPermutation groups (map (group_of groups) refs) = subst (IsPermutation groups) (sym same) (IsPermutation-refl groups) in
    let alike = c.if-are_alike.ensures in
    even_order c.args.columns groups refs alike.0 rise (all_refs (IsRead c.args.columns) groups refs lie read)
    (subst (λ (refs : List GroupRef). All (λ (r : GroupRef). lengths_in c.args.columns r.key.now ≡ alike.0) refs) c.deref.ensures.value alike.1)
