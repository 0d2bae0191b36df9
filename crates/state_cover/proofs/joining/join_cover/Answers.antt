use Rattle.std.proofs.Common.{All, List, rules, subst, sym}
use Rattle.std.specs.List.Sorted.{IsPermutation}
use Rattle.std.proofs.lemmas.List.Sorted.{All-permutation, answers_always}
use Rattle.state_cover.proofs.Settled.{had_as, once_of, refused_of, sorted_by}
use Rattle.state_cover.proofs.joining.join_cover.Goals as goal
use Rattle.state_head.specs.Cover.{IsStretch}
use Rattle.state_head.specs.declared.cover.Stretch.{Stretch}

pub settle-requires-clause-each : goal.settle-requires-clause-each
settle-requires-clause-each c =
    subst (λ (ss : List Stretch). All (IsStretch c.args.sources) ss) (sym c.as_slice.ensures.value) (All-permutation (IsStretch c.args.sources) _ _ c.sort_unstable_by_key.ensures.permutation c.requires)

pub settle-requires-clause-sorted : goal.settle-requires-clause-sorted
settle-requires-clause-sorted c =
    sorted_by _ _ c.as_slice.ensures.value (c.sort_unstable_by_key.ensures.sorted (λ (s : Stretch). (s.place.source, s.place.from)) (answers_always _ _ _ (λ f a r g h. search rules)))

pub returns-clause-bytes : goal.returns-clause-bytes
returns-clause-bytes c =
    let moved = subst (λ (ss : List Stretch). IsPermutation c.args.stretches.now.items ss) (sym c.as_slice.ensures.value) c.sort_unstable_by_key.ensures.permutation in
    had_as c.settle.result (λ v. v.items) c.args.stretches.now.items c.as_slice.result.now moved c.settle.ensures.bytes

pub returns-clause-once : goal.returns-clause-once
returns-clause-once c =
    let moved = subst (λ (ss : List Stretch). IsPermutation c.args.stretches.now.items ss) (sym c.as_slice.ensures.value) c.sort_unstable_by_key.ensures.permutation in
    once_of c.settle.result (λ v. v.items) c.args.sources c.args.stretches.now.items c.as_slice.result.now moved c.settle.ensures.cover c.settle.ensures.bytes

pub returns-clause-refused : goal.returns-clause-refused
returns-clause-refused c =
    let moved = subst (λ (ss : List Stretch). IsPermutation c.args.stretches.now.items ss) (sym c.as_slice.ensures.value) c.sort_unstable_by_key.ensures.permutation in
    refused_of c.settle.result c.args.stretches.now.items c.as_slice.result.now moved c.settle.ensures.refused
