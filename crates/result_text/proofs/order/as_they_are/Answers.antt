use Rattle.std.proofs.Common.{◌≡◌, ◌∙◌, ◌<◌, ◌≤◌, ◌+◌, ◌++◌, ◌∷◌, [], Some, ap, sym, subst, arith, length, ℕ, All, List, map, take, get_or}
use Rattle.std.proofs.lemmas.List.{get_or-map, map-append, take_more}
use Rattle.std.proofs.lemmas.List.Elements.{All-more, All-push}
use Rattle.std.proofs.lemmas.Option.{get_or_from_slice_get}
use Rattle.std.specs.List.{slice_get}
use Rattle.partial_agg.specs.State.{empty_state}
use Rattle.partial_agg.specs.declared.groups.Group.{Group}
use Rattle.result_text.specs.GroupOrder.{group_of}
use Rattle.result_text.specs.declared.order.GroupRef.{GroupRef}
use Rattle.result_text.proofs.order.as_they_are.Goals as goal

abbrev no_group : Group
no_group = record { key = []; state = empty_state }

-- the key of a group of the list
its_key : (groups : List Group) (at : ℕ) (key : List ℕ) → at < length groups → slice_get (map (λ (g : Group). g.key) groups) at ≡ Some key → (get_or groups at no_group).key ≡ key
its_key groups at key lt is = sym (get_or-map (λ (g : Group). g.key) groups at no_group [] lt) ∙ get_or_from_slice_get (map (λ (g : Group). g.key) groups) at key [] is

-- one group more
group-more : (so_far groups : List Group) (at : ℕ) (key : List ℕ) → at < length groups → slice_get (map (λ (g : Group). g.key) groups) at ≡ Some key → so_far ≡ take at groups
    → so_far ++ record { key = key; state = get_or (map (λ (g : Group). g.state) groups) at empty_state } ∷ [] ≡ take (at + 1) groups
group-more so_far groups at key lt key_is is =
    let its = its_key groups at key lt key_is in
    let state = get_or-map (λ (g : Group). g.state) groups at no_group empty_state lt in
    (λ i. is i ++ record { key = sym its i; state = state i } ∷ []) ∙ sym (take_more groups at no_group lt)

pub loop-at-preserved : goal.loop-at-preserved
loop-at-preserved c =
    let groups = c.args.groups.now in
    let lt : c.loop-at.at < length groups = omega (arith, c.loop-at-test.true, c.len-at-end.ensures) in
    let its = its_key groups c.loop-at.at c.key.result.now lt c.key.ensures.key in
    record {
      same = ap (map (group_of groups)) c.in_ok-push.ensures.items ∙ map-append (group_of groups) c.loop-at.refs.items _ ∙ group-more _ groups c.loop-at.at c.key.result.now lt c.key.ensures.key c.loop-at.invariant.same;
      within = subst (λ (refs : List GroupRef). All (λ (r : GroupRef). r.at < length groups) refs) (sym c.in_ok-push.ensures.items) (All-push (λ (r : GroupRef). r.at < length groups) c.loop-at.refs.items _ c.loop-at.invariant.within lt);
      short = All-more (λ (g : Group). length g.key ≤ 248) groups c.loop-at.at no_group lt c.loop-at.invariant.short (subst (λ (key : List ℕ). length key ≤ 248) (sym its) c.key.ensures.fits);
    }
