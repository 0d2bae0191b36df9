use Rattle.std.proofs.Common.{◌≡◌, List, ℕ, map, rules, subst}
use Rattle.std.proofs.lemmas.Fn.{always_returns_same}
use Rattle.std.proofs.lemmas.List.Sorted.{IsPermutation-map}
use Rattle.std.specs.Cmp.Lexicographic.{nat_list_cmp_total}
use Rattle.std.specs.List.Sorted.{IsPermutation}
use Rattle.std.specs.Ordering.{is_lt}
use Rattle.key_index.specs.Keys.{key_cmp}
use Rattle.key_index.specs.Order.{place_of}
use Rattle.key_index.proofs.Numbered.{numbered_key, sorted_keys}
use Rattle.key_index.proofs.Ordered.{ranks_by}
use Rattle.key_index.proofs.order.in_order.Goals as goal

pub returns-clause-permutation : goal.returns-clause-permutation
returns-clause-permutation c =
    subst (λ (places : List ℕ). IsPermutation places (map place_of c.sort_unstable_by.new.self.items)) c.in_ok-entries.ensures.places
    (IsPermutation-map place_of c.in_ok-entries.entries.items c.sort_unstable_by.new.self.items c.sort_unstable_by.ensures.permutation)

pub returns-clause-sorted : goal.returns-clause-sorted
returns-clause-sorted c =
    let key = numbered_key c.args.keys.now in
    sorted_keys c.args.keys.now c.in_ok-entries.entries.items c.sort_unstable_by.new.self.items c.in_ok-entries.ensures.numbers c.sort_unstable_by.ensures.permutation
    (c.sort_unstable_by.ensures.sorted (λ a b. is_lt (key_cmp (key a) (key b))) (ranks_by nat_list_cmp_total key)
    (always_returns_same _ (λ a r. is_lt r ≡ is_lt (key_cmp (key a.0.now) (key a.1.0.now))) _ (λ a r f' k. search rules)))
