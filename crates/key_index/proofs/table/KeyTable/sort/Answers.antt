use Rattle.std.proofs.Common.{◌≡◌, ◌∙◌, ◌++◌, ◌+◌, [], List, ℕ, ap, ap₂, arith, drop, length, map, rules, subst, sym, take}
use Rattle.std.proofs.lemmas.Fn.{always_returns_same}
use Rattle.std.proofs.lemmas.List.{append-nil, drop_all, get_or-map, length-map, take_all}
use Rattle.std.proofs.lemmas.Simd.{map-map}
use Rattle.std.proofs.lemmas.List.Sorted.{length_permutation}
use Rattle.std.specs.Cmp.Lexicographic.{nat_list_cmp_total}
use Rattle.std.specs.List.Sorted.{IsSorted}
use Rattle.std.specs.Ordering.{is_lt}
use Rattle.key_index.specs.Keys.{key_at, key_cmp}
use Rattle.key_index.specs.Order.{key_of, place_of}
use Rattle.key_index.specs.declared.order.Entry.{Entry}
use Rattle.key_index.proofs.Ordered.{ranks_by}
use Rattle.key_index.proofs.table.KeyTable.sort.Goals as goal

-- the keys of the places that were written over others
written_keys : (keys : List (List ℕ)) (entries : List Entry) (places old : List ℕ) (len : ℕ) → places ≡ map place_of entries → length places ≡ length old → length old ≡ len
    → map (key_of keys) entries ≡ map (key_at keys) (take len (places ++ drop (length places) old))
written_keys keys entries places old len e many whole =
    let rest : drop (length places) old ≡ [] = drop_all (length places) old (omega arith) in
    let all : take len (places ++ drop (length places) old) ≡ places =
    ap (λ (l : List ℕ). take len (places ++ l)) rest ∙ ap (take len) (append-nil places) ∙ take_all len places (omega arith) in
    sym (ap (map (key_at keys)) (all ∙ e) ∙ map-map (key_at keys) place_of entries)

pub write_places-requires : goal.write_places-requires
write_places-requires c =
    omega (arith, length_permutation _ _ c.in-Ok.ensures.permutation, length-map c.in-Ok.entries.items place_of, ap length c.deref.ensures.value, ap length c.deref-in-Ok.ensures.value, ap length c.deref_mut.ensures.value)

pub returns-in-Ok-clause-sorted : goal.returns-in-Ok-clause-sorted
returns-in-Ok-clause-sorted c =
    let entries = c.in-Ok.entries.items in
    let places = c.args.places.now in
    let written : c.write_places.new.places ≡ map place_of entries = c.write_places.ensures ∙ ap (map place_of) c.deref-in-Ok.ensures.value in
    let many : length c.write_places.new.places ≡ length places.items = omega (arith, length_permutation _ _ c.in-Ok.ensures.permutation, ap length c.deref.ensures.value, ap length written) in
    subst (IsSorted key_cmp) (written_keys c.args.self.now entries c.write_places.new.places places.items places.len written many (omega (arith, places.ok)))
    (subst (λ (keys : List (List ℕ)). IsSorted key_cmp (map (key_of keys) entries)) c.self.view_is c.in-Ok.ensures.sorted)

pub returns-in-Err-clause-sorted : goal.returns-in-Err-clause-sorted
returns-in-Err-clause-sorted c = λ k d _ lt.
    let key = key_at c.args.self.now in
    let sorted = c.sort_unstable_by.ensures.sorted (λ a b. is_lt (key_cmp (key a) (key b))) (ranks_by nat_list_cmp_total key) (always_returns_same _ (λ a r. is_lt r ≡ is_lt (key_cmp (key a.0.now) (key a.1.0.now))) _ (λ a r f' k. search rules)) in
    let places = c.sort_unstable_by.new.self.items in
    let long = length-map places key in
    ap₂ (λ x y. is_lt (key_cmp x y)) (get_or-map key places (k + 1) 0 d (omega (arith, lt, long))) (get_or-map key places k 0 d (omega (arith, lt, long))) ∙ sorted k 0 (omega arith) (omega (arith, lt, long))
