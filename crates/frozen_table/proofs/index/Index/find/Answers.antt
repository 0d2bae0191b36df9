use Rattle.std.proofs.Common.{◌≡◌, ◌≢◌, ◌<◌, ◌-◌, ◌∙◌, ℕ, List, [], Some, rules, ap, sym, subst, arith, get_or, length, slice_get}
use Rattle.std.proofs.lemmas.List.{get_or_default}
use Rattle.dshash_core.specs.Key.{hash_of}
use Rattle.dshash_core.specs.Listing.{pairs_of}
use Rattle.frozen_table.specs.Places.{IsLast, keys_of, slot_at, slot_of}
use Rattle.frozen_table.proofs.Links.{IsWalked, entry_there, key_there, length_pairs, walk_end, walk_next}
use Rattle.frozen_table.proofs.index.Index.find.Goals as goal

pub returns-then-eq-clause-found : goal.returns-then-eq-clause-found
returns-then-eq-clause-found g c =
    let entries = c.self.inside.entries.items in
    let at = c.loop-at.at in
    let e = c.index-entry.result.now in
    let some : at ≢ 0 = grind (arith, c.loop-at-test.true) in
    let lt : at - 1 < length entries = omega (arith, some, c.loop-at.invariant.within, length_pairs entries) in
    let key : e.key ≡ c.args.key.now = search rules in
    (at - 1, subst (λ (pairs : _). slice_get pairs (at - 1) ≡ Some (c.args.key.now, e.state)) c.self.view_is (entry_there entries (at - 1) e lt c.index-entry.ensures ∙ ap (λ (k : List ℕ). Some (k, e.state)) key))

pub loop-at-preserved : goal.loop-at-preserved
loop-at-preserved g c =
    let entries = c.self.inside.entries.items in
    let keys = keys_of (pairs_of entries) in
    let nexts = c.self.inside.nexts.items in
    let slots = length c.self.inside.heads.items in
    let at = c.loop-at.at in
    let e = c.index-entry.result.now in
    let next = c.index-at-in-loop-at.result.now in
    let linked = c.self.invariant.linked in
    let some : at ≢ 0 = grind (arith, c.loop-at-test.true) in
    let low : at - 1 < length keys = omega (arith, some, c.loop-at.invariant.within) in
    let lt : at - 1 < length entries = omega (arith, low, length_pairs entries) in
    let key : get_or keys (at - 1) [] ≡ e.key = (key_there (pairs_of entries) (at - 1) e.key e.state (entry_there entries (at - 1) e lt c.index-entry.ensures)).1 in
    let differs : e.key ≢ c.args.key.now = search rules in
    let read : get_or nexts (at - 1) 0 ≡ next = get_or_default nexts (at - 1) 0 next (omega (arith, low, linked.count)) ∙ sym c.index-at-in-loop-at.ensures in
    walk_next keys slots c.slot_of-slot.result c.args.key.now at next c.loop-at.invariant some (subst (IsLast keys slots (at - 1) (slot_at keys slots (at - 1))) read (linked.befores (at - 1) low)) (λ same. differs (sym key ∙ same))

pub returns-clause-absent : goal.returns-clause-absent
returns-clause-absent g c =
    let pairs = pairs_of c.self.inside.entries.items in
    let slots = length c.self.inside.heads.items in
    let none : c.loop-at.at ≡ 0 = grind (arith, c.loop-at-test.false) in
    let many : c.len.result ≡ slots = search rules in
    let is : c.slot_of-slot.result ≡ slot_of slots (hash_of c.args.key.now) = c.slot_of-slot.ensures.is ∙ ap (λ n. slot_of n c.args.hash) many ∙ ap (slot_of slots) c.requires in
    let walked = subst (IsWalked (keys_of pairs) slots c.slot_of-slot.result c.args.key.now) none c.loop-at.invariant in
    λ place state e.
    let there = key_there pairs place c.args.key.now state (rw c.self.view_is e) in
    walk_end (keys_of pairs) slots c.slot_of-slot.result c.args.key.now walked is place there.0 there.1
