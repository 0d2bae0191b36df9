use Rattle.std.proofs.Common.{◌≡◌, ◌<◌, ◌+◌, ◌∙◌, ◌++◌, ◌∷◌, ℕ, List, [], rules, ap, sym, subst, arith, get_or, length, set}
use Rattle.std.proofs.lemmas.List.{get_or_default, length-set}
use Rattle.dshash_core.specs.Key.{hash_of}
use Rattle.dshash_core.specs.Listing.{pairs_of}
use Rattle.frozen_table.specs.Places.{AreLinked, keys_of, slot_at, slot_of}
use Rattle.frozen_table.proofs.Links.{entry_there, key_there, linked_more}
use Rattle.frozen_table.proofs.index.link_all.Goals as goal

pub loop-place-preserved : goal.loop-place-preserved
loop-place-preserved g c =
    let entries = c.args.entries.now.items in
    let keys = keys_of (pairs_of entries) in
    let heads = c.loop-place.heads.items in
    let nexts = c.loop-place.nexts.items in
    let place = c.loop-place.place in
    let slot = c.slot_of-slot.result in
    let e = c.index.result.now in
    let size : c.len-slots.result ≡ length c.args.heads.now.items = search rules in
    let many : c.len-slots.result ≡ length heads = size ∙ sym c.loop-place.invariant.same in
    let lt : place < length entries = omega (arith, c.loop-place-test.true, c.len-place-end.ensures) in
    let key : get_or keys place [] ≡ e.key = (key_there (pairs_of entries) place e.key e.state (entry_there entries place e lt c.index.ensures)).1 in
    let hash : c.hash_key.result ≡ hash_of (get_or keys place []) = c.hash_key.ensures ∙ ap hash_of (c.words.ensures ∙ sym key) in
    let is : slot ≡ slot_at keys (length heads) place = c.slot_of-slot.ensures.is ∙ ap (λ n. slot_of n c.hash_key.result) many ∙ ap (slot_of (length heads)) hash in
    let low : slot < length heads = omega (arith, c.slot_of-slot.ensures.within, many) in
    let head : c.index-in-loop-place.result.now ≡ get_or heads slot 0 = c.index-in-loop-place.ensures ∙ sym (get_or_default heads slot 0 c.index-in-loop-place.result.now low) in
    let pushed : c.push.new.self.items ≡ nexts ++ get_or heads slot 0 ∷ [] = c.in_ok-push.ensures.items ∙ ap (λ (h : ℕ). nexts ++ h ∷ []) head in
    record {
      same = length-set heads slot (place + 1) ∙ c.loop-place.invariant.same;
      linked = subst (λ (list : List ℕ). AreLinked keys (set heads slot (place + 1)) list (place + 1)) (sym pushed) (linked_more keys heads nexts place slot c.loop-place.invariant.linked is low);
    }
