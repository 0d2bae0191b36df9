use Rattle.std.proofs.Common.{◌≡◌, ℕ, ◌+◌, ◌/◌, ◌≤◌, ◌<◌, ◌++◌, arith, sym, subst, ◌∙◌}
use Rattle.word_map.specs.WordMap.{HasJust}
use Rattle.dshash_core.specs.Hung.{Hung, with_chain, IsSpot, IsItemChunk}
use Rattle.dshash_core.specs.Walk.{IsTakenOut}
use Rattle.dshash_core.proofs.Views.{bucket_in, seen, spot_owned, spot_apart}
use Rattle.dshash_core.proofs.Changes.{spot_place, spot_of, positive, taken_stands, taken_seen, taken_item}
use Rattle.dshash_core.proofs.buckets.Buckets.unlink.Goals as goal

pub take_out-part-requires-clause-link : goal.take_out-part-requires-clause-link
take_out-part-requires-clause-link c =
    let b = c.self.inside in
    let l = bucket_in b c.self.invariant c.args.self.now c.self.view_is c.args.bucket c.requires.bucket in
    spot_owned b c.self.invariant c.args.bucket c.args.spot.link c.requires.spot.0 l (spot_of b c.self.invariant c.args.self.now c.self.view_is c.args.bucket c.args.spot.link c.requires.spot.0 c.requires.spot.1)

pub take_out-part-requires-clause-item : goal.take_out-part-requires-clause-item
take_out-part-requires-clause-item c =
    let b = c.self.inside in
    let room : 2 + b.key_words + b.value_words ≤ b.item_bytes / 8 = c.self.invariant.fits in
    let l = bucket_in b c.self.invariant c.args.self.now c.self.view_is c.args.bucket c.requires.bucket in
    let m = spot_place b c.self.invariant c.args.self.now c.self.view_is c.args.bucket c.args.spot.link c.args.spot.item c.requires.bucket c.requires.spot in
    (omega arith, (c.self.invariant.items c.args.bucket c.args.spot.item l m).owned)

pub take_out-part-requires-clause-apart : goal.take_out-part-requires-clause-apart
take_out-part-requires-clause-apart c =
    let b = c.self.inside in
    let l = bucket_in b c.self.invariant c.args.self.now c.self.view_is c.args.bucket c.requires.bucket in
    subst (λ (a : ℕ). a ≤ c.args.spot.link → a + b.item_bytes / 8 ≤ c.args.spot.link) c.requires.spot.2
    (spot_apart b c.self.invariant c.args.bucket c.args.spot.link c.requires.spot.0 l (spot_of b c.self.invariant c.args.self.now c.self.view_is c.args.bucket c.args.spot.link c.requires.spot.0 c.requires.spot.1))

pub invariant_of-self : goal.invariant_of-self
invariant_of-self c =
    let b = c.self.inside in
    let l = bucket_in b c.self.invariant c.args.self.now c.self.view_is c.args.bucket c.requires.bucket in
    taken_stands b c.self.invariant c.take_out-part.new.part c.take_out-part.result.words c.args.bucket c.args.spot.link c.requires.spot.0 l
    (spot_of b c.self.invariant c.args.self.now c.self.view_is c.args.bucket c.args.spot.link c.requires.spot.0 c.requires.spot.1) c.take_out-part.ensures.region
    (subst (λ (a : ℕ). IsTakenOut b.part.words c.take_out-part.new.part.words c.take_out-part.result.words c.args.spot.link a (b.item_bytes / 8)) (sym c.requires.spot.2) c.take_out-part.ensures.out)

pub invariant_of-result : goal.invariant_of-result
invariant_of-result c =
    let b = c.self.inside in
    let l = bucket_in b c.self.invariant c.args.self.now c.self.view_is c.args.bucket c.requires.bucket in
    let m = spot_place b c.self.invariant c.args.self.now c.self.view_is c.args.bucket c.args.spot.link c.args.spot.item c.requires.bucket c.requires.spot in
    record {
      valid = subst (λ (a : ℕ). 0 < a) (sym c.of.ensures) (positive b c.self.invariant c.args.bucket c.args.spot.item l m);
      whole = (c.self.invariant.items c.args.bucket c.args.spot.item l m).whole;
      just = subst (λ (a : ℕ). HasJust c.take_out-part.result.words a (b.item_bytes / 8)) (sym c.of.ensures) c.take_out-part.ensures.item.1;
    }

pub returns-clause-rest : goal.returns-clause-rest
returns-clause-rest c = λ it s e.
    let b = c.self.inside in
    let l = bucket_in b c.self.invariant c.args.self.now c.self.view_is c.args.bucket c.requires.bucket in
    let P : Hung → Type 0 = λ u. (t : IsSpot u c.args.bucket c.args.spot.link it) → seen (record b { part = c.take_out-part.new.part }) ≡ with_chain u c.args.bucket (t.before ++ t.after) in
    subst P c.self.view_is
    (λ t. taken_seen b c.self.invariant c.take_out-part.new.part c.take_out-part.result.words c.args.bucket c.args.spot.link it l t c.take_out-part.ensures.region
    (subst (λ (a : ℕ). IsTakenOut b.part.words c.take_out-part.new.part.words c.take_out-part.result.words c.args.spot.link a (b.item_bytes / 8)) (sym e) c.take_out-part.ensures.out))
    s

pub returns-clause-item : goal.returns-clause-item
returns-clause-item c = λ it s e.
    let b = c.self.inside in
    let l = bucket_in b c.self.invariant c.args.self.now c.self.view_is c.args.bucket c.requires.bucket in
    let P : Hung → Type 0 = λ u. (t : IsSpot u c.args.bucket c.args.spot.link it) → IsItemChunk it.at c.take_out-part.result.words u.layout it in
    subst (λ (a : ℕ). IsItemChunk a c.take_out-part.result.words c.args.self.now.layout it) (e ∙ sym c.of.ensures)
    (subst P c.self.view_is
    (λ t. taken_item b c.self.invariant c.take_out-part.new.part c.take_out-part.result.words c.args.bucket c.args.spot.link it l t c.take_out-part.ensures.region
    (subst (λ (a : ℕ). IsTakenOut b.part.words c.take_out-part.new.part.words c.take_out-part.result.words c.args.spot.link a (b.item_bytes / 8)) (sym e) c.take_out-part.ensures.out))
    s)
