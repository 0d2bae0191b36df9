use Rattle.std.proofs.Common.{◌≡◌, ◌++◌, ◌∙◌, ◌∷◌, [], All, List, ℕ, ap, get_or, length, map, subst, sym}
use Rattle.std.proofs.lemmas.List.{map-append, take_more}
use Rattle.std.proofs.lemmas.List.Elements.{All-push}
use Rattle.key_index.specs.Order.{IsNumbered, place_of}
use Rattle.key_index.specs.declared.order.Entry.{Entry}
use Rattle.key_index.proofs.order.entries_of.Goals as goal

pub loop-place-preserved : goal.loop-place-preserved
loop-place-preserved c =
    let places = c.args.places.now in
    let old = c.loop-place.entries.items in
    let at = c.loop-place.place-index in
    let entry : Entry = record { bytes = c.bytes_from.result; place = get_or places at 0 } in
    let grown : c.push.new.self.items ≡ old ++ entry ∷ [] = c.in_ok-push.ensures.items in
    record {
      places = ap (map place_of) grown ∙ map-append place_of old (entry ∷ []) ∙ ap (λ (l : List ℕ). l ++ entry.place ∷ []) c.loop-place.invariant.places ∙ sym (take_more places at 0 c.loop-place-test.true);
      each =
          subst (λ (entries : List Entry). All (IsNumbered c.args.keys.now (length c.common_front-from.result.now)) entries) (sym grown)
          (All-push (IsNumbered c.args.keys.now (length c.common_front-from.result.now)) old entry c.loop-place.invariant.each
          (record { number = c.bytes_from.ensures.number; bytes = c.bytes_from.ensures.bytes }));
    }
