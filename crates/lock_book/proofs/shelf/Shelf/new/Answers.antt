use contract.BorrowLft.{⊑_meet, ⊑_static}
use Rattle.std.proofs.Common.{rules, ◌≡◌, ◌*◌, ◌∙◌, ap, refl, length, ◌<◌}
use Rattle.std.proofs.lemmas.Grind.{common_steps}
use Rattle.lock_book.proofs.Opening.{opens_rule, map_length, zeros_length}
use Rattle.lock_book.proofs.shelf.Shelf.new.Goals as goal

pub new-requires : goal.new-requires
new-requires g c =
    let K = g.T.Kept in
    let n : length c.args.values.items ≡ c.len-count.result = (let e = c.len-count.ensures in search (rules, common_steps)) in
    let some_value : 0 < c.len-count.result = (let v = c.requires.values in let m = map_length (λ (x : _). x) c.args.values.items in let e = c.len-count.ensures in search (rules, common_steps)) in
    opens_rule (λ x. K.name x.value) (λ x. K.state x.value) K.legal K.name K.state (λ x. record { value = x; made = Rattle.std.specs.Prelude.None }) (λ x. refl) (λ x. refl) c.of-opens.result.value c.args.callers c.len-count.result c.args.values.items c.in_ok-slots.slots.items c.as_slice.result.now
    c.of-opens.ensures c.in_ok-slots.ensures (c.as_slice.ensures.value ∙ c.in_ok-words.ensures.words) n

pub of-opens-requires : goal.of-opens-requires
of-opens-requires g c κs within =
    let κ = κs.1.0 in
    let pair = ⊑_meet κ _ _ within.0 (⊑_meet κ _ _ within.1.0 (⊑_static κ)) in
    let two = ⊑_meet κ _ _ (⊑_meet κ _ _ pair pair) (⊑_static κ) in
    (⊑_meet κ _ _ two (⊑_meet κ _ _ (⊑_meet κ _ _ two (⊑_static κ)) (⊑_static κ)), ⊑_meet κs.1.1.0 _ _ (⊑_meet κs.1.1.0 _ _ within.1.1 (⊑_static κs.1.1.0)) (⊑_static κs.1.1.0))

pub invariant_of-shelf-clause-sized : goal.invariant_of-shelf-clause-sized
invariant_of-shelf-clause-sized g c =
    let ok = c.in-Ok.ensures.ok in
    let n : length c.args.values.items ≡ c.len-count.result = (let e = c.len-count.ensures in search (rules, common_steps)) in
    let some_value : 0 < c.len-count.result = (let v = c.requires.values in let m = map_length (λ (x : _). x) c.args.values.items in let e = c.len-count.ensures in search (rules, common_steps)) in (
      ok.0 ∙ (ap length (c.as_slice.ensures.value ∙ c.in_ok-words.ensures.words) ∙ zeros_length (8 * c.len-count.result)),
      ok.1 ∙ (ap length c.in_ok-slots.ensures ∙ (map_length _ c.args.values.items ∙ n)),
      ap (λ k. length k.0.value) ok.5 ∙ (ap length c.of-opens.ensures ∙ (map_length _ c.args.values.items ∙ n)),
      some_value,
      c.in_ok-words.ensures.fits,
    )
