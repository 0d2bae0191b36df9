use Rattle.std.proofs.Common.{◌∷◌, [], All, refl, subst, sym}
use Rattle.par_model.specs.Key.{encoded}
use Rattle.partial_agg.specs.declared.groups.Group.{Group}
use Rattle.result_text.specs.Printable.{IsKeyOf}
use Rattle.uses_states.proofs.Keys.{HaveKeys, keys_added, keys_listed, keys_none}
use Rattle.uses_states.proofs.files.groups_of.Goals as goal

-- the keys of one column `b`, and of one column `abc`
is_b : IsKeyOf 1 (1 ∷ 0 ∷ 0 ∷ 0 ∷ 98 ∷ [])
unfolding encoded
is_b = record { columns = (98 ∷ []) ∷ []; many = refl; is = refl }

is_abc : IsKeyOf 1 (3 ∷ 0 ∷ 0 ∷ 0 ∷ 97 ∷ 98 ∷ 99 ∷ [])
unfolding encoded
is_abc = record { columns = (97 ∷ 98 ∷ 99 ∷ []) ∷ []; many = refl; is = refl }

pub returns : goal.returns
returns c =
    let none = subst (HaveKeys 1) (sym c.new-map.ensures.empty) (keys_none 1) in
    let one = subst (HaveKeys 1) (sym c.in_ok-add_bytes.ensures.ok) (keys_added 1 c.new-map.result _ c.state_of.result is_b none) in
    let both = subst (HaveKeys 1) (sym c.in_ok-add_bytes-2.ensures.ok) (keys_added 1 c.add_bytes.new.self _ c.state_of-2.result is_abc one) in
    subst (All (λ (g : Group). IsKeyOf 1 g.key)) (sym c.into_groups.ensures) (keys_listed 1 c.add_bytes-2.new.self both)
