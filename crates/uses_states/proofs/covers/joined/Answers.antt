use Rattle.std.proofs.Common.{◌≡◌, All, IfSome, List, None, Option, Some, subst, sym}
use Rattle.std.specs.Result.{is_ok}
use Rattle.state_cover.proofs.Each.{both_each, cover_each}
use Rattle.uses_states.proofs.covers.joined.Goals as goal
use Rattle.state_head.specs.Cover.{IsStretch}
use Rattle.state_head.specs.declared.cover.Stretch.{Stretch}

some_of : {X : Type 0} (P : X → Type 0) (o : Option X) (x : X) → o ≡ Some x → IfSome o P → P x
some_of P o x e h = subst (λ p. IfSome p P) e h

pub join_cover-requires : goal.join_cover-requires
join_cover-requires c =
    let one = some_of _ _ _ c.in-Ok-Some.field-0-is c.in-Ok-Some.ensures.read in
    let two = some_of _ _ _ c.in-Ok-Some-read_cover.field-0-is c.in-Ok-Some-read_cover.ensures.read in
    both_each 2 (is_ok c.extend_from_slice.result) c.in-Ok-Some.all.items c.as_slice-3.result.now c.extend_from_slice.new.self.items c.extend_from_slice.ensures.items (cover_each 2 None c.in-Ok-Some.all.items one.1.stretches)
    (subst (λ (ss : List Stretch). All (IsStretch 2) ss) (sym c.as_slice-3.ensures.value) (cover_each 2 None c.in-Ok-Some-read_cover.rest.items two.1.stretches))
