use Rattle.std.proofs.Common.{◌≡◌, ◌<◌, ◌≤◌, ◌∙◌, arith, false, length, map, sym, true}
use Rattle.std.proofs.lemmas.List.{length-map}
use Rattle.std.specs.Prelude.{◌==◌, not}
use Rattle.std.specs.List.{list_any}
use Rattle.plan_spec.proofs.Present.{all-there, any-map, has-empty, too-many}
use Rattle.plan_spec.proofs.grammar.names.Goals as goal

pub returns-then-len-gt8-clause-none : goal.returns-then-len-gt8-clause-none
returns-then-len-gt8-clause-none c = λ h.
    let parts = map (λ s. s.now) c.in-Ok.parts.items in
    let size = length-map c.in-Ok.parts.items (λ s. s.now) in
    let many : 8 < length parts = omega (arith, size, c.len.ensures, c.if-len-gt8.true) in
    rw (← c.in-Ok.ensures) (too-many (length parts) (not (list_any (λ part. length part == 0) parts)) parts many)

pub returns-then-has_empty-clause-none : goal.returns-then-has_empty-clause-none
returns-then-has_empty-clause-none c = λ h.
    let parts = map (λ s. s.now) c.in-Ok.parts.items in
    let empty : list_any (λ part. length part == 0) parts ≡ true =
    any-map (λ part. length part == 0) (λ s. s.now) c.in-Ok.parts.items ∙ sym (rw c.as_slice.ensures.value at c.has_empty.ensures) ∙ c.if-has_empty.true in
    rw (← c.in-Ok.ensures) (has-empty (length parts) (list_any (λ part. length part == 0) parts) parts empty)

pub returns-in-Ok-owned-clause-names : goal.returns-in-Ok-owned-clause-names
returns-in-Ok-owned-clause-names c =
    let parts = map (λ s. s.now) c.in-Ok.parts.items in
    let size = length-map c.in-Ok.parts.items (λ s. s.now) in
    let few : length parts ≤ 8 = omega (arith, size, c.len.ensures, c.if-len-gt8.false) in
    let full : list_any (λ part. length part == 0) parts ≡ false =
    any-map (λ part. length part == 0) (λ s. s.now) c.in-Ok.parts.items ∙ sym (rw c.as_slice.ensures.value at c.has_empty.ensures) ∙ c.if-has_empty.false in
    rw (← c.in-Ok.ensures, rw c.as_slice-2.ensures.value at c.in-Ok-owned.ensures) (all-there (length parts) (list_any (λ part. length part == 0) parts) parts few full)
