-- The state of the table of contents, by the token that there is.
use Rattle.std.proofs.Common.{◌≡◌, Option, None, Some, is_some, IfSome, IsSome, refl, ap, subst}
use Rattle.atomic_table.specs.Seated.{TableId}
use Rattle.region_words.specs.Parts.{Owned}
use Rattle.shell_memory.specs.Contents.{Goes, IsContents, TocState, frozen_in, growing_in, state_by}
use Rattle.shell_memory.specs.declared.contents.Contents.{Contents}

-- where there is a table that grows there is none that is frozen
one-growing : (g f : Option Owned) (toc : Owned) → IsSome (state_by g f) → g ≡ Some toc → (f ≡ None) × (state_by g f ≡ Some (growing_in toc.words))
one-growing None f toc one e = absurd (cc)
one-growing (Some x) None toc one e = let same : x ≡ toc = cc in (refl, ap (λ (t : Owned). Some (growing_in t.words)) same)
one-growing (Some x) (Some y) toc one e = absurd (cc)

-- and the other way round
one-frozen : (g f : Option Owned) (toc : Owned) → IsSome (state_by g f) → f ≡ Some toc → (g ≡ None) × (state_by g f ≡ Some (frozen_in toc.words))
one-frozen None None toc one e = absurd (cc)
one-frozen None (Some x) toc one e = let same : x ≡ toc = cc in (refl, ap (λ (t : Owned). Some (frozen_in t.words)) same)
one-frozen (Some x) None toc one e = absurd (cc)
one-frozen (Some x) (Some y) toc one e = absurd (cc)

-- a table that does not grow is frozen
not-growing : (g f : Option Owned) → IsSome (state_by g f) → g ≡ None → (toc : Owned) × (state_by g f ≡ Some (frozen_in toc.words))
not-growing None None one e = absurd (cc)
not-growing None (Some y) one e = (y, refl)
not-growing (Some x) f one e = absurd (cc)

-- a table that is not frozen grows
not-frozen : (g f : Option Owned) → IsSome (state_by g f) → f ≡ None → (toc : Owned) × (state_by g f ≡ Some (growing_in toc.words))
not-frozen None None one e = absurd (cc)
not-frozen None (Some y) one e = absurd (cc)
not-frozen (Some x) None one e = (x, refl)
not-frozen (Some x) (Some y) one e = absurd (cc)

found-in : (region : TableId) (o : Option Owned) (toc : Owned) → IfSome o (λ t. t.region ≡ region) → o ≡ Some toc → toc.region ≡ region
found-in region None toc h e = absurd (cc)
found-in region (Some x) toc h e = let same : x ≡ toc = cc in subst (λ (t : Owned). t.region ≡ region) same h

module _ (region : TableId) (t : Contents) (is : IsContents region t) where
  pub growing-here : (toc : Owned) → t.growing ≡ Some toc → toc.region ≡ region
  growing-here toc e = found-in region t.growing toc is.growing e

  pub frozen-here : (toc : Owned) → t.frozen ≡ Some toc → toc.region ≡ region
  frozen-here toc e = found-in region t.frozen toc is.frozen e

  -- a step of a table that grows
  pub goes-growing : (toc new : Owned) (Step : TocState → TocState → Type 0) → t.growing ≡ Some toc → Step (growing_in toc.words) (growing_in new.words) → Goes t (record { growing = Some new; frozen = t.frozen }) Step
  goes-growing toc new Step e step = let one = one-growing t.growing t.frozen toc is.one e in (growing_in toc.words, growing_in new.words, one.1, ap (λ (f : Option Owned). state_by (Some new) f) one.0, step)

  pub still-growing : (toc new : Owned) → t.growing ≡ Some toc → new.region ≡ region → IsContents region (record { growing = Some new; frozen = t.frozen })
  still-growing toc new e here = record { growing = here; frozen = is.frozen; one = ap is_some (ap (λ (f : Option Owned). state_by (Some new) f) (one-growing t.growing t.frozen toc is.one e).0) }

  -- a step of a table that is frozen
  pub goes-frozen : (toc new : Owned) (Step : TocState → TocState → Type 0) → t.frozen ≡ Some toc → Step (frozen_in toc.words) (frozen_in new.words) → Goes t (record { growing = t.growing; frozen = Some new }) Step
  goes-frozen toc new Step e step = let one = one-frozen t.growing t.frozen toc is.one e in (frozen_in toc.words, frozen_in new.words, one.1, ap (λ (g : Option Owned). state_by g (Some new)) one.0, step)

  pub still-frozen : (toc new : Owned) → t.frozen ≡ Some toc → new.region ≡ region → IsContents region (record { growing = t.growing; frozen = Some new })
  still-frozen toc new e here = record { growing = is.growing; frozen = here; one = ap is_some (ap (λ (g : Option Owned). state_by g (Some new)) (one-frozen t.growing t.frozen toc is.one e).0) }

  -- nothing changes, of a table that is frozen and of one that grows
  pub stays-frozen : (Step : TocState → TocState → Type 0) → t.growing ≡ None → ((toc : Owned) → Step (frozen_in toc.words) (frozen_in toc.words)) → Goes t t Step
  stays-frozen Step e step = let one = not-growing t.growing t.frozen is.one e in (frozen_in one.0.words, frozen_in one.0.words, one.1, one.1, step one.0)

  pub stays-growing : (Step : TocState → TocState → Type 0) → t.frozen ≡ None → ((toc : Owned) → Step (growing_in toc.words) (growing_in toc.words)) → Goes t t Step
  stays-growing Step e step = let one = not-frozen t.growing t.frozen is.one e in (growing_in one.0.words, growing_in one.0.words, one.1, one.1, step one.0)

  -- the table is frozen
  pub freezes : (toc : Owned) (Step : TocState → TocState → Type 0) → t.growing ≡ Some toc → Step (growing_in toc.words) (frozen_in toc.words) → Goes t (record { growing = None; frozen = Some toc }) Step
  freezes toc Step e step = (growing_in toc.words, frozen_in toc.words, (one-growing t.growing t.frozen toc is.one e).1, refl, step)
