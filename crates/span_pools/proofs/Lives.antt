-- A live object stays live until it comes back.
use Rattle.std.proofs.Common.{◌≡◌, ◌≢◌, ℕ, ◌*◌, ◌⊎◌, inl, inr, true, false, List, [], ◌∷◌, Some, None, sym, ap, subst, ◌∙◌}
use mathlib.Core.Logic.{dite}
use native.Mathlib.Decide.{ℕ_discrete}
use Rattle.span_pools.specs.declared.layout.Layout.{Layout}
use Rattle.span_pools.specs.Places.{place}
use Rattle.span_pools.specs.Legal.{PoolState, PoolCall, PoolReply, Alloc, Add, Free, AllocMany, FreeMany, Trim, Object, Full, Kept, Whole, Stranger, Objects, AreAllocs, AreFreed, IsAlloc, IsAdd, IsFreed, IsEmptied, IsTrim, IsLegal, object_in}
use Rattle.span_pools.specs.Lives.{AreOthers, Leaves}

not_free : Some true ≡ Some false → ⊥
not_free e = cc

not_gone : Some true ≡ None → ⊥
not_gone e = cc

module _ (l : Layout) (p i : ℕ) where
  -- the object is live
  abbrev Live : PoolState → Type 0
  Live s = object_in s p i ≡ Some true

  other : (q j : ℕ) → (p ≡ q → i ≡ j → ⊥) → (p ≢ q) ⊎ (i ≢ j)
  other q j n = dite (ℕ_discrete p q) (λ (e : p ≡ q). inr (λ (f : i ≡ j). n e f)) (λ (m : p ≢ q). inl m)

  -- it is the one of these numbers
  same_object : (s : PoolState) (q j : ℕ) → p ≡ q → i ≡ j → object_in s p i ≡ object_in s q j
  same_object s q j e f = ap (λ (z : ℕ). object_in s z i) e ∙ ap (λ (z : ℕ). object_in s q z) f

  same_place : (q j : ℕ) → p ≡ q → i ≡ j → place l q j ≡ place l p i
  same_place q j e f = ap (λ (z : ℕ). place l z j) (sym e) ∙ ap (λ (z : ℕ). place l p z) (sym f)

  alloc_keeps : (s t : PoolState) (at : ℕ) → Live s → IsAlloc l s at t → Live t
  alloc_keeps s t at h k = k.same p i (other k.page k.index (λ e f. not_free (sym h ∙ same_object s k.page k.index e f ∙ k.was_free))) ∙ h

  add_keeps : (s t : PoolState) (run at : ℕ) → Live s → IsAdd l s run at t → Live t
  add_keeps s t run at h k = k.same p i (λ (e : p ≡ k.page). not_gone (sym h ∙ ap (λ (z : ℕ). object_in s z i) e ∙ k.new i)) ∙ h

  freed_keeps : (s t : PoolState) (x bytes : ℕ) → Live s → x ≢ place l p i → IsFreed l s x bytes t → Live t
  freed_keeps s t x bytes h away k = k.same p i (other k.page k.index (λ e f. away (k.at_is ∙ same_place k.page k.index e f))) ∙ h

  emptied_keeps : (s t : PoolState) (x bytes run : ℕ) → Live s → x ≢ place l p i → IsEmptied l s x bytes run t → Live t
  emptied_keeps s t x bytes run h away k = k.same p i elsewhere ∙ h
    where
      elsewhere : p ≢ k.page
      elsewhere e = dite (ℕ_discrete i k.index)
          (λ (f : i ≡ k.index). away (k.at_is ∙ same_place k.page k.index e f))
          (λ (n : i ≢ k.index). k.last i n (sym (ap (λ (z : ℕ). object_in s z i) e) ∙ h))

  trim_keeps : (s t : PoolState) (run : ℕ) → Live s → IsTrim l s run t → Live t
  trim_keeps s t run h k = k.same p i (λ (e : p ≡ k.page). k.none_live i (sym (ap (λ (z : ℕ). object_in s z i) e) ∙ h)) ∙ h

  allocs_keep : (ats : List ℕ) (s t : PoolState) → Live s → AreAllocs l s ats t → Live t
  allocs_keep [] s t h k = subst Live (sym k) h
  allocs_keep (x ∷ xs) s t h k = allocs_keep xs k.0 t (alloc_keeps s k.0 x h k.1) k.2

  freeds_keep : (ats : List ℕ) (s t : PoolState) → Live s → AreOthers (place l p i) ats → AreFreed l s ats t → Live t
  freeds_keep [] s t h away k = subst Live (sym k) h
  freeds_keep (x ∷ xs) s t h away k = freed_keeps k.0 t x (8 * l.size) (freeds_keep xs s k.0 h away.1 k.1) away.0 k.2

  pub stays : (s : PoolState) (c : PoolCall) (r : PoolReply) (t : PoolState) → Live s → Leaves (place l p i) c → IsLegal l s c r t → Live t
  stays s Alloc (Object z) t h away k = alloc_keeps s t z h k
  stays s Alloc Full t h away k = subst Live (sym k.same) h
  stays s Alloc Kept t h away k = absurd k
  stays s Alloc (Whole z) t h away k = absurd k
  stays s Alloc Stranger t h away k = absurd k
  stays s Alloc (Objects zs) t h away k = absurd k
  stays s (Add x) (Object z) t h away k = add_keeps s t x z h k
  stays s (Add x) Full t h away k = absurd k
  stays s (Add x) Kept t h away k = absurd k
  stays s (Add x) (Whole z) t h away k = absurd k
  stays s (Add x) Stranger t h away k = absurd k
  stays s (Add x) (Objects zs) t h away k = absurd k
  stays s (Free x bytes) (Object z) t h away k = absurd k
  stays s (Free x bytes) Full t h away k = absurd k
  stays s (Free x bytes) Kept t h away k = freed_keeps s t x bytes h away k
  stays s (Free x bytes) (Whole z) t h away k = emptied_keeps s t x bytes z h away k
  stays s (Free x bytes) Stranger t h away k = subst Live (sym k.same) h
  stays s (Free x bytes) (Objects zs) t h away k = absurd k
  stays s (AllocMany n) (Object z) t h away k = absurd k
  stays s (AllocMany n) Full t h away k = absurd k
  stays s (AllocMany n) Kept t h away k = absurd k
  stays s (AllocMany n) (Whole z) t h away k = absurd k
  stays s (AllocMany n) Stranger t h away k = absurd k
  stays s (AllocMany n) (Objects zs) t h away k = allocs_keep zs s t h k.each
  stays s (FreeMany xs) (Object z) t h away k = absurd k
  stays s (FreeMany xs) Full t h away k = absurd k
  stays s (FreeMany xs) Kept t h away k = freeds_keep xs s t h away k
  stays s (FreeMany []) (Whole z) t h away k = absurd k
  stays s (FreeMany (x ∷ xs)) (Whole z) t h away k = emptied_keeps k.0 t x (8 * l.size) z (freeds_keep xs s k.0 h away.1 k.1) away.0 k.2
  stays s (FreeMany []) Stranger t h away k = absurd k
  stays s (FreeMany (x ∷ xs)) Stranger t h away k = subst Live (sym k.2.same) (freeds_keep xs s k.0 h away.1 k.1)
  stays s (FreeMany xs) (Objects zs) t h away k = absurd k
  stays s Trim (Object z) t h away k = absurd k
  stays s Trim Full t h away k = absurd k
  stays s Trim Kept t h away k = subst Live (sym k.same) h
  stays s Trim (Whole z) t h away k = trim_keeps s t z h k
  stays s Trim Stranger t h away k = absurd k
  stays s Trim (Objects zs) t h away k = absurd k
