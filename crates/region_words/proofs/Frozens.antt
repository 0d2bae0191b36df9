-- What the calls of frozen words ask, over plain values.
use Rattle.std.proofs.Common.{◌≡◌, ℕ, ◌<◌, [], Some, ⊎_elim, None, IsSome, is_some, sym, ap, subst, ◌∙◌}
use Rattle.atomic_table.specs.Table.{Allows, Splits, Joins}
use Rattle.atomic_table.specs.Seated.{TableId}
use Rattle.word_map.specs.WordMap.{WordMap, at, HasJust, union}
use Rattle.word_map.proofs.Maps.{within_is, union_from}
use Rattle.word_map.proofs.Uses.{has_some}
use Rattle.region_rule.specs.View.{Own, Frozen, Spent}
use Rattle.region_rule.specs.Places.{idle, copying, IsIdle, Ruled}
use Rattle.region_rule.specs.Tells.{TellsFreeze, TellsFrozen, gathered_view}
use Rattle.region_rule.proofs.OwnerSteps.{freeze_allowed, load_frozen_allowed, share_allowed, end_share_allowed, gather_allowed}
use Rattle.region_words.specs.Parts.{Owned, owned, frozen_map, IsBelow, IsSized, IsFrozen}
use Rattle.region_words.proofs.Seats.{Mine, idle_as}
use Rattle.region_words.proofs.Parts.{same_table}

-- what has been copied is frozen
pub freeze_asks : (count slots id : ℕ) (me : Mine) (m : WordMap) (from len : ℕ) → me ≡ (copying (Own m None) from len, []) → 0 < count → HasJust m from len
    → Allows (Ruled count) slots id me 0 (λ n. n) (λ n after. TellsFreeze me.0.view after.0.view × IsIdle after after.0.view)
freeze_asks count slots id me m from len e more just =
    subst (λ (u : Mine). Allows (Ruled count) slots id u 0 (λ n. n) (λ n after. TellsFreeze u.0.view after.0.view × IsIdle after after.0.view)) (sym e)
    (freeze_allowed count slots id 0 m None from len more (λ q h. within_is from len q (sym (just q) ∙ ap is_some h.1)))

pub frozen_now : (t : TableId) (me after : Mine) (m : WordMap) (from len : ℕ) → me ≡ (copying (Own m None) from len, []) → IsBelow m t.words → IsSized t → TellsFreeze me.0.view after.0.view × IsIdle after after.0.view
    → IsFrozen t after × (owned t (frozen_map after.0.view) ≡ owned t m)
frozen_now t me after m from len e below sized h =
    let a : after.0.view ≡ Frozen m = subst (λ (u : Mine). TellsFreeze u.0.view after.0.view) e h.0 in
    let map : frozen_map after.0.view ≡ m = ap frozen_map a in (
      record {
        shares = idle_as after (Frozen (frozen_map after.0.view)) h.1 (a ∙ ap Frozen (sym map));
        below = subst (λ (n : WordMap). IsBelow n t.words) (sym map) below;
        sized = sized;
      },
      ap (owned t) map,
    )

pub load_frozen_asks : (t y : TableId) (id k : ℕ) (me : Mine) (o : Owned) → IsFrozen t me → owned t (frozen_map me.0.view) ≡ o → o.region ≡ y → IsSome (at o.words k)
    → (k < y.words) × Allows (Ruled y.words) y.slots id me k (λ n. n) (λ n after. TellsFrozen me.0.view k n after.0.view × IsIdle after after.0.view)
load_frozen_asks t y id k me o p v here has =
    let h = has_some (frozen_map me.0.view) k (subst (λ (q : Owned). IsSome (at q.words k)) (sym v) has) in
    let inside : k < y.words = subst (λ (q : TableId). k < q.words) (same_table t y (frozen_map me.0.view) o v here) (p.below k h.0 h.1) in (
      inside,
      subst (λ (u : Mine). Allows (Ruled y.words) y.slots id u k (λ n. n) (λ n after. TellsFrozen u.0.view k n after.0.view × IsIdle after after.0.view)) (sym p.shares)
          (load_frozen_allowed y.words y.slots id k (frozen_map me.0.view) h inside),
    )

pub share_asks : (t : TableId) (count : ℕ) (id : ℕ) (me : Mine) → IsFrozen t me → Splits (Ruled count) id me.0 me.0 me.0
share_asks t count id me p = subst (λ (u : Mine). Splits (Ruled count) id u.0 u.0 u.0) (sym p.shares) (share_allowed count id (frozen_map me.0.view))

pub end_share_asks : (t u : TableId) (count : ℕ) (id other : ℕ) (me you : Mine) (o q : Owned) → IsFrozen t me → IsFrozen u you
    → owned t (frozen_map me.0.view) ≡ o → owned u (frozen_map you.0.view) ≡ q → q ≡ o → Joins (Ruled count) id me.0 other you.0 me.0 (idle Spent)
end_share_asks t u count id other me you o q p r v w equal =
    let maps : frozen_map you.0.view ≡ frozen_map me.0.view = ap (λ (x : Owned). x.words) w ∙ (ap (λ (x : Owned). x.words) equal ∙ sym (ap (λ (x : Owned). x.words) v)) in
    subst (λ (x : Mine). Joins (Ruled count) id x.0 other you.0 x.0 (idle Spent)) (sym p.shares)
    (subst (λ (x : Mine). Joins (Ruled count) id (idle (Frozen (frozen_map me.0.view))) other x.0 (idle (Frozen (frozen_map me.0.view))) (idle Spent)) (sym r.shares)
    (subst (λ (m : WordMap). Joins (Ruled count) id (idle (Frozen (frozen_map me.0.view))) other (idle (Frozen m)) (idle (Frozen (frozen_map me.0.view))) (idle Spent)) (sym maps) (end_share_allowed count id other (frozen_map me.0.view))))

pub gather_asks : (t u : TableId) (count id other : ℕ) (me you : Mine) → IsFrozen t me → IsFrozen u you → Joins (Ruled count) id me.0 other you.0 (idle (gathered_view me.0.view you.0.view)) (idle Spent)
gather_asks t u count id other me you p r =
    subst (λ (x : Mine). Joins (Ruled count) id x.0 other you.0 (idle (gathered_view x.0.view you.0.view)) (idle Spent)) (sym p.shares)
    (subst (λ (x : Mine). Joins (Ruled count) id (idle (Frozen (frozen_map me.0.view))) other x.0 (idle (gathered_view (Frozen (frozen_map me.0.view)) x.0.view)) (idle Spent)) (sym r.shares)
    (gather_allowed count id other (frozen_map me.0.view) (frozen_map you.0.view)))

pub gathered : (t u w : TableId) (me you after : Mine) → IsFrozen t me → IsFrozen u you → u ≡ t → w ≡ t → after ≡ (idle (gathered_view me.0.view you.0.view), me.1)
    → IsFrozen w after × (owned w (frozen_map after.0.view) ≡ owned t (union (frozen_map me.0.view) (frozen_map you.0.view)))
gathered t u w me you after p r ut wt h =
    let m = frozen_map me.0.view in
    let n = frozen_map you.0.view in
    let is : IsIdle after (Frozen (union m n)) = subst (λ (b : Mine). after ≡ (idle (gathered_view (Frozen m) b.0.view), [])) r.shares (subst (λ (a : Mine). after ≡ (idle (gathered_view a.0.view you.0.view), a.1)) p.shares h) in
    let map : frozen_map after.0.view ≡ union m n = ap (λ (z : Mine). frozen_map z.0.view) is in
    let below : IsBelow (union m n) t.words = λ k x s. ⊎_elim (λ (e : at n k ≡ Some x). subst (λ (y : TableId). k < y.words) ut (r.below k x e)) (λ (e : at m k ≡ Some x). p.below k x e) (union_from m n k x s) in (
      record {
        shares = is ∙ ap (λ (q : WordMap). (idle (Frozen q), [])) (sym map);
        below = subst (λ (y : TableId). IsBelow (frozen_map after.0.view) y.words) (sym wt) (subst (λ (q : WordMap). IsBelow q t.words) (sym map) below);
        sized = subst IsSized (sym wt) p.sized;
      },
      λ i. owned (wt i) (map i),
    )
