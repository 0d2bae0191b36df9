-- Looks, splits and joins keep the rule.
use Rattle.std.proofs.Common.{◌≡◌, ◌≢◌, ◌⊎◌, ℕ, zero, suc, ◌+◌, ◌<◌, List, [], ◌∷◌, ◌++◌, length, set, sym, refl, ap, ◌∙◌, subst, inl, inr, ⊎_elim, arith, length-set}
use mathlib.Core.Option.{none, some, some-injective, some-ne-none}
use lib.ListN.{get_elem?}
use lib.Seq.{set-get_or}
use Rattle.atomic_table.specs.Table.{State, Me, step, keeps, Allows, Splits}
use Rattle.atomic_table.proofs.Lists.{at_set}
use Rattle.lock_book.specs.declared.view.Entry.{Entry}
use Rattle.lock_book.specs.declared.view.Stage.TheVariants.{Idle}
use Rattle.lock_book.specs.declared.view.View.{View}
use Rattle.lock_book.specs.History.{calls_by, calls_at, StartsWith, row_at, longer_rows, first_row, other_rows}
use Rattle.lock_book.specs.Ruled.{named, holders, Stands, mine_at, seen_at, told_at, merged, first_caller, other_callers, note, informed, nobody, StageOk, Knows, Ruled, looked}
use Rattle.lock_book.proofs.Histories.{starts_refl, starts_nil, legal_prefix, longer_of, calls_between, calls_none, row_longer}
use Rattle.lock_book.proofs.Totals.{total_set, total_snoc}
use Rattle.lock_book.proofs.Changes.{Change, changed, same_value}

module _ {N S C R : Type 0} (opens : List (N × S)) (callers : ℕ) (logs : ℕ → List (Entry S C R)) where
  merged_seen : (v : View N S C R) → Knows opens callers logs v → (j : ℕ) → StartsWith (logs j) (row_at (longer_rows v.seen v.told) j) × StartsWith (row_at (longer_rows v.seen v.told) j) (seen_at v j) × StartsWith (row_at (longer_rows v.seen v.told) j) (told_at v j)
  merged_seen v k j = subst (λ (m : List (Entry S C R)). StartsWith (logs j) m × StartsWith m (seen_at v j) × StartsWith m (told_at v j)) (sym (row_longer v.seen v.told j)) (longer_of (logs j) (seen_at v j) (told_at v j) (k.seen j) (k.told j))

  merged_calls : (v : View N S C R) → Knows opens callers logs v → (n j : ℕ) → n < length v.owns → mine_at v n j ≡ calls_by (v.from + n) (row_at (longer_rows v.seen v.told) j)
  merged_calls v k n j lt = let m = merged_seen v k j in k.mine n j lt ∙ sym (calls_between (v.from + n) (logs j) (row_at (longer_rows v.seen v.told) j) (seen_at v j) m.0 m.1 (sym (k.mine_seen n j lt) ∙ k.mine n j lt))

  merged_knows : (v : View N S C R) → Knows opens callers logs v → v.stage ≡ Idle → Knows opens callers logs (merged v)
  merged_knows v k idle = record {
    opened = k.opened;
    counted = k.counted;
    below = k.below;
    seen = λ j. (merged_seen v k j).0;
    told = λ j. starts_nil (logs j);
    mine = k.mine;
    mine_seen = merged_calls v k;
    staged = subst (StageOk opens callers logs (merged v)) (sym idle) tt;
  }

  note_knows : (v : View N S C R) → Knows opens callers logs v → Knows opens callers logs (note v)
  note_knows v k = record { opened = λ h. absurd (omega arith); counted = λ h. absurd (omega arith); below = λ h. absurd (omega arith); seen = k.seen; told = λ j. starts_nil (logs j); mine = λ n j lt. absurd (omega arith); mine_seen = λ n j lt. absurd (omega arith); staged = tt }

  pub nobody_knows : Knows opens callers logs nobody
  nobody_knows = record { opened = λ h. absurd (omega arith); counted = λ h. absurd (omega arith); below = λ h. absurd (omega arith); seen = λ j. starts_nil (logs j); told = λ j. starts_nil (logs j); mine = λ n j lt. absurd (omega arith); mine_seen = λ n j lt. absurd (omega arith); staged = tt }

  pub informed_knows : (v w : View N S C R) → Knows opens callers logs v → Knows opens callers logs w → v.stage ≡ Idle → Knows opens callers logs (informed v w)
  informed_knows v w k h idle = record { opened = k.opened; counted = k.counted; below = k.below; seen = k.seen; told = h.seen; mine = k.mine; mine_seen = k.mine_seen; staged = subst (StageOk opens callers logs (informed v w)) (sym idle) tt }

  first_length : {A : Type 0} (ls : List A) → 0 < length ls → length (first_row ls) ≡ 1
  first_length [] h = absurd (omega arith)
  first_length (l ∷ ls) h = refl

  both_length : {A : Type 0} (ls : List A) → length (first_row ls) + length (other_rows ls) ≡ length ls
  both_length [] = refl
  both_length (l ∷ ls) = omega arith

  first_at : {A : Type 0} (ls : List (List A)) (n : ℕ) → n < length (first_row ls) → row_at (first_row ls) n ≡ row_at ls n
  first_at [] n h = refl
  first_at (l ∷ ls) zero h = refl
  first_at (l ∷ ls) (suc n) h = absurd (omega arith)

  other_at : {A : Type 0} (ls : List (List A)) (n : ℕ) → row_at (other_rows ls) n ≡ row_at ls (suc n)
  other_at [] n = refl
  other_at (l ∷ ls) n = refl

  pub joined_front : {A : Type 0} (ls ks : List (List A)) (n : ℕ) → n < length ls → row_at (ls ++ ks) n ≡ row_at ls n
  joined_front [] ks n h = absurd (omega arith)
  joined_front (l ∷ ls) ks zero h = refl
  joined_front (l ∷ ls) ks (suc n) h = joined_front ls ks n (omega arith)

  pub joined_back : {A : Type 0} (ls ks : List (List A)) (n : ℕ) → row_at (ls ++ ks) (length ls + n) ≡ row_at ks n
  joined_back [] ks n = ap (row_at ks) (omega arith)
  joined_back (l ∷ ls) ks n = let e : length (l ∷ ls) + n ≡ suc (length ls + n) = omega arith in subst (λ (z : ℕ). row_at (l ∷ (ls ++ ks)) z ≡ row_at ks n) (sym e) (joined_back ls ks n)

  first_knows : (v : View N S C R) → Knows opens callers logs v → v.stage ≡ Idle → Knows opens callers logs (first_caller v)
  first_knows v k idle = let b = both_length v.owns in record {
    opened = λ h. k.opened (omega arith);
    counted = λ h. k.counted (omega arith);
    below = λ h. let c = k.below (omega arith) in omega arith;
    seen = k.seen;
    told = k.told;
    mine = λ n j lt. ap (calls_at j) (first_at v.owns n lt) ∙ k.mine n j (omega arith);
    mine_seen = λ n j lt. ap (calls_at j) (first_at v.owns n lt) ∙ k.mine_seen n j (omega arith);
    staged = subst (StageOk opens callers logs (first_caller v)) (sym idle) tt;
  }

  other_knows : (v : View N S C R) → Knows opens callers logs v → 0 < length v.owns → Knows opens callers logs (other_callers v)
  other_knows v k some_owner = let b = both_length v.owns in let f = first_length v.owns some_owner in record {
    opened = λ h. k.opened some_owner;
    counted = λ h. k.counted some_owner;
    below = λ h. let c = k.below some_owner in omega arith;
    seen = k.seen;
    told = k.told;
    mine = λ n j lt. ap (calls_at j) (other_at v.owns n) ∙ (k.mine (suc n) j (omega arith) ∙ (let e : v.from + suc n ≡ (v.from + 1) + n = omega arith in ap (λ (z : ℕ). calls_by z (logs j)) e));
    mine_seen = λ n j lt. ap (calls_at j) (other_at v.owns n) ∙ (k.mine_seen (suc n) j (omega arith) ∙ (let e : v.from + suc n ≡ (v.from + 1) + n = omega arith in ap (λ (z : ℕ). calls_by z (seen_at v j)) e));
    staged = tt;
  }

module _ {X N S C R : Type 0} (slot_name : X → N) (slot_state : X → S) (legal : N → ℕ → S → C → R → S → Type 0) (opens : List (N × S)) (callers : ℕ) where
  abbrev Rule : State X (View N S C R) → Type 0
  Rule = Ruled slot_name slot_state legal opens callers

  -- what was seen and what was told are put together
  pub looks : (slots k id : ℕ) (me : Me X (View N S C R)) → me.0.stage ≡ Idle → Allows Rule slots id me k (λ n. n) (looked slot_name slot_state legal (step slots k 0 0 none) me)
  looks slots k id me idle s r _ at _ =
      let v = me.0 in
      let kn = r.each_seat id v at in
      let w : View N S C R = merged v in
      let c : Change slot_name slot_state legal opens callers s r id v w r.logs s.words s.homes = record {
        at = at;
        wide = refl;
        same_seats = refl;
        same_from = refl;
        values = λ j o e. let t = total_set (λ (u : View N S C R). holders j u.stage) s.views id v w at in let hw : holders j w.stage ≡ holders j v.stage = refl in
            let m = total_set (λ (u : View N S C R). named j u.from u.stage) s.views id v w at in let nw : named j w.from w.stage ≡ named j v.from v.stage = refl in
            same_value slot_name slot_state legal s.words s.words s.homes s.homes s.views (set s.views id w) j o (r.logs j) refl (λ x h. h) (omega arith) (omega arith) (r.each_value j o e);
        knows = merged_knows opens callers r.logs v kn idle;
        grows = λ j. starts_refl (r.logs j);
        bounded = r.bounded;
        others_calls = λ j m _. refl;
        others_stage = λ other u ne eu ok. ok;
      } in (
        w,
        keeps,
        tt,
        subst (λ (z : List ℕ). Rule record { words = z; homes = s.homes; views = set s.views id w }) (sym (set-get_or s.words k 0)) (changed slot_name slot_state legal opens callers s r id v w r.logs s.words s.homes c),
        (
          refl,
          record {
            view = refl;
            seen = λ j. (merged_seen opens callers r.logs v kn j).1;
            told = λ j. (merged_seen opens callers r.logs v kn j).2;
            lawful = λ some_owner j o eo. legal_prefix (legal o.0) o.1 (r.logs j) (row_at (longer_rows v.seen v.told) j) (merged_seen opens callers r.logs v kn j).0
                (r.each_value j o (ap (λ (z : List (N × S)). get_elem? z j) (sym (kn.opened some_owner)) ∙ eo)).lawful;
            mine = merged_calls opens callers r.logs v kn;
            bounded = λ some_owner j n hi. let c = kn.counted some_owner in
                calls_none n (r.logs j) (row_at (longer_rows v.seen v.told) j) (merged_seen opens callers r.logs v kn j).0 (r.bounded j n (omega arith));
          },
        ),
      )

  -- a view is cut in two, and neither part has a value
  module _ (s : State X (View N S C R)) (r : Rule s) (id : ℕ) (v left right : View N S C R) (at : get_elem? s.views id ≡ some v) (idle : v.stage ≡ Idle) (left_idle : left.stage ≡ Idle) (right_idle : right.stage ≡ Idle)
      (lk : Knows opens callers r.logs left) (rk : Knows opens callers r.logs right) (count : length left.owns + length right.owns ≡ length v.owns)
      (of_left : (n : ℕ) → Stands n left → Stands n v) (of_right : (n : ℕ) → Stands n right → Stands n v) (once : (n : ℕ) → Stands n left → Stands n right → ⊥) where
    abbrev cut : List (View N S C R)
    cut = set s.views id left ++ right ∷ []

    -- where each of the new views was
    data Was (j : ℕ) (u : View N S C R) : Type 0 where
      is_left : j ≡ id → left ≡ u → Was j u
      is_right : j ≡ length s.views → right ≡ u → Was j u
      is_other : j ≢ id → get_elem? s.views j ≡ some u → Was j u

    last_or : (l : List (View N S C R)) (u : View N S C R) (j : ℕ) → get_elem? (l ++ right ∷ []) j ≡ some u → (get_elem? l j ≡ some u) ⊎ ((j ≡ length l) × (right ≡ u))
    last_or [] u zero e = inr (refl, some-injective right u e)
    last_or [] u (suc j) e = absurd (some-ne-none u (sym e))
    last_or (x ∷ xs) u zero e = inl e
    last_or (x ∷ xs) u (suc j) e = ⊎_elim inl (λ (t : (j ≡ length xs) × (right ≡ u)). inr (ap suc t.0, t.1)) (last_or xs u j e)

    was : (j : ℕ) (u : View N S C R) → get_elem? cut j ≡ some u → Was j u
    was j u e = ⊎_elim
        (λ (h : get_elem? (set s.views id left) j ≡ some u). ⊎_elim (λ (t : (j ≡ id) × (left ≡ u)). is_left t.0 t.1) (λ (t : (j ≢ id) × (get_elem? s.views j ≡ some u)). is_other t.0 t.1) (at_set s.views id j left u h))
        (λ (t : (j ≡ length (set s.views id left)) × (right ≡ u)). is_right (t.0 ∙ length-set s.views id left) t.1)
        (last_or (set s.views id left) u j e)

    pub cut_keeps : Rule record { words = s.words; homes = s.homes; views = cut }
    cut_keeps = record {
      logs = r.logs;
      bounded = r.bounded;
      wide = r.wide;
      each_value = λ j o e.
          let f : View N S C R → ℕ = λ u. holders j u.stage in
          let a = total_set f s.views id v left at in
          let b = total_snoc f (set s.views id left) right in
          let hv : f v ≡ 0 = ap (holders j) idle in
          let hl : f left ≡ 0 = ap (holders j) left_idle in
          let hr : f right ≡ 0 = ap (holders j) right_idle in
          let n : View N S C R → ℕ = λ u. named j u.from u.stage in
          let na = total_set n s.views id v left at in
          let nb = total_snoc n (set s.views id left) right in
          let nv : n v ≡ 0 = ap (named j v.from) idle in
          let nl : n left ≡ 0 = ap (named j left.from) left_idle in
          let nr : n right ≡ 0 = ap (named j right.from) right_idle in
          same_value slot_name slot_state legal s.words s.words s.homes s.homes s.views cut j o (r.logs j) refl (λ x h. h) (omega arith) (omega arith) (r.each_value j o e);
      seats =
          let f : View N S C R → ℕ = λ u. length u.owns in
          let a = total_set f s.views id v left at in
          let b = total_snoc f (set s.views id left) right in
          let e = r.seats in
          omega arith;
      each_seat = λ j u e. elim (was j u e) [ is_left p q ↦ subst (Knows opens callers r.logs) q lk | is_right p q ↦ subst (Knows opens callers r.logs) q rk | is_other p q ↦ r.each_seat j u q ];
      numbers = λ a b x y ea eb n hx hy. elim (was a x ea) [
        | is_left p q ↦ (let sx : Stands n left = subst (Stands n) (sym q) hx in elim (was b y eb) [
          | is_left p' q' ↦ p ∙ sym p'
          | is_right p' q' ↦ absurd (once n sx (subst (Stands n) (sym q') hy))
          | is_other p' q' ↦ absurd (p' (r.numbers b id y v q' at n hy (of_left n sx)))
        ])
        | is_right p q ↦ (let sx : Stands n right = subst (Stands n) (sym q) hx in elim (was b y eb) [
          | is_left p' q' ↦ absurd (once n (subst (Stands n) (sym q') hy) sx)
          | is_right p' q' ↦ p ∙ sym p'
          | is_other p' q' ↦ absurd (p' (r.numbers b id y v q' at n hy (of_right n sx)))
        ])
        | is_other p q ↦ elim (was b y eb) [
          | is_left p' q' ↦ absurd (p (r.numbers a id x v q at n hx (of_left n (subst (Stands n) (sym q') hy))))
          | is_right p' q' ↦ absurd (p (r.numbers a id x v q at n hx (of_right n (subst (Stands n) (sym q') hy))))
          | is_other p' q' ↦ r.numbers a b x y q q' n hx hy
        ]
      ];
    }

  pub notes : (id : ℕ) (v : View N S C R) → v.stage ≡ Idle → Splits Rule id v v (note v)
  notes id v idle s r at = let k = r.each_seat id v at in cut_keeps s r id v v (note v) at idle idle refl k (note_knows opens callers r.logs v k) (omega arith) (λ n h. h) (λ n h. let a = h.1 in let b = h.0 in absurd (omega arith)) (λ n h g. let a = g.1 in let b = g.0 in omega arith)

  pub deals : (id : ℕ) (v : View N S C R) → v.stage ≡ Idle → 0 < length v.owns → Splits Rule id v (first_caller v) (other_callers v)
  deals id v idle some_owner s r at =
      let k = r.each_seat id v at in
      let b = both_length opens callers r.logs v.owns in
      let f = first_length opens callers r.logs v.owns some_owner in
      cut_keeps s r id v (first_caller v) (other_callers v) at idle idle refl (first_knows opens callers r.logs v k idle) (other_knows opens callers r.logs v k some_owner) b
      (λ n h. let lo = h.0 in let hi = h.1 in (lo, omega arith)) (λ n h. let lo = h.0 in let hi = h.1 in (omega arith, omega arith)) (λ n h g. let lo = g.0 in let hi = h.1 in omega arith)
