-- What two passes know after they have met.
use Rattle.std.proofs.Common.{◌≡◌, ℕ, ◌+◌, ◌<◌, ◌≤◌, List, [], length, sym, refl, ap, ◌∙◌, subst, arith}
use mathlib.Core.Option.{some}
use lib.ListN.{get_elem?}
use Rattle.lock_book.specs.declared.view.Entry.{Entry}
use Rattle.lock_book.specs.declared.view.Stage.TheVariants.{Idle}
use Rattle.lock_book.specs.declared.view.View.{View}
use Rattle.lock_book.specs.History.{calls_by, StartsWith, IsLegal, longer, row_at}
use Rattle.lock_book.specs.Ruled.{mine_at, seen_at, note, informed, merged, Looks, IsSame}
use Rattle.lock_book.specs.Told.{Histories, IsPass, Meets}
use Rattle.lock_book.proofs.Histories.{row_longer, longer_same}

module _ {X N S C R : Type 0} (slot_name : X → N) (slot_state : X → S) (legal : N → ℕ → S → C → R → S → Type 0) where
  -- v was told what w had seen, and looked
  module _ (v w told_v end_v : View N S C R) (a : told_v ≡ informed v (note w)) (l : Looks slot_name slot_state legal told_v end_v) where
    pub met_view : end_v ≡ merged (informed v (note w))
    met_view = l.view ∙ ap merged a

    pub met_seen : (i : ℕ) → seen_at end_v i ≡ longer (seen_at v i) (seen_at w i)
    met_seen i = ap (λ (z : View N S C R). seen_at z i) met_view ∙ row_longer v.seen w.seen i

    pub met_same : length v.owns ≡ 1 → v.stage ≡ Idle → IsSame v end_v
    met_same one idle = subst (IsSame v) (sym met_view) record { opens = refl; callers = refl; from = refl; free = record { owns = one; stage = idle } }

    pub met : length v.owns ≡ 1 → Meets (seen_at v) (mine_at v 0) (seen_at w) (seen_at end_v) (mine_at end_v 0)
    met one = record {
      longer_of_two = met_seen;
      begins = λ i. subst (λ (z : View N S C R). StartsWith (seen_at end_v i) (seen_at z i)) a (l.seen i);
      begins_other = λ i. subst (λ (z : View N S C R). StartsWith (seen_at end_v i) (row_at z.told i)) a (l.told i);
      same_mine = λ i. ap (λ (z : View N S C R). mine_at z 0 i) met_view;
    }

    pub met_stands : length v.owns ≡ 1 → v.from < v.callers → IsPass legal v.opens v.callers v.from (seen_at end_v) (mine_at end_v 0)
    met_stands one below = record {
      below = below;
      lawful = λ i o e. subst (λ (z : View N S C R). 0 < length z.owns → get_elem? z.opens i ≡ some o → IsLegal (legal o.0) o.1 (seen_at end_v i)) a (λ some_owner. l.lawful some_owner i o) (omega arith) e;
      own = λ i.
          let h : mine_at v 0 i ≡ calls_by (v.from + 0) (seen_at end_v i) = subst (λ (z : View N S C R). 0 < length z.owns → mine_at z 0 i ≡ calls_by (z.from + 0) (seen_at end_v i)) a (λ some_owner. l.mine 0 i some_owner) (omega arith) in
          let z : v.from + 0 ≡ v.from = omega arith in
          ap (λ (n : ℕ). calls_by n (seen_at end_v i)) (sym z) ∙ (sym h ∙ sym (ap (λ (z : View N S C R). mine_at z 0 i) met_view));
      bounded = λ i n hi. subst (λ (z : View N S C R). 0 < length z.owns → z.callers ≤ n → calls_by n (seen_at end_v i) ≡ []) a (λ some_owner. l.bounded some_owner i n) (omega arith) hi;
    }

module _ {S C R : Type 0} where
  pub met_alike : {mine mine' others others' : Histories S C R} (seen seen' other other' : Histories S C R) → Meets seen mine other seen' mine' → Meets other others seen other' others' → (i : ℕ) → seen' i ≡ other' i
  met_alike seen seen' other other' a b i = a.longer_of_two i
      ∙ (longer_same (seen i) (other i) (subst (λ (m : List (Entry S C R)). StartsWith m (seen i)) (a.longer_of_two i) (a.begins i)) (subst (λ (m : List (Entry S C R)). StartsWith m (other i)) (a.longer_of_two i) (a.begins_other i))
      (subst (λ (m : List (Entry S C R)). StartsWith m (seen i)) (b.longer_of_two i) (b.begins_other i)) (subst (λ (m : List (Entry S C R)). StartsWith m (other i)) (b.longer_of_two i) (b.begins i)) ∙ sym (b.longer_of_two i))

module _ {N S C R : Type 0} where
  pub met_as : (v v' w w' x x' : View N S C R) → v ≡ v' → w ≡ w' → x ≡ x' → Meets (seen_at v) (mine_at v 0) (seen_at w) (seen_at x) (mine_at x 0) → Meets (seen_at v') (mine_at v' 0) (seen_at w') (seen_at x') (mine_at x' 0)
  met_as v v' w w' x x' a b e h = subst (λ (z : View N S C R × View N S C R × View N S C R). Meets (seen_at z.0) (mine_at z.0 0) (seen_at z.1) (seen_at z.2) (mine_at z.2 0)) (λ n. (a n, b n, e n)) h
