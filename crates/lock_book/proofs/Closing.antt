-- What the seat of all callers knows at the end.
use Rattle.std.proofs.Common.{◌≡◌, ◌≢◌, ℕ, zero, suc, ◌+◌, ◌-◌, ◌<◌, ◌≤◌, Bool, true, false, get_or, set, get_or-set_other, cond, List, [], ◌∷◌, ◌++◌, length, map, sym, refl, ap, ◌∙◌, subst, arith, append-nil, append_assoc, length-append, eq-eqb}
use mathlib.Core.Logic.{dite}
use mathlib.Core.Option.{some, some-injective, some-ne-none}
use mathlib.Core.List.{map-append}
use native.Mathlib.Decide.{ℕ_discrete, dec_le}
use lib.ListN.{get_elem?}
use Rattle.atomic_table.specs.Table.{State, Final, Seen}
use Rattle.atomic_table.proofs.Lists.{at_longer, at_last}
use Rattle.lock_book.specs.declared.view.Entry.{Entry}
use Rattle.lock_book.specs.declared.view.Stage.TheVariants.{Idle, Holding}
use Rattle.lock_book.specs.declared.view.View.{View}
use Rattle.lock_book.specs.History.{last_of, calls_by, IsLegal, row_at}
use Rattle.lock_book.specs.Ruled.{total, holders, mine_at, seen_at, StageOk, Ruled, AllSeen}
use Rattle.lock_book.proofs.Histories.{calls_by-append, nil_of, front_nil}
use Rattle.lock_book.proofs.Totals.{total_none, total_two}
use Rattle.lock_book.proofs.Stages.{holders_none}

module _ {S C R : Type 0} where
  back_nil : (xs ys : List (Entry S C R)) → xs ++ ys ≡ [] → ys ≡ []
  back_nil xs ys e = let h = front_nil xs ys e in ap (λ (m : List (Entry S C R)). m ++ ys) (sym h) ∙ e

  of_nobody : (xs : List (Entry S C R)) → ((n : ℕ) → calls_by n xs ≡ []) → xs ≡ []
  of_nobody [] h = refl
  of_nobody (x ∷ xs) h = absurd (let a : x ∷ calls_by x.by xs ≡ [] = sym (ap (λ (b : Bool). cond b (x ∷ calls_by x.by xs) (calls_by x.by xs)) (eq-eqb x.by x.by refl)) ∙ h x.by in cc)

module _ {X N S C R : Type 0} (slot_name : X → N) (slot_state : X → S) (legal : N → ℕ → S → C → R → S → Type 0) (opens : List (N × S)) (callers : ℕ) where
  module _ (s : State X (View N S C R)) (r : Ruled slot_name slot_state legal opens callers s) (id : ℕ) (v : View N S C R) (at : get_elem? s.views id ≡ some v) (first : v.from ≡ 0) (all : length v.owns ≡ callers) (idle : v.stage ≡ Idle) where
    calls_rest : (i n : ℕ) → calls_by n ((r.each_seat id v at).seen i).0 ≡ []
    calls_rest i n =
        let k = r.each_seat id v at in
        let p = k.seen i in
        let cut : calls_by n (r.logs i) ≡ calls_by n (seen_at v i) ++ calls_by n p.0 = ap (calls_by n) p.1 ∙ calls_by-append n (seen_at v i) p.0 in
        dite (dec_le callers n)
        (λ hi. back_nil (calls_by n (seen_at v i)) (calls_by n p.0) (sym cut ∙ r.bounded i n hi))
        (λ lo.
        let l : n < length v.owns = omega arith in
        let z : v.from + n ≡ n = omega arith in
        let same : calls_by n (seen_at v i) ≡ calls_by n (r.logs i) = ap (λ (m : ℕ). calls_by m (seen_at v i)) (sym z) ∙ (sym (k.mine_seen n i l) ∙ (k.mine n i l ∙ ap (λ (m : ℕ). calls_by m (r.logs i)) z)) in
        nil_of (calls_by n (seen_at v i)) (calls_by n p.0) (sym cut ∙ sym same))

    whole_seen : (i : ℕ) → seen_at v i ≡ r.logs i
    whole_seen i = let p = (r.each_seat id v at).seen i in sym (p.1 ∙ (ap (λ (m : List (Entry S C R)). seen_at v i ++ m) (of_nobody p.0 (calls_rest i)) ∙ append-nil (seen_at v i)))

    nobody_holds : (i : ℕ) → total (λ (u : View N S C R). holders i u.stage) s.views ≡ 0
    nobody_holds i = total_none (λ (u : View N S C R). holders i u.stage) s.views (λ j u e. holders_none i u.stage (λ is.
        let ok : StageOk opens callers r.logs u (Holding i) = subst (StageOk opens callers r.logs u) is (r.each_seat j u e).staged in
        let one = ok.0 in
        dite (ℕ_discrete j id)
        (λ here. let same : u ≡ v = some-injective u v (sym e ∙ (ap (get_elem? s.views) here ∙ at)) in let g : u.stage ≡ v.stage = ap (λ (z : View N S C R). z.stage) same in absurd (cc))
        (λ apart. let two = total_two (λ (w : View N S C R). length w.owns) s.views id j v u at apart e in let sum = r.seats in absurd (omega arith))))

    pub ended_at : (i : ℕ) (o : N × S) → get_elem? opens i ≡ some o → (x : X) × (get_elem? s.homes i ≡ some (some x)) × (slot_name x ≡ o.0) × (slot_state x ≡ last_of o.1 (seen_at v i))
    ended_at i o e = let h = (r.each_value i o e).at_home (nobody_holds i) in (h.0, h.1, h.2, h.3 ∙ ap (last_of o.1) (sym (whole_seen i)))

    pub ended : AllSeen legal opens callers v
    ended = record {
      lawful = λ i o e. subst (IsLegal (legal o.0) o.1) (sym (whole_seen i)) (r.each_value i o e).lawful;
      mine = λ n i lt. let k = r.each_seat id v at in let z : v.from + n ≡ n = omega arith in k.mine_seen n i (omega arith) ∙ ap (λ (m : ℕ). calls_by m (seen_at v i)) z;
      no_others = λ i n hi. ap (calls_by n) (whole_seen i) ∙ r.bounded i n hi;
    }

  -- the same, of what a closed table gives
  pub final : (id : ℕ) (v : View N S C R) (ws : List ℕ) (xs : List X) → v.from ≡ 0 → length v.owns ≡ callers → v.stage ≡ Idle → Final (Seen (Ruled slot_name slot_state legal opens callers) id v) ws xs
      → AllSeen legal opens callers v × ((i : ℕ) (x : X) (o : N × S) → get_elem? xs i ≡ some x → get_elem? opens i ≡ some o → (slot_name x ≡ o.0) × (slot_state x ≡ last_of o.1 (seen_at v i)))
  final id v ws xs first all idle f = (
    ended f.0 f.1.0 id v f.1.1 first all idle,
    λ i x o e eo.
        let h = ended_at f.0 f.1.0 id v f.1.1 first all idle i o eo in
        let same : h.0 ≡ x = some-injective h.0 x (sym (f.4 i h.0 h.1) ∙ e) in
        (ap slot_name (sym same) ∙ h.2, ap slot_state (sym same) ∙ h.3),
  )

module _ {A B : Type 0} (f : A → List B) where
  pub rows_step : (whole xs : List A) (x : A) (ls ks : List (List B)) → whole ≡ xs ++ x ∷ [] → ls ≡ f x ∷ [] → map f xs ++ (ls ++ ks) ≡ map f whole ++ ks
  rows_step whole xs x ls ks e is =
      sym (append_assoc (map f xs) ls ks) ∙ ap (λ (m : List (List B)). m ++ ks) (ap (λ (m : List (List B)). map f xs ++ m) is ∙ (sym (map-append f xs (x ∷ [])) ∙ sym (ap (map f) e)))

  -- the row of a place is that of what stands there
  pub row_of : (xs : List A) (n : ℕ) (x : A) → get_elem? xs n ≡ some x → row_at (map f xs) n ≡ f x
  row_of [] n x e = absurd (some-ne-none x (sym e))
  row_of (y ∷ ys) zero x e = ap f (some-injective y x e)
  row_of (y ∷ ys) (suc n) x e = row_of ys n x e

pub one_row : {B : Type 0} (ls : List (List B)) → length ls ≡ 1 → ls ≡ row_at ls 0 ∷ []
one_row [] e = absurd (omega arith)
one_row (l ∷ []) e = refl
one_row (l ∷ m ∷ ls) e = absurd (omega arith)

module _ {A : Type 0} (P : ℕ → A → Type 0) (whole xs : List A) (x : A) (e : whole ≡ xs ++ x ∷ []) (h : (k : ℕ) (s : A) → get_elem? whole k ≡ some s → P k s) where
  pub left_front : (k : ℕ) (s : A) → get_elem? xs k ≡ some s → P k s
  left_front k s at = h k s (subst (λ (m : List A). get_elem? m k ≡ some s) (sym e) (at_longer xs (x ∷ []) k s at))

  pub left_last : P (length xs) x
  left_last = h (length xs) x (subst (λ (m : List A). get_elem? m (length xs) ≡ some x) (sym e) (at_last xs x (length xs) refl))

module _ {A : Type 0} (P : A → Type 0) (whole xs : List A) (x : A) (e : whole ≡ xs ++ x ∷ []) (h : P x) where
  only_last : (ys : List A) (k : ℕ) (p : A) → length ys ≤ k → get_elem? (ys ++ x ∷ []) k ≡ some p → P p
  only_last [] zero p hi at = subst P (some-injective x p at) h
  only_last [] (suc k) p hi at = absurd (some-ne-none p (sym at))
  only_last (y ∷ ys) zero p hi at = absurd (omega arith)
  only_last (y ∷ ys) (suc k) p hi at = only_last ys k p (omega arith) at

  -- at the end of a list stands its last
  pub last_only : (k : ℕ) (p : A) → length xs ≤ k → get_elem? whole k ≡ some p → P p
  last_only k p hi at = only_last xs k p hi (sym (ap (λ (m : List A). get_elem? m k) e) ∙ at)

-- a fact of the last of some, and of all behind them
pub from_last : {A : Type 0} (P : ℕ → A → Type 0) (all whole xs : List A) (x : A) → whole ≡ xs ++ x ∷ [] → get_elem? all (length xs) ≡ some x → P (length xs) x
    → ((k : ℕ) (p : A) → length whole ≤ k → get_elem? all k ≡ some p → P k p) → (k : ℕ) (p : A) → length xs ≤ k → get_elem? all k ≡ some p → P k p
from_last {A} P all whole xs x e here h behind k p hi at = dite (ℕ_discrete k (length xs))
    (λ is. let same : x ≡ p = some-injective x p (sym here ∙ (ap (get_elem? all) (sym is) ∙ at)) in subst (λ (z : ℕ). P z p) (sym is) (subst (P (length xs)) same h))
    (λ ne. behind k p (omega (arith, ap length e, length-append xs (x ∷ []))) at)

pub map_length : {A B : Type 0} (f : A → B) (xs : List A) → length (map f xs) ≡ length xs
map_length f [] = refl
map_length f (x ∷ xs) = ap suc (map_length f xs)

pub cleared_here : (fs : List Bool) (i : ℕ) → get_or (set fs i false) i false ≡ false
cleared_here [] i = refl
cleared_here (f ∷ fs) zero = refl
cleared_here (f ∷ fs) (suc i) = cleared_here fs i

-- one place fewer is filled
pub still_there : (fs gs : List Bool) (left : ℕ) → gs ≡ set fs (left - 1) false → ((k : ℕ) → k < left → get_or fs k false ≡ true) → (k : ℕ) → k < left - 1 → get_or gs k false ≡ true
still_there fs gs left e h k lt = let ne : k ≢ left - 1 = (λ z. omega arith) in ap (λ (m : List Bool). get_or m k false) e ∙ (get_or-set_other fs (left - 1) k false false ne ∙ h k (omega arith))

pub now_gone : (fs gs : List Bool) (left len : ℕ) → gs ≡ set fs (left - 1) false → ((k : ℕ) → left ≤ k → k < len → get_or fs k false ≡ false) → (k : ℕ) → left - 1 ≤ k → k < len → get_or gs k false ≡ false
now_gone fs gs left len e h k lo hi = ap (λ (m : List Bool). get_or m k false) e ∙ dite (ℕ_discrete k (left - 1))
    (λ same. subst (λ (z : ℕ). get_or (set fs (left - 1) false) z false ≡ false) (sym same) (cleared_here fs (left - 1)))
    (λ ne. get_or-set_other fs (left - 1) k false false ne ∙ h k (omega arith) hi)

pub one_view : {N S C R : Type 0} (vs : List (View N S C R)) → length vs ≡ 1 → vs ≡ Rattle.lock_book.specs.Ruled.view_of vs ∷ []
one_view [] e = absurd (omega arith)
one_view (v ∷ []) e = refl
one_view (v ∷ w ∷ vs) e = absurd (omega arith)
