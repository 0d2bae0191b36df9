-- Two seats become one, and a shelf opens.
use Rattle.std.proofs.Common.{◌≡◌, ◌≢◌, ◌⊎◌, ℕ, zero, suc, ◌+◌, ◌*◌, ◌-◌, ◌<◌, List, [], ◌∷◌, ◌++◌, length, set, sym, refl, ap, ◌∙◌, subst, inl, inr, ⊎_elim, arith, length-append, replicate}
use Rattle.std.specs.Prelude.{slice_index}
use mathlib.Core.Logic.{dite}
use mathlib.Core.Option.{some, some-injective, some-ne-none}
use native.Mathlib.Decide.{ℕ_discrete, dec_le}
use lib.ListN.{get_elem?}
use Rattle.atomic_table.specs.Table.{State, Joins, opening}
use Rattle.atomic_table.proofs.Lists.{at_set, at_map}
use Rattle.lock_book.specs.declared.view.Entry.{Entry}
use Rattle.lock_book.specs.declared.view.Stage.TheVariants.{Idle}
use Rattle.lock_book.specs.declared.view.View.{View}
use Rattle.lock_book.specs.History.{calls_by, calls_at, StartsWith, row_at, longer_rows}
use Rattle.lock_book.specs.Ruled.{lock_at, named, holders, Stands, seen_at, informed, together, nobody, newcomers, StageOk, Knows, Ruled}
use Rattle.lock_book.proofs.Histories.{starts_nil, longer_of, row_longer, calls_between}
use Rattle.lock_book.proofs.Totals.{total_set, total_two}
use Rattle.lock_book.proofs.Changes.{same_value}
use Rattle.lock_book.proofs.Meets.{nobody_knows, informed_knows, joined_front, joined_back}

module _ {X N S C R : Type 0} (slot_name : X → N) (slot_state : X → S) (legal : N → ℕ → S → C → R → S → Type 0) (opens : List (N × S)) (callers : ℕ) where
  abbrev Rule : State X (View N S C R) → Type 0
  Rule = Ruled slot_name slot_state legal opens callers

  module _ (s : State X (View N S C R)) (r : Rule s) (id : ℕ) (v : View N S C R) (other : ℕ) (w both : View N S C R) (at : get_elem? s.views id ≡ some v) (apart : other ≢ id) (at' : get_elem? (set s.views id both) other ≡ some w)
      (idle : v.stage ≡ Idle) (w_idle : w.stage ≡ Idle) (both_idle : both.stage ≡ Idle) (known : Knows opens callers r.logs both) (count : length both.owns ≡ length v.owns + length w.owns)
      (of_both : (n : ℕ) → Stands n both → Stands n v ⊎ Stands n w) where
    abbrev joined : List (View N S C R)
    joined = set (set s.views id both) other nobody

    pub was_other : get_elem? s.views other ≡ some w
    was_other = ⊎_elim (λ (t : (other ≡ id) × (both ≡ w)). absurd (apart t.0)) (λ (t : (other ≢ id) × (get_elem? s.views other ≡ some w)). t.1) (at_set s.views id other both w at')

    data Was (j : ℕ) (u : View N S C R) : Type 0 where
      is_spent : nobody ≡ u → Was j u
      is_both : j ≡ id → both ≡ u → Was j u
      is_else : j ≢ id → j ≢ other → get_elem? s.views j ≡ some u → Was j u

    was : (j : ℕ) (u : View N S C R) → get_elem? joined j ≡ some u → Was j u
    was j u e = ⊎_elim
        (λ (t : (j ≡ other) × (nobody ≡ u)). is_spent t.1)
        (λ (t : (j ≢ other) × (get_elem? (set s.views id both) j ≡ some u)). ⊎_elim (λ (q : (j ≡ id) × (both ≡ u)). is_both q.0 q.1) (λ (q : (j ≢ id) × (get_elem? s.views j ≡ some u)). is_else q.0 t.0 q.1) (at_set s.views id j both u t.1))
        (at_set (set s.views id both) other j nobody u e)

    not_spent : (n : ℕ) (u : View N S C R) → nobody ≡ u → Stands n u → ⊥
    not_spent n u e h = let g : Stands {N = N} {S = S} {C = C} {R = R} n nobody = subst (Stands n) (sym e) h in let a = g.0 in let b = g.1 in omega arith

    pub join_keeps : Rule record { words = s.words; homes = s.homes; views = joined }
    join_keeps = record {
      logs = r.logs;
      bounded = r.bounded;
      wide = r.wide;
      each_value = λ j o e.
          let f : View N S C R → ℕ = λ u. holders j u.stage in
          let a = total_set f s.views id v both at in
          let b = total_set f (set s.views id both) other w nobody at' in
          let hv : f v ≡ 0 = ap (holders j) idle in
          let hw : f w ≡ 0 = ap (holders j) w_idle in
          let hb : f both ≡ 0 = ap (holders j) both_idle in
          let n : View N S C R → ℕ = λ u. named j u.from u.stage in
          let na = total_set n s.views id v both at in
          let nb = total_set n (set s.views id both) other w nobody at' in
          let nv : n v ≡ 0 = ap (named j v.from) idle in
          let nw : n w ≡ 0 = ap (named j w.from) w_idle in
          let nboth : n both ≡ 0 = ap (named j both.from) both_idle in
          same_value slot_name slot_state legal s.words s.words s.homes s.homes s.views joined j o (r.logs j) refl (λ x h. h) (omega arith) (omega arith) (r.each_value j o e);
      seats =
          let f : View N S C R → ℕ = λ u. length u.owns in
          let a = total_set f s.views id v both at in
          let b = total_set f (set s.views id both) other w nobody at' in
          let e = r.seats in
          omega arith;
      each_seat = λ j u e. elim (was j u e) [ is_spent q ↦ subst (Knows opens callers r.logs) q (nobody_knows opens callers r.logs) | is_both p q ↦ subst (Knows opens callers r.logs) q known | is_else p o q ↦ r.each_seat j u q ];
      numbers = λ a b x y ea eb n hx hy. elim (was a x ea) [
        | is_spent q ↦ absurd (not_spent n x q hx)
        | is_both p q ↦ elim (was b y eb) [
          | is_spent q' ↦ absurd (not_spent n y q' hy)
          | is_both p' q' ↦ p ∙ sym p'
          | is_else p' o' q' ↦ absurd (⊎_elim (λ (h : Stands n v). p' (r.numbers b id y v q' at n hy h)) (λ (h : Stands n w). o' (r.numbers b other y w q' was_other n hy h)) (of_both n (subst (Stands n) (sym q) hx)))
        ]
        | is_else p o q ↦ elim (was b y eb) [
          | is_spent q' ↦ absurd (not_spent n y q' hy)
          | is_both p' q' ↦ absurd (⊎_elim (λ (h : Stands n v). p (r.numbers a id x v q at n hx h)) (λ (h : Stands n w). o (r.numbers a other x w q was_other n hx h)) (of_both n (subst (Stands n) (sym q') hy)))
          | is_else p' o' q' ↦ r.numbers a b x y q q' n hx hy
        ]
      ];
    }

  -- a seat is told what another has seen, which stands for no caller
  pub tells : (id : ℕ) (v : View N S C R) (other : ℕ) (w : View N S C R) → v.stage ≡ Idle → w.stage ≡ Idle → length w.owns ≡ 0 → Joins Rule id v other w (informed v w) nobody
  tells id v other w idle w_idle no_owner s r at apart at' =
      let was_w = ⊎_elim (λ (t : (other ≡ id) × (informed v w ≡ w)). absurd (apart t.0)) (λ (t : (other ≢ id) × (get_elem? s.views other ≡ some w)). t.1) (at_set s.views id other (informed v w) w at') in
      join_keeps s r id v other w (informed v w) at apart at' idle w_idle idle (informed_knows opens callers r.logs v w (r.each_seat id v at) (r.each_seat other w was_w) idle) (omega arith) (λ n h. inl h)

  -- a seat takes in the seat of the callers that follow its own
  pub gathers : (id : ℕ) (v : View N S C R) (other : ℕ) (w : View N S C R) → v.stage ≡ Idle → w.stage ≡ Idle → 0 < length v.owns → w.from ≡ v.from + length v.owns
      → Joins Rule id v other w (together v w) nobody
  gathers id v other w idle w_idle some_owner next s r at apart at' =
      let both : View N S C R = together v w in
      let was_w = ⊎_elim (λ (t : (other ≡ id) × (both ≡ w)). absurd (apart t.0)) (λ (t : (other ≢ id) × (get_elem? s.views other ≡ some w)). t.1) (at_set s.views id other both w at') in
      let k = r.each_seat id v at in
      let h = r.each_seat other w was_w in
      let len = length-append v.owns w.owns in
      let few = total_two (λ (u : View N S C R). length u.owns) s.views id other v w at apart was_w in
      let all = r.seats in
      let part : (n : ℕ) (Q : ℕ → List (ℕ × Entry S C R) → Type 0) → n < length (v.owns ++ w.owns) → ((m : ℕ) → m < length v.owns → Q (v.from + m) (row_at v.owns m)) → ((m : ℕ) → m < length w.owns → Q (w.from + m) (row_at w.owns m)) → Q (v.from + n) (row_at (v.owns ++ w.owns) n) =
      λ n Q lt a b. dite (dec_le (length v.owns) n)
      (λ hi.
      let m : ℕ = n - length v.owns in
      let e : length v.owns + m ≡ n = omega arith in
      let f : w.from + m ≡ v.from + n = omega arith in
      subst (λ (z : ℕ × List (ℕ × Entry S C R)). Q z.0 z.1) (λ x. (f x, (sym (joined_back opens callers r.logs v.owns w.owns m) ∙ ap (row_at (v.owns ++ w.owns)) e) x)) (b m (omega arith)))
      (λ lo. let l : n < length v.owns = omega arith in subst (Q (v.from + n)) (sym (joined_front opens callers r.logs v.owns w.owns n l)) (a n l)) in
      let both_seen : (j : ℕ) → StartsWith (r.logs j) (row_at (longer_rows v.seen w.seen) j) × StartsWith (row_at (longer_rows v.seen w.seen) j) (seen_at v j) × StartsWith (row_at (longer_rows v.seen w.seen) j) (seen_at w j) =
      λ j. subst (λ (m : List (Entry S C R)). StartsWith (r.logs j) m × StartsWith m (seen_at v j) × StartsWith m (seen_at w j)) (sym (row_longer v.seen w.seen j)) (longer_of (r.logs j) (seen_at v j) (seen_at w j) (k.seen j) (h.seen j)) in
      let known : Knows opens callers r.logs both = record {
        opened = λ _. k.opened some_owner;
        counted = λ _. k.counted some_owner;
        below = λ _. dite (ℕ_discrete (length w.owns) 0) (λ z. let c = k.below some_owner in omega arith) (λ z. let c = h.below (omega arith) in omega arith);
        seen = λ j. (both_seen j).0;
        told = λ j. starts_nil (r.logs j);
        mine = λ n j lt. part n (λ x row. calls_at j row ≡ calls_by x (r.logs j)) lt (λ m l. k.mine m j l) (λ m l. h.mine m j l);
        mine_seen = λ n j lt. part n (λ x row. calls_at j row ≡ calls_by x (row_at (longer_rows v.seen w.seen) j)) lt
            (λ m l. k.mine m j l ∙ sym (calls_between (v.from + m) (r.logs j) (row_at (longer_rows v.seen w.seen) j) (seen_at v j) (both_seen j).0 (both_seen j).1 (sym (k.mine_seen m j l) ∙ k.mine m j l)))
            (λ m l. h.mine m j l ∙ sym (calls_between (w.from + m) (r.logs j) (row_at (longer_rows v.seen w.seen) j) (seen_at w j) (both_seen j).0 (both_seen j).2 (sym (h.mine_seen m j l) ∙ h.mine m j l)));
        staged = subst (StageOk opens callers r.logs both) (sym idle) tt;
      } in
      join_keeps s r id v other w both at apart at' idle w_idle idle known len
      (λ n g. let lo = g.0 in let hi = g.1 in dite (dec_le (v.from + length v.owns) n) (λ up. inr (omega arith, omega arith)) (λ down. inl (lo, omega arith)))

  empty_rows : (c i : ℕ) → row_at (replicate {A = List (ℕ × Entry S C R)} c []) i ≡ []
  empty_rows zero i = refl
  empty_rows (suc c) zero = refl
  empty_rows (suc c) (suc i) = empty_rows c i

  empty_length : (c : ℕ) → length (replicate {A = List (ℕ × Entry S C R)} c []) ≡ c
  empty_length zero = refl
  empty_length (suc c) = ap suc (empty_length c)

  zero_words : (n i : ℕ) → slice_index (replicate {A = ℕ} n 0) i ≡ 0
  zero_words zero i = refl
  zero_words (suc n) zero = refl
  zero_words (suc n) (suc i) = zero_words n i

  words_length : (n : ℕ) → length (replicate {A = ℕ} n 0) ≡ n
  words_length zero = refl
  words_length (suc n) = ap suc (words_length n)

  -- the shelf as it is made: each value at home, no call made
  pub opens_so : (slots : List X) → ((i : ℕ) (o : N × S) → get_elem? opens i ≡ some o → (x : X) × (get_elem? slots i ≡ some x) × (slot_name x ≡ o.0) × (slot_state x ≡ o.1))
      → Rule (opening (replicate (8 * length opens) 0) slots (newcomers opens callers))
  opens_so slots fits = let n = newcomers {N = N} {S = S} {C = C} {R = R} opens callers in let len = empty_length callers in
      let start : ℕ → List (Entry S C R) = λ i. [] in
      let seat : Knows opens callers start n = record {
        opened = λ _. refl;
        counted = λ _. refl;
        below = λ _. omega arith;
        seen = λ i. starts_nil [];
        told = λ i. starts_nil [];
        mine = λ k i lt. ap (calls_at i) (empty_rows callers k);
        mine_seen = λ k i lt. ap (calls_at i) (empty_rows callers k);
        staged = tt;
      } in record {
        logs = start;
        wide = words_length (8 * length opens);
        each_value = λ i o e. let f = fits i o e in record {
          locked = zero_words (8 * length opens) (lock_at i);
          alone = omega arith;
          lawful = tt;
          at_home = λ _. (f.0, at_map some slots i f.0 f.1, f.2, f.3);
        };
        bounded = λ i m h. refl;
        seats = omega arith;
        each_seat = λ id v e. only id v e (Knows opens callers start) seat;
        numbers = λ a b x y ea eb m hx hy. alone a x ea ∙ sym (alone b y eb);
      }
    where
      only : (id : ℕ) (v : View N S C R) → get_elem? (newcomers opens callers ∷ []) id ≡ some v → (P : View N S C R → Type 0) → P (newcomers opens callers) → P v
      only zero v e P p = subst P (some-injective _ v e) p
      only (suc id) v e P p = absurd (some-ne-none v (sym e))

      alone : (id : ℕ) (v : View N S C R) → get_elem? (newcomers {N = N} {S = S} {C = C} {R = R} opens callers ∷ []) id ≡ some v → id ≡ 0
      alone zero v e = refl
      alone (suc id) v e = absurd (some-ne-none v (sym e))
