-- One step changes the view of one seat and what is said of one value; the rule stays.
use Rattle.std.proofs.Common.{◌≡◌, ◌≢◌, ℕ, ◌+◌, ◌≤◌, List, [], length, set, sym, ◌∙◌, subst, ⊎_elim, arith}
use Rattle.std.specs.Prelude.{slice_index}
use mathlib.Core.Option.{Option, some}
use lib.ListN.{get_elem?}
use Rattle.atomic_table.specs.Table.{State}
use Rattle.atomic_table.proofs.Lists.{at_set}
use Rattle.lock_book.specs.declared.view.Entry.{Entry}
use Rattle.lock_book.specs.declared.view.View.{View}
use Rattle.lock_book.specs.History.{calls_by, StartsWith}
use Rattle.lock_book.specs.Ruled.{lock_at, named, total, holders, Stands, seen_at, told_at, StageOk, Knows, ValueOk, Ruled}
use Rattle.lock_book.proofs.Histories.{starts_trans, at_place}
use Rattle.lock_book.proofs.Totals.{total_set}

module _ {X N S C R : Type 0} (slot_name : X → N) (slot_state : X → S) (legal : N → ℕ → S → C → R → S → Type 0) where
  -- a value of which nothing changed
  pub same_value : (words ws : List ℕ) (homes hs : List (Option X)) (views vs : List (View N S C R)) (i : ℕ) (o : N × S) (log : List (Entry S C R))
      → slice_index ws (lock_at i) ≡ slice_index words (lock_at i) → ((x : X) → get_elem? homes i ≡ some (some x) → get_elem? hs i ≡ some (some x))
      → total (λ v. holders i v.stage) vs ≡ total (λ v. holders i v.stage) views → total (λ v. named i v.from v.stage) vs ≡ total (λ v. named i v.from v.stage) views → ValueOk slot_name slot_state legal words homes views i o log → ValueOk slot_name slot_state legal ws hs vs i o log
  same_value words ws homes hs views vs i o log locked home same kept k = let alone = k.alone in record {
    locked = locked ∙ (k.locked ∙ sym kept);
    alone = omega arith;
    lawful = k.lawful;
    at_home = λ z. let y = k.at_home (sym same ∙ z) in (y.0, home y.0 y.1, y.2, y.3);
  }

  module _ (opens : List (N × S)) (callers : ℕ) where
    abbrev Rule : State X (View N S C R) → Type 0
    Rule = Ruled slot_name slot_state legal opens callers

    module _ (s : State X (View N S C R)) (r : Rule s) (id : ℕ) (v w : View N S C R) (now : ℕ → List (Entry S C R)) (words : List ℕ) (homes : List (Option X)) where
      -- what a step of the seat v, which is w afterwards, has to keep
      pub record Change : Type 0 where
        pub at : get_elem? s.views id ≡ some v
        pub wide : length words ≡ length s.words
        pub same_seats : length w.owns ≡ length v.owns
        pub same_from : w.from ≡ v.from
        pub values : (i : ℕ) (o : N × S) → get_elem? opens i ≡ some o → ValueOk slot_name slot_state legal words homes (set s.views id w) i o (now i)
        pub knows : Knows opens callers now w
        pub grows : (i : ℕ) → StartsWith (now i) (r.logs i)
        pub bounded : (i n : ℕ) → callers ≤ n → calls_by n (now i) ≡ []
        pub others_calls : (i n : ℕ) → (Stands n v → ⊥) → calls_by n (now i) ≡ calls_by n (r.logs i)
        pub others_stage : (other : ℕ) (u : View N S C R) → other ≢ id → get_elem? s.views other ≡ some u → StageOk opens callers r.logs u u.stage → StageOk opens callers now u u.stage

      -- all values, of which one changed
      pub values_by : (i : ℕ) → get_elem? s.views id ≡ some v → ((j : ℕ) → j ≢ i → now j ≡ r.logs j)
          → ((j : ℕ) → j ≢ i → slice_index words (lock_at j) ≡ slice_index s.words (lock_at j)) → ((j : ℕ) (x : X) → j ≢ i → get_elem? s.homes j ≡ some (some x) → get_elem? homes j ≡ some (some x))
          → ((j : ℕ) → j ≢ i → holders j w.stage ≡ holders j v.stage) → ((j : ℕ) → j ≢ i → named j w.from w.stage ≡ named j v.from v.stage) → ((o : N × S) → get_elem? opens i ≡ some o → ValueOk slot_name slot_state legal words homes (set s.views id w) i o (now i))
          → (j : ℕ) (o : N × S) → get_elem? opens j ≡ some o → ValueOk slot_name slot_state legal words homes (set s.views id w) j o (now j)
      values_by i at logs others home stages names here = at_place (λ (j : ℕ). (o : N × S) → get_elem? opens j ≡ some o → ValueOk slot_name slot_state legal words homes (set s.views id w) j o (now j)) i here (λ j ne o e.
          let t = total_set (λ (u : View N S C R). holders j u.stage) s.views id v w at in
          let m = total_set (λ (u : View N S C R). named j u.from u.stage) s.views id v w at in
          let same = stages j ne in
          let kept = names j ne in
          subst (ValueOk slot_name slot_state legal words homes (set s.views id w) j o) (sym (logs j ne))
          (same_value s.words words s.homes homes s.views (set s.views id w) j o (r.logs j) (others j ne) (λ x h. home j x ne h) (omega arith) (omega arith) (r.each_value j o e)))

      module _ (c : Change) where
        other_knows : (other : ℕ) (u : View N S C R) → other ≢ id → get_elem? s.views other ≡ some u → Knows opens callers now u
        other_knows other u ne e = let k = r.each_seat other u e in record {
          opened = k.opened;
          counted = k.counted;
          below = k.below;
          seen = λ i. starts_trans (now i) (r.logs i) (seen_at u i) (c.grows i) (k.seen i);
          told = λ i. starts_trans (now i) (r.logs i) (told_at u i) (c.grows i) (k.told i);
          mine = λ m i lt. k.mine m i lt ∙ sym (c.others_calls i (u.from + m) (λ h. ne (r.numbers other id u v e c.at (u.from + m) (omega arith, omega arith) h)));
          mine_seen = k.mine_seen;
          staged = c.others_stage other u ne e k.staged;
        }

        each : (j : ℕ) (u : View N S C R) → get_elem? (set s.views id w) j ≡ some u → Knows opens callers now u
        each j u e = ⊎_elim (λ (t : (j ≡ id) × (w ≡ u)). subst (Knows opens callers now) t.1 c.knows) (λ (t : (j ≢ id) × (get_elem? s.views j ≡ some u)). other_knows j u t.0 t.1) (at_set s.views id j w u e)

        was_standing : (n : ℕ) (x : View N S C R) → w ≡ x → Stands n x → Stands n v
        was_standing n x e h = let g : Stands n w = subst (Stands n) (sym e) h in let a = g.0 in let b = g.1 in let p = c.same_from in let q = c.same_seats in (omega arith, omega arith)

        numbers_now : (a b : ℕ) (x y : View N S C R) → get_elem? (set s.views id w) a ≡ some x → get_elem? (set s.views id w) b ≡ some y → (n : ℕ) → Stands n x → Stands n y → a ≡ b
        numbers_now a b x y ea eb n hx hy =
            ⊎_elim
            (λ (p : (a ≡ id) × (w ≡ x)). ⊎_elim
            (λ (q : (b ≡ id) × (w ≡ y)). p.0 ∙ sym q.0)
            (λ (q : (b ≢ id) × (get_elem? s.views b ≡ some y)). absurd (q.0 (r.numbers b id y v q.1 c.at n hy (was_standing n x p.1 hx))))
            (at_set s.views id b w y eb))
            (λ (p : (a ≢ id) × (get_elem? s.views a ≡ some x)). ⊎_elim
            (λ (q : (b ≡ id) × (w ≡ y)). absurd (p.0 (r.numbers a id x v p.1 c.at n hx (was_standing n y q.1 hy))))
            (λ (q : (b ≢ id) × (get_elem? s.views b ≡ some y)). r.numbers a b x y p.1 q.1 n hx hy)
            (at_set s.views id b w y eb))
            (at_set s.views id a w x ea)

        pub changed : Rule record { words = words; homes = homes; views = set s.views id w }
        changed = record {
          logs = now;
          wide = c.wide ∙ r.wide;
          each_value = c.values;
          bounded = c.bounded;
          seats = let t = total_set (λ (u : View N S C R). length u.owns) s.views id v w c.at in let q = c.same_seats in let all = r.seats in omega arith;
          each_seat = each;
          numbers = numbers_now;
        }
