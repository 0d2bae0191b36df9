-- Each step of the counter keeps its rule.
use Rattle.std.proofs.Common.{◌≡◌, ◌≢◌, ℕ, zero, suc, ◌+◌, ◌-◌, ◌%◌, ◌^◌, ◌<◌, ◌≤◌, List, [], ◌∷◌, ◌++◌, length, get_or, set, sym, refl, ap, ◌∙◌, subst, ⊎_elim, arith, add-one, length-append, length-set, get_or-set_same}
use Rattle.std.specs.Prelude.{replicate}
use mathlib.Core.Option.{none, some, some-injective, some-ne-none}
use lib.ListN.{get_elem?}
use lib.Seq.{set-get_or}
use Rattle.atomic_table.specs.Table.{State, step, keeps, stepped, Allows, Splits, Joins, opening}
use Rattle.atomic_table.proofs.Lists.{at_set, at_snoc, set_again}
use Rattle.scan_claim.specs.declared.view.Draws.{Draws}
use Rattle.scan_claim.specs.Drawing.{times, late, flat, below, once_below, EndsOnce, InOrder, all_of, seats_of, with_lists, Knows, Counts, Sat, drew, IsDrawn, counted, first_list, other_lists, first_caller, other_callers, together, nobody, newcomers}
use Rattle.scan_claim.proofs.Totals.{total_set, total_snoc, total_at, total_gap, total_two, total_alone, times-append, late-append, flat-append, times_snoc, late_snoc, once_more, once_none, late_more, ends_few, ends-append}

few : (b : ℕ) (ls : List (List ℕ)) → (0 < length ls → EndsOnce b ls) → late b (flat ls) ≤ length ls
few b [] h = omega arith
few b (l ∷ ls) h = ends_few b (l ∷ ls) (h (omega arith))

abbrev Rule : Type 0
Rule = State (Unit {0}) Draws

abbrev at_word : Rule → ℕ
at_word s = get_or s.words 0 0

-- a seat that has drawn no late number leaves room for one more draw
room : (blocks callers : ℕ) (s : Rule) → Counts blocks callers s → (id : ℕ) (v : Draws) → get_elem? s.views id ≡ some v → late blocks (flat v.lists) + 1 ≤ length v.lists → (at_word s - blocks) + 1 ≤ callers
room blocks callers s r id v at gap =
    let t = total_gap (λ u. late blocks (all_of u)) seats_of s.views id v (λ j u e. few blocks u.lists (λ some_list. (r.each j u e some_list).2)) at gap in
    let ends = r.ends in let seats = r.seats in omega arith

draws_one : (blocks callers slots id : ℕ) (me : Sat) (l : List ℕ) → me.0.lists ≡ l ∷ [] → late me.0.blocks l ≡ 0
    → Allows (Counts blocks callers) slots id me 0 (λ n. (n + 1) % 18446744073709551616) (λ n m. (m.1 ≡ me.1) × (m.0 ≡ with_lists me.0 ((l ++ n ∷ []) ∷ [])) × (length (flat me.0.lists) + 1 ≤ me.0.blocks + me.0.callers) × (me.0.callers ≡ 1 → l ≡ below n))
draws_one blocks callers slots id me l is early s r _ at _ =
    let v : Draws = me.0 in
    let n : ℕ = at_word s in
    let w : Draws = with_lists v ((l ++ n ∷ []) ∷ []) in
    let one : length v.lists ≡ 1 = ap length is in
    let k = r.each id v at (omega arith) in
    let ends : EndsOnce blocks (l ∷ []) = subst (EndsOnce blocks) is k.2 in
    let early_here : late blocks l ≡ 0 = subst (λ (b : ℕ). late b l ≡ 0) k.0 early in
    let flat_v : flat v.lists ≡ l ++ [] = ap flat is in
    let late_v : late blocks (flat v.lists) ≡ 0 = ap (late blocks) flat_v ∙ omega (arith, late-append blocks l []) in
    let more = room blocks callers s r id v at (omega arith) in
    let small = r.small in
    let next : n + 1 ≡ (n + 1) % 18446744073709551616 = omega arith in
    let few_here : length (flat v.lists) + 1 ≤ v.blocks + v.callers = (let t = total_at (λ u. length (all_of u)) s.views id v at in let e = r.made in omega (arith, k.0, k.1)) in
    let wide = r.wide in
    let found : get_or (set s.words 0 (n + 1)) 0 0 ≡ n + 1 = get_or-set_same s.words 0 (n + 1) 0 (omega arith) in
    let kept : Counts blocks callers (stepped s 0 (n + 1) id me.1 w keeps) = record {
      wide = length-set s.words 0 (n + 1) ∙ wide;
      small = small;
      once = λ x.
          let t = total_set (λ u. times x (all_of u)) s.views id v w at in
          let a : times x (flat v.lists) ≡ times x l = ap (times x) flat_v ∙ omega (arith, times-append x l []) in
          let b = times-append x (l ++ n ∷ []) [] in
          let c = times_snoc x n l in
          let d = once_more x n in
          let e = r.once x in
          let f : once_below x (get_or (set s.words 0 (n + 1)) 0 0) ≡ once_below x (n + 1) = ap (once_below x) found in
          omega arith;
      seats = let t = total_set seats_of s.views id v w at in let e = r.seats in omega arith;
      ends =
          let t = total_set (λ u. late blocks (all_of u)) s.views id v w at in
          let b = late-append blocks (l ++ n ∷ []) [] in
          let c = late_snoc blocks n l in
          let d = late_more blocks n in
          let e = r.ends in
          omega arith;
      made =
          let t = total_set (λ u. length (all_of u)) s.views id v w at in
          let a : length (flat v.lists) ≡ length l = ap length flat_v ∙ omega (arith, length-append l []) in
          let b = length-append (l ++ n ∷ []) [] in
          let c = length-append l (n ∷ []) in
          let e = r.made in
          omega arith;
      each = λ j u e.
          ⊎_elim
          (λ (t : (j ≡ id) × (w ≡ u)). subst (Knows blocks callers (get_or (set s.words 0 (n + 1)) 0 0)) t.1
          (λ _. (
            k.0,
            k.1,
            ((let c = late_snoc blocks n l in omega (arith, Rattle.scan_claim.proofs.Totals.late_le blocks n)), tt),
            λ alone. subst (λ (m : ℕ). l ++ n ∷ [] ≡ below m) (sym (found ∙ add-one n))
                (ap (λ (m : List ℕ). m ++ n ∷ []) (subst (InOrder n) is (k.3 alone))),
          )))
          (λ (t : (j ≢ id) × (get_elem? s.views j ≡ some u)). λ some_list.
          let o = r.each j u t.1 some_list in
          (o.0, o.1, o.2, λ alone. let two = total_two seats_of s.views id j v u at t.0 t.1 in let all = r.seats in absurd (omega arith)))
          (at_set s.views id j w u e);
    } in (
      w,
      keeps,
      tt,
      subst (λ (m : ℕ). Counts blocks callers (stepped s 0 m id me.1 w keeps)) next kept,
      (refl, refl, few_here, λ alone. subst (InOrder n) is (k.3 (sym k.1 ∙ alone))),
    )

pub one_list : (ls : List (List ℕ)) → length ls ≡ 1 → ls ≡ flat ls ∷ []
one_list [] e = absurd (omega arith)
one_list (l ∷ []) e = ap (λ (m : List ℕ). m ∷ []) (sym (Rattle.std.proofs.Common.append-nil l))
one_list (l ∷ m ∷ ls) e = absurd (omega arith)

pub draws : (blocks callers slots id : ℕ) (me : Sat) → length me.0.lists ≡ 1 → late me.0.blocks (flat me.0.lists) ≡ 0
    → Allows (Counts blocks callers) slots id me 0 (λ n. (n + 1) % 18446744073709551616) (drew (step slots 0 1 0 none) me)
draws blocks callers slots id me one early s r len at small =
    let d = draws_one blocks callers slots id me (flat me.0.lists) (one_list me.0.lists one) early s r len at small in
    (d.0, d.1, d.2, d.3, (d.4.0, record { more = d.4.1; few = d.4.2; order = d.4.3 }))

none_left : (ls : List (List ℕ)) → length ls ≡ 0 → flat ls ≡ []
none_left [] e = refl
none_left (l ∷ ls) e = absurd (omega arith)

counted_all : (blocks callers : ℕ) (s : Rule) → Counts blocks callers s → (id : ℕ) (v : Draws) → get_elem? s.views id ≡ some v → 0 < length v.lists → length v.lists ≡ v.callers → IsDrawn v.blocks v.lists (at_word s)
counted_all blocks callers s r id v at some_list all =
    let k = r.each id v at some_list in
    let n : ℕ = at_word s in
    let others : (j : ℕ) (u : Draws) → j ≢ id → get_elem? s.views j ≡ some u → flat u.lists ≡ [] = λ j u apart e. none_left u.lists (let two = total_two seats_of s.views id j v u at apart e in let sum = r.seats in let c = k.1 in omega arith) in
    let same : blocks ≡ v.blocks = sym k.0 in
    let past : late blocks (flat v.lists) ≡ n - blocks = sym (total_alone (λ u. late blocks (all_of u)) s.views id v at (λ j u apart e. ap (late blocks) (others j u apart e))) ∙ r.ends in
    let drawn_all : IsDrawn blocks v.lists n = record {
      draws = sym (total_alone (λ u. length (all_of u)) s.views id v at (λ j u apart e. ap length (others j u apart e))) ∙ r.made;
      once = λ x. sym (total_alone (λ u. times x (all_of u)) s.views id v at (λ j u apart e. ap (times x) (others j u apart e))) ∙ r.once x;
      past = past;
      ends = k.2;
      few = omega (arith, ends_few blocks v.lists k.2);
    } in subst (λ (b : ℕ). IsDrawn b v.lists n) same drawn_all

pub counts : (blocks callers slots id : ℕ) (me : Sat) → Allows (Counts blocks callers) slots id me 0 (λ n. n) (counted (step slots 0 0 0 none) me)
counts blocks callers slots id me s r _ at _ =
    let v : Draws = me.0 in
    let n : ℕ = at_word s in (
      v,
      keeps,
      tt,
      subst (λ (z : List ℕ × List Draws). Counts blocks callers record { words = z.0; homes = s.homes; views = z.1 }) (λ i. (sym (set-get_or s.words 0 0) i, sym (set_again s.views id v at) i)) r,
      (refl, refl, λ some_list all. counted_all blocks callers s r id v at some_list all),
    )

-- a view whose lists are some of a kept view's, in their order
set_knows : (blocks callers n : ℕ) (views : List Draws) (id : ℕ) (w : Draws) → ((j : ℕ) (u : Draws) → get_elem? views j ≡ some u → Knows blocks callers n u) → Knows blocks callers n w
    → (j : ℕ) (u : Draws) → get_elem? (set views id w) j ≡ some u → Knows blocks callers n u
set_knows blocks callers n views id w each mine j u e =
    ⊎_elim (λ (t : (j ≡ id) × (w ≡ u)). subst (Knows blocks callers n) t.1 mine) (λ (t : (j ≢ id) × (get_elem? views j ≡ some u)). each j u t.1) (at_set views id j w u e)

first_flat : (ls : List (List ℕ)) → flat ls ≡ flat (first_list ls) ++ flat (other_lists ls)
first_flat [] = refl
first_flat (l ∷ ls) = ap (λ (m : List ℕ). m ++ flat ls) (sym (Rattle.std.proofs.Common.append-nil l))

first_length : (ls : List (List ℕ)) → length ls ≡ length (first_list ls) + length (other_lists ls)
first_length [] = refl
first_length (l ∷ ls) = omega arith

first_knows : (blocks callers n : ℕ) (v : Draws) → length v.lists ≤ callers → Knows blocks callers n v → (ls : List (List ℕ)) → v.lists ≡ ls → Knows blocks callers n (first_caller v)
first_knows blocks callers n v most k [] is some_list = absurd (let e : length (first_list v.lists) ≡ 0 = ap (λ (m : List (List ℕ)). length (first_list m)) is in omega arith)
first_knows blocks callers n v most k (l ∷ ls) is some_list =
    let e : first_list v.lists ≡ l ∷ [] = ap first_list is in
    let z : length v.lists ≡ length (l ∷ ls) = ap length is in
    let o = k (omega arith) in
    (o.0, o.1, subst (EndsOnce blocks) (sym e) ((subst (EndsOnce blocks) is o.2).0, tt), λ alone. subst (InOrder n) (sym e) (only_one n l ls (let len : length ls ≡ 0 = omega arith in len) (subst (InOrder n) is (o.3 alone))))
  where
    only_one : (n : ℕ) (l : List ℕ) (ls : List (List ℕ)) → length ls ≡ 0 → InOrder n (l ∷ ls) → InOrder n (l ∷ [])
    only_one n l [] e h = h
    only_one n l (m ∷ ls) e h = absurd (omega arith)

other_knows : (blocks callers n : ℕ) (v : Draws) → length v.lists ≤ callers → Knows blocks callers n v → (ls : List (List ℕ)) → v.lists ≡ ls → Knows blocks callers n (other_callers v)
other_knows blocks callers n v most k [] is some_list = absurd (let e : length (other_lists v.lists) ≡ 0 = ap (λ (m : List (List ℕ)). length (other_lists m)) is in omega arith)
other_knows blocks callers n v most k (l ∷ ls) is some_list =
    let e : other_lists v.lists ≡ ls = ap other_lists is in
    let z : length v.lists ≡ length (l ∷ ls) = ap length is in
    let y : length (other_lists v.lists) ≡ length ls = ap length e in
    let o = k (omega arith) in
    (o.0, o.1, subst (EndsOnce blocks) (sym e) (subst (EndsOnce blocks) is o.2).1, λ alone. absurd (omega arith))

snoc_knows : (blocks callers n : ℕ) (views : List Draws) (w : Draws) → ((j : ℕ) (u : Draws) → get_elem? views j ≡ some u → Knows blocks callers n u) → Knows blocks callers n w
    → (j : ℕ) (u : Draws) → get_elem? (views ++ w ∷ []) j ≡ some u → Knows blocks callers n u
snoc_knows blocks callers n views w each mine j u e = ⊎_elim (each j u) (λ (t : w ≡ u). subst (Knows blocks callers n) t mine) (at_snoc views w u j e)

pub splits : (blocks callers id : ℕ) (v : Draws) → Splits (Counts blocks callers) id v (first_caller v) (other_callers v)
splits blocks callers id v s r at =
    let most : length v.lists ≤ callers = (let t = total_at seats_of s.views id v at in let e = r.seats in omega arith) in
    let k = r.each id v at in
    let left : Draws = first_caller v in
    let right : Draws = other_callers v in record {
      wide = r.wide;
      small = r.small;
      once = λ x.
          let f : Draws → ℕ = λ u. times x (all_of u) in
          let t = total_set f s.views id v left at in
          let a = total_snoc f (set s.views id left) right in
          let b : times x (flat v.lists) ≡ times x (flat (first_list v.lists)) + times x (flat (other_lists v.lists)) =
          ap (times x) (first_flat v.lists) ∙ times-append x (flat (first_list v.lists)) (flat (other_lists v.lists)) in
          let e = r.once x in
          omega arith;
      seats =
          let t = total_set seats_of s.views id v left at in
          let a = total_snoc seats_of (set s.views id left) right in
          let b = first_length v.lists in
          let e = r.seats in
          omega arith;
      ends =
          let f : Draws → ℕ = λ u. late blocks (all_of u) in
          let t = total_set f s.views id v left at in
          let a = total_snoc f (set s.views id left) right in
          let b : late blocks (flat v.lists) ≡ late blocks (flat (first_list v.lists)) + late blocks (flat (other_lists v.lists)) =
          ap (late blocks) (first_flat v.lists) ∙ late-append blocks (flat (first_list v.lists)) (flat (other_lists v.lists)) in
          let e = r.ends in
          omega arith;
      made =
          let f : Draws → ℕ = λ u. length (all_of u) in
          let t = total_set f s.views id v left at in
          let a = total_snoc f (set s.views id left) right in
          let b : length (flat v.lists) ≡ length (flat (first_list v.lists)) + length (flat (other_lists v.lists)) =
          ap length (first_flat v.lists) ∙ length-append (flat (first_list v.lists)) (flat (other_lists v.lists)) in
          let e = r.made in
          omega arith;
      each = snoc_knows blocks callers (at_word s) (set s.views id left) right
          (set_knows blocks callers (at_word s) s.views id left r.each (first_knows blocks callers (at_word s) v most k v.lists refl))
          (other_knows blocks callers (at_word s) v most k v.lists refl);
    }

joined_order : (n : ℕ) (ls ks : List (List ℕ)) → length ls + length ks ≤ 1 → InOrder n ls → (0 < length ks → InOrder n ks) → InOrder n (ls ++ ks)
joined_order n [] [] few h g = tt
joined_order n [] (k ∷ ks) few h g = g (omega arith)
joined_order n (l ∷ []) [] few h g = h
joined_order n (l ∷ []) (k ∷ ks) few h g = absurd (omega arith)
joined_order n (l ∷ m ∷ ls) ks few h g = absurd (omega arith)

joined_ends : (b : ℕ) (ls ks : List (List ℕ)) → EndsOnce b ls → (0 < length ks → EndsOnce b ks) → EndsOnce b (ls ++ ks)
joined_ends b ls [] h g = ends-append b ls [] h tt
joined_ends b ls (k ∷ ks) h g = ends-append b ls (k ∷ ks) h (g (omega arith))

pub joins : (blocks callers id : ℕ) (v : Draws) (other : ℕ) (w : Draws) → 0 < length v.lists → Joins (Counts blocks callers) id v other w (together v w) nobody
joins blocks callers id v other w some_list s r at apart at' =
    let both : Draws = together v w in
    let n : ℕ = at_word s in
    let was : get_elem? s.views other ≡ some w = ⊎_elim (λ (t : (other ≡ id) × (both ≡ w)). absurd (apart t.0)) (λ (t : (other ≢ id) × (get_elem? s.views other ≡ some w)). t.1) (at_set s.views id other both w at') in
    let k = r.each id v at some_list in
    let o = r.each other w was in
    let two = total_two seats_of s.views id other v w at apart was in
    let all = r.seats in
    let len = length-append v.lists w.lists in record {
      wide = r.wide;
      small = r.small;
      once = λ x.
          let f : Draws → ℕ = λ u. times x (all_of u) in
          let t = total_set f s.views id v both at in
          let a = total_set f (set s.views id both) other w nobody at' in
          let b : times x (flat (v.lists ++ w.lists)) ≡ times x (flat v.lists) + times x (flat w.lists) = ap (times x) (flat-append v.lists w.lists) ∙ times-append x (flat v.lists) (flat w.lists) in
          let e = r.once x in
          omega arith;
      seats =
          let t = total_set seats_of s.views id v both at in
          let a = total_set seats_of (set s.views id both) other w nobody at' in
          omega arith;
      ends =
          let f : Draws → ℕ = λ u. late blocks (all_of u) in
          let t = total_set f s.views id v both at in
          let a = total_set f (set s.views id both) other w nobody at' in
          let b : late blocks (flat (v.lists ++ w.lists)) ≡ late blocks (flat v.lists) + late blocks (flat w.lists) = ap (late blocks) (flat-append v.lists w.lists) ∙ late-append blocks (flat v.lists) (flat w.lists) in
          let e = r.ends in
          omega arith;
      made =
          let f : Draws → ℕ = λ u. length (all_of u) in
          let t = total_set f s.views id v both at in
          let a = total_set f (set s.views id both) other w nobody at' in
          let b : length (flat (v.lists ++ w.lists)) ≡ length (flat v.lists) + length (flat w.lists) = ap length (flat-append v.lists w.lists) ∙ length-append (flat v.lists) (flat w.lists) in
          let e = r.made in
          omega arith;
      each = set_knows blocks callers n (set s.views id both) other nobody
          (set_knows blocks callers n s.views id both r.each
          (λ _. (k.0, k.1, joined_ends blocks v.lists w.lists k.2 (λ more. (o more).2), λ alone. joined_order n v.lists w.lists (omega arith) (k.3 alone) (λ more. (o more).3 alone))))
          (λ none_left. absurd (omega arith));
    }

empty_flat : (c : ℕ) → flat (replicate c []) ≡ []
empty_flat zero = refl
empty_flat (suc c) = empty_flat c

empty_length : (c : ℕ) → length (replicate {A = List ℕ} c []) ≡ c
empty_length zero = refl
empty_length (suc c) = ap suc (empty_length c)

empty_ends : (b c : ℕ) → EndsOnce b (replicate c [])
empty_ends b zero = tt
empty_ends b (suc c) = (omega arith, empty_ends b c)

empty_order : (c : ℕ) → InOrder 0 (replicate c [])
empty_order zero = tt
empty_order (suc zero) = refl
empty_order (suc (suc c)) = tt

pub opens : (blocks callers : ℕ) → blocks ≤ 4294967296 → callers < 4294967296 → Counts blocks callers (opening (0 ∷ []) [] (newcomers (blocks, callers)))
opens blocks callers b c = let flat_none = empty_flat callers in let len = empty_length callers in record {
  wide = refl;
  small = (b, c);
  once = λ x. let a : times x (flat (replicate callers [])) ≡ 0 = ap (times x) flat_none in let b = once_none x in omega arith;
  seats = omega arith;
  ends = let a : late blocks (flat (replicate callers [])) ≡ 0 = ap (late blocks) flat_none in omega arith;
  made = let a : length (flat (replicate callers [])) ≡ 0 = ap length flat_none in omega arith;
  each = one;
}
  where
    one : (id : ℕ) (v : Draws) → get_elem? (newcomers (blocks, callers) ∷ []) id ≡ some v → Knows blocks callers 0 v
    one zero v e = subst (Knows blocks callers 0) (some-injective _ _ e) (λ _. (refl, refl, empty_ends blocks callers, λ _. empty_order callers))
    one (suc id) v e = absurd (some-ne-none v (sym e))
