-- The moves of the lock and the commit keep the rule.
use Rattle.std.proofs.Common.{◌≡◌, ◌≢◌, ℕ, zero, suc, ◌+◌, ◌*◌, ◌<◌, eqb, List, [], ◌∷◌, ◌++◌, length, map, set, sym, refl, ap, ◌∙◌, subst, arith, length-set, get_or-set_other, get_or-set_same}
use Rattle.std.specs.Prelude.{slice_index}
use mathlib.Core.Option.{Option, none, some, some-injective}
use prog.Atomic.{either}
use lib.ListN.{get_elem?}
use lib.Seq.{set-get_or}
use Rattle.atomic_table.specs.Table.{State, Me, Act, Valid, step, keeps, takes, gives, put_back, carried_after, stepped, Allows}
use Rattle.atomic_table.proofs.Lists.{set_again, set_here, set_else, exchanged}
use Rattle.lock_book.specs.declared.view.Entry.{Entry}
use Rattle.lock_book.specs.declared.view.Stage.TheVariants.{Idle, Holding}
use Rattle.lock_book.specs.declared.view.View.{View}
use Rattle.lock_book.specs.History.{last_of, calls_by, calls_at, AreBy, StartsWith, IsLegal, row_at, put_row}
use Rattle.lock_book.specs.Ruled.{lock_at, named, total, holders, mine_at, seen_at, told_at, at_stage, seeing, with_entries, Fits, IsFree, StageOk, ValueOk, Ruled, Taken, tried, tried_once, missing, given_back, served}
use Rattle.lock_book.proofs.Histories.{starts_refl, starts_snoc, starts_trans, calls_by_all, calls_by_others, calls_at_all, calls_at_others, legal-append, row_here, row_else, at_place}
use Rattle.lock_book.proofs.Totals.{total_set, total_at, upd, upd_here, upd_else, there, within}
use Rattle.lock_book.proofs.Stages.{one_holder, no_holder, one_named, no_named, few_holders, none_named, one_seat, stage_else}
use Rattle.lock_book.proofs.Changes.{Change, changed, same_value, values_by}

abbrev pub held_slot : {X : Type 0} → X → List (ℕ × X) → X
held_slot x [] = x
held_slot x (y ∷ ys) = y.1

-- of two changes at one place the second is left
set_twice : {A : Type 0} (xs : List A) (i : ℕ) (a b : A) → set (set xs i a) i b ≡ set xs i b
set_twice [] i a b = refl
set_twice (x ∷ xs) zero a b = refl
set_twice {A} (x ∷ xs) (suc i) a b = ap (λ (l : List A). x ∷ l) (set_twice xs i a b)

-- the words of two locks are two words, and no lock's word is advice
locks_apart : (i j : ℕ) → j ≢ i → lock_at j ≢ lock_at i
locks_apart i j ne e = ne (omega arith)

pub is_advice : (i k word : ℕ) → word ≡ 8 * i + k → 0 < k → k < 8 → (j : ℕ) → lock_at j ≢ word
is_advice i k word is low few j e = absurd (omega arith)

module _ {X N S C R : Type 0} (slot_name : X → N) (slot_state : X → S) (legal : N → ℕ → S → C → R → S → Type 0) (opens : List (N × S)) (callers : ℕ) where
  abbrev Rule : State X (View N S C R) → Type 0
  Rule = Ruled slot_name slot_state legal opens callers

  unmoved : (s : State X (View N S C R)) → Rule s → (k id : ℕ) (me : Me X (View N S C R)) → get_elem? s.views id ≡ some me.0 → Rule (stepped s k (slice_index s.words k) id me.1 me.0 keeps)
  unmoved s r k id me at = subst (λ (z : List ℕ × List (View N S C R)). Rule record { words = z.0; homes = s.homes; views = z.1 }) (λ i. (sym (set-get_or s.words k 0) i, sym (set_again s.views id me.0 at) i)) r

  -- a step on a word of advice changes nothing else, whatever is in that word before and after
  pub advises : (slots id : ℕ) (me : Me X (View N S C R)) (word : ℕ) (f : ℕ → ℕ) → ((j : ℕ) → lock_at j ≢ word) → Allows Rule slots id me word f (λ _ m. m ≡ me)
  advises slots id me word f apart s r _ at _ =
      let new : ℕ = f (slice_index s.words word) in
      let words = set s.words word new in
      let kept = subst (λ (vs : List (View N S C R)). Rule record { words = words; homes = s.homes; views = vs }) (sym (set_again s.views id me.0 at)) record {
        logs = r.logs;
        wide = length-set s.words word new ∙ r.wide;
        each_value = λ j o e.
            same_value slot_name slot_state legal s.words words s.homes s.homes s.views s.views j o (r.logs j) (get_or-set_other s.words word (lock_at j) new 0 (apart j)) (λ x h. h) refl refl (r.each_value j o e);
        bounded = r.bounded;
        seats = r.seats;
        each_seat = r.each_seat;
        numbers = r.numbers;
      } in (me.0, keeps, tt, kept, refl)

  -- what is true of the history seen of i, and of that of each other value
  sees : (v : View N S C R) (i : ℕ) (log : List (Entry S C R)) (P : ℕ → List (Entry S C R) → Type 0) → P i log → ((j : ℕ) → j ≢ i → P j (seen_at v j)) → (j : ℕ) → P j (row_at (put_row v.seen i log) j)
  sees v i log P here else = at_place (λ (j : ℕ). P j (row_at (put_row v.seen i log) j)) i (subst (P i) (sym (row_here v.seen i log)) here) (λ j ne. subst (P j) (sym (row_else v.seen i j log ne)) (else j ne))

  abbrev TryGoal : ℕ → ℕ → Me X (View N S C R) → ℕ → ℕ → State X (View N S C R) → ℕ → Type 0
  TryGoal slots id me i new s n = (w : View N S C R) × (a : Act X) × Valid s.homes me.1 a × Rule (stepped s (lock_at i) n id me.1 w a) × tried slot_name slot_state legal (step slots (lock_at i) 0 new none) me (slice_index s.words (lock_at i)) (w, carried_after me.1 a)

  -- a seat that has no value takes one that is free, and stores its number; else nothing happens
  tries_at : (slots id : ℕ) (me : Me X (View N S C R)) (i new : ℕ) → new ≡ me.0.from + 1 → IsFree me.0 → i < length opens
      → Allows Rule slots id me (lock_at i) (λ n. either (eqb n 0) new n) (tried slot_name slot_state legal (step slots (lock_at i) 0 new none) me)
  tries_at slots id me i new its free low s r _ at _ = exchanged (slice_index s.words (lock_at i)) 0 new (TryGoal slots id me i new s) hit miss
    where
      miss : slice_index s.words (lock_at i) ≢ 0 → TryGoal slots id me i new s (slice_index s.words (lock_at i))
      miss ne = (me.0, keeps, tt, unmoved s r (lock_at i) id me at, λ j e. ((λ h. absurd (ne h)), λ _. refl))

      hit : slice_index s.words (lock_at i) ≡ 0 → TryGoal slots id me i new s new
      hit e =
          let v = me.0 in
          let k = r.each_seat id v at in
          let one = free.owns in
          let p = there opens i low in
          let ok = r.each_value i p.0 p.1 in
          let log : List (Entry S C R) = r.logs i in
          let few = few_holders i s.views in
          let locked = ok.locked in
          let nobody_has : total (λ (u : View N S C R). holders i u.stage) s.views ≡ 0 = omega arith in
          let home = ok.at_home nobody_has in
          let x = home.0 in
          let w : View N S C R = seeing v i log (Holding i) in
          let words = set s.words (lock_at i) new in
          let homes = set s.homes i none in
          let wide = r.wide in
          let found : slice_index words (lock_at i) ≡ new = get_or-set_same s.words (lock_at i) new 0 (omega arith) in
          let idle : (j : ℕ) → holders j v.stage ≡ 0 = λ j. ap (holders j) free.stage in
          let nameless : (j : ℕ) → named j v.from v.stage ≡ 0 = λ j. ap (named j v.from) free.stage in
          let c : Change slot_name slot_state legal opens callers s r id v w r.logs words homes = record {
            at = at;
            wide = length-set s.words (lock_at i) new;
            same_seats = refl;
            same_from = refl;
            values = values_by slot_name slot_state legal opens callers s r id v w r.logs words homes i at (λ j ne. refl) (λ j ne. get_or-set_other s.words (lock_at i) (lock_at j) new 0 (locks_apart i j ne))
                (λ j y ne eh. set_else s.homes i j none ne ∙ eh) (λ j ne. no_holder i j ne ∙ sym (idle j)) (λ j ne. no_named i j v.from ne ∙ sym (nameless j))
                (λ o eo.
                let was = r.each_value i o eo in
                let locked = was.locked in
                let ts = total_set (λ (u : View N S C R). holders i u.stage) s.views id v w at in
                let hv = idle i in
                let hw = one_holder i in
                let tn = total_set (λ (u : View N S C R). named i u.from u.stage) s.views id v w at in
                let nv = nameless i in
                let nw = one_named i v.from in
                record {
                  locked = omega arith;
                  alone = omega arith;
                  lawful = was.lawful;
                  at_home = λ z. absurd (omega arith);
                });
            knows = record {
              opened = k.opened;
              counted = k.counted;
              below = k.below;
              seen = sees v i log (λ j m. StartsWith (r.logs j) m) (starts_refl log) (λ j ne. k.seen j);
              told = k.told;
              mine = k.mine;
              mine_seen = λ n j lt. sees v i log (λ j m. mine_at v n j ≡ calls_by (v.from + n) m) (k.mine n i lt) (λ j ne. k.mine_seen n j lt) j;
              staged = (one, low, row_here v.seen i log);
            };
            grows = λ j. starts_refl (r.logs j);
            bounded = r.bounded;
            others_calls = λ j m _. refl;
            others_stage = λ other u ne eu ok. ok;
          } in (
            w,
            takes i x,
            home.1,
            changed slot_name slot_state legal opens callers s r id v w r.logs words homes c,
            λ j at_j.
                let same : lock_at i ≡ lock_at j = at_j in
                let place : i ≡ j = omega arith in
                let told : Taken slot_name slot_state legal me i (w, (i, x) ∷ me.1) = record {
                  log = log;
                  slot = x;
                  took = refl;
                  view = refl;
                  begins = k.seen i;
                  known = λ o eo.
                      let here : p.0 ≡ o = some-injective p.0 o (sym p.1 ∙ (sym (ap (λ (z : List (N × S)). get_elem? z i) (k.opened (omega arith))) ∙ eo)) in
                      subst (λ (z : N × S). IsLegal (legal z.0) z.1 log × (slot_name x ≡ z.0) × (slot_state x ≡ last_of z.1 log)) here (ok.lawful, home.2, home.3);
                  mine = k.mine 0 i (omega arith) ∙ (let z : v.from + 0 ≡ v.from = omega arith in ap (λ (n : ℕ). calls_by n log) z);
                  bounded = λ n hi. let c = k.counted (omega arith) in r.bounded i n (omega arith);
                } in
                ((λ _. subst (λ (z : ℕ). Taken slot_name slot_state legal me z (w, (i, x) ∷ me.1)) place told), λ ne. absurd (ne e)),
          )

  pub tries : (slots id : ℕ) (me : Me X (View N S C R)) (i new word : ℕ) → word ≡ lock_at i → new ≡ me.0.from + 1 → IsFree me.0 → i < length opens
      → Allows Rule slots id me word (λ n. either (eqb n 0) new n) (tried slot_name slot_state legal (step slots word 0 new none) me)
  tries slots id me i new word here its free low = subst (λ (w : ℕ). Allows Rule slots id me w (λ n. either (eqb n 0) new n) (tried slot_name slot_state legal (step slots w 0 new none) me)) (sym here) (tries_at slots id me i new its free low)

  abbrev OnceGoal : ℕ → ℕ → Me X (View N S C R) → ℕ → ℕ → State X (View N S C R) → ℕ → Type 0
  OnceGoal slots id me i new s n = (w : View N S C R) × (a : Act X) × Valid s.homes me.1 a × Rule (stepped s (lock_at i) n id me.1 w a) × tried_once slot_name slot_state legal (step slots (lock_at i) 0 new none) me (slice_index s.words (lock_at i)) (w, carried_after me.1 a)

  -- the same of a single try, which is counted where the value is taken
  tries_once_at : (slots id : ℕ) (me : Me X (View N S C R)) (i new : ℕ) → new ≡ me.0.from + 1 → IsFree me.0 → i < length opens
      → Allows Rule slots id me (lock_at i) (λ n. either (eqb n 0) new n) (tried_once slot_name slot_state legal (step slots (lock_at i) 0 new none) me)
  tries_once_at slots id me i new its free low s r len at few = exchanged (slice_index s.words (lock_at i)) 0 new (OnceGoal slots id me i new s) hit miss
    where
      hit : slice_index s.words (lock_at i) ≡ 0 → OnceGoal slots id me i new s new
      hit e =
          let t : TryGoal slots id me i new s new = subst (λ (n : ℕ). TryGoal slots id me i new s (either (eqb n 0) new n)) e (tries_at slots id me i new its free low s r len at few) in
          (t.0, t.1, t.2, t.3, λ j ej. ((λ h. (t.4 j ej).0 h), λ ne. absurd (ne e)))

      miss : slice_index s.words (lock_at i) ≢ 0 → OnceGoal slots id me i new s (slice_index s.words (lock_at i))
      miss ne =
          let v = me.0 in
          let k = r.each_seat id v at in
          let w : View N S C R = missing v in
          let c : Change slot_name slot_state legal opens callers s r id v w r.logs s.words s.homes = record {
            at = at;
            wide = refl;
            same_seats = refl;
            same_from = refl;
            values = λ j o eo.
                let t = total_set (λ (u : View N S C R). holders j u.stage) s.views id v w at in
                let m = total_set (λ (u : View N S C R). named j u.from u.stage) s.views id v w at in
                same_value slot_name slot_state legal s.words s.words s.homes s.homes s.views (set s.views id w) j o (r.logs j) refl (λ x h. h) (omega arith) (omega arith) (r.each_value j o eo);
            knows = record { opened = k.opened; counted = k.counted; below = k.below; seen = k.seen; told = k.told; mine = k.mine; mine_seen = k.mine_seen; staged = k.staged };
            grows = λ j. starts_refl (r.logs j);
            bounded = r.bounded;
            others_calls = λ j m _. refl;
            others_stage = λ other u ne' eu ok. ok;
          } in (
            w,
            keeps,
            tt,
            subst (λ (z : List ℕ). Rule record { words = z; homes = s.homes; views = set s.views id w }) (sym (set-get_or s.words (lock_at i) 0)) (changed slot_name slot_state legal opens callers s r id v w r.logs s.words s.homes c),
            λ j ej. ((λ h. absurd (ne h)), λ _. refl),
          )

  pub tries_once : (slots id : ℕ) (me : Me X (View N S C R)) (i new word : ℕ) → word ≡ lock_at i → new ≡ me.0.from + 1 → IsFree me.0 → i < length opens
      → Allows Rule slots id me word (λ n. either (eqb n 0) new n) (tried_once slot_name slot_state legal (step slots word 0 new none) me)
  tries_once slots id me i new word here its free low = subst (λ (w : ℕ). Allows Rule slots id me w (λ n. either (eqb n 0) new n) (tried_once slot_name slot_state legal (step slots w 0 new none) me)) (sym here) (tries_once_at slots id me i new its free low)

  -- the state in which the seat v, which has the value, has added its calls to the history, and nothing else has changed
  commits : (s : State X (View N S C R)) → Rule s → (id : ℕ) (v : View N S C R) → get_elem? s.views id ≡ some v → (i : ℕ) (es : List (Entry S C R)) → v.stage ≡ Holding i → AreBy v.from es
      → ((o : N × S) → get_elem? v.opens i ≡ some o → IsLegal (legal o.0) (last_of o.1 (seen_at v i)) es)
      → Rule record { words = s.words; homes = s.homes; views = set s.views id (with_entries v i es) }
  commits s r id v at i es holds by lawful =
      let k = r.each_seat id v at in
      let ok : StageOk opens callers r.logs v (Holding i) = subst (StageOk opens callers r.logs v) holds k.staged in
      let one = ok.0 in
      let low = ok.1 in
      let old : List (Entry S C R) = r.logs i in
      let log : List (Entry S C R) = old ++ es in
      let now : ℕ → List (Entry S C R) = upd r.logs i log in
      let here : now i ≡ log = upd_here r.logs i log in
      let w : View N S C R = with_entries v i es in
      let bound = k.below (omega arith) in
      let some_owner : 0 < length v.owns = omega arith in
      let seen : seen_at v i ++ es ≡ log = ap (λ (m : List (Entry S C R)). m ++ es) ok.2 in
      let first : v.from + 0 ≡ v.from = omega arith in
      let row : List (ℕ × Entry S C R) = row_at v.owns 0 in
      let more : List (ℕ × Entry S C R) = map (λ (e : Entry S C R). (i, e)) es in
      let mine_here : calls_at i (row ++ more) ≡ calls_by (v.from + 0) log =
      calls_at_all i row es ∙ (ap (λ (m : List (Entry S C R)). m ++ es) (k.mine 0 i some_owner ∙ ap (λ (y : ℕ). calls_by y old) first)
      ∙ (sym (calls_by_all v.from old es by) ∙ ap (λ (y : ℕ). calls_by y log) (sym first))) in
      let mine_now : (j : ℕ) → calls_at j (row ++ more) ≡ calls_by (v.from + 0) (now j) = at_place (λ (j : ℕ). calls_at j (row ++ more) ≡ calls_by (v.from + 0) (now j)) i
      (mine_here ∙ ap (calls_by (v.from + 0)) (sym here))
      (λ j ne. calls_at_others j i row es (λ z. ne (sym z)) ∙ (k.mine 0 j some_owner ∙ ap (calls_by (v.from + 0)) (sym (upd_else r.logs i log j ne)))) in
      let seen_now : (j : ℕ) → calls_at j (row ++ more) ≡ calls_by (v.from + 0) (row_at (put_row v.seen i (seen_at v i ++ es)) j) =
      sees v i (seen_at v i ++ es) (λ j m. calls_at j (row ++ more) ≡ calls_by (v.from + 0) m)
      (mine_here ∙ ap (calls_by (v.from + 0)) (sym seen))
      (λ j ne. calls_at_others j i row es (λ z. ne (sym z)) ∙ k.mine_seen 0 j some_owner) in
      let grows : (j : ℕ) → StartsWith (now j) (r.logs j) = at_place (λ (j : ℕ). StartsWith (now j) (r.logs j)) i
      (subst (λ (m : List (Entry S C R)). StartsWith m old) (sym here) (starts_snoc old old es (starts_refl old)))
      (λ j ne. subst (λ (m : List (Entry S C R)). StartsWith m (r.logs j)) (sym (upd_else r.logs i log j ne)) (starts_refl (r.logs j))) in
      let by_others : (m : ℕ) → v.from ≢ m → (j : ℕ) → calls_by m (now j) ≡ calls_by m (r.logs j) = λ m ne. at_place (λ (j : ℕ). calls_by m (now j) ≡ calls_by m (r.logs j)) i
      (ap (calls_by m) here ∙ calls_by_others m v.from old es by ne)
      (λ j other. ap (calls_by m) (upd_else r.logs i log j other)) in
      let c : Change slot_name slot_state legal opens callers s r id v w now s.words s.homes = record {
        at = at;
        wide = refl;
        same_seats = sym one;
        same_from = refl;
        values = values_by slot_name slot_state legal opens callers s r id v w now s.words s.homes i at (upd_else r.logs i log) (λ j ne. refl)
            (λ j y ne eh. eh) (λ j ne. refl) (λ j ne. refl)
            (λ o eo.
            let was = r.each_value i o eo in
            let locked = was.locked in
            let alone = was.alone in
            let ts = total_set (λ (u : View N S C R). holders i u.stage) s.views id v w at in
            let held = total_at (λ (u : View N S C R). holders i u.stage) s.views id v at in
            let hv : holders i v.stage ≡ 1 = ap (holders i) holds ∙ one_holder i in
            let hw : holders i w.stage ≡ 1 = hv in
            let tn = total_set (λ (u : View N S C R). named i u.from u.stage) s.views id v w at in
            let nw : named i w.from w.stage ≡ named i v.from v.stage = refl in
            let open_here : get_elem? v.opens i ≡ some o = ap (λ (z : List (N × S)). get_elem? z i) (k.opened some_owner) ∙ eo in
            let rule_here : IsLegal (legal o.0) (last_of o.1 old) es = subst (λ (m : List (Entry S C R)). IsLegal (legal o.0) (last_of o.1 m) es) ok.2 (lawful o open_here) in
            subst (ValueOk slot_name slot_state legal s.words s.homes (set s.views id w) i o) (sym here) record {
              locked = omega arith;
              alone = omega arith;
              lawful = legal-append (legal o.0) o.1 old es was.lawful rule_here;
              at_home = λ z. absurd (omega arith);
            });
        knows = record {
          opened = λ _. k.opened some_owner;
          counted = λ _. k.counted some_owner;
          below = λ _. omega arith;
          seen = λ j. sees v i (seen_at v i ++ es) (λ j m. StartsWith (now j) m)
              (subst (λ (m : List (Entry S C R)). StartsWith (now i) m) (here ∙ sym seen) (starts_refl (now i)))
              (λ j ne. starts_trans (now j) (r.logs j) (seen_at v j) (grows j) (k.seen j)) j;
          told = λ j. starts_trans (now j) (r.logs j) (told_at v j) (grows j) (k.told j);
          mine = λ m j lt. let z : 0 ≡ m = omega arith in subst (λ (y : ℕ). calls_at j (row_at ((row ++ more) ∷ []) y) ≡ calls_by (v.from + y) (now j)) z (mine_now j);
          mine_seen = λ m j lt. let z : 0 ≡ m = omega arith in subst (λ (y : ℕ). calls_at j (row_at ((row ++ more) ∷ []) y) ≡ calls_by (v.from + y) (row_at (put_row v.seen i (seen_at v i ++ es)) j)) z (seen_now j);
          staged = subst (StageOk opens callers now w) (sym holds) (refl, low, row_here v.seen i (seen_at v i ++ es) ∙ (seen ∙ sym here));
        };
        grows = grows;
        bounded = λ j m hi. by_others m (λ z. omega arith) j ∙ r.bounded j m hi;
        others_calls = λ j m out. by_others m (λ z. out (omega arith, omega arith)) j;
        others_stage = λ other u ne eu. let p = there opens i low in stage_else opens callers r.logs i log u u.stage (λ is. ne (one_seat s.views i id other v u (r.each_value i p.0 p.1).alone at eu holds is));
      } in changed slot_name slot_state legal opens callers s r id v w now s.words s.homes c

  -- the state in which the seat v, which has the value, has given it back, with the last state of what it has seen
  frees : (s : State X (View N S C R)) → Rule s → (id : ℕ) (v : View N S C R) → get_elem? s.views id ≡ some v → (i : ℕ) (x : X) → v.stage ≡ Holding i → i < length s.homes
      → ((o : N × S) → get_elem? v.opens i ≡ some o → (slot_name x ≡ o.0) × (slot_state x ≡ last_of o.1 (seen_at v i)))
      → Rule record { words = set s.words (lock_at i) 0; homes = set s.homes i (some x); views = set s.views id (at_stage v Idle) }
  frees s r id v at i x holds inside fits =
      let k = r.each_seat id v at in
      let ok : StageOk opens callers r.logs v (Holding i) = subst (StageOk opens callers r.logs v) holds k.staged in
      let one = ok.0 in
      let low = ok.1 in
      let words = set s.words (lock_at i) 0 in
      let homes = set s.homes i (some x) in
      let w : View N S C R = at_stage v Idle in
      let wide = r.wide in
      let found : slice_index words (lock_at i) ≡ 0 = get_or-set_same s.words (lock_at i) 0 0 (omega arith) in
      let some_owner : 0 < length v.owns = omega arith in
      let c : Change slot_name slot_state legal opens callers s r id v w r.logs words homes = record {
        at = at;
        wide = length-set s.words (lock_at i) 0;
        same_seats = refl;
        same_from = refl;
        values = values_by slot_name slot_state legal opens callers s r id v w r.logs words homes i at (λ j ne. refl) (λ j ne. get_or-set_other s.words (lock_at i) (lock_at j) 0 0 (locks_apart i j ne))
            (λ j y ne eh. set_else s.homes i j (some x) ne ∙ eh) (λ j ne. sym (ap (holders j) holds ∙ no_holder i j ne)) (λ j ne. sym (ap (named j v.from) holds ∙ no_named i j v.from ne))
            (λ o eo.
            let was = r.each_value i o eo in
            let alone = was.alone in
            let ts = total_set (λ (u : View N S C R). holders i u.stage) s.views id v w at in
            let hv : holders i v.stage ≡ 1 = ap (holders i) holds ∙ one_holder i in
            let hw : holders i w.stage ≡ 0 = refl in
            let none_has : total (λ (u : View N S C R). holders i u.stage) (set s.views id w) ≡ 0 = omega arith in
            let none_stored = none_named i (set s.views id w) none_has in
            let back = fits o (ap (λ (z : List (N × S)). get_elem? z i) (k.opened some_owner) ∙ eo) in
            record {
              locked = omega arith;
              alone = omega arith;
              lawful = was.lawful;
              at_home = λ z. (x, set_here s.homes i (some x) (omega arith), back.0, back.1 ∙ ap (last_of o.1) ok.2);
            });
        knows = record { opened = k.opened; counted = k.counted; below = k.below; seen = k.seen; told = k.told; mine = k.mine; mine_seen = k.mine_seen; staged = tt };
        grows = λ j. starts_refl (r.logs j);
        bounded = r.bounded;
        others_calls = λ j m _. refl;
        others_stage = λ other u ne eu ok. ok;
      } in changed slot_name slot_state legal opens callers s r id v w r.logs words homes c

  -- the seat that has the value adds its calls to the history and gives the value back
  gives_back_at : (made : X → List (Entry S C R)) (slots id : ℕ) (me : Me X (View N S C R)) (i : ℕ) (x : X) → me.0.stage ≡ Holding i → me.1 ≡ (i, x) ∷ [] → i < slots → Fits slot_name slot_state legal made me.0 i x
      → Allows Rule slots id me (lock_at i) (λ _. 0) (λ _. given_back made (step slots (lock_at i) 0 0 none) me 0)
  gives_back_at made slots id me i x holds has inside fits s r len at _ =
      let v = me.0 in
      let es : List (Entry S C R) = made x in
      let w : View N S C R = with_entries v i es in
      let now_at = set_here s.views id w (within s.views id v at) in
      let last : (o : N × S) → get_elem? v.opens i ≡ some o → slot_state x ≡ last_of o.1 (seen_at w i) = λ o eo. (fits.each o eo).2 ∙ sym (ap (last_of o.1) (row_here v.seen i (seen_at v i ++ es))) in
      let now = commits s r id v at i es holds fits.by (λ o eo. (fits.each o eo).1) in
      let done = frees record { words = s.words; homes = s.homes; views = set s.views id w } now id w now_at i x holds (omega (arith, len, inside)) (λ o eo. ((fits.each o eo).0, last o eo)) in
      let there : Rule record { words = set s.words (lock_at i) 0; homes = set s.homes i (some x); views = set s.views id (served v i es) } = subst (λ (z : List (View N S C R)). Rule record { words = set s.words (lock_at i) 0; homes = set s.homes i (some x); views = z }) (set_twice s.views id w (served v i es)) done in (
        served v i es,
        gives,
        tt,
        subst (λ (z : List (Option X)). Rule record { words = set s.words (lock_at i) 0; homes = z; views = set s.views id (served v i es) }) (sym (ap (put_back s.homes) has)) there,
        λ j y at_j has'.
            let slot : x ≡ y = ap (held_slot x) (sym has ∙ has') in
            let same : lock_at i ≡ lock_at j = at_j in
            let place : i ≡ j = omega arith in
            (refl, λ n. served v (place n) (made (slot n))),
      )

  pub gives_back : (made : X → List (Entry S C R)) (slots id : ℕ) (me : Me X (View N S C R)) (i : ℕ) (x : X) (word : ℕ) → word ≡ lock_at i → me.0.stage ≡ Holding i → me.1 ≡ (i, x) ∷ [] → i < slots → Fits slot_name slot_state legal made me.0 i x
      → Allows Rule slots id me word (λ _. 0) (λ _. given_back made (step slots word 0 0 none) me 0)
  gives_back made slots id me i x word here holds has inside fits =
      subst (λ (w : ℕ). Allows Rule slots id me w (λ _. 0) (λ _. given_back made (step slots w 0 0 none) me 0)) (sym here) (gives_back_at made slots id me i x holds has inside fits)
