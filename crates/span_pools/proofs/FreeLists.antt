-- What happens to the list of a superblock's free objects.
use Rattle.std.proofs.Common.{◌≡◌, ◌≢◌, ℕ, ◌+◌, ◌-◌, ◌<◌, ◌≤◌, inl, inr, ⊎_elim, Bool, true, false, List, [], ◌∷◌, Option, Some, None, is_some, cond, ◌==◌, eq-eqb, ne_eqb, refl, sym, ap, subst, ◌∙◌, arith}
use mathlib.Core.Logic.{dite}
use native.Mathlib.Decide.{ℕ_discrete}
use Rattle.std.proofs.lemmas.Bool.{cases_lt}
use Rattle.span_pools.specs.Listed.{free_count, IsIn, Once, Chain, IsListed}
use Rattle.span_pools.proofs.Counts.{count_same, count_less, none_free, one_free, each_free, one_live, count_all, count_most}

chain_same : (place : ℕ → ℕ) (v w : ℕ → Option ℕ) (head : ℕ) (xs : List ℕ) → ((i : ℕ) → IsIn i xs → w i ≡ v i) → Chain place v head xs → Chain place w head xs
chain_same place v w head [] same c = c
chain_same place v w head (i ∷ is) same c = (c.0, (c.1.0, same i (inl refl) ∙ c.1.1, chain_same place v w c.1.0 is (λ j h. same j (inr h)) c.1.2))

-- words of other objects change nothing
pub listed_same : (objects : ℕ) (place : ℕ → ℕ) (v w : ℕ → Option ℕ) (room head used : ℕ) → ((i : ℕ) → i < objects → w i ≡ v i) → IsListed objects place v room head used → IsListed objects place w room head used
listed_same objects place v w room head used same l = record {
  listed = l.listed;
  few = l.few;
  fresh = λ i a b. ap is_some (same i b) ∙ l.fresh i a b;
  chain = chain_same place v w head l.listed (λ i h. same i (let z = l.below i h in let f = l.few in omega arith)) l.chain;
  once = l.once;
  below = l.below;
  all = λ i a h. l.all i a (sym (ap is_some (same i (let f = l.few in omega arith))) ∙ h);
  count = l.count ∙ sym (count_same objects (λ i. is_some (v i)) (λ i. is_some (w i)) (λ i h. ap is_some (same i h)));
}

abbrev Popped : ℕ → (ℕ → ℕ) → (ℕ → Option ℕ) → ℕ → ℕ → ℕ → ℕ → Type 0
Popped objects place v i room head used = (w : ℕ → Option ℕ) → w i ≡ None → ((j : ℕ) → j ≢ i → w j ≡ v j) → IsListed objects place w room head used

-- the first object of the list is taken
pub pop_listed : (objects : ℕ) (place : ℕ → ℕ) (v : ℕ → Option ℕ) (room head used : ℕ) → IsListed objects place v room head used → 0 < head
    → (i : ℕ) × (i < objects) × (head ≡ place i) × ((next : ℕ) × (v i ≡ Some next) × Popped objects place v i (room - 1) next used)
pop_listed objects place v room head used l some = go l.listed refl
  where
    kept : (xs : List ℕ) (i : ℕ) → l.listed ≡ i ∷ xs → (c : Chain place v head (i ∷ xs)) → Once (i ∷ xs) → ((j : ℕ) → IsIn j (i ∷ xs) → j < used) → ((j : ℕ) → j < used → is_some (v j) ≡ true → IsIn j (i ∷ xs))
        → Popped objects place v i (room - 1) c.1.0 used
    kept xs i e c once below all w out same = record {
      listed = xs;
      few = l.few;
      fresh = λ j a b. ap is_some (same j (λ s. let z = below i (inl refl) in omega arith)) ∙ l.fresh j a b;
      chain = chain_same place v w c.1.0 xs (λ j h. same j (λ s. once.0 (subst (λ (z : ℕ). IsIn z xs) s h))) c.1.2;
      once = once.1;
      below = λ j h. below j (inr h);
      all = λ j a h. dite (ℕ_discrete j i)
          (λ (s : j ≡ i). absurd (let z : is_some (w i) ≡ true = ap (λ (k : ℕ). is_some (w k)) (sym s) ∙ h in let y : is_some (w i) ≡ false = ap is_some out in let x : true ≡ false = sym z ∙ y in let q : ⊥ = cc in q))
          (λ (n : j ≢ i). ⊎_elim (λ (s : j ≡ i). absurd (n s)) (λ (h2 : IsIn j xs). h2) (all j a (sym (ap is_some (same j n)) ∙ h)));
      count = let z : free_count (λ j. is_some (v j)) objects ≡ 1 + free_count (λ j. is_some (w j)) objects = count_less objects i (λ j. is_some (v j)) (λ j. is_some (w j)) (let a = below i (inl refl) in let b = l.few in omega arith) (ap is_some c.1.1) (ap is_some out) (λ j _ n. ap is_some (same j n)) in let y = l.count in omega arith;
    }

    go : (xs : List ℕ) → l.listed ≡ xs → (i : ℕ) × (i < objects) × (head ≡ place i) × ((next : ℕ) × (v i ≡ Some next) × Popped objects place v i (room - 1) next used)
    go [] e = absurd (let c : Chain place v head [] = subst (λ (z : List ℕ). Chain place v head z) e l.chain in let y : head ≡ 0 = c in omega arith)
    go (i ∷ xs) e =
        let c : Chain place v head (i ∷ xs) = subst (λ (z : List ℕ). Chain place v head z) e l.chain in
        let below : (j : ℕ) → IsIn j (i ∷ xs) → j < used = subst (λ (z : List ℕ). (j : ℕ) → IsIn j z → j < used) e l.below in
        let all : (j : ℕ) → j < used → is_some (v j) ≡ true → IsIn j (i ∷ xs) = subst (λ (z : List ℕ). (j : ℕ) → j < used → is_some (v j) ≡ true → IsIn j z) e l.all in
        (i, (let a = below i (inl refl) in let b = l.few in omega arith), c.0, (c.1.0, c.1.1, kept xs i e c (subst Once e l.once) below all))

-- the first object that was never used is taken, where none is listed
pub pop_fresh : (objects : ℕ) (place : ℕ → ℕ) (v : ℕ → Option ℕ) (room head used : ℕ) → ((i : ℕ) → 0 < place i) → IsListed objects place v room head used → head ≡ 0 → 0 < room
    → (used < objects) × (is_some (v used) ≡ true) × Popped objects place v used (room - 1) 0 (used + 1)
pop_fresh objects place v room head used places l none some = (low, l.fresh used (omega arith) low, kept)
  where
    empty : (xs : List ℕ) → Chain place v head xs → xs ≡ []
    empty [] c = refl
    empty (i ∷ xs) c = absurd (let p = places i in let z = c.0 in omega arith)

    low : used < objects
    low = ⊎_elim (λ (h : used < objects). h)
        (λ (h : objects ≤ used).
        let o = one_free objects (λ j. is_some (v j)) (let c = l.count in omega arith) in
        absurd (subst (λ (z : List ℕ). IsIn o.0 z) (empty l.listed l.chain) (l.all o.0 (omega arith) o.2)))
        (cases_lt used objects)

    kept : Popped objects place v used (room - 1) 0 (used + 1)
    kept w out same = record {
      listed = [];
      few = let z = low in omega arith;
      fresh = λ j a b. ap is_some (same j (λ s. omega arith)) ∙ l.fresh j (omega arith) b;
      chain = refl;
      once = tt;
      below = λ j h. absurd h;
      all = λ j a h. dite (ℕ_discrete j used)
          (λ (s : j ≡ used). absurd (let z : is_some (w used) ≡ true = ap (λ (k : ℕ). is_some (w k)) (sym s) ∙ h in let y : is_some (w used) ≡ false = ap is_some out in let x : true ≡ false = sym z ∙ y in let q : ⊥ = cc in q))
          (λ (n : j ≢ used). subst (λ (z : List ℕ). IsIn j z) (empty l.listed l.chain) (l.all j (omega arith) (sym (ap is_some (same j n)) ∙ h)));
      count = let z : free_count (λ j. is_some (v j)) objects ≡ 1 + free_count (λ j. is_some (w j)) objects = count_less objects used (λ j. is_some (v j)) (λ j. is_some (w j)) low (l.fresh used (omega arith) low) (ap is_some out) (λ j _ n. ap is_some (same j n)) in let y = l.count in omega arith;
    }

-- a live object comes back and is the first of the list
pub push_listed : (objects : ℕ) (place : ℕ → ℕ) (v w : ℕ → Option ℕ) (room head used i : ℕ) → IsListed objects place v room head used → i < objects → is_some (v i) ≡ false
    → w i ≡ Some head → ((j : ℕ) → j ≢ i → w j ≡ v j) → IsListed objects place w (room + 1) (place i) used
push_listed objects place v w room head used i l low out here same =
    let was_used : i < used = ⊎_elim (λ (h : i < used). h) (λ (h : used ≤ i). absurd (let z : true ≡ false = sym (l.fresh i h low) ∙ out in let q : ⊥ = cc in q)) (cases_lt i used) in
    let not_in : IsIn i l.listed → ⊥ = λ h. owned_in i l.listed head l.chain h out in
    record {
      listed = i ∷ l.listed;
      few = l.few;
      fresh = λ j a b. ap is_some (same j (λ s. omega arith)) ∙ l.fresh j a b;
      chain = (refl, (head, here, chain_same place v w head l.listed (λ j h. same j (λ s. not_in (subst (λ (z : ℕ). IsIn z l.listed) s h))) l.chain));
      once = (not_in, l.once);
      below = λ j h. ⊎_elim (λ (s : j ≡ i). let z : j < used = omega arith in z) (λ (x : IsIn j l.listed). l.below j x) h;
      all = λ j a h. dite (ℕ_discrete j i) (λ (s : j ≡ i). inl s) (λ (n : j ≢ i). inr (l.all j a (sym (ap is_some (same j n)) ∙ h)));
      count = let z : free_count (λ j. is_some (w j)) objects ≡ 1 + free_count (λ j. is_some (v j)) objects = count_less objects i (λ j. is_some (w j)) (λ j. is_some (v j)) low (ap is_some here) out (λ j _ n. sym (ap is_some (same j n))) in let y = l.count in omega arith;
    }
  where
    owned_in : (j : ℕ) (xs : List ℕ) (h : ℕ) → Chain place v h xs → IsIn j xs → is_some (v j) ≡ false → ⊥
    owned_in j [] h c x o = x
    owned_in j (k ∷ ks) h c x o = ⊎_elim
        (λ (s : j ≡ k). let z : true ≡ false = sym (ap is_some c.1.1) ∙ (ap (λ (y : ℕ). is_some (v y)) (sym s) ∙ o) in let q : ⊥ = cc in q)
        (λ (y : IsIn j ks). owned_in j ks c.1.0 c.1.2 y o)
        x

-- a superblock whose first object alone is live
pub new_listed : (objects : ℕ) (place : ℕ → ℕ) (w : ℕ → Option ℕ) → 0 < objects → w 0 ≡ None → ((i : ℕ) → 0 < i → i < objects → is_some (w i) ≡ true) → IsListed objects place w (objects - 1) 0 1
new_listed objects place w some out rest = record {
  listed = [];
  few = omega arith;
  fresh = λ i a b. rest i (omega arith) b;
  chain = refl;
  once = tt;
  below = λ i h. absurd h;
  all = λ i a h. absurd (let s : i ≡ 0 = omega arith in let z : true ≡ false = sym h ∙ (ap (λ (k : ℕ). is_some (w k)) s ∙ ap is_some out) in let q : ⊥ = cc in q);
  count =
      let all = count_all objects (λ i. true) (λ i h. refl) in
      let less = count_less objects 0 (λ i. true) (λ i. is_some (w i)) some refl (ap is_some out) (λ j h n. rest j (omega arith) h) in
      omega arith;
}

-- where no object is free, each is live
pub each_live : (objects : ℕ) (place : ℕ → ℕ) (v : ℕ → Option ℕ) (room head used i : ℕ) → IsListed objects place v room head used → room ≡ 0 → i < objects → is_some (v i) ≡ false
each_live objects place v room head used i l none h = none_free objects i (λ j. is_some (v j)) (let c = l.count in omega arith) h

pub has_free : (objects : ℕ) (place : ℕ → ℕ) (v : ℕ → Option ℕ) (room head used : ℕ) → IsListed objects place v room head used → 0 < room → (i : ℕ) × (i < objects) × (is_some (v i) ≡ true)
has_free objects place v room head used l some = one_free objects (λ j. is_some (v j)) (let c = l.count in omega arith)

pub has_live : (objects : ℕ) (place : ℕ → ℕ) (v : ℕ → Option ℕ) (room head used : ℕ) → IsListed objects place v room head used → room < objects → (i : ℕ) × (i < objects) × (is_some (v i) ≡ false)
has_live objects place v room head used l less = one_live objects (λ j. is_some (v j)) (let c = l.count in omega arith)

pub room_most : (objects : ℕ) (place : ℕ → ℕ) (v : ℕ → Option ℕ) (room head used : ℕ) → IsListed objects place v room head used → room ≤ objects
room_most objects place v room head used l = let c = l.count in let m = count_most objects (λ j. is_some (v j)) in omega arith

-- the objects that are free, and object i
abbrev with_one : (ℕ → Option ℕ) → ℕ → ℕ → Bool
with_one v i k = cond (k == i) true (is_some (v k))

one_here : (v : ℕ → Option ℕ) (i : ℕ) → with_one v i i ≡ true
one_here v i = ap (λ (b : Bool). cond b true (is_some (v i))) (eq-eqb i i refl)

one_other : (v : ℕ → Option ℕ) (i k : ℕ) → k ≢ i → with_one v i k ≡ is_some (v k)
one_other v i k m = ap (λ (b : Bool). cond b true (is_some (v k))) (ne_eqb k i m)

-- where all but one are free, each other one is
pub rest_free : (objects : ℕ) (place : ℕ → ℕ) (v : ℕ → Option ℕ) (room head used i j : ℕ) → IsListed objects place v room head used → room + 1 ≡ objects → i < objects → is_some (v i) ≡ false → j < objects → j ≢ i → is_some (v j) ≡ true
rest_free objects place v room head used i j l full low out low2 n =
    let m = count_less objects i (with_one v i) (λ k. is_some (v k)) low (one_here v i) out (λ k h m. sym (one_other v i k m)) in
    let all : free_count (with_one v i) objects ≡ objects = (let c = l.count in omega arith) in
    sym (one_other v i j n) ∙ each_free objects j (with_one v i) all low2
