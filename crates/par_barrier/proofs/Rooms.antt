-- What is always true of the two lists of a barrier goes on being true, neither outgrows the number of callers, and all
-- have arrived exactly where both are equally long.
use Rattle.std.proofs.Common.{◌≡◌, ℕ, ◌≤◌, ◌<◌, ◌+◌, Bool, true, false, not, ◌||◌, ◌==◌, nat_eq, List, [], ◌∷◌, ◌++◌, length, sym, refl, ◌∙◌, subst, arith, eqb-true, leb, leb-true, leb-false, length-append, Option, slice_get, IfSome}
use Rattle.std.specs.List.{IsDistinct}
use Rattle.std.specs.Cmp.{nat_eq_equiv}
use Rattle.std.proofs.lemmas.Map.Steps.{length-le_from_distinct_below}
use Rattle.std.proofs.lemmas.Map.Made.{length-le_from_is_member}
use Rattle.par_barrier.specs.Parties.{is_among, without, are_among}
use Rattle.par_barrier.specs.Kept.{AreParties}
use Rattle.par_barrier.proofs.Members.{as_member, among-push, among-kept, among-without, distinct-filter, distinct-push, each_among, all_from_each, both_are, and_true}

module _ {callers : ℕ} {attached arrived : List ℕ} (p : AreParties callers attached arrived) (n : ℕ) where
  below-push : n < callers → (m : ℕ) (b : Bool) → is_among m attached ≡ b → (b || (n == m)) ≡ true → m < callers
  below-push low m true e h = p.below m e
  below-push low m false e h = subst (λ (k : ℕ). k < callers) (eqb-true n m h) low

  -- a caller who was not attached joins
  pub joins : n < callers → is_among n attached ≡ false → AreParties callers (attached ++ n ∷ []) arrived
  joins low out = record {
    attached_once = distinct-push attached n p.attached_once out;
    arrived_once = p.arrived_once;
    below = λ m h. below-push low m (is_among m attached) refl (sym (among-push m n attached) ∙ h);
    within = λ m h. among-kept m n attached (p.within m h);
  }

  within-push : is_among n attached ≡ true → (m : ℕ) (b : Bool) → is_among m arrived ≡ b → (b || (n == m)) ≡ true → is_among m attached ≡ true
  within-push here m true e h = p.within m e
  within-push here m false e h = subst (λ (k : ℕ). is_among k attached ≡ true) (eqb-true n m h) here

  -- a caller who was attached arrives
  pub arrives : is_among n attached ≡ true → is_among n arrived ≡ false → AreParties callers attached (arrived ++ n ∷ [])
  arrives here out = record {
    attached_once = p.attached_once;
    arrived_once = distinct-push arrived n p.arrived_once out;
    below = p.below;
    within = λ m h. within-push here m (is_among m arrived) refl (sym (among-push m n arrived) ∙ h);
  }

  -- a caller leaves
  pub parts : AreParties callers (without n attached) (without n arrived)
  parts = record {
    attached_once = distinct-filter (λ m. not (m == n)) attached p.attached_once;
    arrived_once = distinct-filter (λ m. not (m == n)) arrived p.arrived_once;
    below = λ m h. p.below m (both_are (is_among m attached) (not (m == n)) (sym (among-without m n attached) ∙ h)).0;
    within = λ m h.
        let was = both_are (is_among m arrived) (not (m == n)) (sym (among-without m n arrived) ∙ h) in
        among-without m n attached ∙ and_true (is_among m attached) (not (m == n)) (p.within m was.0) was.1;
  }

  one_more : (xs : List ℕ) → length (xs ++ n ∷ []) ≡ length xs + 1
  one_more xs = length-append xs (n ∷ [])

  at_most : (xs : List ℕ) → IsDistinct nat_eq xs → ((m : ℕ) → is_among m xs ≡ true → m < callers) → length xs ≤ callers
  at_most xs d low = length-le_from_distinct_below xs callers d (λ m h. low m (as_member m xs ∙ h))

  -- who is not attached finds room
  pub attached-room : n < callers → is_among n attached ≡ false → length attached < callers
  attached-room low out =
      let q = joins low out in
      let few = at_most (attached ++ n ∷ []) q.attached_once q.below in
      let more = one_more attached in
      omega arith

  -- who is attached and has not arrived finds room
  pub arrived-room : is_among n attached ≡ true → is_among n arrived ≡ false → length arrived < callers
  arrived-room here out =
      let q = arrives here out in
      let few = at_most (arrived ++ n ∷ []) q.arrived_once (λ m h. p.below m (q.within m h)) in
      let more = one_more arrived in
      omega arith

module _ {callers : ℕ} {attached arrived : List ℕ} (p : AreParties callers attached arrived) where
  -- a phase ends
  pub starts_anew : AreParties callers attached []
  unfolding IsDistinct
  starts_anew = record { attached_once = p.attached_once; arrived_once = tt; below = p.below; within = λ m h. absurd (cc) }

  longer : (xs ys : List ℕ) → IsDistinct nat_eq xs → ((m : ℕ) → is_among m xs ≡ true → is_among m ys ≡ true) → length xs ≤ length ys
  longer xs ys d h = length-le_from_is_member nat_eq_equiv xs ys d (λ m e. sym (as_member m ys) ∙ h m (as_member m xs ∙ e))

  missing : (n : ℕ) → length attached ≤ length arrived → is_among n attached ≡ true → (b : Bool) → is_among n arrived ≡ b → is_among n arrived ≡ true
  missing n long here true e = e
  missing n long here false e =
      let q = arrives p n here e in
      let few = longer (arrived ++ n ∷ []) attached q.arrived_once q.within in
      let more = one_more p n arrived in
      absurd (omega arith)

  -- where as many have arrived as take part, all have
  pub all-arrived : length attached ≤ length arrived → are_among attached arrived ≡ true
  all-arrived long = all_from_each attached arrived (λ n here. missing n long here (is_among n arrived) refl)

  not_all : length arrived < length attached → (b : Bool) → are_among attached arrived ≡ b → are_among attached arrived ≡ false
  not_all short true e =
      let few = longer attached arrived p.attached_once (each_among attached arrived e) in
      absurd (omega arith)
  not_all short false e = e

  -- where fewer have arrived, not all have
  pub not-all-arrived : length arrived < length attached → are_among attached arrived ≡ false
  not-all-arrived short = not_all short (are_among attached arrived) refl

-- who takes part is who has arrived, exactly where the lists are equally long
pub arrived-by_count : {callers : ℕ} {attached arrived : List ℕ} (p : AreParties callers attached arrived) (x y : ℕ) → x ≡ length attached → y ≡ length arrived → (b : Bool) → leb x y ≡ b → b ≡ are_among attached arrived
arrived-by_count p x y u v true e = let low = leb-true x y e in sym (all-arrived p (omega arith))
arrived-by_count p x y u v false e = let high = leb-false x y e in sym (not-all-arrived p (omega arith))

-- the first of a list that has one
pub first_is : (xs : List ℕ) (r : Option ℕ) → r ≡ slice_get xs 0 → IfSome r (λ n. (others : List ℕ) × (xs ≡ n ∷ others))
first_is [] r e = subst (λ (o : Option ℕ). IfSome o (λ n. (others : List ℕ) × ([] ≡ n ∷ others))) (sym e) tt
first_is (x ∷ xs) r e = subst (λ (o : Option ℕ). IfSome o (λ n. (others : List ℕ) × (x ∷ xs ≡ n ∷ others))) (sym e) (xs, refl)

-- nobody takes part
pub none_take_part : (callers : ℕ) → AreParties callers [] []
unfolding IsDistinct
none_take_part callers = record { attached_once = tt; arrived_once = tt; below = λ m h. absurd (cc); within = λ m h. h }
