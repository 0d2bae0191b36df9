-- Lists that go along with a permutation: what is paired with each element, and what the elements are one after the
-- other.
use Rattle.std.proofs.Common.{◌≡◌, ◌<◌, ◌++◌, ℕ, zero, suc, List, [], ◌∷◌, length, set, get_or, refl, ap, sym, subst, arith, append_assoc}
use Rattle.std.specs.List.{AllZip, flat_map, swap}
use Rattle.std.specs.List.Sorted.{IsPermutation}
use Rattle.std.proofs.lemmas.List.Sorted.{IsPermutation-keeps, IsPermutation-refl, IsPermutation-sym, IsPermutation-trans, IsPermutation-append_left, IsPermutation-append_right, IsPermutation-append_comm, IsPermutation-middle, IsPermutation-to_front}

pub same-permutation : {X : Type 0} (xs ys zs : List X) → ys ≡ zs → IsPermutation xs ys → IsPermutation xs zs
same-permutation xs ys zs e h = subst (IsPermutation xs) e h

-- one more among the first, or among the second of two lists
pub more_first : {X : Type 0} (ks ms ss : List X) (x : X) → IsPermutation ks (ms ++ ss) → IsPermutation (ks ++ x ∷ []) ((ms ++ x ∷ []) ++ ss)
more_first ks ms ss x h =
    subst (IsPermutation (ks ++ x ∷ [])) (sym (append_assoc ms (x ∷ []) ss))
    (IsPermutation-trans (ks ++ x ∷ []) ((ms ++ ss) ++ x ∷ []) (ms ++ x ∷ ss) (IsPermutation-append_left (x ∷ []) ks (ms ++ ss) h)
    (IsPermutation-trans ((ms ++ ss) ++ x ∷ []) (x ∷ (ms ++ ss)) (ms ++ x ∷ ss) (IsPermutation-to_front (ms ++ ss) x)
    (IsPermutation-sym (ms ++ x ∷ ss) (x ∷ (ms ++ ss)) (IsPermutation-middle ms x ss))))

pub more_second : {X : Type 0} (ks ms ss : List X) (x : X) → IsPermutation ks (ms ++ ss) → IsPermutation (ks ++ x ∷ []) (ms ++ (ss ++ x ∷ []))
more_second ks ms ss x h =
    subst (IsPermutation (ks ++ x ∷ [])) (append_assoc ms ss (x ∷ [])) (IsPermutation-append_left (x ∷ []) ks (ms ++ ss) h)

-- ---- pairs

module _ {A B : Type 0} (R : A → B → Type 0) where
  pub AllZip-put : (xs : List A) (ys : List B) (i : ℕ) (x : A) (y : B) → AllZip R xs ys → R x y → AllZip R (set xs i x) (set ys i y)
  AllZip-put [] [] i x y h r = tt
  AllZip-put [] (b ∷ ys) i x y h r = absurd h
  AllZip-put (a ∷ xs) [] i x y h r = absurd h
  AllZip-put (a ∷ xs) (b ∷ ys) zero x y h r = (r, h.1)
  AllZip-put (a ∷ xs) (b ∷ ys) (suc i) x y h r = (h.0, AllZip-put xs ys i x y h.1 r)

  pub AllZip-at : (xs : List A) (ys : List B) (i : ℕ) (d : A) (e : B) → AllZip R xs ys → i < length xs → R (get_or xs i d) (get_or ys i e)
  AllZip-at [] ys i d e h l = absurd (omega arith)
  AllZip-at (a ∷ xs) [] i d e h l = absurd h
  AllZip-at (a ∷ xs) (b ∷ ys) zero d e h l = h.0
  AllZip-at (a ∷ xs) (b ∷ ys) (suc i) d e h l = AllZip-at xs ys i d e h.1 (omega arith)

  pub AllZip-long : (xs : List A) (ys : List B) → AllZip R xs ys → length xs ≡ length ys
  AllZip-long [] [] h = refl
  AllZip-long [] (b ∷ ys) h = absurd h
  AllZip-long (a ∷ xs) [] h = absurd h
  AllZip-long (a ∷ xs) (b ∷ ys) h = ap suc (AllZip-long xs ys h.1)

  pub AllZip-join : (xs us : List A) (ys vs : List B) → AllZip R xs ys → AllZip R us vs → AllZip R (xs ++ us) (ys ++ vs)
  AllZip-join [] us [] vs h k = k
  AllZip-join [] us (b ∷ ys) vs h k = absurd h
  AllZip-join (a ∷ xs) us [] vs h k = absurd h
  AllZip-join (a ∷ xs) us (b ∷ ys) vs h k = (h.0, AllZip-join xs us ys vs h.1 k)

  pub AllZip-swap : (xs : List A) (ys : List B) (i j : ℕ) → i < length xs → j < length xs → AllZip R xs ys → AllZip R (swap xs i j) (swap ys i j)
  AllZip-swap [] ys i j h k r = absurd (omega arith)
  AllZip-swap (a ∷ xs) [] i j h k r = absurd r
  AllZip-swap (a ∷ xs) (b ∷ ys) i j h k r =
      AllZip-put (set (a ∷ xs) i (get_or (a ∷ xs) j a)) (set (b ∷ ys) i (get_or (b ∷ ys) j b)) j (get_or (a ∷ xs) i a) (get_or (b ∷ ys) i b)
      (AllZip-put (a ∷ xs) (b ∷ ys) i (get_or (a ∷ xs) j a) (get_or (b ∷ ys) j b) r (AllZip-at (a ∷ xs) (b ∷ ys) j a b r k))
      (AllZip-at (a ∷ xs) (b ∷ ys) i a b r h)

-- ---- lists one after the other

module _ {X A : Type 0} (f : X → List A) where
  abbrev Same : List X → List X → Type 0
  Same xs ys = IsPermutation (flat_map f xs) (flat_map f ys)

  exchange : (x y : X) (xs : List X) → Same (x ∷ y ∷ xs) (y ∷ x ∷ xs)
  exchange x y xs =
      subst (λ l. IsPermutation l (f y ++ (f x ++ flat_map f xs))) (append_assoc (f x) (f y) (flat_map f xs))
      (same-permutation ((f x ++ f y) ++ flat_map f xs) ((f y ++ f x) ++ flat_map f xs) (f y ++ (f x ++ flat_map f xs)) (append_assoc (f y) (f x) (flat_map f xs))
      (IsPermutation-append_left (flat_map f xs) (f x ++ f y) (f y ++ f x) (IsPermutation-append_comm (f x) (f y))))

  behind : (x : X) (xs ys : List X) → Same xs ys → Same (x ∷ xs) (x ∷ ys)
  behind x xs ys h = IsPermutation-append_right (f x) (flat_map f xs) (flat_map f ys) h

  through : (xs ys zs : List X) → Same xs ys → Same ys zs → Same xs zs
  through xs ys zs h k = IsPermutation-trans (flat_map f xs) (flat_map f ys) (flat_map f zs) h k

  front : (x d : X) (xs : List X) (j : ℕ) → j < length xs → Same (get_or xs j d ∷ set xs j x) (x ∷ xs)
  front x d [] j h = absurd (omega arith)
  front x d (y ∷ ys) zero h = exchange y x ys
  front x d (y ∷ ys) (suc j) h =
      through (get_or ys j d ∷ y ∷ set ys j x) (y ∷ get_or ys j d ∷ set ys j x) (x ∷ y ∷ ys) (exchange (get_or ys j d) y (set ys j x))
      (through (y ∷ get_or ys j d ∷ set ys j x) (y ∷ x ∷ ys) (x ∷ y ∷ ys) (behind y (get_or ys j d ∷ set ys j x) (x ∷ ys) (front x d ys j (omega arith))) (exchange y x ys))

  swapped : (d : X) (xs : List X) (i j : ℕ) → i < length xs → j < length xs → Same (set (set xs i (get_or xs j d)) j (get_or xs i d)) xs
  swapped d [] i j h k = absurd (omega arith)
  swapped d (x ∷ xs) zero zero h k = IsPermutation-refl (flat_map f (x ∷ xs))
  swapped d (x ∷ xs) zero (suc j) h k = front x d xs j (omega arith)
  swapped d (x ∷ xs) (suc i) zero h k = front x d xs i (omega arith)
  swapped d (x ∷ xs) (suc i) (suc j) h k = behind x (set (set xs i (get_or xs j d)) j (get_or xs i d)) xs (swapped d xs i j (omega arith) (omega arith))

  pub swap_keeps : (xs : List X) (i j : ℕ) → i < length xs → j < length xs → Same (swap xs i j) xs
  swap_keeps [] i j h k = absurd (omega arith)
  swap_keeps (x ∷ xs) i j h k = swapped x (x ∷ xs) i j h k

  pub flat_map-permutation : (xs ys : List X) → IsPermutation xs ys → IsPermutation (flat_map f xs) (flat_map f ys)
  flat_map-permutation xs ys same =
      IsPermutation-sym (flat_map f ys) (flat_map f xs)
      (IsPermutation-keeps xs (λ l. Same l xs) (IsPermutation-refl (flat_map f xs)) (λ l i j h k e. through (swap l i j) l xs (swap_keeps l i j h k) e) ys same)

-- ---- both at once: what the elements are paired with goes along

pub record Paired {A X : Type 0} (R : A → List X → Type 0) (as' : List A) (whole : List X) : Type 0 where
  pub lists : List (List X)
  pub each : AllZip R as' lists
  pub same : IsPermutation whole (flat_map (λ l. l) lists)

module _ {A X : Type 0} (R : A → List X → Type 0) where
  abbrev pub Along : List A → List X → Type 0
  Along as' whole = Paired R as' whole

  pub along : (xs : List A) (lists : List (List X)) → AllZip R xs lists → (whole : List X) → IsPermutation whole (flat_map (λ l. l) lists) → Along xs whole
  along xs lists h whole p = record { lists = lists; each = h; same = p }

  one_swap : (whole : List X) (l : List A) (i j : ℕ) → i < length l → j < length l → Along l whole → Along (swap l i j) whole
  one_swap whole l i j h k a =
      let long = AllZip-long R l a.lists a.each in
      let moved : IsPermutation (flat_map (λ l. l) (swap a.lists i j)) (flat_map (λ l. l) a.lists) = swap_keeps (λ l. l) a.lists i j (omega (arith, long)) (omega (arith, long)) in
      record {
        lists = swap a.lists i j;
        each = AllZip-swap R l a.lists i j h k a.each;
        same = IsPermutation-trans whole (flat_map (λ l. l) a.lists) (flat_map (λ l. l) (swap a.lists i j)) a.same
            (IsPermutation-sym (flat_map (λ l. l) (swap a.lists i j)) (flat_map (λ l. l) a.lists) moved);
      }

  pub goes_along : (xs ys : List A) (whole : List X) → IsPermutation xs ys → Along xs whole → Along ys whole
  goes_along xs ys whole same a = IsPermutation-keeps xs (λ l. Along l whole) a (λ l i j h k b. one_swap whole l i j h k b) ys same
