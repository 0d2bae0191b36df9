-- Two lists that are put together while they are used up from their fronts.
use Rattle.std.proofs.Common.{◌≡◌, ◌≤◌, ◌+◌, ◌++◌, ◌∙◌, ℕ, List, [], ◌∷◌, append-nil, append_assoc, length, map, ap, sym, arith}
use Rattle.std.specs.List.{zip}

-- one more pair was put behind those that are done
pub one_paired : {A B C : Type 0} (make : A × B → C) (done done' : List C) (a : A) (b : B) (xs xs' : List A) (ys ys' : List B) (all : List C) → done' ≡ done ++ make (a, b) ∷ [] → xs ≡ a ∷ xs' → ys ≡ b ∷ ys'
    → done ++ map make (zip xs ys) ≡ all → done' ++ map make (zip xs' ys') ≡ all
one_paired make done done' a b xs xs' ys ys' all e f g h =
    ap (λ l. l ++ map make (zip xs' ys')) e ∙ (append_assoc done (make (a, b) ∷ []) (map make (zip xs' ys'))
    ∙ (ap (λ l. done ++ map make (zip l (b ∷ ys'))) (sym f) ∙ (ap (λ l. done ++ map make (zip xs l)) (sym g) ∙ h)))

-- all are done
pub all_paired : {A B C : Type 0} (make : A × B → C) (done : List C) (xs : List A) (ys : List B) (all : List C) → length xs ≡ 0 → done ++ map make (zip xs ys) ≡ all → done ≡ all
all_paired make done [] [] all n h = sym (append-nil done) ∙ h
all_paired make done [] (y ∷ ys) all n h = sym (append-nil done) ∙ h
all_paired make done (x ∷ xs) ys all n h = absurd (omega arith)

-- as many are left of each
pub same_next : {X Y : Type 0} (x : X) (xs xs' : List X) (y : Y) (ys ys' : List Y) → xs ≡ x ∷ xs' → ys ≡ y ∷ ys' → length xs ≡ length ys → length xs' ≡ length ys'
same_next x xs xs' y ys ys' e f h = let m = ap (λ l. length l) e in let n = ap (λ l. length l) f in omega (arith, m, n, h)

-- and there is room for them
pub room_next : (len len' room room' left left' : ℕ) → len' ≡ len + 1 → room' ≡ room → left' + 1 ≡ left → len + left ≤ room → len' + left' ≤ room'
room_next len len' room room' left left' l r n h = omega arith
