-- The spares of one class among those of all classes, before and after a call on them.
use Rattle.std.proofs.Common.{◌≡◌, ◌≢◌, ℕ, zero, suc, ◌+◌, ◌-◌, ◌<◌, ◌≤◌, List, [], ◌∷◌, ◌++◌, Vec, length, get_or, set, slice_get, Option, Some, refl, sym, ap, subst, ◌∙◌, arith, ⊎_elim, length-append}
use Rattle.std.proofs.lemmas.Bool.{cases_eq, cases_lt}
use Rattle.std.proofs.lemmas.List.{get_or-set_same, length-set}
use Rattle.std.proofs.lemmas.Option.{slice_get-get_or, slice_get_read, slice_get_within, same_Some}
use Rattle.std.specs.Global.{Global}
use Rattle.std.specs.Option.{option_map_or}
use Rattle.atomic_table.specs.Seated.{TableId}
use Rattle.free_pages.specs.Area.{class_count}
use Rattle.size_classes.specs.Classes.{IsClass, first_class}
use Rattle.area_spares.specs.declared.spares.Spares.{Spares}
use Rattle.area_spares.specs.declared.classes.ClassSpares.{ClassSpares}
use Rattle.area_spares.specs.Spares.{IsSpares, batch_of, class_of, kept_of}
use Rattle.area_spares.specs.Classes.{AreSpares, SameElsewhere, batch_in, kept_in, spares_in}

-- a list's place after it was written to, and its other places
pub set_here : {X : Type 0} (xs : List X) (i : ℕ) (y : X) → i < length xs → slice_get (set xs i y) i ≡ Some y
set_here xs i y low = slice_get-get_or (set xs i y) i y (omega (arith, low, length-set xs i y)) ∙ ap Some (get_or-set_same xs i y y low)

pub set_else : {X : Type 0} (xs : List X) (i j : ℕ) (y : X) → j ≢ i → slice_get (set xs i y) j ≡ slice_get xs j
set_else [] i j y ne = refl
set_else (x ∷ xs) zero zero y ne = absurd (ne refl)
set_else (x ∷ xs) zero (suc j) y ne = refl
set_else (x ∷ xs) (suc i) zero y ne = refl
set_else (x ∷ xs) (suc i) (suc j) y ne = set_else xs i j y (λ e. ne (ap suc e))

-- the places before a list's end, and the one that is put there
pub push_before : {X : Type 0} (xs : List X) (y : X) (i : ℕ) → i < length xs → slice_get (xs ++ y ∷ []) i ≡ slice_get xs i
push_before [] y i low = absurd (omega arith)
push_before (x ∷ xs) y zero low = refl
push_before (x ∷ xs) y (suc i) low = push_before xs y i (omega arith)

pub push_here : {X : Type 0} (xs : List X) (y : X) → slice_get (xs ++ y ∷ []) (length xs) ≡ Some y
push_here [] y = refl
push_here (x ∷ xs) y = push_here xs y

-- a place of a list has a value
pub some_there : {X : Type 0} (xs : List X) (i : ℕ) → i < length xs → (x : X) × (slice_get xs i ≡ Some x)
some_there [] i low = absurd (omega arith)
some_there (x ∷ xs) zero low = (x, refl)
some_there (x ∷ xs) (suc i) low = some_there xs i (omega arith)

-- the spares at a place as they are made: of the place's class, and none kept
pub record IsNew (place : ℕ) (x : Spares) : Type 0 where
  pub own : (region : TableId) → IsSpares region x
  pub class : class_of x ≡ place + first_class
  pub none : kept_of x ≡ []

pub one_more : (xs : List Spares) (y : Spares) → ((i : ℕ) (x : Spares) → slice_get xs i ≡ Some x → IsNew i x) → IsNew (length xs) y → (i : ℕ) (x : Spares) → slice_get (xs ++ y ∷ []) i ≡ Some x → IsNew i x
one_more xs y each new i x e = ⊎_elim
    (λ (low : i < length xs). each i x (sym (push_before xs y i low) ∙ e))
    (λ (high : length xs ≤ i).
    let within = slice_get_within (xs ++ y ∷ []) i x e in
    let at : i ≡ length xs = omega (arith, within, length-append xs (y ∷ []), high) in
    let x_is : x ≡ y = same_Some x y (sym e ∙ (ap (λ (j : ℕ). slice_get (xs ++ y ∷ []) j) at ∙ push_here xs y)) in
    subst (λ (z : ℕ × Spares). IsNew z.0 z.1) (λ k. (sym at k, sym x_is k)) new)
    (cases_lt i (length xs))

-- the place of a class
pub place_in : (region : TableId) (s : ClassSpares) (class : ℕ) → AreSpares region s → IsClass class → class - first_class < length s.classes.items
place_in region s class k is = let count = k.count in let low = is.low in let high = is.high in omega arith

-- the spares at it
pub found : (region : TableId) (s : ClassSpares) (class : ℕ) (x : Spares) → AreSpares region s → IsClass class → x ≡ get_or s.classes.items (class - first_class) x → spares_in s class ≡ Some x
found region s class x k is e = slice_get_read s.classes.items (length s.classes.items) (class - first_class) x refl (place_in region s class k is) e

pub its : (region : TableId) (s : ClassSpares) (class : ℕ) (x : Spares) → AreSpares region s → IsClass class → spares_in s class ≡ Some x → IsSpares region x × (class_of x ≡ class)
its region s class x k is e =
    let h = k.each (class - first_class) x e in
    let low = is.low in
    let back : class - first_class + first_class ≡ class = omega arith in
    (h.0, h.1 ∙ back)

-- what is kept of a class, and how many at a time, by its spares
pub kept_is : (s : ClassSpares) (class : ℕ) (x : Spares) → spares_in s class ≡ Some x → kept_in s class ≡ kept_of x
kept_is s class x e = ap (λ (o : Option Spares). option_map_or kept_of o []) e

pub batch_is : (s : ClassSpares) (class : ℕ) (x : Spares) → spares_in s class ≡ Some x → batch_in s class ≡ batch_of x
batch_is s class x e = ap (λ (o : Option Spares). option_map_or batch_of o 0) e

pub same_kept : (s t : ClassSpares) (class : ℕ) → spares_in s class ≡ spares_in t class → kept_in s class ≡ kept_in t class
same_kept s t class e = ap (λ (o : Option Spares). option_map_or kept_of o []) e

-- of all classes, as they are made
pub are_new : (s : ClassSpares) → length s.classes.items ≡ class_count → ((i : ℕ) (x : Spares) → slice_get s.classes.items i ≡ Some x → IsNew i x) → (region : TableId) → AreSpares region s
are_new s count each region = record { count = count; each = λ i x e. let h = each i x e in (h.own region, h.class) }

pub none_yet : (s : ClassSpares) → length s.classes.items ≡ class_count → ((i : ℕ) (x : Spares) → slice_get s.classes.items i ≡ Some x → IsNew i x) → (class : ℕ) → IsClass class → kept_in s class ≡ []
none_yet s count each class is =
    let low = is.low in
    let high = is.high in
    let h = some_there s.classes.items (class - first_class) (omega arith) in
    kept_is s class h.0 h.1 ∙ (each (class - first_class) h.0 h.1).none

-- after a call on the spares x of a class, which made them y, they are at the same place, and the spares of each other
-- class are as they were
pub record Changed (region : TableId) (s : ClassSpares) (class : ℕ) (x y : Spares) (t : ClassSpares) : Type 0 where
  pub is : spares_in s class ≡ Some x
  pub class_is : class_of x ≡ class
  pub here : spares_in t class ≡ Some y
  pub else : SameElsewhere s t class
  pub are : AreSpares region t

pub changed : (region : TableId) (s : ClassSpares) (v : Vec Spares Global) (class place : ℕ) (x y : Spares) → AreSpares region s → IsClass class → place ≡ class - first_class → x ≡ get_or s.classes.items place x → v.items ≡ set s.classes.items place y
    → IsSpares region y → class_of y ≡ class_of x → Changed region s class x y (record { classes = v })
changed region s v class place x y k is placed read_there set_there own same =
    let read : x ≡ get_or s.classes.items (class - first_class) x = read_there ∙ ap (λ (j : ℕ). get_or s.classes.items j x) placed in
    let e : v.items ≡ set s.classes.items (class - first_class) y = set_there ∙ ap (λ (j : ℕ). set s.classes.items j y) placed in
    let at = found region s class x k is read in
    let here : slice_get v.items (class - first_class) ≡ Some y = ap (λ (xs : List Spares). slice_get xs (class - first_class)) e ∙ set_here s.classes.items (class - first_class) y (place_in region s class k is) in
    record {
      is = at;
      class_is = (its region s class x k is at).1;
      here = here;
      else = λ other o ne. ap (λ (xs : List Spares). slice_get xs (other - first_class)) e ∙ set_else s.classes.items (class - first_class) (other - first_class) y (λ same_place. ne (let a = o.low in let b = is.low in omega (arith, same_place)));
      are = record {
        count = ap length e ∙ (length-set s.classes.items (class - first_class) y ∙ k.count);
        each = λ i z f. ⊎_elim
            (λ (p : i ≡ class - first_class).
            let z_is : z ≡ y = same_Some z y (sym f ∙ (ap (λ (j : ℕ). slice_get v.items j) p ∙ here)) in
            let was = its region s class x k is at in
            let low = is.low in
            let back : class ≡ i + first_class = omega (arith, p) in
            subst (λ (w : Spares). IsSpares region w × (class_of w ≡ i + first_class)) (sym z_is) (own, same ∙ (was.1 ∙ back)))
            (λ (ne : i ≡ class - first_class → ⊥). k.each i z (sym (ap (λ (xs : List Spares). slice_get xs i) e ∙ set_else s.classes.items (class - first_class) i y ne) ∙ f))
            (cases_eq i (class - first_class));
      };
    }
