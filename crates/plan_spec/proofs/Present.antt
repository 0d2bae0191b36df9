-- Values that are all there, and names that are none.
use Rattle.std.proofs.Common.{◌≡◌, ◌<◌, ◌≤◌, ◌+◌, ◌∷◌, ◌++◌, ℕ, zero, suc, Bool, true, false, List, [], Option, Some, None, length, get_or, nat_le, map, drop, take, refl, sym, ap, ◌∙◌, arith, take-append-drop}
use Rattle.std.specs.Prelude.{◌&&◌, not, if◌then◌else◌, filter_map, option_map, option_to_list}
use Rattle.std.specs.List.{cons_option, list_any}
use Rattle.std.proofs.lemmas.List.{map-append, take_more}
use Rattle.std.proofs.lemmas.List.Elements.{filter_map-append}
use Rattle.std.proofs.lemmas.Bool.Decides.{nat_tests}
use Rattle.plan_spec.specs.Grammar.{all_some}

-- a value before others that are there
map-some : {A : Type 0} (x : A) (o : Option (List A)) (ys : List A) → option_map (λ zs. x ∷ zs) o ≡ Some ys → (zs : List A) × (o ≡ Some zs) × (ys ≡ x ∷ zs)
map-some x None ys e = cc e
map-some x (Some zs) ys e = (zs, refl, cc e)

-- one more value
pub all_some-more : {A : Type 0} (xs : List (Option A)) (ys : List A) (y : A) → all_some xs ≡ Some ys → all_some (xs ++ (Some y ∷ [])) ≡ Some (ys ++ (y ∷ []))
all_some-more {A} [] ys y e =
    let none : List A = [] in
    let same : ys ≡ none = cc e in
    rw same refl
all_some-more (None ∷ xs) ys y e = cc e
all_some-more (Some x ∷ xs) ys y e =
    let m = map-some x (all_some xs) ys e in
    ap (option_map (λ zs. x ∷ zs)) (all_some-more xs m.0 y m.1) ∙ ap (λ zs. Some (zs ++ (y ∷ []))) (sym m.2)

-- one more text that reads
pub more-read : {X Y Z : Type 0} (g : X → Z) (f : Z → Option Y) (xs : List X) (i : ℕ) (d : X) (ys : List Y) (y : Y) → i < length xs
    → all_some (map f (map g (take i xs))) ≡ Some ys → f (g (get_or xs i d)) ≡ Some y → all_some (map f (map g (take (i + 1) xs))) ≡ Some (ys ++ (y ∷ []))
more-read g f xs i d ys y lt read e =
    rw (take_more xs i d lt, map-append g (take i xs) (get_or xs i d ∷ []), map-append f (map g (take i xs)) (g (get_or xs i d) ∷ []), e)
    (all_some-more (map f (map g (take i xs))) ys y read)

-- a text that does not read
none-tail : {A : Type 0} (o : Option A) (xs : List (Option A)) → all_some xs ≡ None → all_some (o ∷ xs) ≡ None
none-tail None xs e = refl
none-tail (Some x) xs e = rw e refl

pub none-read : {X Y Z : Type 0} (g : X → Z) (f : Z → Option Y) (xs : List X) (i : ℕ) (d : X) → i < length xs → f (g (get_or xs i d)) ≡ None
    → all_some (map f (map g xs)) ≡ None
none-read g f [] i d lt e = absurd (omega arith)
none-read g f (x ∷ xs) zero d lt e = rw e refl
none-read g f (x ∷ xs) (suc i) d lt e = none-tail (f (g x)) (map f (map g xs)) (none-read g f xs i d (omega arith) e)

-- a value that is not there
pub all_some-none : {A : Type 0} (xs ys : List (Option A)) → all_some (xs ++ (None ∷ ys)) ≡ None
all_some-none [] ys = refl
all_some-none (None ∷ xs) ys = refl
all_some-none (Some x ∷ xs) ys = rw (all_some-none xs ys) refl

pub too-many : {X : Type 0} (n : ℕ) (b : Bool) (x : X) → 8 < n → (if nat_le n 8 && b then Some x else None) ≡ None
too-many n b x large =
    let e : nat_le n 8 ≡ false = grind (arith, nat_tests, large) in
    rw e refl

-- an element of a list that a function is applied to
pub get-map : {A B : Type 0} (f : A → B) (xs : List A) (i : ℕ) (x : A) → i < length xs → x ≡ get_or xs i x → get_or (map f xs) i (f x) ≡ f x
get-map f [] i x lt is = absurd (omega arith)
get-map f (y ∷ ys) zero x lt is = ap f (sym is)
get-map f (y ∷ ys) (suc i) x lt is = get-map f ys i x (omega arith) is

-- one more item, with the name that it may have
pub filter_map-take : {X Y : Type 0} (f : X → Option Y) (xs : List X) (i : ℕ) (x : X) → i < length xs → x ≡ get_or xs i x
    → filter_map f (take (i + 1) xs) ≡ filter_map f (take i xs) ++ option_to_list (f x)
filter_map-take f xs i x lt is = rw (take_more xs i x lt, ← is, filter_map-append f (take i xs) (x ∷ [])) (ap (λ ys. filter_map f (take i xs) ++ ys) (one (f x)))
  where
    one : {Y : Type 0} (o : Option Y) → cons_option o [] ≡ option_to_list o
    one None = refl
    one (Some y) = refl

-- the items before a place, the one there, and those after it
pub filter_map-split : {X Y : Type 0} (f : X → Option Y) (xs : List X) (i : ℕ) (x : X) → i < length xs → x ≡ get_or xs i x
    → filter_map f xs ≡ filter_map f (take (i + 1) xs) ++ filter_map f (drop (i + 1) xs)
filter_map-split f xs i x lt is = sym (sym (filter_map-append f (take (i + 1) xs) (drop (i + 1) xs)) ∙ ap (filter_map f) (take-append-drop (i + 1) xs))

-- a test of what a function gives
pub any-map : {X Y : Type 0} (p : Y → Bool) (f : X → Y) (xs : List X) → list_any p (map f xs) ≡ list_any (λ x. p (f x)) xs
any-map p f [] = refl
any-map p f (x ∷ xs) = rw (any-map p f xs) refl

pub if-none : {A : Type 0} (b : Bool) (x : Option A) → x ≡ None → (if b then x else None) ≡ None
if-none true x e = e
if-none false x e = refl

pub has-empty : {X : Type 0} (n : ℕ) (b : Bool) (x : X) → b ≡ true → (if nat_le n 8 && not b then Some x else None) ≡ None
has-empty n b x e = rw e (never (nat_le n 8))
  where
    never : (a : Bool) → (if a && false then Some x else None) ≡ None
    never true = refl
    never false = refl

pub all-there : {X : Type 0} (n : ℕ) (b : Bool) (x : X) → n ≤ 8 → b ≡ false → (if nat_le n 8 && not b then Some x else None) ≡ Some x
all-there n b x few e =
    let le : nat_le n 8 ≡ true = grind (arith, nat_tests, few) in
    rw (le, e) refl
