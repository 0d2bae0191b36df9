-- Which object has a word.
use Rattle.std.proofs.Common.{◌≡◌, ◌≢◌, ℕ, ◌+◌, ◌-◌, ◌*◌, ◌/◌, ◌%◌, ◌<◌, ◌≤◌, ◌⊎◌, inl, inr, ⊎_elim, Bool, true, false, refl, sym, ap, subst, ◌∙◌, arith}
use Rattle.std.proofs.lemmas.Bool.{cases_lt, false_from_ne_true}
use Rattle.std.proofs.Math.Nat.{mul-mod_left, mul-le-mul_left, mul-div-le, lt-mul-div-succ}
use Rattle.std.proofs.lemmas.Nat.{div-mul-add}
use Rattle.word_map.specs.WordMap.{is_within}
use Rattle.word_map.proofs.Maps.{within_is, within_true}
use Rattle.span_pools.specs.declared.layout.Layout.{Layout}
use Rattle.span_pools.specs.Places.{base, place, record_at, covers, object_of, IsLayout}
use Rattle.span_pools.specs.Shape.{IsShape}

pub bool_same : (a b : Bool) → (a ≡ true → b ≡ true) → (b ≡ true → a ≡ true) → a ≡ b
bool_same true true f g = refl
bool_same false false f g = refl
bool_same true false f g = sym (f refl)
bool_same false true f g = g refl

-- the object of a word of an object
quotient : (size i j : ℕ) → 1 ≤ size → j < size → (size * i + j) / size ≡ i
quotient size i j some h = ap (λ (z : ℕ). (z + j) / size) (swap size i) ∙ div-mul-add i size j h
  where
    swap : (a b : ℕ) → a * b ≡ b * a
    swap a b = omega arith

bounds : (size n : ℕ) → 1 ≤ size → (size * (n / size) ≤ n) × (n < size * (n / size) + size)
bounds size n some = (mul-div-le n size, next (lt-mul-div-succ n some))
  where
    next : n < size * (n / size + 1) → n < size * (n / size) + size
    next h = omega arith

-- the end of an object is no further than the end of the objects
object_end : (size i objects : ℕ) → i < objects → size * i + size ≤ size * objects
object_end size i objects h = let z : size * (i + 1) ≤ size * objects = mul-le-mul_left size (let y : i + 1 ≤ objects = omega arith in y) in omega arith

-- a word of object i is one of the superblock, and i is its object
pub in_object : (l : Layout) (p i k : ℕ) → IsLayout l → i < l.objects → is_within (place l p i) l.size k ≡ true → (covers l p k ≡ true) × (object_of l p k ≡ i)
in_object l p i k a low h =
    let w = within_is (place l p i) l.size k h in
    let e = object_end l.size i l.objects low in
    let n : k - base l p ≡ l.size * i + (k - place l p i) = omega (arith, w.0, w.1) in (
      within_true (base l p) 8192 k (omega (arith, w.0)) (omega (arith, w.1, a.fits)),
      ap (λ (z : ℕ). z / l.size) n ∙ quotient l.size i (k - place l p i) a.size (omega (arith, w.0, w.1)),
    )

-- a word whose object is i is one of its words
pub of_object : (l : Layout) (p i k : ℕ) → IsLayout l → covers l p k ≡ true → object_of l p k ≡ i → is_within (place l p i) l.size k ≡ true
of_object l p i k a c e =
    let w = within_is (base l p) 8192 k c in
    let b = bounds l.size (k - base l p) a.size in
    subst (λ (z : ℕ). is_within (place l p z) l.size k ≡ true) e
    (within_true (place l p (object_of l p k)) l.size k (omega (arith, w.0, b.0)) (omega (arith, w.0, b.1)))

-- the first word of an object
pub place_in : (l : Layout) (p i : ℕ) → IsLayout l → i < l.objects → is_within (place l p i) l.size (place l p i) ≡ true
place_in l p i a low = within_true (place l p i) l.size (place l p i) (omega arith) (let s = a.size in omega arith)

pub place_covers : (l : Layout) (p i : ℕ) → IsLayout l → i < l.objects → covers l p (place l p i) ≡ true
place_covers l p i a low = (in_object l p i (place l p i) a low (place_in l p i a low)).0

pub place_object : (l : Layout) (p i : ℕ) → IsLayout l → i < l.objects → object_of l p (place l p i) ≡ i
place_object l p i a low = (in_object l p i (place l p i) a low (place_in l p i a low)).1

-- the first word of another object is none of this one's
pub other_object : (l : Layout) (p i j : ℕ) → IsLayout l → j ≢ i → is_within (place l p i) l.size (place l p j) ≡ false
other_object l p i j a n = false_from_ne_true (is_within (place l p i) l.size (place l p j)) (λ h.
    let w = within_is (place l p i) l.size (place l p j) h in
    ⊎_elim
    (λ (x : j < i). let e = object_end l.size j i x in let s = a.size in omega (arith, w.0))
    (λ (x : i ≤ j). let e = object_end l.size i j (let y : i < j = omega arith in y) in omega (arith, w.1))
    (cases_lt j i))

pub place_positive : (l : Layout) (p i : ℕ) → IsLayout l → 0 < place l p i
place_positive l p i a = let x = a.valid in let y = a.records in let z = a.marks in omega arith

-- an object has fewer words than a superblock
pub size_small : (l : Layout) → IsLayout l → l.size ≤ 8192
size_small l a = let e = object_end l.size 0 l.objects (let z = a.some in omega arith) in let f = a.fits in omega arith

-- superblocks have no word in common
pub no_common : (l : Layout) (p q k : ℕ) → ((p + 16 ≤ q) ⊎ (q + 16 ≤ p)) → covers l p k ≡ true → covers l q k ≡ true → ⊥
no_common l p q k h a b =
    let x = within_is (base l p) 8192 k a in
    let y = within_is (base l q) 8192 k b in
    ⊎_elim (λ (z : p + 16 ≤ q). omega (arith, x.1, y.0)) (λ (z : q + 16 ≤ p). omega (arith, x.0, y.1)) h

pub parted : (l : Layout) (marked own : ℕ → Bool) (p q : ℕ) → IsShape l marked own → marked p ≡ true → marked q ≡ true → p ≢ q → (p + 16 ≤ q) ⊎ (q + 16 ≤ p)
parted l marked own p q s a b n = ⊎_elim (λ (h : p < q). inl (s.apart p q a b h)) (λ (h : q ≤ p). inr (s.apart q p b a (omega arith))) (cases_lt p q)

-- an object stands a whole number of objects behind the first
pub place_offset : (l : Layout) (p i at_word : ℕ) → at_word ≡ place l p i → (at_word - base l p) % l.size ≡ 0
place_offset l p i at_word e = ap (λ (z : ℕ). z % l.size) (let z : at_word - base l p ≡ i * l.size = omega arith in z) ∙ mul-mod_left i l.size

-- the words of a superblock's records
pub record_in : (l : Layout) (p n k : ℕ) → n < 112 → k ≡ record_at l p + n → is_within (record_at l p) 112 k ≡ true
record_in l p n k h e = within_true (record_at l p) 112 k (omega arith) (omega arith)

pub objects_small : (l : Layout) → IsLayout l → l.objects ≤ 8192
objects_small l a = let m : l.objects * 1 ≤ l.objects * l.size = mul-le-mul_left l.objects a.size in let f = a.fits in omega arith
