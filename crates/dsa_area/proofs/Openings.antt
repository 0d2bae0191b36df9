-- How the words of an area are given out, and how its shelves open.
use Rattle.std.proofs.Common.{◌≡◌, ℕ, zero, suc, ◌+◌, ◌-◌, ◌*◌, ◌/◌, ◌<◌, ◌≤◌, ⊎_elim, List, [], ◌∷◌, ◌++◌, length, map, refl, sym, ap, subst, ◌∙◌, append-nil, append_assoc, arith, length-append}
use Rattle.std.proofs.lemmas.Bool.{cases_lt}
use Rattle.std.specs.List.{zip}
use mathlib.Core.Option.{some, some-injective}
use lib.ListN.{get_elem?}
use Rattle.atomic_table.specs.Seated.{TableId}
use Rattle.word_map.specs.WordMap.{WordMap, HasJust}
use Rattle.word_map.proofs.Maps.{within_true}
use Rattle.size_classes.specs.Classes.{IsClass}
use Rattle.free_pages.specs.Area.{area_size, front, head_words, mark_words, marks_at}
use Rattle.span_pools.proofs.Fits.{bits_before}
use Rattle.lock_book.proofs.Uses.{at_last, at_longer, map_at}
use Rattle.dsa_area.specs.Opening.{HasWords, empty_pool, AreEmptyPools}
use Rattle.dsa_area.specs.declared.pools.LockedPool.{LockedPool}

-- a chunk of an area's bytes has its words
pub chunk_owns : (m : WordMap) (at bytes pages : ℕ) → HasJust m at (bytes / 8) → bytes ≡ 8 * area_size pages → HasWords m at (at + area_size pages)
chunk_owns m at bytes pages just e k lo hi = just k ∙ within_true at (bytes / 8) k lo (omega arith)

one_less : (x y m : ℕ) → x ≡ suc y → x * m ≡ y * m + m
one_less x y m e = subst (λ (z : ℕ). z * m ≡ y * m + m) (sym e) (omega arith)

nearer : (f x y m : ℕ) → x ≡ y + m → x ≤ f → f - y ≡ f - x + m
nearer f x y m e h = omega arith

-- the bits of the next class follow
pub next_bits : (first pages class : ℕ) → IsClass class → head_words + front pages ≤ first → marks_at first pages (class + 1) ≡ marks_at first pages class + mark_words pages
next_bits first pages class is place = nearer first ((38 - class) * mark_words pages) ((38 - (class + 1)) * mark_words pages) (mark_words pages)
    (one_less (38 - class) (38 - (class + 1)) (mark_words pages) (let h = is.high in omega arith))
    (let b = (bits_before class (mark_words pages) is).0 in omega arith)

-- one more pool
pub one_more : (region : TableId) (first pages class : ℕ) (xs ys : List LockedPool) (x : LockedPool) → AreEmptyPools region first pages xs → ys ≡ xs ++ x ∷ [] → x ≡ record { pool = empty_pool region first pages class } → length xs + 2 ≡ class → AreEmptyPools region first pages ys
one_more region first pages class xs ys x h e f n = λ i low.
    let here : get_elem? ys i ≡ get_elem? (xs ++ x ∷ []) i = ap (λ (l : List LockedPool). get_elem? l i) e in
    ⊎_elim
    (λ (l : i < length xs). here ∙ at_longer xs (x ∷ []) i (record { pool = empty_pool region first pages (i + 2) }) (h i l))
    (λ (l : length xs ≤ i).
    let at_end : length xs ≡ i = omega (arith, ap length e, length-append xs (x ∷ [])) in
    let same : i + 2 ≡ class = omega arith in
    here ∙ (at_last xs x i at_end ∙ ap some (f ∙ ap (λ (z : ℕ). record { pool = empty_pool region first pages z }) (sym same))))
    (cases_lt i (length xs))

-- a shelf of one value
pub one_open : {A B : Type 0} (f : A → B) (opens : List B) (items news : List A) (x y : A) → opens ≡ map f items → items ≡ news ++ x ∷ [] → news ≡ [] → x ≡ y → opens ≡ f y ∷ []
one_open {A} {B} f opens items news x y a b c d = a ∙ (ap (map f) (b ∙ ap (λ (l : List A). l ++ x ∷ []) c) ∙ ap (λ (z : A). f z ∷ []) d)

zip_at : {A B : Type 0} (xs : List A) (ys : List B) (k : ℕ) (x : A × B) → get_elem? (zip xs ys) k ≡ some x → (get_elem? xs k ≡ some x.0) × (get_elem? ys k ≡ some x.1)
zip_at [] ys k x e = absurd (cc)
zip_at (a ∷ xs) [] k x e = absurd (cc)
zip_at (a ∷ xs) (b ∷ ys) zero x e = let h : (a, b) ≡ x = some-injective (a, b) x e in (ap (λ z. some z.0) h, ap (λ z. some z.1) h)
zip_at (a ∷ xs) (b ∷ ys) (suc k) x e = zip_at xs ys k x e

-- of a list of pairs, both parts stand at the pair's place
pub pair_at : {A B C : Type 0} (make : A × B → C) (one : C → A) (other : C → B) → ((x : A × B) → one (make x) ≡ x.0) → ((x : A × B) → other (make x) ≡ x.1) → (xs : List A) (ys : List B) (ps : List C) (k : ℕ) (p : C) → ps ≡ map make (zip xs ys) → get_elem? ps k ≡ some p
    → (get_elem? xs k ≡ some (one p)) × (get_elem? ys k ≡ some (other p))
pair_at {A} {B} {C} make one other f g xs ys ps k p is e =
    let m = map_at make (zip xs ys) k p (sym (ap (λ (l : List C). get_elem? l k) is) ∙ e) in
    let z = zip_at xs ys k m.0 m.1 in
    (z.0 ∙ ap some (sym (f m.0) ∙ ap one m.2), z.1 ∙ ap some (sym (g m.0) ∙ ap other m.2))

-- and there are as many
pub pairs_long : {A B C : Type 0} (make : A × B → C) (xs : List A) (ys : List B) → length ys ≡ length xs → length (map make (zip xs ys)) ≡ length xs
pairs_long make [] [] e = refl
pairs_long make [] (b ∷ ys) e = absurd (omega arith)
pairs_long make (a ∷ xs) [] e = absurd (omega arith)
pairs_long make (a ∷ xs) (b ∷ ys) e = ap suc (pairs_long make xs ys (omega arith))

-- ---- two lists that are put together while they are used up from their fronts

-- one more pair was put behind those that are done
pub one_paired : {A B C : Type 0} (make : A × B → C) (done done' : List C) (a : A) (b : B) (xs xs' : List A) (ys ys' : List B) (all : List C) → done' ≡ done ++ make (a, b) ∷ [] → xs ≡ a ∷ xs' → ys ≡ b ∷ ys'
    → done ++ map make (zip xs ys) ≡ all → done' ++ map make (zip xs' ys') ≡ all
one_paired make done done' a b xs xs' ys ys' all e f g h =
    ap (λ l. l ++ map make (zip xs' ys')) e ∙ (append_assoc done (make (a, b) ∷ []) (map make (zip xs' ys'))
    ∙ (ap (λ l. done ++ map make (zip l (b ∷ ys'))) (sym f) ∙ (ap (λ l. done ++ map make (zip xs l)) (sym g) ∙ h)))

-- all are done
pub all_paired : {A B C : Type 0} (make : A × B → C) (done : List C) (xs : List A) (ys : List B) (all : List C) → length xs ≡ 0 → done ++ map make (zip xs ys) ≡ all → done ≡ all
all_paired make done [] [] all n h = sym (append-nil done) ∙ h
all_paired make done [] (y ∷ ys) all n h = sym (append-nil done) ∙ h
all_paired make done (x ∷ xs) ys all n h = absurd (omega arith)

-- as many are left of each
pub same_next : {X Y : Type 0} (x : X) (xs xs' : List X) (y : Y) (ys ys' : List Y) → xs ≡ x ∷ xs' → ys ≡ y ∷ ys' → length xs ≡ length ys → length xs' ≡ length ys'
same_next x xs xs' y ys ys' e f h = let m = ap (λ l. length l) e in let n = ap (λ l. length l) f in omega (arith, m, n, h)

-- and there is room for them
pub room_next : (len len' room room' left left' : ℕ) → len' ≡ len + 1 → room' ≡ room → left' + 1 ≡ left → len + left ≤ room → len' + left' ≤ room'
room_next len len' room room' left left' l r n h = omega arith
