-- Two groups have one tuple only where they are one group.
use Rattle.std.proofs.Common.{◌≡◌, ◌<◌, ◌≤◌, ◌+◌, ◌-◌, ◌*◌, ◌/◌, ◌%◌, ◌^◌, ◌++◌, ℕ, ℤ, zero, suc, List, [], ◌∷◌, length, map, take, drop, get_or, refl, ap, sym, ◌∙◌, arith, length-append, length-drop, length-take, length-take-le, drop-cons, nat_lt, Bool, true, false, append_assoc, slice_index, replicate, None, FitsSigned, to_z, of_z, Fits}
use Rattle.std.proofs.Math.Facts.{Fits-of_z}
use Rattle.std.specs.Int.{cast_unsigned, to_le_bytes, w32, w64, w128}
use Rattle.std.specs.List.{AllByRecursion, concat}
use Rattle.std.proofs.lemmas.Int.{to_z-of_z}
use Rattle.std.proofs.lemmas.List.{drop-drop, get_or-take, take-append-drop}
use Rattle.std.proofs.lemmas.Nat.{from_le_bytes-to_le_bytes_4, le_bytes_4}
use Rattle.par_model.specs.Aggregate.{no_values}
use Rattle.par_model.specs.declared.state.AggState.{AggState}
use Rattle.par_model.specs.declared.state.SlotState.{SlotState}
use Rattle.std.proofs.Math.ListN.{get_or-eq_default}
use Rattle.std.proofs.lemmas.Bool.{le-ltb, ltb-false, ltb-true}
use Rattle.tuple_codec.proofs.Shapes.{by_slots, refusal-at}
use Rattle.tuple_codec.specs.Tuple.{IsSlot, IsTuple, key_length, refusal, shape_refusal, signed_word, slot_bytes, slots_refusal, sum_bytes, tuple_bytes, word}
use Rattle.tuple_codec.proofs.Words.{length-slot_bytes, length-slots_bytes, length-word, word-same}
use Rattle.par_model.specs.Refuse.{longest_key}

pub tuple_bytes-is : (key : List ℕ) (state : AggState) (slots : ℕ)
    → tuple_bytes key state slots ≡ to_le_bytes w32 (length key) ++ (key ++ (word state.rows ++ (slots ∷ concat (map slot_bytes (take slots state.slots)))))
unfolding tuple_bytes
tuple_bytes-is key state slots = refl

-- lists in two parts, of which the first are as long
parts : {A : Type 0} (xs xs' ys ys' : List A) → length xs ≡ length xs' → xs ++ ys ≡ xs' ++ ys' → (xs ≡ xs') × (ys ≡ ys')
parts [] [] ys ys' long e = (refl, e)
parts [] (x ∷ xs') ys ys' long e = absurd (omega arith)
parts (x ∷ xs) [] ys ys' long e = absurd (omega arith)
parts (x ∷ xs) (x' ∷ xs') ys ys' long e =
    let rest = parts xs xs' ys ys' (omega arith) (tail_of e) in
    (λ i. head_of e i ∷ rest.0 i, rest.1)
  where
    head_of : x ∷ (xs ++ ys) ≡ x' ∷ (xs' ++ ys') → x ≡ x'
    head_of e = cc

    tail_of : x ∷ (xs ++ ys) ≡ x' ∷ (xs' ++ ys') → xs ++ ys ≡ xs' ++ ys'
    tail_of e = cc

bits_64 : (z : ℤ) → FitsSigned w64 z → of_z w64 z < 2 ^ 64
bits_64 z f = let h : Fits w64 (of_z w64 z) = Fits-of_z f in omega arith

bits_128 : (z : ℤ) → FitsSigned w128 z → of_z w128 z < 2 ^ 128
bits_128 z f = let h : Fits w128 (of_z w128 z) = Fits-of_z f in omega arith

signed-same : (x y : ℤ) → FitsSigned w64 x → FitsSigned w64 y → signed_word x ≡ signed_word y → x ≡ y
signed-same x y f g e = sym (to_z-of_z w64 x f) ∙ ap (to_z w64) (word-same (of_z w64 x) (of_z w64 y) (bits_64 x f) (bits_64 y g) e) ∙ to_z-of_z w64 y g

sum-same : (x y : ℤ) → FitsSigned w128 x → FitsSigned w128 y → sum_bytes x ≡ sum_bytes y → x ≡ y
sum-same x y f g e =
    let both = parts (word (of_z w128 x % 2 ^ 64)) (word (of_z w128 y % 2 ^ 64)) _ _ (length-word (of_z w128 x % 2 ^ 64) ∙ sym (length-word (of_z w128 y % 2 ^ 64))) e in
    let small = bits_128 x f in
    let small' = bits_128 y g in
    let low = word-same (of_z w128 x % 2 ^ 64) (of_z w128 y % 2 ^ 64) (omega arith) (omega arith) both.0 in
    let high = word-same (of_z w128 x / 2 ^ 64) (of_z w128 y / 2 ^ 64) (omega arith) (omega arith) both.1 in
    let bits : of_z w128 x ≡ of_z w128 y = omega (arith, low, high) in
    sym (to_z-of_z w128 x f) ∙ ap (to_z w128) bits ∙ to_z-of_z w128 y g

slot-same : (a b : SlotState) → IsSlot a → IsSlot b → slot_bytes a ≡ slot_bytes b → a ≡ b
slot-same a b p q e =
    let one = parts (word a.count) (word b.count) _ _ (length-word a.count ∙ sym (length-word b.count)) e in
    let two = parts (sum_bytes a.sum) (sum_bytes b.sum) _ _ (length-sum a.sum ∙ sym (length-sum b.sum)) one.1 in
    let three = parts (signed_word a.least) (signed_word b.least) _ _ (length-word (cast_unsigned w64 a.least) ∙ sym (length-word (cast_unsigned w64 b.least))) two.1 in
    λ i. record { count = word-same a.count b.count p.0 q.0 one.0 i; sum = sum-same a.sum b.sum p.1 q.1 two.0 i; least = signed-same a.least b.least p.2 q.2 three.0 i; greatest = signed-same a.greatest b.greatest p.3 q.3 three.1 i }
  where
    length-sum : (z : ℤ) → length (sum_bytes z) ≡ 16
    length-sum z = length-append (word (cast_unsigned w128 z % 2 ^ 64)) (word (cast_unsigned w128 z / 2 ^ 64)) ∙ omega (arith, length-word (cast_unsigned w128 z % 2 ^ 64), length-word (cast_unsigned w128 z / 2 ^ 64))

all_take : {A : Type 0} (P : A → Type 0) (n : ℕ) (xs : List A) → AllByRecursion P xs → AllByRecursion P (take n xs)
all_take P zero xs h = tt
all_take P (suc n) [] h = tt
all_take P (suc n) (x ∷ xs) h = (h.0, all_take P n xs h.1)

slots-same : (as' bs : List SlotState) → length as' ≡ length bs → AllByRecursion IsSlot as' → AllByRecursion IsSlot bs → concat (map slot_bytes as') ≡ concat (map slot_bytes bs) → as' ≡ bs
slots-same [] [] long p q e = refl
slots-same [] (b ∷ bs) long p q e = absurd (omega arith)
slots-same (a ∷ as') [] long p q e = absurd (omega arith)
slots-same (a ∷ as') (b ∷ bs) long p q e =
    let both = parts (slot_bytes a) (slot_bytes b) _ _ (length-slot_bytes a ∙ sym (length-slot_bytes b)) e in
    λ i. slot-same a b p.0 q.0 both.0 i ∷ slots-same as' bs (omega arith) p.1 q.1 both.1 i

-- what a group's tuple says of its parts
pub length-tuple : (key : List ℕ) (state : AggState) (slots : ℕ) → slots ≤ length state.slots → length (tuple_bytes key state slots) ≡ 13 + length key + 40 * slots
length-tuple key state slots h =
    let tail = slots ∷ concat (map slot_bytes (take slots state.slots)) in
    ap length (tuple_bytes-is key state slots)
    ∙ omega (
      arith,
      length-append (to_le_bytes w32 (length key)) (key ++ (word state.rows ++ tail)),
      length-append key (word state.rows ++ tail),
      length-append (word state.rows) tail,
      length-word state.rows,
      length-slots_bytes (take slots state.slots),
      length-take-le slots state.slots h,
    )

pub key_length-tuple : (key : List ℕ) (state : AggState) (slots : ℕ) → length key ≤ longest_key → key_length (tuple_bytes key state slots) ≡ length key
key_length-tuple key state slots h =
    ap key_length (tuple_bytes-is key state slots)
    ∙ from_le_bytes-to_le_bytes_4 (length key) (omega arith)

behind : (xs : List ℕ) (n : ℕ) (ys : List ℕ) → slice_index (xs ++ n ∷ ys) (length xs) ≡ n
behind [] n ys = refl
behind (x ∷ xs) n ys = behind xs n ys

pub slots-tuple : (key : List ℕ) (state : AggState) (slots : ℕ) → slice_index (tuple_bytes key state slots) (12 + length key) ≡ slots
slots-tuple key state slots =
    let tail = concat (map slot_bytes (take slots state.slots)) in
    let front = to_le_bytes w32 (length key) ++ (key ++ word state.rows) in
    let long : length front ≡ 12 + length key = length-append (to_le_bytes w32 (length key)) (key ++ word state.rows) ∙ omega (arith, length-append key (word state.rows), length-word state.rows) in
    let same : tuple_bytes key state slots ≡ front ++ (slots ∷ tail) = tuple_bytes-is key state slots
    ∙ ap (λ (bs : List ℕ). to_le_bytes w32 (length key) ++ bs) (sym (append_assoc key (word state.rows) (slots ∷ tail)))
    ∙ sym (append_assoc (to_le_bytes w32 (length key)) (key ++ word state.rows) (slots ∷ tail)) in
    ap (λ (bs : List ℕ). slice_index bs (12 + length key)) same ∙ ap (slice_index (front ++ (slots ∷ tail))) (sym long) ∙ behind front slots tail

pub accepted : (key : List ℕ) (state : AggState) (slots : ℕ) → IsTuple key state slots → refusal (tuple_bytes key state slots) ≡ None
accepted key state slots t =
    let bytes = tuple_bytes key state slots in
    let k = length key in
    let size : length bytes ≡ 13 + k + 40 * slots = length-tuple key state slots (omega (arith, t.few, t.long)) in
    let left : length bytes - (13 + k) ≡ 40 * slots = omega arith in
    refusal-at bytes k (key_length-tuple key state slots t.key_fits)
    ∙ ap (shape_refusal (length bytes) k) (slots-tuple key state slots)
    ∙ by_slots (length bytes) k slots (omega arith) t.key_fits (omega arith) (omega arith) (omega arith) t.few
    ∙ ap (λ (n : ℕ). slots_refusal (13 + k) n slots) left
    ∙ rw (le-ltb (40 * slots) (40 * slots) (omega arith)) refl

pub tuple-same : (key key' : List ℕ) (state state' : AggState) (slots slots' : ℕ) → IsTuple key state slots → IsTuple key' state' slots' → tuple_bytes key state slots ≡ tuple_bytes key' state' slots' → (key ≡ key') × (state ≡ state')
tuple-same key key' state state' slots slots' t u e =
    let keys : length key ≡ length key' = sym (key_length-tuple key state slots t.key_fits) ∙ ap key_length e ∙ key_length-tuple key' state' slots' u.key_fits in
    let counts : slots ≡ slots' = sym (slots-tuple key state slots) ∙ ap (λ (bs : List ℕ). slice_index bs (12 + length key)) e ∙ ap (λ (n : ℕ). slice_index (tuple_bytes key' state' slots') (12 + n)) keys ∙ slots-tuple key' state' slots' in
    let lists = sym (tuple_bytes-is key state slots) ∙ e ∙ tuple_bytes-is key' state' slots' in
    let one = parts (to_le_bytes w32 (length key)) (to_le_bytes w32 (length key')) _ _ refl lists in
    let two = parts key key' _ _ keys one.1 in
    let three = parts (word state.rows) (word state'.rows) _ _ (length-word state.rows ∙ sym (length-word state'.rows)) two.1 in
    let rows = word-same state.rows state'.rows t.rows u.rows three.0 in
    let ends : concat (map slot_bytes (take slots state.slots)) ≡ concat (map slot_bytes (take slots' state'.slots)) = tail_same three.1 in
    let fronts : take slots state.slots ≡ take slots' state'.slots = slots-same (take slots state.slots) (take slots' state'.slots)
    (length-take-le slots state.slots (omega (arith, t.few, t.long)) ∙ counts ∙ sym (length-take-le slots' state'.slots (omega (arith, u.few, u.long)))) (all_take IsSlot slots state.slots t.numbers) (all_take IsSlot slots' state'.slots u.numbers) ends in
    let backs : drop slots state.slots ≡ drop slots' state'.slots = t.zeros ∙ ap (λ (n : ℕ). replicate (8 - n) no_values) counts ∙ sym u.zeros in
    let all : state.slots ≡ state'.slots = sym (take-append-drop slots state.slots) ∙ ap (λ (xs : List SlotState). xs ++ drop slots state.slots) fronts ∙ ap (λ (xs : List SlotState). take slots' state'.slots ++ xs) backs ∙ take-append-drop slots' state'.slots in
    (two.0, λ i. record { rows = rows i; slots = all i })
  where
    tail_same : {m n : ℕ} {xs ys : List ℕ} → m ∷ xs ≡ n ∷ ys → xs ≡ ys
    tail_same e = cc

-- ---- what was read is what stands there

all_drop : {A : Type 0} (P : A → Type 0) (n : ℕ) (xs : List A) → AllByRecursion P xs → AllByRecursion P (drop n xs)
all_drop P zero xs h = h
all_drop P (suc n) [] h = tt
all_drop P (suc n) (x ∷ xs) h = all_drop P n xs h.1

all_bytes : (bytes : List ℕ) → ((i : ℕ) → get_or bytes i 0 < 2 ^ 8) → AllByRecursion (λ byte. byte < 2 ^ 8) bytes
all_bytes [] h = tt
all_bytes (b ∷ bytes) h = (h 0, all_bytes bytes (λ i. h (suc i)))

pub run_bytes : (bytes : List ℕ) (at n : ℕ) → ((i : ℕ) → get_or bytes i 0 < 2 ^ 8) → AllByRecursion (λ byte. byte < 2 ^ 8) (take n (drop at bytes))
run_bytes bytes at n h = all_take (λ byte. byte < 2 ^ 8) n (drop at bytes) (all_drop (λ byte. byte < 2 ^ 8) at bytes (all_bytes bytes h))

after : (m n : ℕ) (bytes : List ℕ) → drop m bytes ≡ take n (drop m bytes) ++ drop (m + n) bytes
after m n bytes = sym (ap (λ (rest : List ℕ). take n (drop m bytes) ++ rest) (sym (drop-drop n m bytes)) ∙ take-append-drop n (drop m bytes))

pub read_back : (bytes key tail : List ℕ) (rows k slots : ℕ) → 13 + k ≤ length bytes → ((i : ℕ) → get_or bytes i 0 < 2 ^ 8) → k ≡ key_length bytes → key ≡ take k (drop 4 bytes)
    → word rows ≡ take 8 (drop (4 + k) bytes) → slots ≡ slice_index bytes (12 + k) → tail ≡ drop (13 + k) bytes
    → to_le_bytes w32 (length key) ++ (key ++ (word rows ++ (slots ∷ tail))) ≡ bytes
read_back bytes key tail rows k slots long small e_k e_key e_rows e_slots e_tail =
    let key_long : length key ≡ k = ap length e_key ∙ length-take-le k (drop 4 bytes) (omega (arith, length-drop 4 bytes)) in
    let size : to_le_bytes w32 (length key) ≡ take 4 bytes =
    le_bytes_4 (take 4 bytes) (length key) (length-take-le 4 bytes (omega arith)) (λ i. first_small i) (key_long ∙ e_k) in
    let count : slots ∷ tail ≡ drop (12 + k) bytes =
    ap (λ (n : ℕ). n ∷ tail) e_slots ∙ ap (λ (bs : List ℕ). slice_index bytes (12 + k) ∷ bs) (e_tail ∙ ap (λ (n : ℕ). drop n bytes) (one_more k)) ∙ sym (drop-cons bytes (12 + k) 0 (omega arith)) in
    let rest : word rows ++ (slots ∷ tail) ≡ drop (4 + k) bytes =
    ap (λ (bs : List ℕ). bs ++ (slots ∷ tail)) e_rows ∙ ap (λ (bs : List ℕ). take 8 (drop (4 + k) bytes) ++ bs) (count ∙ ap (λ (n : ℕ). drop n bytes) (eight_more k)) ∙ sym (after (4 + k) 8 bytes) in
    let most : key ++ (word rows ++ (slots ∷ tail)) ≡ drop 4 bytes =
    ap (λ (bs : List ℕ). bs ++ (word rows ++ (slots ∷ tail))) e_key ∙ ap (λ (bs : List ℕ). take k (drop 4 bytes) ++ bs) rest ∙ sym (after 4 k bytes) in
    ap (λ (bs : List ℕ). bs ++ (key ++ (word rows ++ (slots ∷ tail)))) size ∙ ap (λ (bs : List ℕ). take 4 bytes ++ bs) most ∙ take-append-drop 4 bytes
  where
    one_more : (k : ℕ) → 13 + k ≡ suc (12 + k)
    one_more k = omega arith

    eight_more : (k : ℕ) → 12 + k ≡ 4 + k + 8
    eight_more k = omega arith

    past_end : (i : ℕ) → 4 ≤ i → get_or (take 4 bytes) i 0 ≡ 0
    past_end i h = get_or-eq_default (take 4 bytes) 0 {n = i} (omega (arith, length-take 4 bytes))

    first_small : (i : ℕ) → get_or (take 4 bytes) i 0 < 256
    first_small i = by (nat_lt i 4) refl
      where
        by : (b : Bool) → nat_lt i 4 ≡ b → get_or (take 4 bytes) i 0 < 256
        by true e = rw (get_or-take 4 bytes i 0 (ltb-true i 4 e)) (small i)
        by false e = rw (past_end i (ltb-false i 4 e)) (omega arith)
