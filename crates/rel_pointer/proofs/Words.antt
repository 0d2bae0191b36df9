-- Bytes in words.
use Rattle.rel_pointer.specs.Bytes.{value_of, byte_of, packed, packed_words, is_of_word, AllBytes}
use Rattle.std.proofs.Common.{◌≡◌, ℕ, suc, ◌+◌, ◌-◌, ◌*◌, ◌^◌, ◌<◌, ◌≤◌, ◌∷◌, ◌++◌, sym, ap, arith, refl, drop-drop, zero, true, subst, [], min, take, length-drop, ◌∙◌, List, length, drop, drop-cons, get_or, inl, inr, ◌⊎◌, pow_mono, pow-add, shr-shr, mul-le-mul_right, suc-mul, cond, slice_index, ◌%◌, ◌/◌}
use Rattle.std.proofs.lemmas.Bool.Decides.{nat_tests}
use Rattle.std.proofs.lemmas.List.{get_or-append_right, get_or-drop, get_or-take, length-take, length-take-le, take-append-drop}
use Rattle.std.proofs.lemmas.Bool.{cases_lt}
use Rattle.std.proofs.Math.ListN.{get_or-append}
use Rattle.std.specs.Int.{to_le_bytes, w64}
use borrow.Rule.Slice.PartMut.{post_of, put_mid}
use Rattle.std.proofs.lemmas.List.Elements.{All-take, All-drop}

shifted : (n : ℕ) → 2 ^ (8 * (n + 1)) ≡ 2 ^ (8 * n) * 256
shifted n = rw (let e : 8 * (n + 1) ≡ 8 * n + 8 = omega arith in e) (pow-add 2 (8 * n) 8)

pub grows : (w b n : ℕ) → w < 2 ^ (8 * n) → b < 256 → w * 256 + b < 2 ^ (8 * (n + 1))
grows w b n h k = let e = shifted n in let p : ℕ = 2 ^ (8 * n) in let m : suc w * 256 ≤ p * 256 = mul-le-mul_right 256 h in omega (arith, suc-mul w 256)

pub eight : (n : ℕ) → n < 8 → 2 ^ (8 * (n + 1)) ≤ 18446744073709551616
eight n h = pow_mono {i = 8 * (n + 1)} {j = 64} (omega arith)

pub one_more : (s : List ℕ) (i w : ℕ) → 0 < i → i ≤ length s → w ≡ value_of (drop i s) → w * 256 + get_or s (i - 1) 0 ≡ value_of (drop (i - 1) s)
one_more s i w some h e =
    let a : suc (i - 1) ≡ i = omega arith in
    let d : drop (i - 1) s ≡ get_or s (i - 1) 0 ∷ drop (suc (i - 1)) s = drop-cons s (i - 1) 0 (omega arith) in
    let f : value_of (drop (i - 1) s) ≡ get_or s (i - 1) 0 + 256 * value_of (drop i s) = ap value_of d ∙ ap (λ (k : ℕ). get_or s (i - 1) 0 + 256 * value_of (drop k s)) a in
    omega arith

-- the bytes of a word, the lowest first
pub word_byte : (w j : ℕ) → j < 8 → get_or (to_le_bytes w64 w) j 0 ≡ w / 2 ^ (8 * j) % 256
word_byte w zero h = let z : w % 256 ≡ w / 1 % 256 = omega arith in z
word_byte w (suc zero) h = refl
word_byte w (suc (suc zero)) h = refl
word_byte w (suc (suc (suc zero))) h = refl
word_byte w (suc (suc (suc (suc zero)))) h = refl
word_byte w (suc (suc (suc (suc (suc zero))))) h = refl
word_byte w (suc (suc (suc (suc (suc (suc zero)))))) h = refl
word_byte w (suc (suc (suc (suc (suc (suc (suc zero))))))) h = refl
word_byte w (suc (suc (suc (suc (suc (suc (suc (suc j)))))))) h = absurd (omega arith)

outside : (at i b old : ℕ) → (i < 8 * at) ⊎ (8 * at + 8 ≤ i) → cond (is_of_word at i) b old ≡ old
outside at i b old (inl low) = grind (arith, nat_tests)
outside at i b old (inr high) = grind (arith, nat_tests)

within : (at i b old : ℕ) → 8 * at ≤ i → i < 8 * at + 8 → cond (is_of_word at i) b old ≡ b
within at i b old low high = grind (arith, nat_tests)

-- after the first bytes of a word were written at its place, each byte there is one of the word's, and the others are as they were
pub word_put : (out : List ℕ) (at a k w i : ℕ) → a ≡ 8 * at → a ≤ length out → k ≡ min (length out) (a + 8) - a → i < length out
    → slice_index (put_mid a k out (take k (to_le_bytes w64 w))) i ≡ cond (is_of_word at i) (byte_of w i) (slice_index out i)
word_put out at a k w i start room whole inside = by (cases_lt i a) (cases_lt i (a + k))
  where
    bytes : List ℕ
    bytes = take k (to_le_bytes w64 w)

    count : length bytes ≡ k
    count = length-take-le k (to_le_bytes w64 w) (omega arith)

    front : length (take a out) ≡ a
    front = length-take-le a out (omega arith)

    by : (i < a) ⊎ (a ≤ i) → (i < a + k) ⊎ (a + k ≤ i) → slice_index (put_mid a k out bytes) i ≡ cond (is_of_word at i) (byte_of w i) (slice_index out i)
    by (inl low) other =
        get_or-append (take a out) (bytes ++ post_of a k out) 0 i (omega (arith, front)) ∙ get_or-take a out i 0 low ∙ sym (outside at i (byte_of w i) (slice_index out i) (inl (omega arith)))
    by (inr from) (inl to) =
        let m : i % 8 ≡ i - a = omega arith in
        get_or-append_right (take a out) (bytes ++ post_of a k out) a i 0 front from
        ∙ get_or-append bytes (post_of a k out) 0 (i - a) (omega (arith, count))
        ∙ get_or-take k (to_le_bytes w64 w) (i - a) 0 (omega arith)
        ∙ word_byte w (i - a) (omega arith)
        ∙ ap (λ (j : ℕ). w / 2 ^ (8 * j) % 256) (sym m)
        ∙ sym (within at i (byte_of w i) (slice_index out i) (omega arith) (omega arith))
    by (inr from) (inr past) =
        let back : a + (k + (i - a - k)) ≡ i = omega arith in
        get_or-append_right (take a out) (bytes ++ post_of a k out) a i 0 front from
        ∙ get_or-append_right bytes (post_of a k out) k (i - a) 0 count (omega arith)
        ∙ get_or-drop k (drop a out) (i - a - k) 0
        ∙ get_or-drop a out (k + (i - a - k)) 0
        ∙ ap (λ (j : ℕ). get_or out j 0) back
        ∙ sym (outside at i (byte_of w i) (slice_index out i) (inr (omega arith)))

-- byte j of the number that the bytes stand for
digit : (bs : List ℕ) (j : ℕ) → ((k : ℕ) → k < length bs → get_or bs k 0 < 256) → j < length bs → value_of bs / 2 ^ (8 * j) % 256 ≡ get_or bs j 0
digit [] j small h = absurd (omega arith)
digit (b ∷ bs) zero small h = let s : b < 256 = small 0 (omega arith) in let v : ℕ = value_of bs in omega arith
digit (b ∷ bs) (suc j) small h =
    let s : b < 256 = small 0 (omega arith) in
    let v : ℕ = value_of bs in
    let e : (b + 256 * v) / 256 ≡ v = omega arith in
    ap (λ (n : ℕ). (b + 256 * v) / 2 ^ n % 256) (let f : 8 * suc j ≡ 8 + 8 * j = omega arith in f)
    ∙ ap (λ (n : ℕ). n % 256) (sym (shr-shr (b + 256 * v) 8 (8 * j)))
    ∙ ap (λ (n : ℕ). n / 2 ^ (8 * j) % 256) e
    ∙ digit bs j (λ k l. small (suc k) (omega arith)) (omega arith)

-- a word that is packed has the bytes that stand there
pub packed_byte : (bytes : List ℕ) (at i : ℕ) → ((k : ℕ) → get_or bytes k 0 < 256) → is_of_word at i ≡ true → i < length bytes → byte_of (packed bytes at) i ≡ get_or bytes i 0
packed_byte bytes at i small within inside =
    let low : 8 * at ≤ i = grind (arith, nat_tests) in
    let high : i < 8 * at + 8 = grind (arith, nat_tests) in
    let rest = drop (8 * at) bytes in
    let bs = take 8 rest in
    let j : ℕ = i - 8 * at in
    let m : i % 8 ≡ j = omega arith in
    let back : 8 * at + j ≡ i = omega arith in
    let place : (k : ℕ) → k < 8 → get_or bs k 0 ≡ get_or bytes (8 * at + k) 0 = λ k h. get_or-take 8 rest k 0 h ∙ get_or-drop (8 * at) bytes k 0 in
    let count : length bs ≡ min 8 (length bytes - 8 * at) = length-take 8 rest ∙ ap (min 8) (length-drop (8 * at) bytes) in
    ap (λ (n : ℕ). value_of bs / 2 ^ (8 * n) % 256) m
    ∙ digit bs j (λ k l. subst (λ (x : ℕ). x < 256) (sym (place k (omega arith))) (small (8 * at + k))) (omega arith)
    ∙ place j (omega arith)
    ∙ ap (λ (n : ℕ). get_or bytes n 0) back

-- bytes that are those of a number stand for it
value_is : (bs : List ℕ) (n w : ℕ) → length bs ≡ n → w < 2 ^ (8 * n) → ((j : ℕ) → j < n → get_or bs j 0 ≡ w / 2 ^ (8 * j) % 256) → value_of bs ≡ w
value_is [] zero w e h d = omega arith
value_is [] (suc n) w e h d = absurd (omega arith)
value_is (b ∷ bs) zero w e h d = absurd (omega arith)
value_is (b ∷ bs) (suc n) w e h d =
    let low : b ≡ w % 256 = d 0 (omega arith) ∙ (let z : w / 1 % 256 ≡ w % 256 = omega arith in z) in
    let grown : 2 ^ (8 * (n + 1)) ≡ 2 ^ (8 * n) * 256 = shifted n in
    let same : 8 * suc n ≡ 8 * (n + 1) = omega arith in
    let below : w < 2 ^ (8 * (n + 1)) = subst (λ (k : ℕ). w < 2 ^ k) same h in
    let p : ℕ = 2 ^ (8 * n) in
    let rest : value_of bs ≡ w / 256 = value_is bs n (w / 256) (omega arith) (omega arith)
    (λ j l. d (suc j) (omega arith) ∙ ap (λ (k : ℕ). w / 2 ^ k % 256) (let z : 8 * suc j ≡ 8 + 8 * j = omega arith in z) ∙ ap (λ (k : ℕ). k % 256) (sym (shr-shr w 8 (8 * j)))) in
    omega arith

-- the word that was written at a place is the one that stands there
pub written_word : (out old : List ℕ) (at w : ℕ) → 8 * at + 8 ≤ length out → w < 18446744073709551616
    → ((i : ℕ) → i < length out → slice_index out i ≡ cond (is_of_word at i) (byte_of w i) (slice_index old i)) → packed out at ≡ w
written_word out old at w room small bytes =
    let rest = drop (8 * at) out in
    let count : length (take 8 rest) ≡ 8 = length-take-le 8 rest (subst (λ (n : ℕ). 8 ≤ n) (sym (length-drop (8 * at) out)) (omega arith)) in
    value_is (take 8 rest) 8 w count small (λ j l.
    let m : (8 * at + j) % 8 ≡ j = omega arith in
    get_or-take 8 rest j 0 l ∙ get_or-drop (8 * at) out j 0 ∙ bytes (8 * at + j) (omega arith) ∙ inside at j (byte_of w (8 * at + j)) (slice_index old (8 * at + j)) l ∙ ap (λ (n : ℕ). w / 2 ^ (8 * n) % 256) m)
  where
    inside : (at j b old : ℕ) → j < 8 → cond (is_of_word at (8 * at + j)) b old ≡ b
    inside at j b old l = grind (arith, nat_tests)

-- the words of bytes, one by one
pub packed_words-at : (n : ℕ) (bytes : List ℕ) (k : ℕ) → k < n → get_or (packed_words n bytes) k 0 ≡ packed bytes k
packed_words-at zero bytes k h = absurd (omega arith)
packed_words-at (suc n) bytes zero h = refl
packed_words-at (suc n) bytes (suc k) h =
    packed_words-at n (drop 8 bytes) k (omega arith)
    ∙ ap (λ (l : List ℕ). value_of (take 8 l)) (drop-drop (8 * k) 8 bytes ∙ ap (λ (m : ℕ). drop m bytes) (let e : 8 + 8 * k ≡ 8 * suc k = omega arith in e))

pub length-packed_words : (n : ℕ) (bytes : List ℕ) → length (packed_words n bytes) ≡ n
length-packed_words zero bytes = refl
length-packed_words (suc n) bytes = ap suc (length-packed_words n (drop 8 bytes))

-- short lists of bytes of one length that stand for one number are equal
value_of-same : (xs ys : List ℕ) → AllBytes xs → AllBytes ys → length xs ≡ length ys → value_of xs ≡ value_of ys → xs ≡ ys
value_of-same [] [] a b l e = refl
value_of-same [] (y ∷ ys) a b l e = absurd (omega arith)
value_of-same (x ∷ xs) [] a b l e = absurd (omega arith)
value_of-same (x ∷ xs) (y ∷ ys) a b l e =
    let s : x < 256 = a 0 0 (omega arith) in
    let t : y < 256 = b 0 0 (omega arith) in
    let v : ℕ = value_of xs in
    let w : ℕ = value_of ys in
    let f : x + 256 * v ≡ y + 256 * w = e in
    let low : x ≡ y = omega arith in
    let high : v ≡ w = omega arith in
    λ i. low i ∷ value_of-same xs ys (λ k d h. a (suc k) d (omega arith)) (λ k d h. b (suc k) d (omega arith)) (omega arith) high i

-- bytes of one length that have the same words are equal
pub packed_words-same : (n : ℕ) (xs ys : List ℕ) → AllBytes xs → AllBytes ys → length xs ≡ length ys → length xs ≤ 8 * n → packed_words n xs ≡ packed_words n ys → xs ≡ ys
packed_words-same zero xs ys a b l short e = nothing xs (omega arith) ∙ sym (nothing ys (omega arith))
  where
    nothing : (zs : List ℕ) → length zs ≡ 0 → zs ≡ []
    nothing [] h = refl
    nothing (z ∷ zs) h = absurd (omega arith)
packed_words-same (suc n) xs ys a b l short e =
    let head : value_of (take 8 xs) ≡ value_of (take 8 ys) = cc in
    let tail : packed_words n (drop 8 xs) ≡ packed_words n (drop 8 ys) = cc in
    let front : take 8 xs ≡ take 8 ys =
    value_of-same (take 8 xs) (take 8 ys) (All-take (λ x. x < 256) 8 xs a) (All-take (λ x. x < 256) 8 ys b) (length-take 8 xs ∙ ap (min 8) l ∙ sym (length-take 8 ys)) head in
    let back : drop 8 xs ≡ drop 8 ys =
    packed_words-same n (drop 8 xs) (drop 8 ys) (All-drop (λ x. x < 256) 8 xs a) (All-drop (λ x. x < 256) 8 ys b)
    (length-drop 8 xs ∙ ap (λ (k : ℕ). k - 8) l ∙ sym (length-drop 8 ys)) (subst (λ (k : ℕ). k ≤ 8 * n) (sym (length-drop 8 xs)) (omega arith)) tail in
    sym (take-append-drop 8 xs) ∙ (λ i. front i ++ back i) ∙ take-append-drop 8 ys
