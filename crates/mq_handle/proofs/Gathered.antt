-- Words of bytes that are copied to a buffer first, and the bytes of parts.
use Rattle.std.proofs.Common.{◌≡◌, ℕ, zero, suc, ◌+◌, ◌-◌, ◌*◌, ◌<◌, ◌≤◌, ◌⊎◌, ⊎_elim, min, Bor, List, [], ◌∷◌, ◌++◌, length, take, drop, get_or, refl, sym, ap, ◌∙◌, arith, drop-drop, length-drop}
use Rattle.std.proofs.Math.Seq.{take-length}
use Rattle.std.proofs.lemmas.Bool.{cases_lt}
use Rattle.std.proofs.lemmas.Grind.{flat_map-append}
use Rattle.std.proofs.lemmas.List.{append-nil, take_all, take_more, take_min, take-take, drop-take, drop_min, length-take-le}
use Rattle.std.proofs.lemmas.Slice.{take-put_mid}
use Rattle.rel_pointer.specs.Bytes.{word_count, value_of, packed_words}
use Rattle.mq_ring.specs.Bursts.{words_from}
use Rattle.mq_handle.specs.Parts.{joined}
use borrow.Rule.Slice.PartMut.{put_mid}

-- the first of some words, and those after them
words_front : (k n : ℕ) (bytes : List ℕ) → k ≤ n → take k (packed_words n bytes) ≡ packed_words k bytes
words_front zero n bytes low = refl
words_front (suc k) zero bytes low = absurd (omega arith)
words_front (suc k) (suc n) bytes low = ap (λ (ws : List ℕ). value_of (take 8 bytes) ∷ ws) (words_front k n (drop 8 bytes) (omega arith))

words_back : (k n rest : ℕ) (bytes : List ℕ) → n ≡ k + rest → drop k (packed_words n bytes) ≡ packed_words rest (drop (8 * k) bytes)
words_back zero n rest bytes e = ap (λ (m : ℕ). packed_words m bytes) (let f : n ≡ rest = omega arith in f)
words_back (suc k) zero rest bytes e = absurd (omega arith)
words_back (suc k) (suc n) rest bytes e =
    words_back k n rest (drop 8 bytes) (omega arith)
    ∙ ap (packed_words rest) (drop-drop (8 * k) 8 bytes ∙ ap (λ (m : ℕ). drop m bytes) (let f : 8 + 8 * k ≡ 8 * suc k = omega arith in f))

-- words need no bytes but their own
words_few : (k n : ℕ) (bytes : List ℕ) → 8 * k ≤ n → packed_words k (take n bytes) ≡ packed_words k bytes
words_few zero n bytes low = refl
words_few (suc k) n bytes low =
    let head : value_of (take 8 (take n bytes)) ≡ value_of (take 8 bytes) = ap value_of (take-take 8 n bytes (omega arith)) in
    let all : n ≡ 8 + (n - 8) = omega arith in
    let tail : packed_words k (drop 8 (take n bytes)) ≡ packed_words k (drop 8 bytes) =
    ap (λ (m : ℕ). packed_words k (drop 8 (take m bytes))) all ∙ ap (packed_words k) (drop-take 8 (n - 8) bytes) ∙ words_few k (n - 8) (drop 8 bytes) (omega arith) in
    λ i. head i ∷ tail i

-- words of bytes, by way of a copy of just the bytes that they have
pub burst_words : (m : List ℕ) (from words start count : ℕ) → from + words ≤ word_count (length m) → start ≡ 8 * from → count ≡ min (8 * words) (length m - start)
    → words_from 0 words (take count (drop start m)) ≡ words_from from words m
burst_words m from words start count inside start_is count_is =
    let rest = drop start m in
    let size : length rest ≡ length m - start = length-drop start m in
    let copied : length (take count rest) ≡ count = length-take-le count rest (omega (arith, size)) in
    let few : words ≤ word_count (length (take count rest)) = omega (arith, copied, inside) in
    let all = word_count (length m) in
    let tail : drop from (packed_words all m) ≡ packed_words (all - from) rest = words_back from all (all - from) m (omega arith) ∙ ap (λ (k : ℕ). packed_words (all - from) (drop k m)) (sym start_is) in
    let same : packed_words words (take count rest) ≡ packed_words words rest = ⊎_elim
    (λ (part : length rest < 8 * words). ap (λ (k : ℕ). packed_words words (take k rest)) (let e : count ≡ length rest = omega (arith, size) in e) ∙ ap (packed_words words) (take-length rest))
    (λ (whole : 8 * words ≤ length rest). words_few words count rest (omega (arith, size)))
    (cases_lt (length rest) (8 * words)) in
    words_front words (word_count (length (take count rest))) (take count rest) few
    ∙ same
    ∙ sym (words_front words (all - from) rest (omega arith))
    ∙ sym (ap (take words) tail)

take_both : (n : ℕ) (xs ys : List ℕ) → take n (xs ++ ys) ≡ take n xs ++ take (n - length xs) ys
take_both zero xs ys = ap (λ (k : ℕ). take k ys) (let e : 0 ≡ 0 - length xs = omega arith in e)
take_both (suc n) [] ys = ap (λ (k : ℕ). take k ys) (let e : suc n ≡ suc n - 0 = omega arith in e)
take_both (suc n) (x ∷ xs) ys = ap (λ (zs : List ℕ). x ∷ zs) (take_both n xs ys ∙ ap (λ (k : ℕ). take n xs ++ take k ys) (let e : n - length xs ≡ suc n - length (x ∷ xs) = omega arith in e))

drop_both : (n : ℕ) (xs ys : List ℕ) → drop n (xs ++ ys) ≡ drop n xs ++ drop (n - length xs) ys
drop_both zero xs ys = ap (λ (k : ℕ). xs ++ drop k ys) (let e : 0 ≡ 0 - length xs = omega arith in e)
drop_both (suc n) [] ys = ap (λ (k : ℕ). drop k ys) (let e : suc n ≡ suc n - 0 = omega arith in e)
drop_both (suc n) (x ∷ xs) ys = drop_both n xs ys ∙ ap (λ (k : ℕ). drop n xs ++ drop k ys) (let e : n - length xs ≡ suc n - length (x ∷ xs) = omega arith in e)

-- the rest of a part, as a slice of it
pub slice_rest : (part : List ℕ) (passed : ℕ) → take (length part - passed) (drop passed part) ≡ drop passed part
slice_rest part passed = take_all (length part - passed) (drop passed part) (omega (arith, length-drop passed part))

-- one more part is copied, as far as there is room for it
pub part_more : (from room skip done passed count k : ℕ) (all part out copy : List ℕ) → skip ≡ from - length all → done ≡ min room (length all - from) → passed ≡ min skip (length part)
    → count ≡ min (length part - passed) (room - done) → copy ≡ take count (drop passed part) → length out ≡ room → take done out ≡ take room (drop from all)
    → take (done + count) (put_mid done k out copy) ≡ take room (drop from (all ++ part))
part_more from room skip done passed count k all part out copy skip_is done_is passed_is count_is copy_is out_is so_far =
    let front = drop from all in
    let rest = drop passed part in
    let had : length front ≡ length all - from = length-drop from all in
    let left : length rest ≡ length part - passed = length-drop passed part in
    let copied : length copy ≡ count = ap length copy_is ∙ length-take-le count rest (omega (arith, left, count_is)) in
    let few : take count rest ≡ take (room - length front) rest = ap (λ (n : ℕ). take n rest) (let e : count ≡ min (room - length front) (length rest) = omega (arith, had, left) in e) ∙ take_min (room - length front) rest in
    let past : rest ≡ drop (from - length all) part = ap (λ (n : ℕ). drop n part) passed_is ∙ drop_min skip part ∙ ap (λ (n : ℕ). drop n part) skip_is in
    take-put_mid done k out copy (done + count) (omega (arith, copied)) (omega (arith, out_is, done_is))
    ∙ (λ i. so_far i ++ copy_is i)
    ∙ ap (λ (xs : List ℕ). take room front ++ xs) few
    ∙ sym (take_both room front rest)
    ∙ ap (λ (xs : List ℕ). take room (front ++ xs)) past
    ∙ ap (take room) (sym (drop_both from all part))

-- the bytes of the parts so far and of the next
pub next_part : (parts : List (Bor (List ℕ))) (k : ℕ) (none : Bor (List ℕ)) → k < length parts → joined (take (k + 1) parts) ≡ joined (take k parts) ++ (get_or parts k none).now
next_part parts k none low =
    let part = get_or parts k none in
    ap joined (take_more parts k none low)
    ∙ flat_map-append (λ (p : Bor (List ℕ)). p.now) (take k parts) (part ∷ [])
    ∙ ap (λ (bytes : List ℕ). joined (take k parts) ++ bytes) (append-nil part.now)
