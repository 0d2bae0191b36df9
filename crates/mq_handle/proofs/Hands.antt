-- The frame in hand, word by word.
use Rattle.std.proofs.Common.{◌≡◌, ◌≢◌, ℕ, zero, suc, ◌+◌, ◌-◌, ◌*◌, ◌/◌, ◌%◌, ◌^◌, ◌<◌, ◌≤◌, ◌⊎◌, ⊎_elim, inl, inr, Bool, true, false, cond, List, [], ◌∷◌, ◌++◌, length, take, drop, get_or, slice_index, All, Some, refl, sym, ap, subst, ◌∙◌, arith, length-append, append_assoc, shr-shr}
use Rattle.std.proofs.lemmas.Bool.{cases_lt}
use Rattle.std.proofs.lemmas.Bool.Decides.{nat_tests}
use Rattle.std.proofs.lemmas.List.{take_at, get_or_append_left, get_or-append-add}
use Rattle.std.proofs.Math.Seq.{drop-append_seam}
use Rattle.rel_pointer.specs.Bytes.{AllBytes, word_count, byte_of, is_of_word}
use Rattle.ring_rule.specs.Frames.{frame, frames, IsMessage, IsFramed}
use Rattle.std.specs.List.{fold}
use Rattle.ring_rule.specs.Ring.{Ring, Receiving}
use Rattle.ring_rule.specs.Ends.{takes}
use Rattle.mq_ring.proofs.Runs.{HasTaken, has_taken}
use Rattle.ring_rule.proofs.Messages.{framed_front}
use Rattle.mq_ring.specs.Bursts.{HasWords}
use Rattle.mq_ring.specs.Ends.{ReceivingEnd}
use Rattle.mq_handle.specs.Messages.{digits_of, bytes_of, first_of}
use Rattle.mq_handle.specs.Taking.{InHand, HasBytes, IsOpen, Ready, Takes}
use Rattle.mq_handle.proofs.Decoding.{first_frame}
use Rattle.mq_handle.proofs.Filling.{length-frame}

append_none : (xs : List ℕ) → xs ++ [] ≡ xs
append_none [] = refl
append_none (x ∷ xs) = ap (λ (ys : List ℕ). x ∷ ys) (append_none xs)

-- a list that is longer than a beginning of it and more
longer : (xs us ys vs : List ℕ) (w : ℕ) → xs ++ us ≡ ys ++ (w ∷ vs) → length ys < length xs → (more : List ℕ) × (xs ≡ ys ++ (w ∷ more))
longer [] us ys vs w e l = absurd (omega arith)
longer (x ∷ xs) us [] vs w e l = let s : x ≡ w = cc in (xs, ap (λ (z : ℕ). z ∷ xs) s)
longer (x ∷ xs) us (y ∷ ys) vs w e l =
    let s : x ≡ y = cc in
    let t : xs ++ us ≡ ys ++ (w ∷ vs) = cc in
    let r = longer xs us ys vs w t (omega arith) in
    (r.0, λ i. s i ∷ r.1 i)

-- a part of a frame to which a word is missing
abbrev pub Strict : List ℕ → Type 0
Strict part = (part ≡ []) ⊎ ((n : ℕ) × (tail : List ℕ) × (part ≡ n ∷ tail) × (length tail < word_count n))

shorter : (m part more : List ℕ) (us : List ℕ) (w : ℕ) → Strict part → frame m ++ us ≡ part ++ (w ∷ more) → length part < length (frame m)
shorter m part more us w s e = ⊎_elim
    (λ (p : part ≡ []). omega (arith, ap length p, length-frame m))
    (λ (p : (n : ℕ) × (tail : List ℕ) × (part ≡ n ∷ tail) × (length tail < word_count n)).
    let f : frame m ++ us ≡ (p.0 ∷ p.1) ++ (w ∷ more) = e ∙ ap (λ (z : List ℕ). z ++ (w ∷ more)) p.2 in
    let h : length m ≡ p.0 = cc in
    omega (arith, ap length p.2, length-frame m, p.3, ap word_count h))
    s

same_first : (m n us vs : List ℕ) → AllBytes m → AllBytes n → frame m ++ us ≡ frame n ++ vs → (m ≡ n) × (us ≡ vs)
same_first m n us vs a b e =
    let f : Some m ≡ Some n = sym (first_frame m us a) ∙ ap first_of e ∙ first_frame n vs b in
    let s : m ≡ n = cc in
    (s, sym (drop-append_seam (frame m) us) ∙ ap (drop (length (frame m))) (e ∙ ap (λ (z : List ℕ). frame z ++ vs) (sym s)) ∙ drop-append_seam (frame m) vs)

-- the next word is one of the frame in hand
next_part : (max : ℕ) (ms ns : List (List ℕ)) (part rest : List ℕ) (w : ℕ) → All (IsMessage max) ms → All (IsMessage max) ns → Strict part → frames ns ≡ frames ms ++ (part ++ (w ∷ rest))
    → (m more : List ℕ) × IsMessage max m × (frame m ≡ part ++ (w ∷ more))
next_part max [] [] part rest w a b s e = absurd (omega (arith, ap length e ∙ length-append part (w ∷ rest)))
next_part max [] (n ∷ ns) part rest w a b s e =
    let p = longer (frame n) (frames ns) part rest w e (shorter n part rest (frames ns) w s e) in
    (n, p.0, b 0 [] (omega arith), p.1)
next_part max (m ∷ ms) [] part rest w a b s e = cc
next_part max (m ∷ ms) (n ∷ ns) part rest w a b s e =
    let q = same_first n m (frames ns) (frames ms ++ (part ++ (w ∷ rest))) (b 0 [] (omega arith)).bytes (a 0 [] (omega arith)).bytes (e ∙ append_assoc (frame m) (frames ms) (part ++ (w ∷ rest))) in
    next_part max ms ns part rest w (λ k d l. a (suc k) d (omega arith)) (λ k d l. b (suc k) d (omega arith)) s q.1

pub next_in : (max : ℕ) (ms : List (List ℕ)) (taken part : List ℕ) (w : ℕ) → All (IsMessage max) ms → taken ≡ frames ms ++ part → Strict part → IsFramed max (taken ++ (w ∷ []))
    → (m more : List ℕ) × IsMessage max m × (frame m ≡ part ++ (w ∷ more))
unfolding IsFramed
next_in max ms taken part w a e s f =
    next_part max ms f.0 part f.1 w a f.2 s
    (f.3 ∙ append_assoc taken (w ∷ []) f.1 ∙ ap (λ (z : List ℕ). z ++ (w ∷ f.1)) e ∙ append_assoc (frames ms) part (w ∷ f.1))

-- BYTES
digit_at : (n w j : ℕ) → j < n → get_or (digits_of n w) j 0 ≡ w / 2 ^ (8 * j) % 256
digit_at zero w j l = absurd (omega arith)
digit_at (suc n) w zero l = let z : w % 256 ≡ w / 1 % 256 = omega arith in z
digit_at (suc n) w (suc j) l =
    digit_at n (w / 256) j (omega arith)
    ∙ ap (λ (k : ℕ). k % 256) (shr-shr w 8 (8 * j))
    ∙ ap (λ (k : ℕ). w / 2 ^ k % 256) (let e : 8 + 8 * j ≡ 8 * suc j = omega arith in e)

length-digits : (n w : ℕ) → length (digits_of n w) ≡ n
length-digits zero w = refl
length-digits (suc n) w = ap suc (length-digits n (w / 256))

bytes_append : (xs ys : List ℕ) → bytes_of (xs ++ ys) ≡ bytes_of xs ++ bytes_of ys
bytes_append [] ys = refl
bytes_append (x ∷ xs) ys = ap (λ (z : List ℕ). digits_of 8 x ++ z) (bytes_append xs ys) ∙ sym (append_assoc (digits_of 8 x) (bytes_of xs) (bytes_of ys))

pub length-bytes : (xs : List ℕ) → length (bytes_of xs) ≡ 8 * length xs
length-bytes [] = refl
length-bytes (x ∷ xs) = let a = length-append (digits_of 8 x) (bytes_of xs) in let b = length-bytes xs in let d = length-digits 8 x in omega arith

cond_false : (b : Bool) (x y : ℕ) → b ≡ false → cond b x y ≡ y
cond_false true x y e = cc
cond_false false x y e = refl

cond_true : (b : Bool) (x y : ℕ) → b ≡ true → cond b x y ≡ x
cond_true true x y e = refl
cond_true false x y e = cc

not_of : (k i : ℕ) → i < 8 * k → is_of_word k i ≡ false
not_of k i l = grind (arith, nat_tests)

is_of : (k i : ℕ) → 8 * k ≤ i → i < 8 * k + 8 → is_of_word k i ≡ true
is_of k i a b = grind (arith, nat_tests)

-- byte i of words and one word more
byte_more : (tail : List ℕ) (w i : ℕ) → i < 8 * length tail + 8 → get_or (bytes_of (tail ++ (w ∷ []))) i 0 ≡ cond (is_of_word (length tail) i) (byte_of w i) (get_or (bytes_of tail) i 0)
byte_more tail w i l =
    let len = length-bytes tail in
    let both : get_or (bytes_of (tail ++ (w ∷ []))) i 0 ≡ get_or (bytes_of tail ++ bytes_of (w ∷ [])) i 0 = ap (λ (z : List ℕ). get_or z i 0) (bytes_append tail (w ∷ [])) in
    ⊎_elim
    (λ (low : i < 8 * length tail).
    both ∙ get_or_append_left (bytes_of tail) (bytes_of (w ∷ [])) 0 i (omega arith)
    ∙ sym (cond_false (is_of_word (length tail) i) (byte_of w i) (get_or (bytes_of tail) i 0) (not_of (length tail) i low)))
    (λ (high : 8 * length tail ≤ i).
    let j = i - 8 * length tail in
    let d = length-digits 8 w in
    let place : i ≡ length (bytes_of tail) + j = omega arith in
    let turn : j ≡ i % 8 = omega arith in
    both ∙ ap (λ (z : ℕ). get_or (bytes_of tail ++ bytes_of (w ∷ [])) z 0) place ∙ get_or-append-add (bytes_of tail) (bytes_of (w ∷ [])) j 0
    ∙ get_or_append_left (digits_of 8 w) [] 0 j (omega arith) ∙ digit_at 8 w j (omega arith)
    ∙ ap (λ (z : ℕ). w / 2 ^ (8 * z) % 256) turn
    ∙ sym (cond_true (is_of_word (length tail) i) (byte_of w i) (get_or (bytes_of tail) i 0) (is_of (length tail) i high l)))
    (cases_lt i (8 * length tail))

-- what one word more leaves in the buffer
abbrev pub KeepsMore : List ℕ → List ℕ → ℕ → ℕ → ℕ → ℕ → Type 0
KeepsMore old new words len word result = (result ≡ len) × ((i : ℕ) → i < len → slice_index new i ≡ cond (is_of_word (words - 1) i) (byte_of word i) (slice_index old i))

-- the frame in hand after one more word
pub hand_more : (max : ℕ) (base taken after old new : List ℕ) (words len word result : ℕ) → InHand max base taken old words len → IsOpen words len → after ≡ taken ++ (word ∷ []) → IsFramed max after
    → (words ≡ 0 → (result ≡ word) × (new ≡ old)) → (0 < words → KeepsMore old new words len word result) → InHand max base after new (words + 1) result
hand_more max base taken after old new words len word result h o e framed first more = go h.part refl
  where
    next : (part : List ℕ) → h.part ≡ part → Strict part → (m rest : List ℕ) × IsMessage max m × (frame m ≡ part ++ (word ∷ rest))
    next part is s = next_in max h.messages taken part word h.fit (h.are ∙ (λ i. h.base_is i ++ is i)) s (subst (IsFramed max) e framed)

    made : (part : List ℕ) → h.part ≡ part → Strict part → HasBytes new (part ++ (word ∷ [])) result → InHand max base after new (words + 1) result
    made part is s bytes = let n = next part is s in record {
      messages = h.messages;
      part = part ++ (word ∷ []);
      fit = h.fit;
      base_is = h.base_is;
      are = e ∙ ap (λ (z : List ℕ). z ++ (word ∷ [])) (h.are ∙ ap (λ (z : List ℕ). base ++ z) is) ∙ append_assoc base part (word ∷ []);
      begun = inr (n.0, n.1, n.2, n.3 ∙ sym (append_assoc part (word ∷ []) n.1));
      counted = length-append part (word ∷ []) ∙ (let z : length part + 1 ≡ words + 1 = omega (arith, ap length is, h.counted) in z);
      bytes = bytes;
    }

    -- past the words that were there before, the new word has the byte
    old_byte : (tail : List ℕ) (i : ℕ) → i < 8 * length tail + 8 → (i < 8 * length tail → get_or old i 0 ≡ get_or (bytes_of tail) i 0)
        → cond (is_of_word (length tail) i) (byte_of word i) (get_or old i 0) ≡ cond (is_of_word (length tail) i) (byte_of word i) (get_or (bytes_of tail) i 0)
    old_byte tail i below b = ⊎_elim
        (λ (low : i < 8 * length tail). ap (λ (z : ℕ). cond (is_of_word (length tail) i) (byte_of word i) z) (b low))
        (λ (high : 8 * length tail ≤ i).
        cond_true (is_of_word (length tail) i) (byte_of word i) (get_or old i 0) (is_of (length tail) i high below)
        ∙ sym (cond_true (is_of_word (length tail) i) (byte_of word i) (get_or (bytes_of tail) i 0) (is_of (length tail) i high below)))
        (cases_lt i (8 * length tail))

    go : (part : List ℕ) → h.part ≡ part → InHand max base after new (words + 1) result
    go [] is =
        let none : words ≡ 0 = omega (arith, h.counted, ap length is) in
        made [] is (inl refl) ((first none).0, λ i a b. absurd (omega arith))
    go (n ∷ tail) is =
        let count : words ≡ suc (length tail) = sym h.counted ∙ ap length is in
        let m = more (omega (arith, count)) in
        let b : HasBytes old (n ∷ tail) len = subst (λ (z : List ℕ). HasBytes old z len) is h.bytes in
        let missing : length tail < word_count n = ⊎_elim
        (λ (z : words ≡ 0). absurd (omega (arith, count)))
        (λ (z : words < suc (word_count len)). omega (arith, count, ap word_count b.0))
        o in
        let place : words - 1 ≡ length tail = omega (arith, count) in
        let l : length (tail ++ (word ∷ [])) ≡ length tail + 1 = length-append tail (word ∷ []) in
        made (n ∷ tail) is (inr (n, tail, refl, missing)) (
          m.0 ∙ b.0,
          λ i low short.
              m.1 i (omega (arith, b.0))
              ∙ ap (λ (z : ℕ). cond (is_of_word z i) (byte_of word i) (slice_index old i)) place
              ∙ old_byte tail i (omega arith) (b.1 i low)
              ∙ sym (byte_more tail word i (omega arith)),
        )

-- the frame in hand, if the bytes of its words stay
hand_kept : (max : ℕ) (base taken old new : List ℕ) (words len : ℕ) → InHand max base taken old words len → ((i : ℕ) → i < 8 * (words - 1) → slice_index new i ≡ slice_index old i)
    → InHand max base taken new words len
hand_kept max base taken old new words len h same = record {
  messages = h.messages;
  part = h.part;
  fit = h.fit;
  base_is = h.base_is;
  are = h.are;
  begun = h.begun;
  counted = h.counted;
  bytes = kept h.part h.counted h.bytes;
}
  where
    kept : (part : List ℕ) → length part ≡ words → HasBytes old part len → HasBytes new part len
    kept [] count b = tt
    kept (n ∷ tail) count b = (b.0, λ i inside low. same i (omega (arith, count)) ∙ b.1 i inside low)

-- the buffer has the bytes of these words, the first of which is word k of the frame
abbrev pub HasRun : List ℕ → ℕ → ℕ → List ℕ → Type 0
HasRun buffer len words xs = (k i : ℕ) → k < length xs → i < len → is_of_word (words - 1 + k) i ≡ true → slice_index buffer i ≡ byte_of (slice_index xs k) i

-- the frame in hand after a run of words whose bytes the buffer has already
hand_further : (max len : ℕ) (base buffer xs taken : List ℕ) (words : ℕ) → InHand max base taken buffer words len → 0 < words → words + length xs ≤ suc (word_count len) → IsFramed max (taken ++ xs)
    → HasRun buffer len words xs → InHand max base (taken ++ xs) buffer (words + length xs) len
hand_further max len base buffer [] taken words h some low framed run =
    let same : words ≡ words + 0 = omega arith in
    subst (λ (t : List ℕ). InHand max base t buffer (words + 0) len) (sym (append_none taken)) (subst (λ (n : ℕ). InHand max base taken buffer n len) same h)
hand_further max len base buffer (x ∷ xs) taken words h some low framed run =
    let front : taken ++ (x ∷ xs) ≡ (taken ++ (x ∷ [])) ++ xs = sym (append_assoc taken (x ∷ []) xs) in
    let one = framed_front max (taken ++ (x ∷ xs)) (taken ++ (x ∷ [])) xs framed front in
    let next = hand_more max base taken (taken ++ (x ∷ [])) buffer buffer words len x len h (inr (omega (arith, low))) refl one (λ none. absurd (omega arith)) (λ more. (refl, λ i inside. own i inside)) in
    let rest = hand_further max len base buffer xs (taken ++ (x ∷ [])) (words + 1) next (omega arith) (omega (arith, low)) (subst (IsFramed max) front framed)
    (λ k i l inside of. run (suc k) i (omega arith) inside (subst (λ (n : ℕ). is_of_word n i ≡ true) (let z : words + 1 - 1 + k ≡ words - 1 + suc k = omega arith in z) of)) in
    let count : words + 1 + length xs ≡ words + suc (length xs) = omega arith in
    subst (λ (t : List ℕ). InHand max base t buffer (words + suc (length xs)) len) (sym front) (subst (λ (n : ℕ). InHand max base ((taken ++ (x ∷ [])) ++ xs) buffer n len) count rest)
  where
    own : (i : ℕ) → i < len → slice_index buffer i ≡ cond (is_of_word (words - 1) i) (byte_of x i) (slice_index buffer i)
    own i inside = go (is_of_word (words - 1) i) refl
      where
        go : (b : Bool) → is_of_word (words - 1) i ≡ b → slice_index buffer i ≡ cond b (byte_of x i) (slice_index buffer i)
        go true of = run 0 i (omega arith) inside (subst (λ (n : ℕ). is_of_word n i ≡ true) (let z : words - 1 ≡ words - 1 + 0 = omega arith in z) of)
        go false of = refl

-- the frame in hand after a run of words
pub hand_run : (max len from n : ℕ) (base taken after old new xs : List ℕ) (words : ℕ) → InHand max base taken old words len → 0 < words → from ≡ words - 1 → length xs ≡ n → words + n ≤ suc (word_count len) → len ≤ length old
    → after ≡ taken ++ xs → IsFramed max after → HasWords old new from xs → InHand max base after new (words + n) len
hand_run max len from n base taken after old new xs words h some start count low room is framed w =
    let kept = hand_kept max base taken old new words len h (λ i l. w.before i (omega (arith, start))) in
    let run : HasRun new len words xs = λ k i l inside of. w.written k i l (omega arith) (subst (λ (z : ℕ). is_of_word (z + k) i ≡ true) (sym start) of) in
    let whole = hand_further max len base new xs taken words kept some (omega (arith, count, low)) (subst (IsFramed max) is framed) run in
    subst (λ (t : List ℕ). InHand max base t new (words + n) len) (sym is) (subst (λ (z : ℕ). InHand max base (taken ++ xs) new (words + z) len) count whole)

-- an end after a run
pub has_run : (old new : ReceivingEnd) (xs : List ℕ) → new ≡ record old { end = fold takes old.end xs } → HasTaken old.end new.end xs
has_run old new xs e = subst (λ (o : ReceivingEnd). HasTaken old.end o.end xs) (sym e) (has_taken old.end xs)

pub ready_run : (q new : Receiving) (ready unreturned n : ℕ) (xs : List ℕ) → Ready q ready unreturned → n ≤ ready → length xs ≡ n → HasTaken q new xs → Ready new (ready - n) (unreturned + n)
ready_run q new ready unreturned n xs c low count h =
    let l = ap length h.taken ∙ length-append q.taken xs in
    let size = ap (λ (r : Ring). r.size) h.ring in
    record { ready_is = omega (arith, c.ready_is, l, count, h.avail); unreturned_is = omega (arith, c.unreturned_is, l, count, h.returned); few = omega (arith, c.few, h.avail, h.returned, size); small = omega (arith, c.small, size) }

-- the words before the frame in hand
pub base_same : (max : ℕ) (base taken buffer : List ℕ) (words len : ℕ) → InHand max base taken buffer words len → take (length taken - words) taken ≡ base
base_same max base taken buffer words len h =
    let total = ap length h.are ∙ length-append base h.part in
    ap (λ (z : List ℕ). take (length taken - words) z) h.are ∙ take_at base h.part (length taken - words) (omega (arith, h.counted))

-- what is in hand is no more than a frame of a message that fits
pub hand_low : (max : ℕ) (base taken buffer : List ℕ) (words len : ℕ) → InHand max base taken buffer words len → 0 < words → (words ≤ suc (word_count len)) × (len ≤ max)
hand_low max base taken buffer words len h some = go h.part refl
  where
    go : (part : List ℕ) → h.part ≡ part → (words ≤ suc (word_count len)) × (len ≤ max)
    go [] is = absurd (omega (arith, h.counted, ap length is))
    go (n ∷ tail) is =
        let b : HasBytes buffer (n ∷ tail) len = subst (λ (z : List ℕ). HasBytes buffer z len) is h.bytes in
        ⊎_elim
        (λ (p : h.part ≡ []). absurd (omega (arith, h.counted, ap length p)))
        (λ (p : (message more : List ℕ) × IsMessage max message × (frame message ≡ h.part ++ more)).
        let f : frame p.0 ≡ (n ∷ tail) ++ p.1 = p.3 ∙ ap (λ (z : List ℕ). z ++ p.1) is in
        let head : length p.0 ≡ n = cc in
        let count = ap length f ∙ length-append (n ∷ tail) p.1 in
        let words_is : word_count (length p.0) ≡ word_count len = ap word_count (head ∙ sym b.0) in
        (omega (arith, count, length-frame p.0, h.counted, ap length is, words_is), omega (arith, head, b.0, p.2.short)))
        h.begun

pub hand_open : (max : ℕ) (base taken buffer : List ℕ) (words len : ℕ) → InHand max base taken buffer words len → 0 < words → words ≢ suc (word_count len) → IsOpen words len
hand_open max base taken buffer words len h some other = let l = hand_low max base taken buffer words len h some in inr (omega (arith, l.0))

-- what was taken stays taken
abbrev pub Grows : List ℕ → List ℕ → Type 0
Grows old new = (rest : List ℕ) × (new ≡ old ++ rest)

pub grows_on : (a b c : List ℕ) → Grows a b → Grows b c → Grows a c
grows_on a b c s t = (s.0 ++ t.0, t.1 ∙ ap (λ (z : List ℕ). z ++ t.0) s.1 ∙ append_assoc a s.0 t.0)

pub takes_on : (a b c : Receiving) → Takes a b → Takes b c → Takes a c
takes_on a b c s t = record { ring = t.ring ∙ s.ring; gone = t.gone ∙ s.gone; returned = t.returned ∙ s.returned; turn = let x = s.turn in let y = t.turn in omega arith; grows = grows_on a.taken b.taken c.taken s.grows t.grows; flag = λ e. t.flag (s.flag e) }

-- only the end of a receiver's value changes
abbrev pub OnlyEnd : ReceivingEnd → ReceivingEnd → Type 0
OnlyEnd old new = new ≡ record old { end = new.end }

pub only_on : (a b c : ReceivingEnd) → OnlyEnd a b → OnlyEnd b c → OnlyEnd a c
only_on a b c h k = k ∙ ap (λ (z : ReceivingEnd). record z { end = c.end }) h
