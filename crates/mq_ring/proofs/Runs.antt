-- What a run of steps leaves of an end, and the words and bytes of a run.
use Rattle.std.proofs.Common.{◌≡◌, ℕ, ◌+◌, ◌-◌, ◌*◌, ◌<◌, ◌≤◌, ⊎_elim, Bool, true, false, cond, List, [], ◌∷◌, ◌++◌, length, take, drop, get_or, slice_index, refl, sym, ap, subst, ◌∙◌, arith, length-append, append_assoc, drop-drop}
use Rattle.std.specs.List.{fold}
use Rattle.std.proofs.Math.Seq.{take-add}
use Rattle.std.proofs.lemmas.Bool.{cases_lt}
use Rattle.std.proofs.lemmas.Bool.Decides.{nat_tests}
use Rattle.std.proofs.lemmas.List.{take_more, take-append-drop, get_or-drop, get_or_append_left, get_or-append_right, take-take, length-take-le, length-drop}
use Rattle.rel_pointer.specs.Bytes.{word_count, packed, packed_words, byte_of, is_of_word}
use Rattle.rel_pointer.proofs.Words.{packed_words-at, length-packed_words}
use Rattle.ring_rule.specs.Frames.{IsFramed}
use Rattle.ring_rule.specs.Ring.{Sending, Receiving}
use Rattle.ring_rule.specs.Ends.{puts, takes}
use Rattle.ring_rule.proofs.Messages.{framed_front}
use Rattle.mq_ring.specs.Bursts.{words_from, HasWords}

pub append_nothing : {A : Type 0} (xs : List A) → xs ++ [] ≡ xs
append_nothing [] = refl
append_nothing (x ∷ xs) = ap (λ ys. x ∷ ys) (append_nothing xs)

-- after a run of words was put
pub record HasPut (old new : Sending) (xs : List ℕ) : Type 0 where
  pub ring : new.ring ≡ old.ring
  pub put : new.put ≡ old.put ++ xs
  pub published : new.published ≡ old.published
  pub room : new.room ≡ old.room
  pub gone : new.gone ≡ old.gone
  pub turn : new.turn ≡ old.turn + length xs
  pub looked : (new.looked ≡ old.looked) × (new.looked_put ≡ old.looked_put) × (new.looked_full ≡ old.looked_full)
  pub flag : (new.flag_loads ≡ old.flag_loads) × (new.flag_turn ≡ old.flag_turn) × (new.flag_value ≡ old.flag_value)

pub has_put : (s : Sending) (xs : List ℕ) → HasPut s (fold puts s xs) xs
has_put s [] = record { ring = refl; put = sym (append_nothing s.put); published = refl; room = refl; gone = refl; turn = omega arith; looked = (refl, refl, refl); flag = (refl, refl, refl) }
has_put s (x ∷ xs) =
    let h = has_put (puts s x) xs in
    record { ring = h.ring; put = h.put ∙ append_assoc s.put (x ∷ []) xs; published = h.published; room = h.room; gone = h.gone; turn = let t = h.turn in omega arith; looked = h.looked; flag = h.flag }

pub put_next : (s : Sending) (xs : List ℕ) (x : ℕ) → puts (fold puts s xs) x ≡ fold puts s (xs ++ (x ∷ []))
put_next s [] x = refl
put_next s (y ∷ ys) x = put_next (puts s y) ys x

-- after a run of words was taken
pub record HasTaken (old new : Receiving) (xs : List ℕ) : Type 0 where
  pub ring : new.ring ≡ old.ring
  pub taken : new.taken ≡ old.taken ++ xs
  pub returned : new.returned ≡ old.returned
  pub avail : new.avail ≡ old.avail
  pub gone : new.gone ≡ old.gone
  pub turn : new.turn ≡ old.turn + length xs
  pub looked : new.looked ≡ old.looked
  pub flag : new.flag_value ≡ old.flag_value

pub has_taken : (q : Receiving) (xs : List ℕ) → HasTaken q (fold takes q xs) xs
has_taken q [] = record { ring = refl; taken = sym (append_nothing q.taken); returned = refl; avail = refl; gone = refl; turn = omega arith; looked = refl; flag = refl }
has_taken q (x ∷ xs) =
    let h = has_taken (takes q x) xs in
    record { ring = h.ring; taken = h.taken ∙ append_assoc q.taken (x ∷ []) xs; returned = h.returned; avail = h.avail; gone = h.gone; turn = let t = h.turn in omega arith; looked = h.looked; flag = h.flag }

pub take_next : (q : Receiving) (xs : List ℕ) (x : ℕ) → takes (fold takes q xs) x ≡ fold takes q (xs ++ (x ∷ []))
take_next q [] x = refl
take_next q (y ∷ ys) x = take_next (takes q y) ys x

-- the words of the bytes from one on, and the next
pub next_word : (from k word : ℕ) (bytes : List ℕ) → from + k < word_count (length bytes) → word ≡ packed bytes (from + k) → words_from from k bytes ++ (word ∷ []) ≡ words_from from (k + 1) bytes
next_word from k word bytes low is =
    let all = packed_words (word_count (length bytes)) bytes in
    let rest = drop from all in
    let count = length-packed_words (word_count (length bytes)) bytes in
    let same : get_or rest k 0 ≡ word = get_or-drop from all k 0 ∙ packed_words-at (word_count (length bytes)) bytes (from + k) low ∙ sym is in
    ap (λ (w : ℕ). take k rest ++ (w ∷ [])) (sym same) ∙ sym (take_more rest k 0 (omega (arith, length-drop from all)))

pub length-words : (from count : ℕ) (bytes : List ℕ) → from + count ≤ word_count (length bytes) → length (words_from from count bytes) ≡ count
length-words from count bytes low =
    let all = packed_words (word_count (length bytes)) bytes in
    length-take-le count (drop from all) (omega (arith, length-drop from all, length-packed_words (word_count (length bytes)) bytes))

-- a run of words, and the run after it
pub words_then : (from k run : ℕ) (m : List ℕ) → words_from from k m ++ words_from (from + k) run m ≡ words_from from (k + run) m
words_then from k run m =
    let all = packed_words (word_count (length m)) m in
    ap (λ (ws : List ℕ). take k (drop from all) ++ take run ws) (sym (drop-drop k from all)) ∙ sym (take-add k run (drop from all))

-- the first words of a run are a beginning of what is framed
pub run_framed : (max k words : ℕ) (put rest : List ℕ) → k ≤ words → IsFramed max (put ++ take words rest) → IsFramed max (put ++ take k rest)
run_framed max k words put rest low f =
    let front : take k (take words rest) ≡ take k rest = take-take k words rest low in
    framed_front max (put ++ take words rest) (put ++ take k rest) (drop k (take words rest)) f
    (ap (λ (z : List ℕ). put ++ z) (sym (take-append-drop k (take words rest)) ∙ ap (λ (z : List ℕ). z ++ drop k (take words rest)) front)
    ∙ sym (append_assoc put (take k rest) (drop k (take words rest))))

-- the bytes of a word
word_bounds : (p i : ℕ) → is_of_word p i ≡ true → (8 * p ≤ i) × (i < 8 * p + 8)
word_bounds p i e = (grind (arith, nat_tests), grind (arith, nat_tests))

-- the bytes of a run and one word more
pub word_more : (old mid new : List ℕ) (from k word : ℕ) (xs : List ℕ) → length mid ≡ length old → length xs ≡ k → from + k < word_count (length old) → HasWords old mid from xs
    → ((i : ℕ) → i < length mid → slice_index new i ≡ cond (is_of_word (from + k) i) (byte_of word i) (slice_index mid i)) → HasWords old new from (xs ++ (word ∷ []))
word_more old mid new from k word xs same count room h bytes = record { written = written; before = before; behind = behind }
  where
    more : length (xs ++ (word ∷ [])) ≡ k + 1
    more = length-append xs (word ∷ []) ∙ ap (λ (n : ℕ). n + 1) count

    other : (i : ℕ) → is_of_word (from + k) i ≡ false → i < length old → slice_index new i ≡ slice_index mid i
    other i off inside = bytes i (omega (arith, same)) ∙ ap (λ (b : Bool). cond b (byte_of word i) (slice_index mid i)) off

    mine : (i : ℕ) → is_of_word (from + k) i ≡ true → i < length old → slice_index new i ≡ byte_of word i
    mine i on inside = bytes i (omega (arith, same)) ∙ ap (λ (b : Bool). cond b (byte_of word i) (slice_index mid i)) on

    below : (p i : ℕ) → i < 8 * p → is_of_word p i ≡ false
    below p i l = grind (arith, nat_tests)

    above : (p i : ℕ) → 8 * p + 8 ≤ i → is_of_word p i ≡ false
    above p i l = grind (arith, nat_tests)

    written : (j i : ℕ) → j < length (xs ++ (word ∷ [])) → i < length old → is_of_word (from + j) i ≡ true → slice_index new i ≡ byte_of (slice_index (xs ++ (word ∷ [])) j) i
    written j i l inside of = ⊎_elim
        (λ (low : j < k).
        let at = word_bounds (from + j) i of in
        other i (below (from + k) i (omega (arith, at.1))) inside ∙ h.written j i (omega (arith, count)) inside of
        ∙ ap (λ (w : ℕ). byte_of w i) (sym (get_or_append_left xs (word ∷ []) 0 j (omega (arith, count)))))
        (λ (high : k ≤ j).
        let is : j ≡ k = omega (arith, more) in
        mine i (subst (λ (n : ℕ). is_of_word (from + n) i ≡ true) is of) inside
        ∙ ap (λ (w : ℕ). byte_of w i) (sym (ap (λ (n : ℕ). get_or (xs ++ (word ∷ [])) n 0) is ∙ get_or-append_right xs (word ∷ []) k k 0 count (omega arith) ∙ ap (λ (n : ℕ). get_or (word ∷ []) n 0) (let z : k - k ≡ 0 = omega arith in z))))
        (cases_lt j k)

    before : (i : ℕ) → i < 8 * from → slice_index new i ≡ slice_index old i
    before i l = other i (below (from + k) i (omega arith)) (omega arith) ∙ h.before i l

    behind : (i : ℕ) → i < length old → 8 * (from + length (xs ++ (word ∷ []))) ≤ i → slice_index new i ≡ slice_index old i
    behind i inside l = other i (above (from + k) i (omega (arith, more))) inside ∙ h.behind i inside (omega (arith, more, count))

-- the bytes of a run and of the run after it
pub words_both : (old mid new : List ℕ) (from k : ℕ) (xs ys : List ℕ) → length mid ≡ length old → length xs ≡ k → HasWords old mid from xs → HasWords mid new (from + k) ys → HasWords old new from (xs ++ ys)
words_both old mid new from k xs ys same count first second = record { written = written; before = before; behind = behind }
  where
    more : length (xs ++ ys) ≡ k + length ys
    more = length-append xs ys ∙ ap (λ (n : ℕ). n + length ys) count

    written : (j i : ℕ) → j < length (xs ++ ys) → i < length old → is_of_word (from + j) i ≡ true → slice_index new i ≡ byte_of (slice_index (xs ++ ys) j) i
    written j i l inside of = ⊎_elim
        (λ (low : j < k).
        let at = word_bounds (from + j) i of in
        second.before i (omega (arith, at.1)) ∙ first.written j i (omega (arith, count)) inside of ∙ ap (λ (w : ℕ). byte_of w i) (sym (get_or_append_left xs ys 0 j (omega (arith, count)))))
        (λ (high : k ≤ j).
        let place : from + j ≡ from + k + (j - k) = omega arith in
        second.written (j - k) i (omega (arith, more)) (omega (arith, same)) (subst (λ (n : ℕ). is_of_word n i ≡ true) place of)
        ∙ ap (λ (w : ℕ). byte_of w i) (sym (get_or-append_right xs ys k j 0 count high)))
        (cases_lt j k)

    before : (i : ℕ) → i < 8 * from → slice_index new i ≡ slice_index old i
    before i l = second.before i (omega arith) ∙ first.before i l

    behind : (i : ℕ) → i < length old → 8 * (from + length (xs ++ ys)) ≤ i → slice_index new i ≡ slice_index old i
    behind i inside l = second.behind i (omega (arith, same)) (omega (arith, more)) ∙ first.behind i inside (omega (arith, more, count))

-- a run of no words leaves the bytes as they are
pub no_words : (bytes : List ℕ) (from : ℕ) → HasWords bytes bytes from []
no_words bytes from = record { written = λ k i l. absurd (omega arith); before = λ i l. refl; behind = λ i inside l. refl }
