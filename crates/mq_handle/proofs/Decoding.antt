-- The bytes of a message come back from its words.
use Rattle.std.proofs.Common.{◌≡◌, ℕ, zero, suc, ◌+◌, ◌*◌, ◌/◌, ◌%◌, ◌<◌, ◌≤◌, Bool, true, false, cond, ◌&&◌, ◌==◌, List, [], ◌∷◌, ◌++◌, length, take, drop, Option, Some, None, refl, sym, ap, subst, ◌∙◌, ⊎_elim, eq-eqb, arith, length-drop, length-append, append_assoc}
use Rattle.std.proofs.lemmas.List.{length-take-le, take-append-drop, take-append-le, take_all, take_at}
use Rattle.std.proofs.lemmas.Bool.{cases_lt}
use Rattle.std.proofs.lemmas.Bool.Decides.{nat_tests}
use Rattle.std.proofs.Math.Seq.{take-append-add}
use Rattle.std.proofs.lemmas.List.Elements.{All-take, All-drop, All-append}
use Rattle.rel_pointer.specs.Bytes.{AllBytes, word_count, value_of, packed_words}
use Rattle.rel_pointer.proofs.Words.{length-packed_words}
use Rattle.ring_rule.specs.Frames.{frame}
use Rattle.mq_handle.specs.Messages.{digits_of, bytes_of, begins, message_at, first_of}

length-digits_of : (n w : ℕ) → length (digits_of n w) ≡ n
length-digits_of zero w = refl
length-digits_of (suc n) w = ap suc (length-digits_of n (w / 256))

digits_is : (bs : List ℕ) (n : ℕ) → AllBytes bs → length bs ≤ n → take (length bs) (digits_of n (value_of bs)) ≡ bs
digits_is [] n a h = refl
digits_is (b ∷ bs) zero a h = absurd (omega arith)
digits_is (b ∷ bs) (suc n) a h =
    let s : b < 256 = a 0 0 (omega arith) in
    let v : ℕ = value_of bs in
    let low : (b + 256 * v) % 256 ≡ b = omega arith in
    let high : (b + 256 * v) / 256 ≡ v = omega arith in
    let rest = ap (λ (z : ℕ). take (length bs) (digits_of n z)) high ∙ digits_is bs n (λ k d l. a (suc k) d (omega arith)) (omega arith) in
    λ i. low i ∷ rest i

no_items : (m : List ℕ) → length m ≤ 0 → m ≡ []
no_items [] h = refl
no_items (x ∷ xs) h = absurd (omega arith)

-- the bytes of packed words
pub unpacked : (k : ℕ) (m : List ℕ) → AllBytes m → length m ≤ 8 * k → take (length m) (bytes_of (packed_words k m)) ≡ m
unpacked zero m a h = let e = no_items m (omega arith) in ap (λ (z : List ℕ). take (length z) []) e ∙ sym e
unpacked (suc k) m a h =
    let front = take 8 m in
    let word = digits_of 8 (value_of front) in
    let rest = bytes_of (packed_words k (drop 8 m)) in
    let bytes : AllBytes front = All-take (λ x. x < 256) 8 m a in
    let eight = length-digits_of 8 (value_of front) in
    ⊎_elim
    (λ (below : length m < 8).
    let short : length m ≤ 8 = omega arith in
    let all : front ≡ m = take_all 8 m short in
    take-append-le (length m) word rest (omega arith) ∙ ap (λ (z : List ℕ). take (length m) (digits_of 8 (value_of z))) all ∙ digits_is m 8 a short)
    (λ (long : 8 ≤ length m).
    let len : length front ≡ 8 = length-take-le 8 m long in
    let same : word ≡ front = sym (take_all (length front) word (omega arith)) ∙ digits_is front 8 bytes (omega arith) in
    let n = length (drop 8 m) in
    let count : length m ≡ length word + n = omega (arith, length-drop 8 m) in
    ap (λ (z : ℕ). take z (word ++ rest)) count ∙ take-append-add word rest n
    ∙ (λ i. same i ++ unpacked k (drop 8 m) (All-drop (λ x. x < 256) 8 m a) (omega (arith, length-drop 8 m)) i)
    ∙ take-append-drop 8 m)
    (cases_lt (length m) 8)

pub message_frame : (m more : List ℕ) → AllBytes m → message_at (frame m ++ more) ≡ m
message_frame m more a =
    let n = word_count (length m) in
    ap (λ (z : List ℕ). take (length m) (bytes_of z)) (take_at (packed_words n m) more n (length-packed_words n m))
    ∙ unpacked n m a (omega arith)

begins_append : (xs more : List ℕ) → begins (xs ++ more) xs ≡ true
begins_append [] more = nothing more
  where
    nothing : (ws : List ℕ) → begins ws [] ≡ true
    nothing [] = refl
    nothing (w ∷ ws) = refl
begins_append (x ∷ xs) more = ap (λ (b : Bool). b && begins (xs ++ more) xs) (eq-eqb x x refl) ∙ begins_append xs more

both : (a b : Bool) → (a && b) ≡ true → (a ≡ true) × (b ≡ true)
both true b e = (refl, e)
both false b e = cc

pub begins_is : (ws xs : List ℕ) → begins ws xs ≡ true → (rest : List ℕ) × (ws ≡ xs ++ rest)
begins_is ws [] e = (ws, refl)
begins_is [] (x ∷ xs) e = cc
begins_is (w ∷ ws) (x ∷ xs) e =
    let p = both (w == x) (begins ws xs) e in
    let t : (w == x) ≡ true = p.0 in
    let h : w ≡ x = grind (arith, nat_tests) in
    let r = begins_is ws xs p.1 in
    (r.0, λ i. h i ∷ r.1 i)

pub first_frame : (m more : List ℕ) → AllBytes m → first_of (frame m ++ more) ≡ Some m
first_frame m more a =
    ap (λ (z : List ℕ). cond (begins (frame m ++ more) (frame z)) (Some z) None) (message_frame m more a)
    ∙ ap (λ (b : Bool). cond b (Some m) None) (begins_append (frame m) more)

digits_bytes : (n w : ℕ) → AllBytes (digits_of n w)
digits_bytes zero w k d h = absurd (omega arith)
digits_bytes (suc n) w zero d h = let l : w % 256 < 256 = omega arith in l
digits_bytes (suc n) w (suc k) d h = digits_bytes n (w / 256) k d (omega arith)

bytes_bytes : (ws : List ℕ) → AllBytes (bytes_of ws)
bytes_bytes [] = λ k d h. absurd (omega arith)
bytes_bytes (w ∷ ws) = All-append (λ x. x < 256) (digits_of 8 w) (bytes_of ws) (digits_bytes 8 w) (bytes_bytes ws)

message_bytes : (ws : List ℕ) → AllBytes (message_at ws)
message_bytes [] = λ k d h. absurd (omega arith)
message_bytes (n ∷ ws) = All-take (λ x. x < 256) n (bytes_of (take (word_count n) ws)) (bytes_bytes (take (word_count n) ws))

-- what a first message is
pub first_is : (ws m : List ℕ) → first_of ws ≡ Some m → AllBytes m × (rest : List ℕ) × (ws ≡ frame m ++ rest)
first_is ws m e = go (begins ws (frame (message_at ws))) refl e
  where
    go : (b : Bool) → begins ws (frame (message_at ws)) ≡ b → cond b (Some (message_at ws)) None ≡ Some m → AllBytes m × (rest : List ℕ) × (ws ≡ frame m ++ rest)
    go false f g = cc
    go true f g =
        let s : message_at ws ≡ m = cc in
        let r = begins_is ws (frame (message_at ws)) f in
        (subst AllBytes s (message_bytes ws), r.0, r.1 ∙ ap (λ (z : List ℕ). frame z ++ r.0) s)

-- words that begin with no frame
pub first_none : (ws : List ℕ) → ((m more : List ℕ) → AllBytes m → ws ≡ frame m ++ more → ⊥) → first_of ws ≡ None
first_none ws none = go (first_of ws) refl
  where
    go : (o : Option (List ℕ)) → first_of ws ≡ o → o ≡ None
    go None e = refl
    go (Some m) e = let p = first_is ws m e in absurd (none m p.1 p.0 p.2)

length-frame : (m : List ℕ) → length (frame m) ≡ suc (word_count (length m))
length-frame m = ap suc (length-packed_words (word_count (length m)) m)

-- a part of a frame begins with none
pub torn : (m part more : List ℕ) → frame m ≡ part ++ more → length part < length (frame m) → first_of part ≡ None
torn m part more e short = first_none part (λ n after bytes is.
    let l = length-frame m in
    let k = length-frame n in
    let all : frame m ≡ frame n ++ (after ++ more) = e ∙ ap (λ (z : List ℕ). z ++ more) is ∙ append_assoc (frame n) after more in
    let heads : length m ≡ length n = cc in
    let count = ap length is ∙ length-append (frame n) after in
    let words : word_count (length m) ≡ word_count (length n) = ap word_count heads in
    omega arith)
