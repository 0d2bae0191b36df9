-- The words of `abcdefgh12` and of a message of three bytes behind it, as they are stored one by one.
use Rattle.std.proofs.Common.{◌≡◌, ℕ, ◌<◌, Bool, true, false, ◌&&◌, ltb, List, [], ◌∷◌, All, refl, arith}
use Rattle.std.proofs.lemmas.List.Elements.{All-nil, All-cons}
use Rattle.std.proofs.lemmas.Bool.Decides.{nat_tests}
use Rattle.rel_pointer.specs.Bytes.{AllBytes}
use Rattle.ring_rule.specs.Frames.{IsMessage, IsFramed}

both : (a b : Bool) → (a && b) ≡ true → (a ≡ true) × (b ≡ true)
both true true e = (refl, refl)
both true false e = cc
both false b e = cc

abbrev are_small : List ℕ → Bool
are_small [] = true
are_small (x ∷ xs) = ltb x 256 && are_small xs

small_bytes : (xs : List ℕ) → are_small xs ≡ true → AllBytes xs
small_bytes [] e = All-nil (λ (b : ℕ). b < 256)
small_bytes (x ∷ xs) e =
    let p = both (ltb x 256) (are_small xs) e in
    let small : ltb x 256 ≡ true = p.0 in
    All-cons (λ (b : ℕ). b < 256) x xs (grind (arith, nat_tests)) (small_bytes xs p.1)

abbrev long : List ℕ
long = 97 ∷ 98 ∷ 99 ∷ 100 ∷ 101 ∷ 102 ∷ 103 ∷ 104 ∷ 49 ∷ 50 ∷ []

abbrev short : List ℕ
short = 1 ∷ 2 ∷ 3 ∷ []

are_messages : All (IsMessage 64) (long ∷ short ∷ [])
are_messages = All-cons (IsMessage 64) long (short ∷ []) record { bytes = small_bytes long refl; short = omega arith }
    (All-cons (IsMessage 64) short [] record { bytes = small_bytes short refl; short = omega arith } (All-nil (IsMessage 64)))

pub one_word : IsFramed 64 (10 ∷ [])
unfolding IsFramed
one_word = (long ∷ short ∷ [], 7523094288207667809 ∷ 12849 ∷ 3 ∷ 197121 ∷ [], are_messages, refl)

pub two_words : IsFramed 64 (10 ∷ 7523094288207667809 ∷ [])
unfolding IsFramed
two_words = (long ∷ short ∷ [], 12849 ∷ 3 ∷ 197121 ∷ [], are_messages, refl)

pub three_words : IsFramed 64 (10 ∷ 7523094288207667809 ∷ 12849 ∷ [])
unfolding IsFramed
three_words = (long ∷ short ∷ [], 3 ∷ 197121 ∷ [], are_messages, refl)

-- for the tests, which store these words
pub ruleset framed = (one_word, two_words, three_words)
