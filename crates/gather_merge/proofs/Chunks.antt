-- That two words compare as their texts do.
use Rattle.std.proofs.Common.{◌≡◌, ◌<◌, ◌≤◌, ◌+◌, ◌*◌, ◌%◌, ◌^◌, ◌⊎◌, inl, inr, ℕ, zero, suc, List, [], ◌∷◌, length, drop, get_or, min, refl, ap, ap₂, sym, subst, ◌∙◌, arith}
use Rattle.std.specs.Cmp.Lexicographic.{slice_cmp}
use Rattle.std.specs.Ordering.{nat_cmp}
use Rattle.std.specs.declared.cmp.Ordering.TheVariants.{Less, Equal}
use Rattle.std.proofs.Math.Nat.{mul_assoc, pow-le-pow_right, pow-suc}
use Rattle.std.proofs.lemmas.Bool.{cases_lt}
use Rattle.std.proofs.lemmas.List.{drop_all}
use Rattle.std.proofs.lemmas.Nat.{mod-mul-add, mul-le}
use Rattle.gather_merge.specs.RowWords.{AreBytes, chunk, word}

-- ---- digits

pos : (n : ℕ) → 0 < 256 ^ n
pos zero = omega arith
pos (suc n) = omega (arith, pos n)

room : (b c P : ℕ) → b < c → b * P + P ≤ c * P
room b c P l = omega (arith, mul-le (b + 1) P c P (omega (arith, l)) (omega arith))

-- which digits the greater of two numbers has
abbrev Leads : ℕ → ℕ → ℕ → ℕ → Type 0
Leads b x c y = (b < c) ⊎ ((b ≡ c) × (x < y))

same_digits : (b x c y P : ℕ) → x < P → y < P → b * P + x ≡ c * P + y → (b ≡ c) × (x ≡ y)
same_digits b x c y P s t e = by (cases_lt b c) (cases_lt c b)
  where
    by : (b < c) ⊎ (c ≤ b) → (c < b) ⊎ (b ≤ c) → (b ≡ c) × (x ≡ y)
    by (inl l) k = absurd (omega (arith, room b c P l, s, t, e))
    by (inr l) (inl k) = absurd (omega (arith, room c b P k, s, t, e))
    by (inr l) (inr k) = let same : b ≡ c = omega (arith, l, k) in (same, omega (arith, ap (λ n. n * P) same, e))

leads : (b x c y P : ℕ) → x < P → y < P → b * P + x < c * P + y → Leads b x c y
leads b x c y P s t l = by (cases_lt b c) (cases_lt c b)
  where
    by : (b < c) ⊎ (c ≤ b) → (c < b) ⊎ (b ≤ c) → Leads b x c y
    by (inl h) k = inl h
    by (inr h) (inl k) = absurd (omega (arith, room c b P k, s, t, l))
    by (inr h) (inr k) = let same : b ≡ c = omega (arith, h, k) in inr (same, omega (arith, ap (λ n. n * P) same, l))

-- ---- the first bytes

tail : (b : ℕ) (text : List ℕ) → AreBytes (b ∷ text) → AreBytes text
tail b text bytes k = bytes (suc k)

pub chunk_small : (n : ℕ) (text : List ℕ) → AreBytes text → chunk n text < 256 ^ n
chunk_small zero text bytes = omega arith
chunk_small (suc n) [] bytes = pos (suc n)
chunk_small (suc n) (b ∷ text) bytes = omega (arith, room b 256 (256 ^ n) (bytes 0), chunk_small n text (tail b text bytes))

less_head : (b c : ℕ) (s t : List ℕ) → b < c → slice_cmp nat_cmp (b ∷ s) (c ∷ t) ≡ Less
less_head b c s t l = grind (arith, l)

same_head : (b c : ℕ) (s t : List ℕ) → b ≡ c → slice_cmp nat_cmp (b ∷ s) (c ∷ t) ≡ slice_cmp nat_cmp s t
same_head b c s t e = grind (arith, e)

first_less : (n : ℕ) (s t : List ℕ) → AreBytes s → AreBytes t → chunk n s < chunk n t → slice_cmp nat_cmp s t ≡ Less
first_less zero s t p q l = absurd (omega (arith, l))
first_less (suc n) [] [] p q l = absurd (omega (arith, l))
first_less (suc n) [] (c ∷ t) p q l = refl
first_less (suc n) (b ∷ s) [] p q l = absurd (omega (arith, l))
first_less (suc n) (b ∷ s) (c ∷ t) p q l =
    by (leads b (chunk n s) c (chunk n t) (256 ^ n) (chunk_small n s (tail b s p)) (chunk_small n t (tail c t q)) l) (first_less n s t (tail b s p) (tail c t q))
  where
    by : Leads b (chunk n s) c (chunk n t) → (chunk n s < chunk n t → slice_cmp nat_cmp s t ≡ Less) → slice_cmp nat_cmp (b ∷ s) (c ∷ t) ≡ Less
    by (inl h) rest = less_head b c s t h
    by (inr h) rest = same_head b c s t h.0 ∙ rest h.1

first_same : (n : ℕ) (b c : ℕ) (s t : List ℕ) → AreBytes (b ∷ s) → AreBytes (c ∷ t) → chunk (suc n) (b ∷ s) ≡ chunk (suc n) (c ∷ t) → (b ≡ c) × (chunk n s ≡ chunk n t)
first_same n b c s t p q e = same_digits b (chunk n s) c (chunk n t) (256 ^ n) (chunk_small n s (tail b s p)) (chunk_small n t (tail c t q)) e

shorter_less : (n : ℕ) (s t : List ℕ) → AreBytes s → AreBytes t → chunk n s ≡ chunk n t → min (length s) (suc n) < min (length t) (suc n) → slice_cmp nat_cmp s t ≡ Less
shorter_less n [] [] p q e l = absurd (omega (arith, l))
shorter_less n [] (c ∷ t) p q e l = refl
shorter_less n (b ∷ s) [] p q e l = absurd (omega (arith, l))
shorter_less zero (b ∷ s) (c ∷ t) p q e l = absurd (omega (arith, l))
shorter_less (suc n) (b ∷ s) (c ∷ t) p q e l =
    let h = first_same n b c s t p q e in
    same_head b c s t h.0 ∙ shorter_less n s t (tail b s p) (tail c t q) h.1 (omega (arith, l))

rest_decides : (n : ℕ) (s t : List ℕ) → AreBytes s → AreBytes t → chunk n s ≡ chunk n t → min (length s) (suc n) ≡ min (length t) (suc n) → slice_cmp nat_cmp s t ≡ slice_cmp nat_cmp (drop n s) (drop n t)
rest_decides zero s t p q e l = refl
rest_decides (suc n) [] [] p q e l = refl
rest_decides (suc n) [] (c ∷ t) p q e l = absurd (omega (arith, l))
rest_decides (suc n) (b ∷ s) [] p q e l = absurd (omega (arith, l))
rest_decides (suc n) (b ∷ s) (c ∷ t) p q e l =
    let h = first_same n b c s t p q e in
    same_head b c s t h.0 ∙ rest_decides n s t (tail b s p) (tail c t q) h.1 (omega (arith, l))

-- ---- words

abbrev cut : List ℕ → ℕ
cut text = min (length text) 8

cut_small : (text : List ℕ) → cut text < 256
cut_small text = omega arith

pub word_less : (s t : List ℕ) → AreBytes s → AreBytes t → word s < word t → slice_cmp nat_cmp s t ≡ Less
unfolding word
word_less s t p q l = by (leads (chunk 7 s) (cut s) (chunk 7 t) (cut t) 256 (cut_small s) (cut_small t) l)
  where
    by : Leads (chunk 7 s) (cut s) (chunk 7 t) (cut t) → slice_cmp nat_cmp s t ≡ Less
    by (inl h) = first_less 7 s t p q h
    by (inr h) = shorter_less 7 s t p q h.0 h.1

pub word_same : (s t : List ℕ) → AreBytes s → AreBytes t → word s ≡ word t → slice_cmp nat_cmp s t ≡ slice_cmp nat_cmp (drop 7 s) (drop 7 t)
unfolding word
word_same s t p q e =
    let h = same_digits (chunk 7 s) (cut s) (chunk 7 t) (cut t) 256 (cut_small s) (cut_small t) e in
    rest_decides 7 s t p q h.0 h.1

nothing_left : (text : List ℕ) → length text ≤ 7 → drop 7 text ≡ []
nothing_left text h = drop_all 7 text h

pub whole_length : (text : List ℕ) → word text % 256 < 8 → length text ≤ 7
unfolding word
whole_length text h = let is : word text % 256 ≡ cut text = mod-mul-add (chunk 7 text) 256 (cut text) (cut_small text) in omega (arith, is, h)

-- texts of at most seven bytes that have the same word are the same
pub whole_same : (s t : List ℕ) → AreBytes s → AreBytes t → word s ≡ word t → word s % 256 < 8 → slice_cmp nat_cmp s t ≡ Equal
whole_same s t p q e w =
    let none = nothing_left s (whole_length s w) in
    let none' = nothing_left t (whole_length t (subst (λ n. n % 256 < 8) e w)) in
    word_same s t p q e ∙ ap₂ (slice_cmp nat_cmp) none none'

chunk_suc : (n : ℕ) (text : List ℕ) → chunk (suc n) text ≡ chunk n text * 256 + get_or text n 0
chunk_suc zero [] = omega arith
chunk_suc (suc n) [] = omega arith
chunk_suc zero (b ∷ text) = omega arith
chunk_suc (suc n) (b ∷ text) =
    let next : b * 256 ^ suc n ≡ b * 256 ^ n * 256 = ap (λ (p : ℕ). b * p) (pow-suc 256 n) ∙ sym (mul_assoc b (256 ^ n) 256) in
    omega (arith, chunk_suc n text, next)

pub chunk_more : (n : ℕ) (text : List ℕ) → chunk (n + 1) text ≡ chunk n text * 256 + get_or text n 0
chunk_more n text = let next : suc n ≡ n + 1 = omega arith in subst (λ m. chunk m text ≡ chunk n text * 256 + get_or text n 0) next (chunk_suc n text)

pub word_is : (text : List ℕ) → word text ≡ chunk 7 text * 256 + min (length text) 8
unfolding word
word_is text = refl

-- so far a word fits
pub word_room : (n at : ℕ) (text : List ℕ) → AreBytes text → n ≡ chunk at text → at ≤ 7 → n < 256 ^ 7
word_room n at text bytes is h = let cap : 256 ^ at ≤ 256 ^ 7 = pow-le-pow_right (omega arith) h in omega (arith, chunk_small at text bytes, is, cap)
