-- Eight bytes at once: steps of a bit are linear, so bytes that are taken in one after another are a number of as many bits that is
-- taken in at once, and each byte of that number may be taken by itself.
use Rattle.std.proofs.Common.{◌≡◌, ℕ, zero, suc, ◌+◌, ◌*◌, ◌/◌, ◌%◌, ◌<◌, ◌^◌, List, [], ◌∷◌, ◌++◌, drop, fold, get_or, length, refl, ap, sym, ◌∙◌, arith, bit_xor, take}
use Rattle.std.proofs.lemmas.Grind.{fold-append}
use Rattle.std.proofs.lemmas.List.{take-append-drop}
use Rattle.std.proofs.lemmas.Nat.{xor_comm, xor_mod, xor_shr}
use Rattle.std.specs.Int.{from_le_bytes, w64}
use Rattle.std.specs.Int.Bits.{xor_assoc, xor_self, xor_zero_l, xor_zero_r}
use Rattle.state_file.specs.Checksum.{divided, polynomial, shifted, shifted_by, taken_in}
use Rattle.state_file.proofs.Division.{split}

-- ---- steps of a bit are linear

swap : (x y p : ℕ) → bit_xor (bit_xor x y) p ≡ bit_xor (bit_xor x p) y
swap x y p = xor_assoc x y p ∙ ap (bit_xor x) (xor_comm y p) ∙ sym (xor_assoc x p y)

twice : (x y p : ℕ) → bit_xor x y ≡ bit_xor (bit_xor x p) (bit_xor y p)
twice x y p = sym (
    xor_assoc x p (bit_xor y p)
    ∙ ap (bit_xor x) (ap (bit_xor p) (xor_comm y p) ∙ sym (xor_assoc p p y) ∙ ap (λ (n : ℕ). bit_xor n y) (xor_self p) ∙ xor_zero_l y)
    )

bits : (s t x y : ℕ) → s < 2 → t < 2 → divided (bit_xor s t) (bit_xor x y) ≡ bit_xor (divided s x) (divided t y)
bits zero zero x y h k = refl
bits zero (suc zero) x y h k = xor_assoc x y polynomial
bits (suc zero) zero x y h k = swap x y polynomial
bits (suc zero) (suc zero) x y h k = twice x y polynomial
bits zero (suc (suc t)) x y h k = absurd (omega arith)
bits (suc zero) (suc (suc t)) x y h k = absurd (omega arith)
bits (suc (suc s)) t x y h k = absurd (omega arith)

linear_step : (a b : ℕ) → shifted (bit_xor a b) ≡ bit_xor (shifted a) (shifted b)
linear_step a b =
    ap (λ (n : ℕ). divided n (bit_xor a b / 2)) (xor_mod a b 1) ∙ ap (divided (bit_xor (a % 2) (b % 2))) (xor_shr a b 1)
    ∙ bits (a % 2) (b % 2) (a / 2) (b / 2) (omega arith) (omega arith)

pub linear : (k a b : ℕ) → shifted_by k (bit_xor a b) ≡ bit_xor (shifted_by k a) (shifted_by k b)
unfolding shifted_by
linear zero a b = refl
linear (suc k) a b = ap shifted (linear k a b) ∙ linear_step (shifted_by k a) (shifted_by k b)

-- ---- more steps

pub steps_after : (m n a : ℕ) → shifted_by (m + n) a ≡ shifted_by m (shifted_by n a)
unfolding shifted_by
steps_after zero n a = let e : zero + n ≡ n = omega arith in ap (λ (k : ℕ). shifted_by k a) e
steps_after (suc m) n a = ap (λ (k : ℕ). shifted_by k a) (one_more m n) ∙ ap shifted (steps_after m n a)
  where
    one_more : (m n : ℕ) → suc m + n ≡ suc (m + n)
    one_more m n = omega arith

-- ---- bytes, one after another

-- the number that bytes are, the lowest first
unfoldable pub worth : List ℕ → ℕ
worth [] = 0
worth (b ∷ bs) = worth bs * 256 + b

abbrev pub AreBytes : List ℕ → Type 0
AreBytes bytes = (i : ℕ) → get_or bytes i 0 < 256

next_byte : (r b w : ℕ) → b < 256 → bit_xor (taken_in r b) w ≡ shifted_by 8 (bit_xor r (w * 256 + b))
unfolding taken_in
next_byte r b w few =
    ap (λ (n : ℕ). bit_xor n w) (linear 8 r b) ∙ xor_assoc (shifted_by 8 r) (shifted_by 8 b) w ∙ ap (bit_xor (shifted_by 8 r)) (xor_comm (shifted_by 8 b) w)
    ∙ ap (bit_xor (shifted_by 8 r)) (sym (split 8 w b few)) ∙ sym (linear 8 r (w * 256 + b))

pub at_once : (bytes : List ℕ) (register : ℕ) → AreBytes bytes → fold taken_in register bytes ≡ shifted_by (8 * length bytes) (bit_xor register (worth bytes))
unfolding shifted_by worth
at_once [] register small = sym (xor_zero_r register)
at_once (b ∷ bs) register small =
    at_once bs (taken_in register b) (λ i. small (suc i))
    ∙ ap (shifted_by (8 * length bs)) (next_byte register b (worth bs) (small 0))
    ∙ sym (steps_after (8 * length bs) 8 (bit_xor register (worth bs * 256 + b)))
    ∙ ap (λ (k : ℕ). shifted_by k (bit_xor register (worth bs * 256 + b))) (longer (length bs))
  where
    longer : (n : ℕ) → 8 * n + 8 ≡ 8 * suc n
    longer n = omega arith

-- ---- each byte of a number by itself

pub first_byte : (k x y : ℕ) → y ≡ x / 256 → shifted_by (k + 8) x ≡ bit_xor (shifted_by k y) (shifted_by (k + 8) (x % 256))
first_byte k x y e =
    let whole : x ≡ y * 2 ^ 8 + x % 256 = omega arith in
    let few : x % 256 < 2 ^ 8 = omega arith in
    steps_after k 8 x ∙ ap (λ (n : ℕ). shifted_by k (shifted_by 8 n)) whole ∙ ap (shifted_by k) (split 8 y (x % 256) few) ∙ linear k y (shifted_by 8 (x % 256))
    ∙ ap (bit_xor (shifted_by k y)) (sym (steps_after k 8 (x % 256)))

pub eight_bytes : (a b c d e f g h : ℕ) → b ≡ a / 256 → c ≡ b / 256 → d ≡ c / 256 → e ≡ d / 256 → f ≡ e / 256 → g ≡ f / 256 → h ≡ g / 256 → h < 256
    → shifted_by 64 a ≡ bit_xor (bit_xor (bit_xor (bit_xor (bit_xor (bit_xor (bit_xor (shifted_by 8 (h % 256)) (shifted_by 16 (g % 256))) (shifted_by 24 (f % 256))) (shifted_by 32 (e % 256))) (shifted_by 40 (d % 256))) (shifted_by 48 (c % 256))) (shifted_by 56 (b % 256))) (shifted_by 64 (a % 256))
eight_bytes a b c d e f g h p q r s t u v few =
    let last : h ≡ h % 256 = omega arith in
    first_byte 56 a b p ∙ ap (λ (n : ℕ). bit_xor n (shifted_by 64 (a % 256)))
    (first_byte 48 b c q ∙ ap (λ (n : ℕ). bit_xor n (shifted_by 56 (b % 256)))
    (first_byte 40 c d r ∙ ap (λ (n : ℕ). bit_xor n (shifted_by 48 (c % 256)))
    (first_byte 32 d e s ∙ ap (λ (n : ℕ). bit_xor n (shifted_by 40 (d % 256)))
    (first_byte 24 e f t ∙ ap (λ (n : ℕ). bit_xor n (shifted_by 32 (e % 256)))
    (first_byte 16 f g u ∙ ap (λ (n : ℕ). bit_xor n (shifted_by 24 (f % 256)))
    (first_byte 8 g h v ∙ ap (λ (n : ℕ). bit_xor (shifted_by 8 n) (shifted_by 16 (g % 256))) last))))))

-- eight bytes are one number
pub worth_8 : (bytes : List ℕ) → length bytes ≡ 8 → from_le_bytes w64 bytes ≡ worth bytes
unfolding worth
worth_8 [] l = absurd (omega arith)
worth_8 (a ∷ []) l = absurd (omega arith)
worth_8 (a ∷ b ∷ []) l = absurd (omega arith)
worth_8 (a ∷ b ∷ c ∷ []) l = absurd (omega arith)
worth_8 (a ∷ b ∷ c ∷ d ∷ []) l = absurd (omega arith)
worth_8 (a ∷ b ∷ c ∷ d ∷ e ∷ []) l = absurd (omega arith)
worth_8 (a ∷ b ∷ c ∷ d ∷ e ∷ f ∷ []) l = absurd (omega arith)
worth_8 (a ∷ b ∷ c ∷ d ∷ e ∷ f ∷ g ∷ []) l = absurd (omega arith)
worth_8 (a ∷ b ∷ c ∷ d ∷ e ∷ f ∷ g ∷ h ∷ []) l = number a b c d e f g h
  where
    number : (a b c d e f g h : ℕ) → a + b * 256 + c * 65536 + d * 16777216 + e * 4294967296 + f * 1099511627776 + g * 281474976710656 + h * 72057594037927936 ≡ (((((((0 * 256 + h) * 256 + g) * 256 + f) * 256 + e) * 256 + d) * 256 + c) * 256 + b) * 256 + a
    number a b c d e f g h = omega arith
worth_8 (a ∷ b ∷ c ∷ d ∷ e ∷ f ∷ g ∷ h ∷ x ∷ bs) l = absurd (omega arith)

-- the register after eight bytes, from the number that they are with it
pub eight_at_once : (bytes : List ℕ) (register word : ℕ) → length bytes ≡ 8 → AreBytes bytes → word ≡ bit_xor register (from_le_bytes w64 bytes) → fold taken_in register bytes ≡ shifted_by 64 word
eight_at_once bytes register word long small is =
    at_once bytes register small ∙ ap (λ (n : ℕ). shifted_by (8 * n) (bit_xor register (worth bytes))) long
    ∙ ap (λ (n : ℕ). shifted_by 64 (bit_xor register n)) (sym (worth_8 bytes long)) ∙ ap (shifted_by 64) (sym is)

-- the same, from what the table has of each byte of that number
pub eight_in : (register word : ℕ) (bytes : List ℕ) (e0 e1 e2 e3 e4 e5 e6 e7 : ℕ) → length bytes ≡ 8 → AreBytes bytes → word ≡ bit_xor register (from_le_bytes w64 bytes) → word < 2 ^ 64
    → e0 ≡ shifted_by 8 (word / 72057594037927936 % 256) → e1 ≡ shifted_by 16 (word / 281474976710656 % 256) → e2 ≡ shifted_by 24 (word / 1099511627776 % 256) → e3 ≡ shifted_by 32 (word / 4294967296 % 256)
    → e4 ≡ shifted_by 40 (word / 16777216 % 256) → e5 ≡ shifted_by 48 (word / 65536 % 256) → e6 ≡ shifted_by 56 (word / 256 % 256) → e7 ≡ shifted_by 64 (word % 256)
    → bit_xor (bit_xor (bit_xor (bit_xor (bit_xor (bit_xor (bit_xor e0 e1) e2) e3) e4) e5) e6) e7 ≡ fold taken_in register bytes
eight_in register word bytes e0 e1 e2 e3 e4 e5 e6 e7 long small is fits p0 p1 p2 p3 p4 p5 p6 p7 =
    let two : word / 65536 ≡ word / 256 / 256 = omega arith in
    let three : word / 16777216 ≡ word / 65536 / 256 = omega arith in
    let four : word / 4294967296 ≡ word / 16777216 / 256 = omega arith in
    let five : word / 1099511627776 ≡ word / 4294967296 / 256 = omega arith in
    let six : word / 281474976710656 ≡ word / 1099511627776 / 256 = omega arith in
    let seven : word / 72057594037927936 ≡ word / 281474976710656 / 256 = omega arith in
    let last : word / 72057594037927936 < 256 = omega arith in
    let each : bit_xor (bit_xor (bit_xor (bit_xor (bit_xor (bit_xor (bit_xor e0 e1) e2) e3) e4) e5) e6) e7 ≡ _ = λ i. bit_xor (bit_xor (bit_xor (bit_xor (bit_xor (bit_xor (bit_xor (p0 i) (p1 i)) (p2 i)) (p3 i)) (p4 i)) (p5 i)) (p6 i)) (p7 i) in
    each
    ∙ sym (eight_bytes word (word / 256) (word / 65536) (word / 16777216) (word / 4294967296) (word / 1099511627776) (word / 281474976710656) (word / 72057594037927936) refl two three four five six seven last)
    ∙ sym (eight_at_once bytes register word long small is)

-- eight bytes of some bytes
pub eight_more : (register after : ℕ) (rest eight more : List ℕ) → eight ≡ take 8 rest → more ≡ drop 8 rest → after ≡ fold taken_in register eight → fold taken_in after more ≡ fold taken_in register rest
eight_more register after rest eight more p q r =
    ap (λ (n : ℕ). fold taken_in n more) r ∙ sym (fold-append taken_in register eight more)
    ∙ ap (fold taken_in register) (ap (λ (bs : List ℕ). bs ++ more) p ∙ ap (λ (bs : List ℕ). take 8 rest ++ bs) q ∙ take-append-drop 8 rest)
