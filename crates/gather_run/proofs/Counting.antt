-- Facts of plain numbers and lists that longer proofs cite: a search here reads nothing but what it needs.
use Rattle.std.proofs.Common.{◌≡◌, ◌<◌, ◌≤◌, ◌+◌, ◌-◌, ◌*◌, ◌^◌, ℕ, suc, true, false, List, [], ◌∷◌, Some, None, slice_get, arith}

pub no_first : {A : Type 0} (x : A) (xs : List A) → x ∷ xs ≡ [] → ⊥
no_first x xs e = cc

pub some_same : {A : Type 0} (x y : A) → Some x ≡ Some y → x ≡ y
some_same x y e = cc

pub not_none : {A : Type 0} (x : A) → Some x ≡ None → ⊥
not_none x e = cc

pub not_true : true ≡ false → ⊥
not_true e = cc

pub nothing_at : {A : Type 0} (k : ℕ) (x : A) → slice_get [] k ≡ Some x → ⊥
nothing_at k x e = cc

-- ---- places

pub from_none : (k : ℕ) → k ≡ 0 + k
from_none k = omega arith

pub at_first : (m n : ℕ) → m ≡ n + 0 → m ≡ n
at_first m n e = omega arith

pub at_next : (m n k : ℕ) → m ≡ n + suc k → m ≡ suc n + k
at_next m n k e = omega arith

pub past_all : (a b c k : ℕ) → a ≡ b → b ≡ c → a ≤ k → c ≤ k
past_all a b c k e f h = omega arith

pub none_left : (n : ℕ) → suc n ≡ 0 → ⊥
none_left n e = let no : ⊥ = omega arith in no

pub as_many_left : (m n : ℕ) → suc m ≡ suc n → m ≡ n
as_many_left m n e = omega arith

-- ---- bounds

pub few_more : (n : ℕ) → n < 2 ^ 63 → 0 + n < 2 ^ 64
few_more n h = omega arith

pub few_in_sum : (a b c : ℕ) → c ≡ a + b → c < 2 ^ 63 → a < 2 ^ 63
few_in_sum a b c e few = omega arith

pub few_past_sum : (a b c : ℕ) → c ≡ a + b → c < 2 ^ 63 → b < 2 ^ 63
few_past_sum a b c e few = omega arith

pub few_records : (n : ℕ) → n ≤ 4194305 → n < 2 ^ 63
few_records n h = omega arith

pub few_workers : (m n : ℕ) → m ≡ n → m ≤ 64 → n ≤ 64
few_workers m n e h = omega arith

pub few_of_draws : (m n : ℕ) → m + n < 2 ^ 50 → n < 2 ^ 50
few_of_draws m n h = omega arith

pub few_of_own : (m n : ℕ) → m + n < 2 ^ 50 → m < 2 ^ 50
few_of_own m n h = omega arith

-- a block past the last one was drawn, so all blocks were
pub covers_all : (len n blocks x y z : ℕ) → 0 < x → z ≡ x + y → z ≡ n - blocks → len ≤ 256 * blocks + 1 → len ≤ 256 * n + 1
covers_all len n blocks x y z some parts past all = omega arith

pub block_drawn : (len b n blocks x y z : ℕ) → 0 < x → z ≡ x + y → z ≡ n - blocks → len ≤ 256 * blocks + 1 → 256 * b + 1 < len → b < n
block_drawn len b n blocks x y z some parts past all h = omega arith

-- as many numbers as blocks, and one more for each participant
pub few_numbers : (own others all n blocks workers : ℕ) → n ≤ blocks + suc workers → workers ≤ 64 → blocks ≤ 16384 → all ≡ own + others → all ≡ n → own + others < 2 ^ 50
few_numbers own others all n blocks workers few short most parts count = omega arith

pub few_of_rows : (rows blocks : ℕ) → rows ≤ 256 * blocks → blocks < 2 ^ 50 → rows < 2 ^ 63
few_of_rows rows blocks each few = omega arith

pub few_in_front : (a b c : ℕ) → c ≡ a + b → c < 2 ^ 50 → a < 2 ^ 50
few_in_front a b c e few = omega arith

pub few_behind : (a b c : ℕ) → c ≡ a + b → c < 2 ^ 50 → b < 2 ^ 50
few_behind a b c e few = omega arith
