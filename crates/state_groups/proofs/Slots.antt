-- The bytes of a slot, with integers and without, and what integers come to.
use Rattle.std.proofs.Common.{◌≡◌, ◌<◌, ◌≤◌, ◌^◌, ◌++◌, ◌∙◌, ℕ, ℤ, pos, ◌-ℤ◌, Bool, true, false, List, [], FitsSigned, ap, append-nil, append_assoc, arith, refl, sym, subst, if◌then◌else◌}
use Rattle.std.proofs.lemmas.Int.{fits_signed_from_abs, ints}
use Rattle.std.specs.Int.{w64, w128}
use Rattle.std.specs.Int.RustNames.{unsigned_abs}
use Rattle.par_model.specs.Aggregate.{no_values}
use Rattle.par_model.specs.declared.state.SlotState.{SlotState}
use Rattle.state_file.specs.Number.{folded, number_bytes}
use Rattle.state_groups.specs.Slot.{IsOfIntegers, IsSlot, has_integers, integers_bytes, slot_bytes, spread}

-- what comes after the count
abbrev pub after_count : Bool → SlotState → List ℕ
after_count integers slot = if has_integers integers slot.count then integers_bytes slot else []

-- a slot of this many values without integers
abbrev pub only : ℕ → SlotState
only count = record no_values { count = count }

pub with_integers : (integers : Bool) (slot : SlotState) → has_integers integers slot.count ≡ true → after_count integers slot ≡ integers_bytes slot
with_integers integers slot e = ap (λ (b : Bool). if b then integers_bytes slot else []) e

pub without_integers : (integers : Bool) (slot : SlotState) → has_integers integers slot.count ≡ false → after_count integers slot ≡ []
without_integers integers slot e = ap (λ (b : Bool). if b then integers_bytes slot else []) e

pub is_count_first : (integers : Bool) (slot : SlotState) → slot_bytes integers slot ≡ number_bytes slot.count ++ after_count integers slot
unfolding slot_bytes
is_count_first integers slot = refl

pub count_first : (integers : Bool) (slot : SlotState) (bytes rest : List ℕ) → bytes ≡ slot_bytes integers slot ++ rest → bytes ≡ number_bytes slot.count ++ (after_count integers slot ++ rest)
count_first integers slot bytes rest e =
    e ∙ ap (λ (bs : List ℕ). bs ++ rest) (is_count_first integers slot) ∙ append_assoc (number_bytes slot.count) (after_count integers slot) rest

-- ---- as they are written

pub pushed_with : (integers : Bool) (slot : SlotState) (out now : List ℕ) (n : ℕ) → has_integers integers slot.count ≡ true → now ≡ out ++ number_bytes n → n ≡ slot.count → now ++ integers_bytes slot ≡ out ++ slot_bytes integers slot
pushed_with integers slot out now n has e f =
    ap (λ (bs : List ℕ). bs ++ integers_bytes slot) (e ∙ ap (λ (m : ℕ). out ++ number_bytes m) f) ∙ append_assoc out (number_bytes slot.count) (integers_bytes slot)
    ∙ ap (λ (bs : List ℕ). out ++ bs) (sym (is_count_first integers slot ∙ ap (λ (bs : List ℕ). number_bytes slot.count ++ bs) (with_integers integers slot has)))

pub pushed_without : (integers : Bool) (slot : SlotState) (out now : List ℕ) (n : ℕ) → has_integers integers slot.count ≡ false → now ≡ out ++ number_bytes n → n ≡ slot.count → now ≡ out ++ slot_bytes integers slot
pushed_without integers slot out now n has e f =
    e ∙ ap (λ (m : ℕ). out ++ number_bytes m) f
    ∙ ap (λ (bs : List ℕ). out ++ bs) (sym (is_count_first integers slot ∙ ap (λ (bs : List ℕ). number_bytes slot.count ++ bs) (without_integers integers slot has) ∙ append-nil (number_bytes slot.count)))

-- ---- as they are read

pub none_are_integers : (count : ℕ) → IsOfIntegers (only count)
none_are_integers count = record { sum = omega arith; least = fits_signed_from_abs w64 (pos 0) (omega arith); greatest = fits_signed_from_abs w64 (pos 0) (omega arith); order = omega (arith, ints) }

pub read_with : (integers : Bool) (bytes after rest : List ℕ) (count rows : ℕ) (slot : SlotState) → has_integers integers count ≡ true → bytes ≡ number_bytes count ++ after → after ≡ integers_bytes slot ++ rest → slot.count ≡ count
    → count ≤ rows → IsOfIntegers slot → (bytes ≡ slot_bytes integers slot ++ rest) × IsSlot integers rows slot
read_with integers bytes after rest count rows slot has e f same few numbers =
    let here : has_integers integers slot.count ≡ true = ap (has_integers integers) same ∙ has in (
      e ∙ ap (λ (n : ℕ). number_bytes n ++ after) (sym same) ∙ ap (λ (bs : List ℕ). number_bytes slot.count ++ bs) (f ∙ ap (λ (bs : List ℕ). bs ++ rest) (sym (with_integers integers slot here)))
          ∙ sym (append_assoc (number_bytes slot.count) (after_count integers slot) rest) ∙ ap (λ (bs : List ℕ). bs ++ rest) (sym (is_count_first integers slot)),
      record { count = omega arith; numbers = numbers; plain = λ no. absurd (both here no) },
    )
  where
    both : {b : Bool} → b ≡ true → b ≡ false → ⊥
    both e f = cc

pub read_without : (integers : Bool) (bytes after : List ℕ) (count rows : ℕ) (slot : SlotState) → has_integers integers count ≡ false → bytes ≡ number_bytes count ++ after → slot ≡ only count → count ≤ rows
    → (bytes ≡ slot_bytes integers slot ++ after) × IsSlot integers rows slot
read_without integers bytes after count rows slot has e is few =
    let same : slot.count ≡ count = ap (λ (s : SlotState). s.count) is in
    let here : has_integers integers slot.count ≡ false = ap (has_integers integers) same ∙ has in (
      e ∙ ap (λ (n : ℕ). number_bytes n ++ after) (sym same) ∙ ap (λ (bs : List ℕ). number_bytes slot.count ++ bs) (ap (λ (bs : List ℕ). bs ++ after) (sym (without_integers integers slot here)))
          ∙ sym (append_assoc (number_bytes slot.count) (after_count integers slot) after) ∙ ap (λ (bs : List ℕ). bs ++ after) (sym (is_count_first integers slot)),
      record { count = omega arith; numbers = subst IsOfIntegers (sym is) (none_are_integers count); plain = λ no. is ∙ ap only (sym same) },
    )

pub written_with : (integers : Bool) (after rest : List ℕ) (count : ℕ) (slot : SlotState) → has_integers integers count ≡ true → count ≡ slot.count → after ≡ after_count integers slot ++ rest → after ≡ integers_bytes slot ++ rest
written_with integers after rest count slot has same e =
    e ∙ ap (λ (bs : List ℕ). bs ++ rest) (with_integers integers slot (ap (has_integers integers) (sym same) ∙ has))

pub written_without : (integers : Bool) (after rest : List ℕ) (count rows : ℕ) (slot found : SlotState) → has_integers integers count ≡ false → found ≡ only count → count ≡ slot.count → after ≡ after_count integers slot ++ rest
    → IsSlot integers rows slot → (found ≡ slot) × (after ≡ rest)
written_without integers after rest count rows slot found has is same e slot_is =
    let here : has_integers integers slot.count ≡ false = ap (has_integers integers) (sym same) ∙ has in
    (is ∙ ap only same ∙ sym (slot_is.plain here), e ∙ ap (λ (bs : List ℕ). bs ++ rest) (without_integers integers slot here))

-- ---- integers

-- three numbers in front of others
pub in_front : (sum least spread rest : List ℕ) → (sum ++ (least ++ spread)) ++ rest ≡ sum ++ (least ++ (spread ++ rest))
in_front sum least spread rest = simp append_assoc

pub integers_read : (bytes after more rest : List ℕ) (sum least : ℤ) (above : ℕ) (slot : SlotState) → bytes ≡ number_bytes (folded sum) ++ after → after ≡ number_bytes (folded least) ++ more → more ≡ number_bytes above ++ rest
    → slot.sum ≡ sum → slot.least ≡ least → spread slot ≡ above → bytes ≡ integers_bytes slot ++ rest
integers_read bytes after more rest sum least above slot e f g s l a =
    e ∙ ap (λ (bs : List ℕ). number_bytes (folded sum) ++ bs) (f ∙ ap (λ (bs : List ℕ). number_bytes (folded least) ++ bs) g)
    ∙ sym (in_front (number_bytes (folded sum)) (number_bytes (folded least)) (number_bytes above) rest)
    ∙ ap (λ (z : ℤ). (number_bytes (folded z) ++ (number_bytes (folded least) ++ number_bytes above)) ++ rest) (sym s)
    ∙ ap (λ (z : ℤ). (number_bytes (folded slot.sum) ++ (number_bytes (folded z) ++ number_bytes above)) ++ rest) (sym l)
    ∙ ap (λ (n : ℕ). (number_bytes (folded slot.sum) ++ (number_bytes (folded slot.least) ++ number_bytes n)) ++ rest) (sym a)

pub integers_written : (bytes rest : List ℕ) (slot : SlotState) → bytes ≡ integers_bytes slot ++ rest → bytes ≡ number_bytes (folded slot.sum) ++ (number_bytes (folded slot.least) ++ (number_bytes (spread slot) ++ rest))
integers_written bytes rest slot e = e ∙ in_front (number_bytes (folded slot.sum)) (number_bytes (folded slot.least)) (number_bytes (spread slot)) rest

-- the numbers of integers fit those that are read
pub sum_fits : (slot : SlotState) (count : ℕ) → IsOfIntegers slot → slot.count ≡ count → count ≤ 2 ^ 50 → FitsSigned w128 slot.sum
sum_fits slot count is same few = let near = is.sum in fits_signed_from_abs w128 slot.sum (omega arith)

pub least_fits : (slot : SlotState) → IsOfIntegers slot → FitsSigned w128 slot.least
least_fits slot is = wider slot.least is.least
  where
    wider : (z : ℤ) → FitsSigned w64 z → FitsSigned w128 z
    wider z f = omega (arith, ints)

pub spread_fits : (slot : SlotState) → IsOfIntegers slot → spread slot < 2 ^ 128
spread_fits slot is = apart slot.least slot.greatest is.least is.greatest
  where
    apart : (l g : ℤ) → FitsSigned w64 l → FitsSigned w64 g → unsigned_abs (g -ℤ l) < 2 ^ 128
    apart l g f h = omega (arith, ints)
