-- A number with a point, and one without.
use Rattle.std.proofs.Common.{◌≡◌, ◌<◌, ◌+◌, ◌∙◌, ◌∷◌, [], Bool, ℕ, zero, suc, List, true, false, ap, arith, drop, length, refl, sym, take}
use Rattle.std.proofs.lemmas.Bool.Decides.{nat_tests}
use Rattle.std.specs.List.{after_first, before_first, list_any, position_or_len}
use Rattle.std.specs.Prelude.{◌&&◌, if◌then◌else◌}
use Rattle.par_model.specs.Number.{is_point}
use Rattle.par_model.proofs.Points.{any-point}
use Rattle.table_form.specs.Number.{are_digits, is_unsigned, is_whole}

by-point : (point : Bool) (size : List ℕ) → list_any is_point size ≡ point → is_unsigned size ≡ (if point then is_whole (before_first is_point size) && are_digits (after_first is_point size) else is_whole size)
by-point point size is = ap (λ (p : Bool). if p then is_whole (before_first is_point size) && are_digits (after_first is_point size) else is_whole size) is

-- the place of the point is the end of a number without one
pub without-point : (size : List ℕ) (at : ℕ) → at ≡ position_or_len is_point size → at ≡ length size → is_unsigned size ≡ is_whole size
without-point size at is end = by-point false size (any-point size ∙ grind (arith, nat_tests, is, end))

pub with-point : (size : List ℕ) (at : ℕ) → at ≡ position_or_len is_point size → at < length size → is_unsigned size ≡ (is_whole (take at size) && are_digits (drop (at + 1) size))
with-point size at is lt = by-point true size (any-point size ∙ grind (arith, nat_tests, is, lt)) ∙ ap (λ (n : ℕ). is_whole (take n size) && are_digits (drop (n + 1) size)) (sym is)

-- the bytes after the first of those from a place on
pub drop-next : (n : ℕ) (xs : List ℕ) → drop 1 (drop n xs) ≡ drop (n + 1) xs
drop-next zero xs = refl
drop-next (suc n) [] = let count : suc n + 1 ≡ suc (n + 1) = omega arith in let none : List ℕ = [] in sym (ap (λ (m : ℕ). drop m none) count)
drop-next (suc n) (x ∷ xs) = let count : suc n + 1 ≡ suc (n + 1) = omega arith in drop-next n xs ∙ sym (ap (λ (m : ℕ). drop m (x ∷ xs)) count)
