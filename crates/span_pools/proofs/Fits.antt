-- The numbers of a class fit together.
use Rattle.std.proofs.Common.{◌≡◌, ℕ, ◌+◌, ◌-◌, ◌*◌, ◌/◌, ◌%◌, ◌<◌, ◌≤◌, refl, subst, arith}
use Rattle.std.proofs.Math.Nat.{mul-le-mul_left, mul-div-le}
use Rattle.size_classes.specs.Classes.{IsClass, class_size, class_objects}
use Rattle.size_classes.proofs.Sizes.{class_words, class_range}
use Rattle.free_pages.specs.Area.{front, records_at}
use Rattle.span_pools.specs.Places.{IsLayout}
use Rattle.span_pools.specs.PoolView.{layout_of}

objects_fit : (s q : ℕ) → s % 8 ≡ 0 → s * q ≤ 65536 → (s / 8) * q ≤ 8192
objects_fit s q e h =
    let t : s ≡ 8 * (s / 8) = omega arith in
    eighth (s / 8) q (subst (λ (z : ℕ). z * q ≤ 65536) t h)
  where
    eighth : (t q : ℕ) → 8 * t * q ≤ 65536 → t * q ≤ 8192
    eighth t q h = omega arith

pub bits_before : (class m : ℕ) → IsClass class → ((38 - class) * m ≤ 36 * m) × (m ≤ (38 - class) * m)
bits_before class m c =
    let a : m * (38 - class) ≤ m * 36 = mul-le-mul_left m (let y : 38 - class ≤ 36 = omega (arith, c.low) in y) in
    let b : m * 1 ≤ m * (38 - class) = mul-le-mul_left m (let y : 1 ≤ 38 - class = omega (arith, c.high) in y) in
    (omega arith, omega arith)

pub layout_fits : (class first pages : ℕ) → IsClass class → 8 ≤ class_objects class → 64 + front pages ≤ first → first + 512 * pages ≤ 67108864 → IsLayout (layout_of class first pages)
layout_fits class first pages c many room low =
    let range = class_range class c in
    let b = bits_before class ((pages + 63) / 64) c in
    record {
      size = eight (class_size class) range.0;
      some = two (class_objects class) many;
      fits = objects_fit (class_size class) (class_objects class) (class_words class c) (mul-div-le 65536 (class_size class));
      valid = front_first first pages room;
      records = before (38 - class) ((pages + 63) / 64) refl b.0;
      marks = behind (38 - class) ((pages + 63) / 64) refl b.0 b.1;
      low = low;
    }
  where
    eight : (s : ℕ) → 8 ≤ s → 1 ≤ s / 8
    eight s h = omega arith

    two : (q : ℕ) → 8 ≤ q → 2 ≤ q
    two q h = omega arith

    front_first : (first pages : ℕ) → 64 + front pages ≤ first → 0 < records_at first pages
    front_first first pages h = omega arith

    before : (d m : ℕ) → m ≡ (pages + 63) / 64 → d * m ≤ 36 * m → records_at first pages + 7 * pages ≤ first - d * m
    before d m e h = plain (d * m) m e h
      where
        plain : (x m : ℕ) → m ≡ (pages + 63) / 64 → x ≤ 36 * m → records_at first pages + 7 * pages ≤ first - x
        plain x m e h = omega arith

    behind : (d m : ℕ) → m ≡ (pages + 63) / 64 → d * m ≤ 36 * m → m ≤ d * m → first - d * m + m ≤ first
    behind d m e h k = plain (d * m) m e h k
      where
        plain : (x m : ℕ) → m ≡ (pages + 63) / 64 → x ≤ 36 * m → m ≤ x → first - x + m ≤ first
        plain x m e h k = omega arith
