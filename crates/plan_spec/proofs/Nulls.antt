-- The texts that are read as nothing, by the number of commas between them.
use Rattle.std.proofs.Common.{◌≡◌, ◌<◌, ◌≤◌, ◌+◌, ◌↔◌, ℕ, Bool, List, Option, IfSome, Some, None, true, false, ap, arith, length, nat_le, refl, sym}
use Rattle.std.proofs.lemmas.Bool.{leb-false, leb-true, true≢false}
use Rattle.std.proofs.lemmas.Bool.Decides.{nat_tests}
use Rattle.std.proofs.lemmas.List.Splits.{length-slice_split}
use Rattle.std.specs.List.{count_by}
use Rattle.std.specs.Prelude.{◌==◌, ◌&&◌, IsSome, if◌then◌else◌}
use Rattle.par_model.specs.declared.text.TheConstants.{LONGEST_TEXT}
use Rattle.plan_spec.specs.Grammar.{nulls_in, parts_of}

module _ (text : List ℕ) (commas : ℕ) (is : commas ≡ count_by (λ byte. byte == 44) text) where
  parts_are : length (parts_of text) ≡ commas + 1
  parts_are = omega (arith, length-slice_split (λ (byte : ℕ). byte == 44) text, is)

  -- more than seven
  pub too-many : 7 < commas → nulls_in text ≡ None
  too-many many =
      let parts = parts_are in
      let e : nat_le (length (parts_of text)) 8 ≡ false = grind (arith, nat_tests, parts, many) in
      rw e refl

  -- no more, so they are taken if they are not too long
  pub so-many : commas ≤ 7 → nulls_in text ≡ (if nat_le (length text) LONGEST_TEXT then Some text else None)
  so-many few =
      let parts = parts_are in
      let e : nat_le (length (parts_of text)) 8 ≡ true = grind (arith, nat_tests, parts, few) in
      rw e refl

-- a text that is taken exactly if it is not too long
pub taken : (text : List ℕ) (found : Option (List ℕ)) → (IsSome found ↔ (length text ≤ LONGEST_TEXT)) → IfSome found (λ t. t ≡ text)
    → found ≡ (if nat_le (length text) LONGEST_TEXT then Some text else None)
taken text found fits is = by found (nat_le (length text) LONGEST_TEXT) fits is refl
  where
    by : (found : Option (List ℕ)) (b : Bool) → (IsSome found ↔ (length text ≤ LONGEST_TEXT)) → IfSome found (λ t. t ≡ text) → nat_le (length text) LONGEST_TEXT ≡ b
        → found ≡ (if b then Some text else None)
    by None false fits is e = refl
    by None true fits is e = absurd (true≢false (sym (fits.1 (leb-true (length text) LONGEST_TEXT e))))
    by (Some t) true fits is e = ap Some is
    by (Some t) false fits is e =
        let short = fits.0 refl in
        let long = leb-false (length text) LONGEST_TEXT e in
        absurd (omega (arith, short, long))
