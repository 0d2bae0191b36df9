-- A text that says how fields are read begins with an equals sign, so what comes after it is UTF-8 too.
use Rattle.std.proofs.Common.{◌≡◌, ◌<◌, ◌≤◌, ◌⊎◌, ℕ, Bool, true, false, List, [], ◌∷◌, arith, codes, drop, get_or, inl, inr, length, refl, sym}
use Rattle.std.proofs.lemmas.Bool.{eqb-true}
use Rattle.std.proofs.lemmas.Slice.Eq.{bytes_eq-Decides}
use Rattle.std.proofs.lemmas.Str.{IsCharBoundary-after_ascii, IsUtf8-drop}
use Rattle.std.specs.List.{starts_with}
use Rattle.std.specs.Prelude.{◌==◌, ◌&&◌, ◌||◌}
use Rattle.std.specs.Str.{IsUtf8}
use Rattle.state_plan.specs.Words.{says_reading}

one_of : (a b : Bool) → (a || b) ≡ true → (a ≡ true) ⊎ (b ≡ true)
one_of true b e = inl refl
one_of false b e = inr e

left : (a b : Bool) → (a && b) ≡ true → a ≡ true
left true b e = refl
left false b e = e

-- bytes that begin with others have their first
same_first : (byte first : ℕ) (text rest : List ℕ) → starts_with (λ a b. a == b) (byte ∷ text) (first ∷ rest) ≡ true → byte ≡ first
same_first byte first text rest e = sym (eqb-true first byte (left (first == byte) _ e))

first_is : (byte first : ℕ) (text rest : List ℕ) → byte ∷ text ≡ first ∷ rest → byte ≡ first
first_is byte first text rest e = cc e

begins : (byte : ℕ) (text : List ℕ) → says_reading (byte ∷ text) ≡ true → byte ≡ 61
begins byte text e = elim (one_of (starts_with (λ a b. a == b) (byte ∷ text) (codes "=separator=")) _ e) [
  | inl a ↦ same_first byte 61 text (drop 1 (codes "=separator=")) a
  | inr more ↦ elim (one_of (starts_with (λ a b. a == b) (byte ∷ text) (codes "=null=")) _ more) [
    | inl b ↦ same_first byte 61 text (drop 1 (codes "=null=")) b
    | inr d ↦ first_is byte 61 text (drop 1 (codes "=trim")) ((bytes_eq-Decides (byte ∷ text) (codes "=trim")).0 d)
  ]
]

pub has_first : (text : List ℕ) → says_reading text ≡ true → 1 ≤ length text
has_first [] e = cc e
has_first (byte ∷ text) e = omega arith

small_first : (text : List ℕ) → says_reading text ≡ true → get_or text 0 0 < 128
small_first [] e = cc e
small_first (byte ∷ text) e =
    let is = begins byte text e in
    omega (arith, is)

pub rest_utf8 : (text : List ℕ) → says_reading text ≡ true → IsUtf8 text → IsUtf8 (drop 1 text)
rest_utf8 text e utf8 = IsUtf8-drop text 1 utf8 (IsCharBoundary-after_ascii text 0 utf8 (has_first text e) (small_first text e))
