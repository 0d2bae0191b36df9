-- What is left of a source when its header is made, and its faults.
use Rattle.std.proofs.Common.{◌≡◌, ◌≤◌, ◌∙◌, ◌∷◌, ◌++◌, [], Bool, ℕ, List, None, Option, Some, Result, Ok, Err, true, false, ap, append-nil, append_assoc, arith, inl, inr, length, min, refl, sym, take, true≢false}
use Rattle.std.specs.Prelude.{◌⊎◌, if◌then◌else◌}
use Rattle.std.proofs.lemmas.Bool.{cases_lt}
use Rattle.std.proofs.lemmas.List.{take-append-le, take_all}
use Rattle.std.specs.Io.KnownBytes.{Keeps, prepend_known}
use Rattle.std.specs.Option.{option_map}
use Rattle.csv.specs.Reading.{is_bom, strip_bom}
use Rattle.par_io.specs.Faults.{HasCause}
use Rattle.numbered_rows.specs.Front.{IsFront}
use Rattle.numbered_rows.specs.Numbers.{headed, header_text, numbered, width_of}
use Rattle.numbered_rows.specs.declared.front.TheConstants.{FRONT}

strip-by : (bom : Bool) (x y z : ℕ) (xs rest : List ℕ) → is_bom x y z ≡ bom → (if is_bom x y z then xs ++ rest else x ∷ y ∷ z ∷ (xs ++ rest)) ≡ (if is_bom x y z then xs else x ∷ y ∷ z ∷ xs) ++ rest
strip-by true x y z xs rest is = rw is refl
strip-by false x y z xs rest is = rw is refl

strip-long : (front rest : List ℕ) → 3 ≤ length front → strip_bom (front ++ rest) ≡ strip_bom front ++ rest
unfolding strip_bom
strip-long [] rest long = absurd (omega (arith, long))
strip-long (x ∷ []) rest long = absurd (omega (arith, long))
strip-long (x ∷ y ∷ []) rest long = absurd (omega (arith, long))
strip-long (x ∷ y ∷ z ∷ xs) rest long = strip-by (is_bom x y z) x y z xs rest refl

-- a front behind its header, and then the rest, are the whole behind the header
pub whole-numbered : (sep : ℕ) (front rest : List ℕ) → (FRONT ≤ length front) ⊎ (rest ≡ []) → headed sep (width_of sep (take FRONT front)) front ++ rest ≡ numbered sep (front ++ rest)
unfolding numbered
whole-numbered sep front rest (inl long) =
    let width = width_of sep (take FRONT front) in
    append_assoc (header_text sep width) (strip_bom front) rest ∙ ap (λ (t : List ℕ). header_text sep width ++ t) (sym (strip-long front rest (omega (arith, long))))
    ∙ ap (λ (t : List ℕ). headed sep (width_of sep t) (front ++ rest)) (sym (take-append-le FRONT front rest long))
whole-numbered sep front rest (inr none) =
    ap (λ (t : List ℕ). headed sep (width_of sep (take FRONT front)) front ++ t) none ∙ append-nil (headed sep (width_of sep (take FRONT front)) front)
    ∙ ap (λ (t : List ℕ). headed sep (width_of sep (take FRONT t)) t) (sym (append-nil front)) ∙ ap (λ (t : List ℕ). headed sep (width_of sep (take FRONT (front ++ t))) (front ++ t)) (sym none)

pub keeps-made : (sep : ℕ) (front ahead : List ℕ) (left : Option (List ℕ)) → IsFront front left → ahead ≡ headed sep (width_of sep (take FRONT front)) front → Keeps (option_map (numbered sep) (prepend_known front left)) (prepend_known ahead left)
keeps-made sep front ahead None is made = tt
keeps-made sep front ahead (Some rest) is made = ap (λ (t : List ℕ). t ++ rest) made ∙ whole-numbered sep front rest is

-- no more bytes than there are
pub take-few : (n : ℕ) (xs : List ℕ) → take (min (length xs) n) xs ≡ take n xs
take-few n xs = elim (cases_lt n (length xs)) [
  | inl lt ↦ let few : min (length xs) n ≡ n = omega (arith, lt) in ap (λ (k : ℕ). take k xs) few
  | inr le ↦ let all : min (length xs) n ≡ length xs = omega (arith, le) in ap (λ (k : ℕ). take k xs) all ∙ take_all (length xs) xs (omega arith) ∙ sym (take_all n xs le)
]

-- what stays of a source whose header is not made
pub keeps-closed : (now : Bool) (a b x : Option (List ℕ)) → now ≡ false → Keeps b x → Keeps (if now then a else b) x
keeps-closed true a b x is keeps = absurd (true≢false is)
keeps-closed false a b x is keeps = keeps

-- a failed call after others that kept the faults
pub cause-after : {T E : Type 0} (old a b : ℕ) (r : Result T E) → old ≤ a → HasCause a b r → HasCause old b r
cause-after old a b (Ok x) le cause = record { kept = omega (arith, le, cause.kept); failed = tt }
cause-after old a b (Err e) le cause = record { kept = omega (arith, le, cause.kept); failed = omega (arith, le, cause.kept, cause.failed) }
