-- The encoding of some fields, one field at a time: how long it is, and whether a text is it.
use Rattle.std.proofs.Common.{◌≡◌, ◌≢◌, ◌+◌, ◌∙◌, ◌++◌, ◌<◌, ◌≤◌, ℕ, zero, suc, Bool, true, false, List, [], ◌∷◌, Option, Some, None, MatchOption, Bor, length, map, drop, get_or, nat_eq, bytes_eq, refl, sym, arith, length-append, append_assoc, ap}
use Rattle.std.proofs.Math.Dec.{eqb-suc-zero}
use Rattle.std.proofs.Math.Nat.{suc-add}
use Rattle.std.proofs.lemmas.Bool.Decides.{nat_tests}
use Rattle.std.proofs.lemmas.List.{append_cancel_left, drop_all}
use Rattle.std.proofs.lemmas.Slice.Eq.{bytes_eq-Decides}
use Rattle.std.specs.Int.{to_le_bytes, w32}
use Rattle.par_model.specs.Key.{encoded, encoded_field}

length-encoded_field : (field : List ℕ) → length (encoded_field field) ≡ length field + 4
length-encoded_field field = omega (arith, length-append (to_le_bytes w32 (length field)) field)

pub length-encoded_none : length (encoded []) ≡ 0
unfolding encoded
length-encoded_none = refl

length-encoded_cons : (field : List ℕ) (fields : List (List ℕ)) → length (encoded (field ∷ fields)) ≡ length field + 4 + length (encoded fields)
unfolding encoded
length-encoded_cons field fields = omega (arith, length-append (encoded_field field) (encoded fields), length-encoded_field field)

-- a field, and those behind it, from a place on
pub length-encoded_at : {X : Type 0} (text : X → List ℕ) (columns : List X) (at : ℕ) (d : X) → at < length columns
    → length (encoded (map text (drop at columns))) ≡ length (text (get_or columns at d)) + 4 + length (encoded (map text (drop (at + 1) columns)))
length-encoded_at text [] at d within = absurd (omega arith)
length-encoded_at text (c ∷ columns) zero d within = length-encoded_cons (text c) (map text columns)
length-encoded_at text (c ∷ columns) (suc at) d within = rw (suc-add at 1) (length-encoded_at text columns at d (omega arith))

-- the same fields, all of which are there
pub length-encoded_end : {X : Type 0} (text : X → List ℕ) (columns : List X) (at : ℕ) → length columns ≤ at → length (encoded (map text (drop at columns))) ≡ 0
length-encoded_end text columns at past = rw (drop_all at columns past) length-encoded_none

-- ---- a text that is to be an encoding, one field at a time

-- what a text that begins with one part, and then with another, has behind both
pub behind_both : (text part field middle : List ℕ) (r : Option (Bor (List ℕ))) → text ≡ part ++ middle
    → MatchOption r ((rest : List ℕ) → middle ≢ field ++ rest) (λ rest. middle ≡ field ++ rest.now)
    → MatchOption r ((rest : List ℕ) → text ≢ (part ++ field) ++ rest) (λ rest. text ≡ (part ++ field) ++ rest.now)
behind_both text part field middle None begins is = λ rest same. is rest (append_cancel_left part middle (field ++ rest) (sym begins ∙ same ∙ append_assoc part field rest))
behind_both text part field middle (Some rest) begins is = begins ∙ ap (λ m. part ++ m) is ∙ sym (append_assoc part field rest.now)

-- a text that does not begin with a part does not begin with more
pub not_more : (text part field : List ℕ) → ((rest : List ℕ) → text ≢ part ++ rest) → (rest : List ℕ) → text ≢ (part ++ field) ++ rest
not_more text part field other rest same = other (field ++ rest) (same ∙ append_assoc part field rest)

-- the first field from a place on, and those behind it
pub encoded_at : {X : Type 0} (text : X → List ℕ) (columns : List X) (at : ℕ) (d : X) → at < length columns
    → encoded (map text (drop at columns)) ≡ encoded_field (text (get_or columns at d)) ++ encoded (map text (drop (at + 1) columns))
unfolding encoded
encoded_at text [] at d within = absurd (omega arith)
encoded_at text (c ∷ columns) zero d within = refl
encoded_at text (c ∷ columns) (suc at) d within = rw (suc-add at 1) (encoded_at text columns at d (omega arith))

-- behind the last field there is nothing
pub encoded_end : {X : Type 0} (text : X → List ℕ) (columns : List X) (at : ℕ) → length columns ≤ at → encoded (map text (drop at columns)) ≡ []
unfolding encoded
encoded_end text columns at past = rw (drop_all at columns past) refl

same_byte : (b : ℕ) → nat_eq b b ≡ true
same_byte b = grind (arith, nat_tests)

-- texts that begin alike are equal where the rest of them is
pub bytes_eq-behind : (front xs ys : List ℕ) → bytes_eq (front ++ xs) (front ++ ys) ≡ bytes_eq xs ys
bytes_eq-behind [] xs ys = refl
bytes_eq-behind (b ∷ front) xs ys = rw (same_byte b) (bytes_eq-behind front xs ys)

-- a text that does not begin with a part is none that does
pub bytes_eq-other : (front xs text : List ℕ) → ((rest : List ℕ) → text ≢ front ++ rest) → bytes_eq (front ++ xs) text ≡ false
bytes_eq-other front xs text other = by (bytes_eq (front ++ xs) text) refl
  where
    by : (b : Bool) → bytes_eq (front ++ xs) text ≡ b → b ≡ false
    by true same = absurd (other xs (sym ((bytes_eq-Decides (front ++ xs) text).0 same)))
    by false same = refl

pub bytes_eq-empty : (text : List ℕ) → nat_eq (length text) 0 ≡ bytes_eq [] text
bytes_eq-empty [] = refl
bytes_eq-empty (b ∷ text) = eqb-suc-zero (length text)
