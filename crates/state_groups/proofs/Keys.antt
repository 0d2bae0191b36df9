-- Keys that are encodings of fields, from their first field on.
use Rattle.std.proofs.Common.{◌≡◌, ◌<◌, ◌≤◌, ◌-◌, ◌^◌, ◌++◌, ◌∙◌, ℕ, suc, List, [], ◌∷◌, length, refl, ap, sym, arith, append_assoc, length-append}
use Rattle.std.specs.Int.{to_le_bytes, w32}
use Rattle.par_model.specs.Key.{encoded}
use Rattle.state_groups.specs.Group.{IsKey}

-- a key that begins with a field's length and the field
pub one_field : (columns : ℕ) (key after field rest : List ℕ) (size : ℕ) → 0 < columns → length key ≤ 248 → key ≡ to_le_bytes w32 size ++ after → after ≡ field ++ rest → length field ≡ size → IsKey (columns - 1) rest
    → IsKey columns key
unfolding encoded
one_field columns key after field rest size some short e f long k =
    let many = k.many in
    let more : suc (length k.fields) ≡ columns = omega arith in
    record {
      fields = field ∷ k.fields;
      many = more;
      is = e ∙ ap (λ (n : ℕ). to_le_bytes w32 n ++ after) (sym long) ∙ ap (λ (bs : List ℕ). to_le_bytes w32 (length field) ++ bs) (f ∙ ap (λ (bs : List ℕ). field ++ bs) k.is)
          ∙ sym (append_assoc (to_le_bytes w32 (length field)) field (encoded k.fields));
      short = short;
    }

-- the encoding of some fields: the first one, and the encoding of the others
pub record Splits (columns : ℕ) (key : List ℕ) : Type 0 where
  pub field : List ℕ
  pub more : List (List ℕ)
  pub many : length more ≡ columns - 1
  pub is : key ≡ to_le_bytes w32 (length field) ++ (field ++ encoded more)
  pub fits : length field < 2 ^ 32

pub splits : (columns : ℕ) (key : List ℕ) (fields : List (List ℕ)) → 0 < columns → length key ≤ 248 → length fields ≡ columns → key ≡ encoded fields → Splits columns key
unfolding encoded
splits columns key [] some short many e = absurd (omega arith)
splits columns key (field ∷ more) some short many e =
    let is : key ≡ to_le_bytes w32 (length field) ++ (field ++ encoded more) = e ∙ append_assoc (to_le_bytes w32 (length field)) field (encoded more) in
    record {
      field = field;
      more = more;
      many = omega arith;
      is = is;
      fits = inside key (to_le_bytes w32 (length field)) field (encoded more) short is;
    }
  where
    inside : (key a b c : List ℕ) → length key ≤ 248 → key ≡ a ++ (b ++ c) → length b < 2 ^ 32
    inside key a b c short e = omega (arith, ap (length {A = ℕ}) e, length-append a (b ++ c), length-append b c)

-- a key of no columns is empty
pub no_fields : (columns : ℕ) (key : List ℕ) (fields : List (List ℕ)) → columns ≡ 0 → length fields ≡ columns → key ≡ encoded fields → length key ≡ 0
unfolding encoded
no_fields columns key [] none many e = ap (length {A = ℕ}) e
no_fields columns key (field ∷ more) none many e = absurd (omega arith)

-- and empty bytes are one
pub empty_key : (columns : ℕ) (key : List ℕ) → columns ≡ 0 → length key ≡ 0 → IsKey columns key
unfolding encoded
empty_key columns [] none e = record { fields = []; many = sym none; is = refl; short = omega arith }
empty_key columns (b ∷ key) none e = absurd (omega arith)

-- what is after the first field is no longer
pub rest_short : (key size after field rest : List ℕ) → length key ≤ 248 → key ≡ size ++ after → after ≡ field ++ rest → length rest ≤ 248
rest_short key size after field rest short e f = omega (arith, ap (length {A = ℕ}) e, ap (length {A = ℕ}) f, length-append size after, length-append field rest)
