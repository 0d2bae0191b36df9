-- Bytes that are written as they are.
use Rattle.std.proofs.Common.{◌≡◌, ◌∷◌, [], Bool, ℕ, List, true, false, refl, true≢false}
use Rattle.std.specs.Prelude.{◌==◌, ◌||◌, if◌then◌else◌, nat_lt}
use Rattle.table_form.specs.Json.{is_json_special, json_byte, json_control}
use Rattle.table_form.specs.Tsv.{is_tsv_special, tsv_byte}

four-by : (p q r s : Bool) (a b c d e : List ℕ) → (p || (q || (r || s))) ≡ false → (if p then a else (if q then b else (if r then c else (if s then d else e)))) ≡ e
four-by true q r s a b c d e h = absurd (true≢false h)
four-by false true r s a b c d e h = absurd (true≢false h)
four-by false false true s a b c d e h = absurd (true≢false h)
four-by false false false true a b c d e h = absurd (true≢false h)
four-by false false false false a b c d e h = refl

pub tsv-plain : (byte : ℕ) → is_tsv_special byte ≡ false → tsv_byte byte ≡ byte ∷ []
tsv-plain byte h = four-by (byte == 9) (byte == 10) (byte == 13) (byte == 92) _ _ _ _ (byte ∷ []) h

three-by : (p q r : Bool) (a b c d : List ℕ) → (r || (p || q)) ≡ false → (if p then a else (if q then b else (if r then c else d))) ≡ d
three-by p q true a b c d h = absurd (true≢false h)
three-by true q false a b c d h = absurd (true≢false h)
three-by false true false a b c d h = absurd (true≢false h)
three-by false false false a b c d h = refl

pub json-plain : (byte : ℕ) → is_json_special byte ≡ false → json_byte byte ≡ byte ∷ []
json-plain byte h = three-by (byte == 34) (byte == 92) (nat_lt byte 32) _ _ (json_control byte) (byte ∷ []) h
