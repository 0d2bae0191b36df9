-- Texts after others.
use Rattle.std.proofs.Common.{◌≡◌, ◌++◌, ◌∷◌, ◌∙◌, [], ℕ, Bool, List, Option, ap, append-nil, append_assoc, codes, cond, sym}
use Rattle.std.proofs.lemmas.Grind.{flat_map-append}
use Rattle.state_file.specs.Text.{text_bytes}
use Rattle.state_partial.specs.Words.{filters_of, reading_texts, text_after}

-- one text
pub one_text : (texts text : List ℕ) → texts ++ text_bytes text ≡ texts ++ filters_of (text ∷ [])
one_text texts text = ap (λ (l : List ℕ). texts ++ l) (sym (append-nil (text_bytes text)))

filters_after : (a b : List (List ℕ)) → filters_of a ++ filters_of b ≡ filters_of (a ++ b)
filters_after a b = sym (flat_map-append text_bytes a b)

abbrev mark_of : Bool → List (List ℕ)
mark_of trim = cond trim (codes "=trim" ∷ []) []

-- those that say how fields are read, one after another
pub three_texts : (texts parted emptied : List ℕ) (separator nulls : Option (List ℕ)) (trim : Bool) → parted ≡ texts ++ filters_of (text_after (codes "=separator=") separator)
    → emptied ≡ parted ++ filters_of (text_after (codes "=null=") nulls) → emptied ++ filters_of (mark_of trim) ≡ texts ++ filters_of (reading_texts separator nulls trim)
three_texts texts parted emptied separator nulls trim one two =
    let a = text_after (codes "=separator=") separator in
    let b = text_after (codes "=null=") nulls in
    let m = mark_of trim in
    ap (λ (l : List ℕ). l ++ filters_of m) (two ∙ ap (λ (l : List ℕ). l ++ filters_of b) one)
    ∙ (ap (λ (l : List ℕ). l ++ filters_of m) (append_assoc texts (filters_of a) (filters_of b))
    ∙ (append_assoc texts (filters_of a ++ filters_of b) (filters_of m)
    ∙ ap (λ (l : List ℕ). texts ++ l) (append_assoc (filters_of a) (filters_of b) (filters_of m) ∙ (ap (λ (l : List ℕ). filters_of a ++ l) (filters_after b m) ∙ filters_after a (b ++ m)))))
