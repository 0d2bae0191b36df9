use Rattle.std.proofs.Common.{◌≡◌, ◌++◌, ◌∙◌, ℕ, zero, suc, List, ap, append_assoc, codes, decimal, refl, string_bytes}
use Rattle.shown_text.specs.Number.{kind_text}
use Rattle.shown_text.proofs.number.put_kind.Goals as goal

-- a number of places other than 0 and 1
many : (places : ℕ) → (places ≡ 0 → ⊥) → (places ≡ 1 → ⊥) → kind_text places ≡ codes " is not a decimal with at most " ++ (decimal places ++ codes " places: ")
many zero none one = absurd (none refl)
many (suc zero) none one = absurd (one refl)
many (suc (suc places)) none one = refl

-- three texts, one after the other
after_three : (front a b c x y z : List ℕ) → x ≡ front ++ a → y ≡ x ++ b → z ≡ y ++ c → z ≡ front ++ (a ++ (b ++ c))
after_three front a b c x y z first second third = third ∙ ap (λ l. l ++ c) (second ∙ ap (λ l. l ++ b) first) ∙ append_assoc (front ++ a) b c ∙ append_assoc front a (b ++ c)

pub returns : goal.returns
returns c = rw (many c.args.places c.if-places-eq0.false c.if-places-eq1.false)
    (after_three (string_bytes c.args.text.now) (codes " is not a decimal with at most ") (decimal c.args.places) (codes " places: ") (string_bytes c.push_str-2.new.self) (string_bytes c.put_number.new.text) (string_bytes c.push_str-3.new.self)
    c.in_ok-push_str.ensures.bytes c.in_ok-put_number.ensures c.in_ok-push_str-2.ensures.bytes)
