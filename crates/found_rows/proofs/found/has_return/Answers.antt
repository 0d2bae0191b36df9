use Rattle.std.proofs.Common.{◌≡◌, ◌∙◌, ℕ, List, false, Option, None, Some, refl, sym, arith}
use Rattle.std.specs.Prelude.{is_some}
use Rattle.std.proofs.lemmas.Bool.{eq-eqb, eqb-true}
use Rattle.csv_rows.specs.Plain.{NoReturn}
use Rattle.memchr.specs.Find.{IsFirstByte, is_byte}
use Rattle.found_rows.proofs.found.has_return.Goals as goal

no-return : (text : List ℕ) (found : Option ℕ) → IsFirstByte (is_byte 13) text found → is_some found ≡ false → NoReturn text
no-return text None h none = λ k lt is. h k (omega arith) lt (eq-eqb _ 13 is)
no-return text (Some at) h none = absurd (cc none)

none-found : (text : List ℕ) (found : Option ℕ) → IsFirstByte (is_byte 13) text found → NoReturn text → is_some found ≡ false
none-found text None h none = refl
none-found text (Some at) h none = absurd (none at h.0.high (eqb-true _ 13 h.1))

pub returns : goal.returns
returns c =
    let text = c.args.text.now in
    let found = c.memchr.result in
    (λ none. no-return text found c.memchr.ensures (sym c.is_some.ensures ∙ none), λ lines. c.is_some.ensures ∙ none-found text found c.memchr.ensures lines)
