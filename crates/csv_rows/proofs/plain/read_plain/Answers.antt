use Rattle.std.proofs.Common.{◌≡◌, ◌∙◌, ℕ, List, false, Option, None, Some, sym, ap, arith, rules}
use Rattle.std.specs.Prelude.{is_some}
use Rattle.std.proofs.lemmas.Bool.{eq-eqb}
use Rattle.csv.specs.Reading.{default_config, records}
use Rattle.csv_rows.specs.Places.{NoQuote}
use Rattle.csv_rows.specs.Plain.{plain_records}
use Rattle.csv_rows.specs.Records.{records_of}
use Rattle.csv_rows.proofs.Unquoted.{plain-records}
use Rattle.memchr.specs.Find.{IsFirstByte, is_byte}
use Rattle.csv_rows.proofs.plain.read_plain.Goals as goal
use Rattle.csv_rows.proofs.plain.read_plain.Goals.{After-read_lines}

no-quote : (text : List ℕ) (found : Option ℕ) → IsFirstByte (is_byte 34) text found → is_some found ≡ false → NoQuote text
no-quote text None h none = λ k lt is. h k (omega arith) lt (eq-eqb _ 34 is)
no-quote text (Some at) h none = absurd (cc none)

-- what was read are the records of the bytes
same : (c : After-read_lines) → plain_records c.without_back.result.now ≡ records_of c.args.bytes.now
same c =
    let text = c.without_mark-text.result.now in
    let none : is_some c.memchr.result ≡ false = search rules in
    let all = plain-records text (no-quote text c.memchr.result c.memchr.ensures none) in
    c.without_back.ensures ∙ c.without_front.ensures ∙ sym all ∙ ap (λ (t : List ℕ). records default_config t) c.without_mark-text.ensures.text

pub returns-clause-records : goal.returns-clause-records
returns-clause-records c = rw (same c) at c.read_lines.ensures.records

pub returns-clause-some : goal.returns-clause-some
returns-clause-some c = rw (same c) at c.read_lines.ensures.some

pub returns-clause-few : goal.returns-clause-few
returns-clause-few c = rw (same c) at c.read_lines.ensures.few

pub returns-clause-too_many : goal.returns-clause-too_many
returns-clause-too_many c = rw (same c) at c.read_lines.ensures.too_many
