use Rattle.std.proofs.Common.{◌≡◌, ◌∙◌, ℕ, List, ap, map, subst}
use Rattle.csv_rows.specs.Readings.{IsSeparator, exchanged, records_in}
use Rattle.csv_rows.specs.declared.cleaning.Reading.{Reading}
use Rattle.stream_groups.proofs.ReadAs.{in_again}
use Rattle.stream_groups.proofs.filling.header_line.Goals as goal

pub returns : goal.returns
returns c =
    let reading = c.args.plan.now.reading in
    let text = c.args.window.now.header in
    let value = c.reading.ensures.value in
    let separator : c.reading.result.now.separator ≡ reading.separator = ap (λ (r : Reading). r.separator) value in
    let is : IsSeparator reading.separator = subst (λ (r : Reading). IsSeparator r.separator) value c.reading.ensures.separator in
    let same : c.exchanged_line.result.items ≡ map (exchanged reading.separator) text =
    c.exchanged_line.ensures
    ∙ (ap (λ (s : ℕ). map (exchanged s) c.in_ok-line.line.items) separator ∙ ap (λ (l : List ℕ). map (exchanged reading.separator) l) (c.in_ok-line.ensures.items ∙ c.header.ensures)) in
    ap (records_in reading) same ∙ in_again reading text is
