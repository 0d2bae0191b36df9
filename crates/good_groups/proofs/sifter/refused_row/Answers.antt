use Rattle.std.proofs.Common.{◌++◌, ◌∙◌, List, ℕ, ap, refl, string_bytes, subst}
use Rattle.csv_rows.specs.Readings.{IsSeparator, records_as}
use Rattle.csv_rows.specs.Records.{record_at}
use Rattle.csv_rows.specs.declared.cleaning.Reading.{Reading}
use Rattle.row_blocks.specs.Blocks.{Table}
use Rattle.stream_groups.specs.Said.{row_says}
use Rattle.good_groups.proofs.Rows.{line_says}
use Rattle.good_groups.proofs.sifter.refused_row.Goals as goal

pub returns : goal.returns
returns c = λ cut.
    let r = c.args.rules.now in
    let plan = r.plan.now.plan in
    let bound = r.bound.now in
    let so = c.reading-reading.ensures.value in
    let sep = subst (λ (q : Reading). IsSeparator q.separator) so c.reading-reading.ensures.separator in
    let header = c.find.ensures ∙ ap (λ (l : Table). record_at l 0) (c.in_ok-header.ensures ∙ ap (λ (q : Reading). records_as q r.header.now) so) in
    let fields = c.find-2.ensures ∙ ap (λ (l : Table). record_at l 0) (c.in_ok-fields.ensures ∙ ap (λ (q : Reading). records_as q c.args.line.now) so) in
    let says = c.in_ok-said.ensures ∙ ap (λ (h : List (List ℕ)). row_says plan bound h c.find-2.result c.args.why) header ∙ ap (λ (f : List (List ℕ)). row_says plan bound (record_at (records_as r.plan.now.reading r.header.now) 0) f c.args.why) fields in
    let said = c.in_ok-push_str.ensures.bytes ∙ ap (λ (t : List ℕ). string_bytes c.in_ok-said.said ++ t) c.as_str.ensures.value ∙ ap (λ (t : List ℕ). t ++ string_bytes c.in_ok-place.place.quote) says in
    line_says r c.args.line.now c.requires.begins c.requires.header cut c.requires.one c.args.row c.args.feeds c.args.why _ c.in_ok-place.place sep refl refl refl c.in_ok-header_line.ensures said c.in_ok-place.ensures
