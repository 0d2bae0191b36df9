use Rattle.std.proofs.Common.{◌≡◌, ℕ, List, true, map, ap, sym, ◌∙◌}
use Rattle.csv_rows.specs.Readings.{cleaned, keeps_all}
use Rattle.csv_rows.proofs.Cleaned.{cleaned-count, cleaned-stored, kept-all}
use Rattle.csv_rows.proofs.Gaps.{apart-rising}
use Rattle.csv_rows.proofs.piece.Piece.cleaned.Goals as goal

pub returns-then-keeps_all : goal.returns-then-keeps_all
returns-then-keeps_all c =
    let keeps : keeps_all c.args.reading.now ≡ true = sym c.keeps_all.ensures ∙ c.if-keeps_all.true in
    sym (kept-all c.args.reading.now c.args.self keeps)

pub cleaned_fields-requires : goal.cleaned_fields-requires
cleaned_fields-requires c = c.self.invariant.fields

pub of_lists-requires-clause-fields : goal.of_lists-requires-clause-fields
of_lists-requires-clause-fields c = apart-rising 0 _ _ c.in_ok-texts.ensures.covers.0

pub of_lists-requires-clause-rows : goal.of_lists-requires-clause-rows
of_lists-requires-clause-rows c =
    rw (cleaned-count (cleaned c.args.reading.now) _ _ _ _ _ c.in_ok-texts.ensures.fields) c.self.invariant.rows

pub returns : goal.returns
returns c =
    let s = c.self.inside in
    c.of_lists.ensures
    ∙ (cleaned-stored (cleaned c.args.reading.now) s.gap s.bytes.items s.ends.items s.row_ends _ _ c.in_ok-texts.ensures.fields ∙ ap (λ (rs : List (List (List ℕ))). map (map (cleaned c.args.reading.now)) rs) c.self.view_is)
