use Rattle.std.proofs.Common.{◌≡◌, ◌∙◌, false, inl, inr, sym, arith, slice_index, true}
use Rattle.csv_rows.specs.declared.place.Place.TheVariants as place
use Rattle.csv_rows.proofs.Scans.{place-none}
use Rattle.row_windows.specs.Seams.{is_line_end}
use Rattle.row_windows.proofs.InFront.{all-more, none-more}
use Rattle.row_windows.proofs.Later.{not-not-quoted}
use Rattle.row_windows.proofs.QuoteScans.{one-more}
use Rattle.row_windows.proofs.header.first_end.Goals as goal
use Rattle.row_windows.proofs.header.first_end.Goals.{else-begun-via-else-begun, else-begun-via-then-begun+else-ne, else-not-ends_line+else-begun, then-not-ends_line}

pub bytes-init : goal.bytes-init
bytes-init c = record { here = sym (place-none place.Opens); behind = λ h. cc h; before = λ _ at lt. absurd (omega (arith, lt)); none = λ at lt. absurd (omega (arith, lt)) }

pub bytes-preserved : goal.bytes-preserved
bytes-preserved c =
    let text = c.args.text.now in
    let at = c.bytes.at in
    let inv = c.bytes.invariant in
    let here = rw inv.here at c.scanned-place.ensures in
    record {
      here = here ∙ one-more place.Opens text at;
      behind = λ h. elim c.if-not-ends_line.branch [
        | then-not-ends_line w ↦ let other : is_line_end (slice_index text at) ≡ false = sym c.ends_line.ensures ∙ w.if-not-ends_line.true in record { at = at; below = omega arith; other = other }
        | else-not-ends_line+else-begun w ↦ let old = inv.behind (sym w.begun-is ∙ h) in record { at = old.at; below = omega (arith, old.below); other = old.other }
      ];
      before = λ h. elim c.if-not-ends_line.branch [
        | then-not-ends_line w ↦ let bad : true ≡ false = sym w.begun-is ∙ h in cc bad
        | else-not-ends_line+else-begun w ↦ all-more text at (inv.before (sym w.begun-is ∙ h)) (sym c.ends_line.ensures ∙ w.if-not-ends_line.false)
      ];
      none = none-more text at inv.none (λ line. elim c.if-not-ends_line.branch [
        | then-not-ends_line w ↦ let bad : true ≡ false = sym line ∙ (sym c.ends_line.ensures ∙ w.if-not-ends_line.true) in cc bad
        | else-not-ends_line+else-begun w ↦ elim w.else-begun.branch [
          | else-begun-via-then-begun+else-ne w' ↦ inl (sym inv.here ∙ not-not-quoted c.bytes.place (sym w'.ne.ensures ∙ w'.if-ne.false))
          | else-begun-via-else-begun w' ↦ inr (inv.before w'.if-begun.false)
        ]
      ]);
    }
