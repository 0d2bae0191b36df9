use Rattle.std.proofs.Common.{◌≡◌, ◌∙◌, ap, arith, length, slice_index, subst, sym, take, true}
use Rattle.csv_rows.specs.Places.{place_after}
use Rattle.csv_rows.proofs.Scans.{place-none}
use Rattle.row_windows.proofs.Later.{not-not-quoted}
use Rattle.row_windows.proofs.QuoteScans.{one-more}
use Rattle.row_windows.specs.Seams.{is_line_end}
use Rattle.tile_source.specs.Scan.{is_seam}
use Rattle.tile_source.proofs.Scans.{no-line, no-outside, none-more, outside-by, seam-is}
use Rattle.tile_source.proofs.cut.first_seam.Goals as goal
use Rattle.tile_source.proofs.cut.first_seam.Goals.{else-ne-via-else-ne, else-ne-via-then-ne+else-ends_line}

pub bytes-init : goal.bytes-init
bytes-init c = record { here = sym (place-none c.args.start); none = λ k lt. absurd (omega (arith, lt)) }

pub bytes-preserved : goal.bytes-preserved
bytes-preserved c =
    let bytes = c.args.bytes.now in
    let inv = c.bytes.invariant in
    let here = rw inv.here at c.scanned-place.ensures in
    record {
      here = here ∙ one-more c.args.start bytes c.bytes.at;
      none = none-more c.args.start bytes c.bytes.at inv.none (elim c.else-ne.branch [
        | else-ne-via-then-ne+else-ends_line w ↦ no-line (place_after c.args.start (take c.bytes.at bytes)) (slice_index bytes c.bytes.at) (sym w.ends_line.ensures ∙ w.if-ends_line.false)
        | else-ne-via-else-ne w ↦ no-outside (place_after c.args.start (take c.bytes.at bytes)) (slice_index bytes c.bytes.at) (sym inv.here ∙ not-not-quoted c.bytes.place (sym c.ne.ensures ∙ w.if-ne.false))
      ]);
    }

pub returns-then-ends_line-clause-first : goal.returns-then-ends_line-clause-first
returns-then-ends_line-clause-first c =
    let bytes = c.args.bytes.now in
    let inv = c.bytes.invariant in
    let at = c.bytes.at in
    let line : is_line_end (slice_index bytes at) ≡ true = sym c.ends_line.ensures ∙ c.if-ends_line.true in
    let outside = outside-by c.bytes.place (sym c.ne.ensures ∙ c.if-ne.true) in
    record {
      within = omega (arith, c.bytes-test.true);
      before = inv.none;
      seam = λ _. subst (λ p. is_seam p (slice_index bytes at) ≡ true) inv.here (seam-is c.bytes.place (slice_index bytes at) line outside);
    }

pub returns-then-ends_line-clause-place : goal.returns-then-ends_line-clause-place
returns-then-ends_line-clause-place c = c.bytes.invariant.here

pub returns-clause-first : goal.returns-clause-first
returns-clause-first c = record {
  within = omega arith;
  before = λ k lt. c.bytes.invariant.none k (omega (arith, c.bytes-test.false, lt));
  seam = λ lt. absurd (omega (arith, lt));
}

pub returns-clause-place : goal.returns-clause-place
returns-clause-place c =
    let all : c.bytes.at ≡ length c.args.bytes.now = omega (arith, c.bytes-test.false, c.bytes.auto.at-end) in
    c.bytes.invariant.here ∙ ap (λ n. place_after c.args.start (take n c.args.bytes.now)) all
