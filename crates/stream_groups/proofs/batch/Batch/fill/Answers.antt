use Rattle.std.proofs.Common.{◌≡◌, ◌≤◌, ◌+◌, ◌∷◌, ◌∙◌, [], Bool, Err, List, false, true, ap, arith, length, length-append, refl, subst, sym}
use Rattle.std.specs.Prelude.{vec_len}
use Rattle.std.proofs.lemmas.Bool.{eqb-true}
use Rattle.std.specs.Global.{Vec}
use Rattle.row_windows.specs.Stretch.{Stretch}
use Rattle.stream_groups.specs.Begins.{lines_of}
use Rattle.stream_groups.specs.Reading.{AddsPiece, MeetsLong}
use Rattle.stream_groups.proofs.Batches.{first_long, long_filled, no_items, none_filled, one_filled}
use Rattle.stream_groups.proofs.Before.{fills_more, fills_none, lost_batch}
use Rattle.stream_groups.proofs.Takes.{takes_none, takes_then}
use Rattle.stream_groups.proofs.Feeds.{feeds_none}
use Rattle.stream_groups.proofs.batch.Batch.fill.Goals as goal
use Rattle.stream_groups.proofs.batch.Batch.fill.Goals.{else-bytes-size-via-then-bytes-size+else-not-is_empty, else-bytes-size-via-else-bytes-size}

pub loop-at-init : goal.loop-at-init
loop-at-init g c =
    let none = ap (λ (v : Vec Stretch). v.items) c.replace-spares.ensures.after ∙ c.new.ensures.items in
    record {
      filled = none_filled (g.S.Source.left c.args.source.now) c.args.self.now.next c.args.self.now.before
          (record { pieces = c.replace-spares.new.dest; next = c.args.self.now.next; before = c.args.self.now.before; feeds = c.args.self.now.feeds }) none refl c.requires.lines refl c.requires.start (omega (arith, c.requires.start, c.requires.few));
      few = omega (arith, ap length none);
      none = λ _. refl;
      reads = fills_none (g.S.Source.left c.args.source.now) c.args.self.now.next.rest c.replace-spares.new.dest.items none;
      rest = λ _. refl;
      faults = omega arith;
      taken = takes_none (g.S.Source.left c.args.source.now) (g.S.Source.faults c.args.source.now) c.args.taken.now;
    }

pub returns-in-Ok-true-clause-filled : goal.returns-in-Ok-true-clause-filled
returns-in-Ok-true-clause-filled g c =
    let old = g.S.Source.left c.args.source.now in
    let mid = g.S.Source.left c.loop-at.source in
    let new = g.S.Source.left c.add_piece.new.source in
    let b = c.loop-at.self in
    let now = c.add_piece.new.self in
    let a : AddsPiece mid new b now true = subst (λ (last : Bool). AddsPiece mid new b now last) c.in-Ok-true.field-0-test c.in-Ok-true.ensures.added in
    let few : length now.pieces.items ≤ 64 = omega (arith, ap length a.pieces, length-append b.pieces.items (a.piece ∷ []), c.loop-at.invariant.few, c.loop-at-test.true) in
    one_filled old mid new c.args.self.now.next c.args.self.now.before b now c.loop-at.invariant.filled true few a

pub returns-in-Err-LongRecord-clause-filled : goal.returns-in-Err-LongRecord-clause-filled
returns-in-Err-LongRecord-clause-filled g c =
    let old = g.S.Source.left c.args.source.now in
    let mid = g.S.Source.left c.loop-at.source in
    let new = g.S.Source.left c.add_piece.new.source in
    long_filled old mid new c.args.self.now.next c.args.self.now.before c.loop-at.self c.add_piece.new.self c.loop-at.invariant.filled (c.in-Err-LongRecord.ensures.long (ap Err c.in-Err-LongRecord.field-0-is))

none_of : (ws : List Stretch) → length ws ≡ 0 → ws ≡ []
none_of [] e = refl
none_of (w ∷ ws) e = absurd (omega (arith, e))

pub returns-in-Ok-true-clause-taken : goal.returns-in-Ok-true-clause-taken
returns-in-Ok-true-clause-taken g c = takes_then (g.S.Source.left c.args.source.now) (g.S.Source.left c.loop-at.source) (g.S.Source.left c.add_piece.new.source) (g.S.Source.faults c.args.source.now) (g.S.Source.faults c.loop-at.source) (g.S.Source.faults c.add_piece.new.source) c.args.taken.now c.loop-at.taken c.add_piece.new.taken
    c.loop-at.invariant.taken c.add_piece.ensures.taken

-- if there are no windows, the record that is too long comes first
pub returns-then-is_empty-clause-feeds : goal.returns-then-is_empty-clause-feeds
returns-then-is_empty-clause-feeds g c =
    let mid = g.S.Source.left c.loop-at.source in
    let new = g.S.Source.left c.add_piece.new.source in
    let b = c.loop-at.self in
    let now = c.add_piece.new.self in
    let m : MeetsLong mid new b now = c.in-Err-LongRecord.ensures.long (ap Err c.in-Err-LongRecord.field-0-is) in
    let zero : vec_len now.pieces ≡ 0 = eqb-true (vec_len now.pieces) 0 (sym c.is_empty-in-Err-LongRecord.ensures ∙ c.if-is_empty.true) in
    let none : b.pieces.items ≡ [] = no_items b now m.pieces (none_of now.pieces.items (sym now.pieces.ok.0 ∙ zero)) in
    λ _. omega (arith, m.feeds, c.loop-at.invariant.filled.counted, feeds_none b.pieces.items none, c.requires.start)

pub returns-then-is_empty-clause-why : goal.returns-then-is_empty-clause-why
returns-then-is_empty-clause-why g c =
    let old = g.S.Source.left c.args.source.now in
    let mid = g.S.Source.left c.loop-at.source in
    let new = g.S.Source.left c.add_piece.new.source in
    let b = c.loop-at.self in
    let now = c.add_piece.new.self in
    let m : MeetsLong mid new b now = c.in-Err-LongRecord.ensures.long (ap Err c.in-Err-LongRecord.field-0-is) in
    let zero : vec_len now.pieces ≡ 0 = eqb-true (vec_len now.pieces) 0 (sym c.is_empty-in-Err-LongRecord.ensures ∙ c.if-is_empty.true) in
    let none : b.pieces.items ≡ [] = no_items b now m.pieces (none_of now.pieces.items (sym now.pieces.ok.0 ∙ zero)) in
    first_long old mid new c.args.self.now.next c.args.self.now.before b now c.loop-at.invariant.filled (c.loop-at.invariant.none none) (c.loop-at.invariant.rest none) m

pub loop-at-preserved : goal.loop-at-preserved
loop-at-preserved g c =
    let old = g.S.Source.left c.args.source.now in
    let mid = g.S.Source.left c.loop-at.source in
    let new = g.S.Source.left c.add_piece.new.source in
    let b = c.loop-at.self in
    let now = c.add_piece.new.self in
    let a : AddsPiece mid new b now false = subst (λ (last : Bool). AddsPiece mid new b now last) c.in-Ok-false.field-0-test c.in-Ok-false.ensures.added in
    let size : length now.pieces.items ≡ length b.pieces.items + 1 = omega (arith, ap length a.pieces, length-append b.pieces.items (a.piece ∷ [])) in
    let few : length now.pieces.items ≤ 64 = omega (arith, size, c.loop-at.invariant.few, c.loop-at-test.true) in
    record {
      filled = one_filled old mid new c.args.self.now.next c.args.self.now.before b now c.loop-at.invariant.filled false few a;
      few = omega (arith, size, c.loop-at.invariant.few);
      none = λ e. absurd (omega (arith, size, ap length e));
      reads = fills_more old mid new c.args.self.now.next.rest b now false c.loop-at.invariant.reads a;
      rest = λ e. absurd (omega (arith, size, ap length e));
      faults = omega (arith, c.loop-at.invariant.faults, c.add_piece.ensures.faults);
      taken = takes_then (g.S.Source.left c.args.source.now) (g.S.Source.left c.loop-at.source) (g.S.Source.left c.add_piece.new.source) (g.S.Source.faults c.args.source.now) (g.S.Source.faults c.loop-at.source) (g.S.Source.faults c.add_piece.new.source) c.args.taken.now c.loop-at.taken c.add_piece.new.taken
          c.loop-at.invariant.taken c.add_piece.ensures.taken;
    }

-- ---- what the source gave

pub returns-then-is_empty-clause-taken : goal.returns-then-is_empty-clause-taken
returns-then-is_empty-clause-taken g c =
    takes_then (g.S.Source.left c.args.source.now) (g.S.Source.left c.loop-at.source) (g.S.Source.left c.add_piece.new.source) (g.S.Source.faults c.args.source.now) (g.S.Source.faults c.loop-at.source) (g.S.Source.faults c.add_piece.new.source) c.args.taken.now c.loop-at.taken c.add_piece.new.taken
    c.loop-at.invariant.taken c.add_piece.ensures.taken

pub returns-in-Err-LongRecord-clause-taken : goal.returns-in-Err-LongRecord-clause-taken
returns-in-Err-LongRecord-clause-taken g c =
    takes_then (g.S.Source.left c.args.source.now) (g.S.Source.left c.loop-at.source) (g.S.Source.left c.add_piece.new.source) (g.S.Source.faults c.args.source.now) (g.S.Source.faults c.loop-at.source) (g.S.Source.faults c.add_piece.new.source) c.args.taken.now c.loop-at.taken c.add_piece.new.taken
    c.loop-at.invariant.taken c.add_piece.ensures.taken

-- a read failed: the batch had fewer bytes than it is to have, or no window
pub returns-in-Err-clause-lost : goal.returns-in-Err-clause-lost
returns-in-Err-clause-lost g c = λ e.
    let old = g.S.Source.left c.args.source.now in
    let mid = g.S.Source.left c.loop-at.source in
    let new = g.S.Source.left c.add_piece.new.source in
    let b = c.loop-at.self in
    let few : length (lines_of b.pieces.items) ≤ c.args.size = elim c.else-bytes-size.branch [
      | else-bytes-size-via-then-bytes-size+else-not-is_empty w ↦
          let zero : vec_len b.pieces ≡ 0 = eqb-true (vec_len b.pieces) 0 (sym w.is_empty.ensures ∙ w.if-not-is_empty.false) in
          let none : b.pieces.items ≡ [] = none_of b.pieces.items (sym b.pieces.ok.0 ∙ zero) in
          omega (arith, ap (λ (ps : List Stretch). length (lines_of ps)) none)
      | else-bytes-size-via-else-bytes-size w ↦ omega (arith, c.bytes.ensures, w.if-bytes-size.false, c.ranges.size.fits)
    ] in
    lost_batch old mid new c.args.self.now.next.rest (lines_of b.pieces.items) b.next c.args.size c.loop-at.invariant.reads (c.in-Err.ensures.lost e) few

pub returns-in-Err-clause-taken : goal.returns-in-Err-clause-taken
returns-in-Err-clause-taken g c =
    takes_then (g.S.Source.left c.args.source.now) (g.S.Source.left c.loop-at.source) (g.S.Source.left c.add_piece.new.source) (g.S.Source.faults c.args.source.now) (g.S.Source.faults c.loop-at.source) (g.S.Source.faults c.add_piece.new.source) c.args.taken.now c.loop-at.taken c.add_piece.new.taken
    c.loop-at.invariant.taken c.add_piece.ensures.taken
