use Rattle.std.proofs.Common.{◌≡◌, ◌+◌, ◌++◌, ◌∷◌, ◌∙◌, [], ℕ, List, ap, refl, subst}
use Rattle.row_windows.specs.Stretch.{Stretch}
use Rattle.row_windows.specs.declared.window.WindowAnswer.TheVariants as answer
use Rattle.text_lines.specs.Feeds.{count_feeds}
use Rattle.stream_groups.specs.Reading.{IsNotFilled}
use Rattle.stream_groups.proofs.batch.Batch.add_piece.Goals as goal

pub returns-clause-added : goal.returns-clause-added
returns-clause-added g c =
    let was = c.args.self.now in
    let piece = c.fill.new.window in
    let e = c.in-Ok.ensures in
    let follows = c.in-Ok-follow.ensures in
    let next = c.replace-piece.ensures.after in
    let taken = c.replace-piece.result in
    let kept : c.push.new.self.items ≡ was.pieces.items ++ taken ∷ [] = c.in-Ok-push.ensures.items in
    let all : c.push.new.self.items ≡ was.pieces.items ++ piece ∷ [] = subst (λ (w : Stretch). c.push.new.self.items ≡ was.pieces.items ++ w ∷ []) c.replace-piece.ensures.value kept in
    record {
      piece = piece;
      pieces = all;
      filled = e.filled;
      like = record { header = ap (λ (w : Stretch). w.header) next ∙ follows.header; reading = ap (λ (w : Stretch). w.reading) next ∙ follows.reading };
      lines = ap (λ (w : Stretch). w.lines) next ∙ follows.lines;
      rest = ap (λ (w : Stretch). w.rest) next ∙ follows.rest;
      before = refl;
      feeds = c.in-Ok-more_feeds.ensures.more ∙ ap (λ (l : List ℕ). was.feeds + count_feeds l) c.lines.ensures;
      few = c.in-Ok-more_feeds.ensures.few;
    }

pub returns-in-Err-clause-long : goal.returns-in-Err-clause-long
returns-in-Err-clause-long g c = λ e.
    let is : c.in-Err.why ≡ answer.LongRecord = cc e in
    let next = subst (IsNotFilled (g.S.Source.left c.args.source.now) (g.S.Source.left c.fill.new.source) (g.S.Source.faults c.args.source.now) (g.S.Source.faults c.fill.new.source) c.args.self.now.next c.fill.new.window) is c.in-Err.ensures.why in
    record { pieces = refl; next = next; before = refl; feeds = refl }

pub returns-in-Err-clause-read_fault : goal.returns-in-Err-clause-read_fault
returns-in-Err-clause-read_fault g c = λ e.
    let is : c.in-Err.why ≡ answer.ReadFault = cc e in
    subst (IsNotFilled (g.S.Source.left c.args.source.now) (g.S.Source.left c.fill.new.source) (g.S.Source.faults c.args.source.now) (g.S.Source.faults c.fill.new.source) c.args.self.now.next c.fill.new.window) is c.in-Err.ensures.why
