use Rattle.std.proofs.Common.{◌≡◌, ◌<◌, ◌+◌, ◌-◌, ◌*◌, ◌∙◌, ℕ, List, IfOk, Result, ap, arith, drop, get_or, length, min, subst, sym, take}
use Rattle.std.proofs.lemmas.List.Elements.{All-drop, All-take}
use Rattle.std.specs.Global.{Vec}
use Rattle.std.specs.declared.alloc.AllocError.{AllocError}
use Rattle.answer_text.specs.Held.{Puts}
use Rattle.answer_text.proofs.Going.{puts-none, puts-then}
use Rattle.answer_text.proofs.RowLines.{text-none}
use Rattle.answer_text.proofs.Joined.{lines_text, range-more, range_is, ranges-all}
use Rattle.answer_text.proofs.lines.put_parts.Goals as goal

pub loop-at-init : goal.loop-at-init
loop-at-init g c =
    let Text : List ℕ → Type 0 = Puts g.O.Sink.taken g.O.Sink.faults c.args.out.now c.args.out.now c.args.held.now c.args.held.now in
    subst Text (sym text-none) (puts-none g.O.Sink.taken g.O.Sink.faults c.args.out.now c.args.held.now)

pub put_part-requires-clause-fits : goal.put_part-requires-clause-fits
put_part-requires-clause-fits g c =
    let fits = g.L.Lines.fits c.args.lines.now in
    let start = c.loop-at.at * 16384 in
    λ κs bounds. All-take fits _ (drop start c.args.items.now) (All-drop fits start c.args.items.now c.requires.fits)

-- the part has the text of its range
pub put_part-requires-clause-text : goal.put_part-requires-clause-text
put_part-requires-clause-text g c =
    let f = g.L.Lines.record_of c.args.lines.now in
    let items = c.args.items.now in
    let at = c.loop-at.at in
    let part = c.index-parts-at.result in
    let start = at * 16384 in
    let cut = ap (λ (n : ℕ). take (start + n - start) (drop start items)) c.min.ensures ∙ range_is 16384 start items in
    let its : IfOk part (λ text. text.items ≡ lines_text f (take 16384 (drop start items))) =
    subst (λ (p : Result (Vec ℕ) AllocError). IfOk p (λ text. text.items ≡ lines_text f (take 16384 (drop start items)))) (sym c.index-parts-at.is) (c.requires.parts.each at part (omega (arith, c.loop-at-test.true))) in
    λ κs bounds. subst (λ range. IfOk part (λ text. text.items ≡ lines_text f range)) (sym cut) its

pub loop-at-preserved : goal.loop-at-preserved
loop-at-preserved g c =
    let f = g.L.Lines.record_of c.args.lines.now in
    let items = c.args.items.now in
    let start = c.loop-at.at * 16384 in
    let taken = g.O.Sink.taken in
    let faults = g.O.Sink.faults in
    let Text : List ℕ → Type 0 = Puts taken faults c.args.out.now c.put_part.new.out c.args.held.now c.put_part.new.held in
    let cut = ap (λ (n : ℕ). take (start + n - start) (drop start items)) c.min.ensures ∙ range_is 16384 start items in
    let next : start + 16384 ≡ (c.loop-at.at + 1) * 16384 = omega arith in
    subst Text (range-more f items start 16384 ∙ ap (λ (n : ℕ). lines_text f (take n items)) next)
    (puts-then taken faults c.args.out.now c.loop-at.out c.put_part.new.out c.args.held.now c.loop-at.held c.put_part.new.held (lines_text f (take start items)) (lines_text f (take 16384 (drop start items))) c.loop-at.invariant
    (subst (λ range. Puts taken faults c.loop-at.out c.put_part.new.out c.loop-at.held c.put_part.new.held (lines_text f range)) cut c.put_part.ensures))

pub returns : goal.returns
returns g c =
    let items = c.args.items.now in
    let count = c.requires.parts.count in
    let Text : List ℕ → Type 0 = Puts g.O.Sink.taken g.O.Sink.faults c.args.out.now c.loop-at.out c.args.held.now c.loop-at.held in
    let last : c.loop-at.at ≡ length c.args.parts.now = omega (arith, c.loop-at-test.false, c.loop-at.auto) in
    subst Text (ap (λ (n : ℕ). lines_text (g.L.Lines.record_of c.args.lines.now) (take (n * 16384) items)) last ∙ ranges-all (g.L.Lines.record_of c.args.lines.now) items (length c.args.parts.now) 16384 (omega arith) count) c.loop-at.invariant
