use Rattle.std.proofs.Common.{◌≡◌, ◌-◌, ◌∙◌, Err, ap, arith, drop, length, refl, rules, subst, sym, take}
use Rattle.std.proofs.lemmas.List.{take_rest}
use Rattle.tile_source.specs.Begins.{EndsInRecord, IsLineEnd}
use Rattle.tile_source.specs.Finding.{HasBegun, HasEnded}
use Rattle.tile_source.specs.NoTiles.{NoLineEnd}
use Rattle.tile_source.specs.declared.cut.Cut.{Cut}
use Rattle.tile_source.proofs.Opening.{opens-front, opens-place}
use Rattle.tile_source.proofs.Reasons.{ends-early, no-line, passing-reason}
use Rattle.tile_source.proofs.open.open.Goals as goal

pub returns-then-span-eq0-clause-opens : goal.returns-then-span-eq0-clause-opens
returns-then-span-eq0-clause-opens g c =
    let left = g.S.Source.left in
    let text = c.in_ok-headed.headed.text.items in
    let end = c.in_ok-headed.headed.end in
    let is : c.as_slice-text.result.now ≡ text = c.as_slice-text.ensures.value in
    let front : c.in_ok-header.header.items ≡ take end text = c.in_ok-header.ensures.items ∙ ap (take end) is in
    let back : c.in_ok-ahead.ahead.items ≡ drop end text = c.in_ok-ahead.ensures.items ∙ (ap (λ xs. take (length xs - end) (drop end xs)) is ∙ take_rest text end) in
    opens-front c.args.span c.tile_from.result.begin c.tile_from.result.tile text c.in_ok-header.header.items c.in_ok-ahead.ahead.items end (left c.args.source.now) (left c.read_header.new.source)
    c.if-span-eq0.true c.in_ok-headed.ensures.headed c.in_ok-headed.ensures.read front back c.tile_from.ensures

pub returns-clause-opens : goal.returns-clause-opens
returns-clause-opens g c =
    let left = g.S.Source.left in
    let text = c.in_ok-headed.headed.text.items in
    let end = c.in_ok-headed.headed.end in
    let n = c.in-Some.line_end in
    let after = drop end text in
    let is : c.as_slice-text.result.now ≡ text = c.as_slice-text.ensures.value in
    let front : c.in_ok-header.header.items ≡ take end text = c.in_ok-header.ensures.items ∙ ap (take end) is in
    let back : take (length c.as_slice-text.result.now - end) (drop end c.as_slice-text.result.now) ≡ after = ap (λ xs. take (length xs - end) (drop end xs)) is ∙ take_rest text end in
    let last : EndsInRecord (take end text) = subst (λ xs. EndsInRecord (take end xs)) is (c.ends_in_record-is_record.ensures.yes c.if-not-is_record.false) in
    let line : IsLineEnd (take n after) = subst (λ xs. IsLineEnd (take n xs)) back c.in-Some.ensures.line in
    let ahead : take (length (take (length c.as_slice-text.result.now - end) (drop end c.as_slice-text.result.now)) - n) (drop n (take (length c.as_slice-text.result.now - end) (drop end c.as_slice-text.result.now))) ≡ drop n after =
    ap (λ xs. take (length xs - n) (drop n xs)) back ∙ take_rest after n in
    let rest = c.in-Ok.ahead.items in
    let mid = left c.read_header.new.source in
    let new = left c.find_begin.new.source in
    let at = c.find_begin.new.begin.at in
    let begun : HasBegun (drop n after) mid new c.args.span.from at rest = subst (λ xs. HasBegun xs mid new c.args.span.from at rest) ahead
    (subst (λ k. HasBegun (take (length (take (length c.as_slice-text.result.now - end) (drop end c.as_slice-text.result.now)) - n) (drop n (take (length c.as_slice-text.result.now - end) (drop end c.as_slice-text.result.now)))) mid new k at rest) (ap (λ q. q.at) c.new-begin.ensures) c.in-Ok.ensures.begun) in
    opens-place c.args.span c.tile_from-2.result.begin c.tile_from-2.result.tile text c.in_ok-header.header.items after rest end n at (left c.args.source.now) mid new
    (omega (arith, c.if-span-eq0.false)) c.in_ok-headed.ensures.headed c.in_ok-headed.ensures.read front refl last line begun c.tile_from-2.ensures

pub returns-then-not-is_record-clause-why : goal.returns-then-not-is_record-clause-why
returns-then-not-is_record-clause-why g c =
    let left = g.S.Source.left in
    let text = c.in_ok-headed.headed.text.items in
    let end = c.in_ok-headed.headed.end in
    let is : c.as_slice-text.result.now ≡ text = c.as_slice-text.ensures.value in
    no-line c.args.span.from (left c.args.source.now) (left c.read_header.new.source) text end (omega (arith, c.if-span-eq0.false)) c.in_ok-headed.ensures.read c.in_ok-headed.ensures.headed c.in_ok-headed.ensures.two
    (λ last. absurd (c.ends_in_record-is_record.ensures.no c.if-not-is_record.true (subst (λ xs. EndsInRecord (take end xs)) (sym is) last)))

pub returns-in_default-clause-why : goal.returns-in_default-clause-why
returns-in_default-clause-why g c =
    let left = g.S.Source.left in
    let text = c.in_ok-headed.headed.text.items in
    let end = c.in_ok-headed.headed.end in
    let is : c.as_slice-text.result.now ≡ text = c.as_slice-text.ensures.value in
    let back : take (length c.as_slice-text.result.now - end) (drop end c.as_slice-text.result.now) ≡ drop end text = ap (λ xs. take (length xs - end) (drop end xs)) is ∙ take_rest text end in
    no-line c.args.span.from (left c.args.source.now) (left c.read_header.new.source) text end (omega (arith, c.if-span-eq0.false)) c.in_ok-headed.ensures.read c.in_ok-headed.ensures.headed c.in_ok-headed.ensures.two
    (λ last. subst NoLineEnd back (c.line_end.ensures.none (search rules)))

pub returns-in-Err-clause-why : goal.returns-in-Err-clause-why
returns-in-Err-clause-why g c =
    let left = g.S.Source.left in
    let text = c.in_ok-headed.headed.text.items in
    let end = c.in_ok-headed.headed.end in
    let n = c.in-Some.line_end in
    let after = drop end text in
    let is : c.as_slice-text.result.now ≡ text = c.as_slice-text.ensures.value in
    let back : take (length c.as_slice-text.result.now - end) (drop end c.as_slice-text.result.now) ≡ after = ap (λ xs. take (length xs - end) (drop end xs)) is ∙ take_rest text end in
    let line : IsLineEnd (take n after) = subst (λ xs. IsLineEnd (take n xs)) back c.in-Some.ensures.line in
    let given = take (length (take (length c.as_slice-text.result.now - end) (drop end c.as_slice-text.result.now)) - n) (drop n (take (length c.as_slice-text.result.now - end) (drop end c.as_slice-text.result.now))) in
    let ahead : given ≡ drop n after = ap (λ xs. take (length xs - n) (drop n xs)) back ∙ take_rest after n in
    let mid = left c.read_header.new.source in
    let new = left c.find_begin.new.source in
    passing-reason c.args.span (left c.args.source.now) c.in-Err.why c.in-Err.ensures.why (λ e.
    let ended : HasEnded given mid new c.args.span.from c.args.span.size = subst (λ (q : Cut). HasEnded given mid new q.at q.size) c.new-begin.ensures (c.in-Err.ensures.early (ap (λ w. Err w) e)) in
    ends-early c.args.span text end n (left c.args.source.now) mid new (omega (arith, c.if-span-eq0.false)) c.in_ok-headed.ensures.headed c.in_ok-headed.ensures.read line
    (subst (λ xs. HasEnded xs mid new c.args.span.from c.args.span.size) ahead ended))
