use Rattle.std.proofs.Common.{◌≡◌, ◌-◌, ◌++◌, ◌∙◌, [], ℕ, ap, append-nil, arith, drop, get_or, map, sym, take}
use Rattle.line_runs.specs.Order.{entry_at}
use Rattle.line_runs.proofs.Stretches.{stretch_more}
use Rattle.line_runs.proofs.texts.add_lines.Goals as goal

pub loop-at-init : goal.loop-at-init
loop-at-init c = record {
  up = omega arith;
  lines = λ runs within.
      let none : c.args.from - c.args.from ≡ 0 = omega arith in
      ap (map (entry_at runs)) c.reserve.ensures.items ∙ sym (ap (λ (k : ℕ). map (entry_at runs) c.args.lines.now.items ++ take k (drop c.args.from (get_or runs c.args.run []))) none ∙ append-nil (map (entry_at runs) c.args.lines.now.items));
}

pub loop-at-preserved : goal.loop-at-preserved
loop-at-preserved c = record {
  up = omega (arith, c.loop-at.invariant.up);
  lines = λ runs within.
      stretch_more runs c.args.run c.args.from c.loop-at.at c.args.to c.args.lines.now.items c.loop-at.lines.items _ c.push.new.self.items c.loop-at.invariant.up c.loop-at-test.true within c.in_ok-new.ensures.0 c.in_ok-new.ensures.1
      c.in_ok-push.ensures.items (c.loop-at.invariant.lines runs within);
}

pub returns : goal.returns
returns c = λ runs within.
    let e : c.loop-at.at ≡ c.args.to = omega (arith, c.requires, c.loop-at.invariant.up, c.loop-at-test.false) in
    c.loop-at.invariant.lines runs within ∙ ap (λ (k : ℕ). map (entry_at runs) c.args.lines.now.items ++ take (k - c.args.from) (drop c.args.from (get_or runs c.args.run []))) e
