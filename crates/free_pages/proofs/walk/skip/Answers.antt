use Rattle.std.proofs.Common.{◌≡◌, ℕ, ◌+◌, ◌/◌, ◌%◌, ◌<◌, Option, unwrap_or, arith, sym, ap, subst, ◌∙◌}
use Rattle.region_words.specs.Parts.{Owned}
use Rattle.free_pages.specs.Runs.{IsFilled, run_word}
use Rattle.free_pages.proofs.Filled.{filled_step}
use Rattle.free_pages.proofs.walk.skip.Goals as goal

pub loop-at-preserved : goal.loop-at-preserved
loop-at-preserved c =
    let found : run_word c.args.runs.now.words c.args.heads c.loop-at.at ≡ c.load-word.result = ap (λ (o : Owned). run_word o.words c.args.heads c.loop-at.at) (sym c.loop-at.invariant.same) ∙ ap (λ (o : Option ℕ). unwrap_or o 0) c.load-word.ensures.found in
    let odd : 0 < run_word c.args.runs.now.words c.args.heads c.loop-at.at % 4 = subst (λ (z : ℕ). 0 < z % 4) (sym found) (omega arith) in
    record {
      same = c.load-word.ensures.same ∙ c.loop-at.invariant.same;
      filled = subst (λ (z : ℕ). IsFilled c.args.runs.now.words c.args.heads c.args.pages (c.loop-at.at + z / 4)) found
          (filled_step c.args.runs.now.words c.args.heads c.args.pages c.loop-at.at c.requires.runs c.loop-at.invariant.filled (omega arith) odd);
    }
