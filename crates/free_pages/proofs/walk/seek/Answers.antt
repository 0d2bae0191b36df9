use Rattle.std.proofs.Common.{◌≡◌, ℕ, ◌+◌, ◌/◌, ◌%◌, ◌<◌, ◌≤◌, Option, List, unwrap_or, ⊎_elim, arith, refl, sym, ap, subst, ◌∙◌}
use Rattle.region_words.specs.Parts.{Owned}
use Rattle.free_pages.specs.Legal.{Granted, IsLargest}
use Rattle.free_pages.specs.Runs.{IsBest, granted_in, run_word}
use Rattle.std.proofs.lemmas.Bool.{cases_lt}
use Rattle.free_pages.proofs.Filled.{filled_same, filled_best}
use Rattle.free_pages.proofs.Best.{best_free, best_granted, best_all}
use Rattle.free_pages.proofs.walk.seek.Goals as goal

pub loop-at-init : goal.loop-at-init
loop-at-init c = record {
  here = refl;
  runs = c.requires.runs;
  granted = refl;
  filled = c.requires.filled;
  low = omega arith;
  inside = c.requires.filled.inside;
  head = c.requires.filled.head;
  small = c.requires.some;
  within = omega arith;
  best = filled_best c.args.runs.now.words c.args.heads c.args.pages c.args.filled c.requires.filled;
}

pub loop-at-preserved-then-word-eq0 : goal.loop-at-preserved-then-word-eq0
loop-at-preserved-then-word-eq0 c = record {
  here = c.gather-len.ensures.region ∙ ap (λ (o : Owned). o.region) c.load-word.ensures.same ∙ c.loop-at.invariant.here;
  runs = c.gather-len.ensures.runs;
  granted = c.gather-len.ensures.granted ∙ ap (λ (o : Owned). granted_in o.words c.args.heads c.args.pages) c.load-word.ensures.same ∙ c.loop-at.invariant.granted;
  filled = filled_same c.loop-at.runs.words c.gather-len.new.runs.words c.args.heads c.args.pages c.args.filled (c.gather-len.ensures.granted ∙ ap (λ (o : Owned). granted_in o.words c.args.heads c.args.pages) c.load-word.ensures.same)
      (λ h. ⊎_elim
      (λ (e : c.args.filled < c.loop-at.at). subst (λ (z : ℕ). 0 < z) (sym (c.gather-len.ensures.before c.args.filled e ∙ ap (λ (o : Owned). run_word o.words c.args.heads c.args.filled) c.load-word.ensures.same)) (c.loop-at.invariant.filled.head h))
      (λ (e : c.loop-at.at ≤ c.args.filled). let s : c.loop-at.at ≡ c.args.filled = (let x = c.loop-at.invariant.low in omega arith) in subst (λ (z : ℕ). 0 < run_word c.gather-len.new.runs.words c.args.heads z) s (let x = c.gather-len.ensures.free in omega (arith, x.0, x.2)))
      (cases_lt c.args.filled c.loop-at.at))
      c.loop-at.invariant.filled;
  low = (let x = c.loop-at.invariant.low in omega arith);
  inside = c.gather-len.ensures.free.1;
  head = λ h. let x = c.gather-len.ensures.ends h in omega (arith, x);
  small = ⊎_elim (λ e. omega arith) (λ e. omega arith) c.larger-best.ensures.2;
  within = ⊎_elim (λ e. omega arith) (λ e. omega arith) c.larger-best.ensures.2;
  best = best_free (run_word c.gather-len.new.runs.words c.args.heads) c.args.pages c.loop-at.at c.gather-len.result c.loop-at.best c.larger-best.result c.gather-len.ensures.runs.laid (omega arith) c.gather-len.ensures.free.0 c.gather-len.ensures.free.2 c.gather-len.ensures.ends c.larger-best.ensures.0 c.larger-best.ensures.1 c.larger-best.ensures.2
      (subst (λ (g : List Granted). IsBest c.args.pages g c.loop-at.at c.loop-at.best) (sym (c.gather-len.ensures.granted ∙ ap (λ (o : Owned). granted_in o.words c.args.heads c.args.pages) c.load-word.ensures.same)) c.loop-at.invariant.best);
}

pub loop-at-preserved : goal.loop-at-preserved
loop-at-preserved c =
    let found : run_word c.loop-at.runs.words c.args.heads c.loop-at.at ≡ c.load-word.result = ap (λ (o : Option ℕ). unwrap_or o 0) c.load-word.ensures.found in
    let hd = c.loop-at.invariant.runs.laid.heads c.loop-at.at (omega arith) (c.loop-at.invariant.head (omega arith)) in
    rw c.load-word.ensures.same (record {
      here = c.loop-at.invariant.here;
      runs = c.loop-at.invariant.runs;
      granted = c.loop-at.invariant.granted;
      filled = c.loop-at.invariant.filled;
      low = (let x = c.loop-at.invariant.low in omega arith);
      inside = subst (λ (z : ℕ). c.loop-at.at + z / 4 ≤ c.args.pages) found hd.inside;
      head = subst (λ (z : ℕ). c.loop-at.at + z / 4 < c.args.pages → 0 < run_word c.loop-at.runs.words c.args.heads (c.loop-at.at + z / 4)) found hd.next;
      small = c.loop-at.invariant.small;
      within = c.loop-at.invariant.within;
      best = subst (λ (z : ℕ). IsBest c.args.pages (granted_in c.loop-at.runs.words c.args.heads c.args.pages) (c.loop-at.at + z / 4) c.loop-at.best) found
          (best_granted (run_word c.loop-at.runs.words c.args.heads) c.args.pages c.loop-at.at c.loop-at.best (omega arith) (subst (λ (z : ℕ). 0 < z % 4) (sym found) (omega arith)) c.loop-at.invariant.best);
    })

pub returns-clause-none : goal.returns-clause-none
returns-clause-none c = λ _. (c.loop-at.invariant.small, subst (λ (g : List Granted). IsLargest c.args.pages g c.loop-at.best) c.loop-at.invariant.granted (best_all c.args.pages c.loop-at.at c.loop-at.best _ (omega arith) c.loop-at.invariant.best))
