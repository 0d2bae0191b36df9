use Rattle.std.proofs.Common.{◌≡◌, ℕ, ◌+◌, ◌*◌, ◌%◌, ◌<◌, cond, Option, unwrap_or, arith, sym, ap, subst, ◌∙◌}
use Rattle.region_words.specs.Parts.{Owned}
use Rattle.free_pages.specs.Legal.{Granted, Adds}
use Rattle.free_pages.specs.Runs.{granted_in, granted_at, run_word}
use Rattle.free_pages.proofs.Lists.{word_of, run_of, marked_word}
use Rattle.free_pages.proofs.Best.{free_run}
use Rattle.free_pages.proofs.walk.release.Goals as goal

pub returns-then-found-wanted-clause-none : goal.returns-then-found-wanted-clause-none
returns-then-found-wanted-clause-none c = λ _ rest a.
    let found : run_word c.args.runs.now.words c.args.heads c.args.at ≡ c.load-found.result = ap (λ (o : Option ℕ). unwrap_or o 0) c.load-found.ensures.found in
    let x = word_of (run_word c.args.runs.now.words c.args.heads) c.args.pages c.args.at c.args.n c.args.control rest c.requires.runs.laid a in
    c.if-found-wanted.true (sym found ∙ x.1 ∙ sym (ap (λ (z : ℕ). 4 * c.args.n + z) c.mark_of.ensures))

pub returns-clause-freed : goal.returns-clause-freed
returns-clause-freed c = λ _.
    let found : run_word c.args.runs.now.words c.args.heads c.args.at ≡ c.load-found.result = ap (λ (o : Option ℕ). unwrap_or o 0) c.load-found.ensures.found in
    let e : run_word c.args.runs.now.words c.args.heads c.args.at ≡ 4 * c.args.n + cond c.args.control 2 1 = found ∙ (c.if-found-wanted.false ∙ ap (λ (z : ℕ). 4 * c.args.n + z) c.mark_of.ensures) in
    let m = marked_word (run_word c.args.runs.now.words c.args.heads c.args.at) c.args.n c.args.control e in
    let hd = c.requires.runs.laid.heads c.args.at c.requires.inside.0 (omega (arith, m.0)) in
    let some : 0 < c.args.n = omega (arith, hd.long, m.2) in
    free_run (run_word c.mark.new.runs.words c.args.heads) c.args.pages c.args.at c.args.n c.mark.ensures.runs.laid c.requires.inside.0 some c.mark.ensures.word

pub returns-clause-removed : goal.returns-clause-removed
returns-clause-removed c = λ _.
    let found : run_word c.args.runs.now.words c.args.heads c.args.at ≡ c.load-found.result = ap (λ (o : Option ℕ). unwrap_or o 0) c.load-found.ensures.found in
    let e : run_word c.args.runs.now.words c.args.heads c.args.at ≡ 4 * c.args.n + cond c.args.control 2 1 = found ∙ (c.if-found-wanted.false ∙ ap (λ (z : ℕ). 4 * c.args.n + z) c.mark_of.ensures) in
    let m = marked_word (run_word c.args.runs.now.words c.args.heads c.args.at) c.args.n c.args.control e in
    let odd : 0 < run_word c.load-found.new.self.words c.args.heads c.args.at % 4 = subst (λ (o : Owned). 0 < run_word o.words c.args.heads c.args.at % 4) (sym c.load-found.ensures.same) m.0 in
    let adds : Adds (granted_in c.mark.new.runs.words c.args.heads c.args.pages) (granted_in c.args.runs.now.words c.args.heads c.args.pages) (granted_at c.args.at (run_word c.args.runs.now.words c.args.heads c.args.at)) =
    subst (λ (o : Owned). Adds (granted_in c.mark.new.runs.words c.args.heads c.args.pages) (granted_in o.words c.args.heads c.args.pages) (granted_at c.args.at (run_word o.words c.args.heads c.args.at))) c.load-found.ensures.same (c.mark.ensures.frees odd (omega arith)) in
    subst (λ (g : Granted). Adds (granted_in c.mark.new.runs.words c.args.heads c.args.pages) (granted_in c.args.runs.now.words c.args.heads c.args.pages) g) (run_of c.args.at _ c.args.n c.args.control e) adds
