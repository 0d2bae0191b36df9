use Rattle.std.proofs.Common.{◌*◌, arith, List, ℕ, subst, ◌∙◌}
use Rattle.word_map.specs.WordMap.{HasJust}
use Rattle.free_pages.specs.Legal.{Granted, Adds, IsTake}
use Rattle.free_pages.specs.Runs.{granted_in, run_word}
use Rattle.free_pages.specs.PagesView.{PagesView, pages_view, IsRunOf}
use Rattle.free_pages.proofs.Grants.{found_free, may_split, may_split_words, after_grant, take_is, run_is, run_just}
use Rattle.free_pages.proofs.Apart.{granted_apart}
use Rattle.free_pages.proofs.Filled.{filled_grant}
use Rattle.free_pages.proofs.Used.{used_adds, used_most}
use Rattle.free_pages.proofs.pages.Pages.look_for.Goals as goal

pub split-words-requires-clause-owns : goal.split-words-requires-clause-owns
split-words-requires-clause-owns c =
    let found = c.find-found.ensures.found c.if-found-self.false in
    may_split_words _ c.self.inside.pages c.self.inside.heads _ _ c.self.inside.runs _ _ c.self.invariant.0
    (found_free c.self.inside.pages c.self.inside.heads c.find-found.result.at c.from-count.result c.find-found.result.len c.self.inside.runs c.find-found.new.runs c.find-found.ensures.runs c.find-found.ensures.granted c.if-found-self.false (omega (arith, c.from-count.ensures, c.requires.some)) found.0 found.1)

pub split_off-control-requires-clause-owns : goal.split_off-control-requires-clause-owns
split_off-control-requires-clause-owns c =
    let found = c.find-found.ensures.found c.if-found-self.false in
    may_split c.self.inside.first c.self.inside.pages c.self.inside.heads c.find-found.result.at c.from-count.result c.self.inside.runs c.self.inside.words c.self.inside.records c.args.control c.self.invariant.0
    (found_free c.self.inside.pages c.self.inside.heads c.find-found.result.at c.from-count.result c.find-found.result.len c.self.inside.runs c.find-found.new.runs c.find-found.ensures.runs c.find-found.ensures.granted c.if-found-self.false (omega (arith, c.from-count.ensures, c.requires.some)) found.0 found.1)

pub invariant_of-self-2 : goal.invariant_of-self-2
invariant_of-self-2 c =
    let adds : Adds (granted_in c.self.inside.runs.words c.self.inside.heads c.self.inside.pages) (granted_in c.grant.new.runs.words c.self.inside.heads c.self.inside.pages) (record { from = c.find-found.result.at; len = c.from-count.result; control = c.args.control }) = subst (λ (gs : List Granted). Adds gs (granted_in c.grant.new.runs.words c.self.inside.heads c.self.inside.pages) (record { from = c.find-found.result.at; len = c.from-count.result; control = c.args.control })) c.find-found.ensures.granted c.grant.ensures.granted in (
      after_grant c.self.inside.first c.self.inside.pages c.self.inside.heads c.find-found.result.at c.from-count.result c.self.inside.runs c.grant.new.runs c.self.inside.words c.split-words.new.self c.self.inside.records c.split_off-control.new.records c.split_off-control.result c.args.control c.self.invariant.0
          (c.grant.ensures.region ∙ c.find-found.ensures.region) c.grant.ensures.runs adds c.split-words.ensures.rest c.split_off-control.ensures,
      filled_grant c.find-found.new.runs.words c.grant.new.runs.words c.self.inside.heads c.self.inside.pages c.find-found.result.filled _ c.grant.ensures.heads c.grant.ensures.granted c.find-found.ensures.filled,
      tt,
      (let more = used_adds _ _ _ adds in omega (arith, more, c.self.invariant.3, c.from-count.ensures)),
    )

pub invariant_of-result : goal.invariant_of-result
invariant_of-result c =
    let found = c.find-found.ensures.found c.if-found-self.false in
    let j = run_just c.self.inside.first c.self.inside.pages c.self.inside.heads c.find-found.result.at c.from-count.result c.of.result c.self.inside.runs c.self.inside.words c.split-words.result c.self.inside.records c.self.invariant.0
    (found_free c.self.inside.pages c.self.inside.heads c.find-found.result.at c.from-count.result c.find-found.result.len c.self.inside.runs c.find-found.new.runs c.find-found.ensures.runs c.find-found.ensures.granted c.if-found-self.false (omega (arith, c.from-count.ensures, c.requires.some)) found.0 found.1)
    c.split-words.ensures.range c.of.ensures in
    record { valid = j.0; just = subst (λ (z : ℕ). HasJust c.split-words.result.words c.of.result (512 * z)) c.from-count.ensures j.1 }

pub returns-clause-taken : goal.returns-clause-taken
returns-clause-taken c =
    let found = c.find-found.ensures.found c.if-found-self.false in
    subst (λ (b : PagesView). IsTake b.first b.state c.args.n c.args.control c.of.result (pages_view c.self.inside.runs.region c.self.inside.first c.self.inside.pages (granted_in c.grant.new.runs.words c.self.inside.heads c.self.inside.pages)).state) c.self.view_is
    (subst (λ (z : ℕ). IsTake c.self.inside.first (pages_view c.self.inside.runs.region c.self.inside.first c.self.inside.pages (granted_in c.self.inside.runs.words c.self.inside.heads c.self.inside.pages)).state z c.args.control c.of.result (pages_view c.self.inside.runs.region c.self.inside.first c.self.inside.pages (granted_in c.grant.new.runs.words c.self.inside.heads c.self.inside.pages)).state) c.from-count.ensures
    (take_is c.self.inside.first c.self.inside.pages c.self.inside.heads c.find-found.result.at c.from-count.result c.of.result c.self.inside.runs c.grant.new.runs c.args.control c.grant.ensures.runs (found_free c.self.inside.pages c.self.inside.heads c.find-found.result.at c.from-count.result c.find-found.result.len c.self.inside.runs c.find-found.new.runs c.find-found.ensures.runs c.find-found.ensures.granted c.if-found-self.false (omega (arith, c.from-count.ensures, c.requires.some)) found.0 found.1) (subst (λ (gs : List Granted). Adds gs (granted_in c.grant.new.runs.words c.self.inside.heads c.self.inside.pages) (record { from = c.find-found.result.at; len = c.from-count.result; control = c.args.control })) c.find-found.ensures.granted c.grant.ensures.granted) c.of.ensures))

pub returns-clause-run : goal.returns-clause-run
returns-clause-run c =
    let found = c.find-found.ensures.found c.if-found-self.false in
    subst (λ (b : PagesView). IsRunOf b.region b.first b.state.pages c.args.n c.args.control c.of.result c.args.n c.split-words.result c.split_off-control.result) c.self.view_is
    (subst (λ (z : ℕ). IsRunOf c.self.inside.runs.region c.self.inside.first c.self.inside.pages z c.args.control c.of.result z c.split-words.result c.split_off-control.result) c.from-count.ensures
    (run_is c.self.inside.first c.self.inside.pages c.self.inside.heads c.find-found.result.at c.from-count.result c.of.result c.self.inside.runs c.self.inside.words c.split-words.result c.self.inside.records c.split_off-control.new.records c.split_off-control.result c.args.control c.self.invariant.0 (found_free c.self.inside.pages c.self.inside.heads c.find-found.result.at c.from-count.result c.find-found.result.len c.self.inside.runs c.find-found.new.runs c.find-found.ensures.runs c.find-found.ensures.granted c.if-found-self.false (omega (arith, c.from-count.ensures, c.requires.some)) found.0 found.1) c.split_off-control.ensures c.split-words.ensures.range c.of.ensures))

pub overflow_add-self : goal.overflow_add-self
overflow_add-self c =
    let most = used_most c.self.inside.pages 0 _ (omega arith) (granted_apart (run_word c.self.inside.runs.words c.self.inside.heads) c.self.inside.pages c.self.invariant.0.runs_are.laid) in
    let low = c.self.invariant.0.low in
    let found = c.find-found.ensures.found c.if-found-self.false in
    let short = c.find-found.ensures.within in
    omega (arith, most, low, c.self.invariant.3, found.0, short.1, c.from-count.ensures)
