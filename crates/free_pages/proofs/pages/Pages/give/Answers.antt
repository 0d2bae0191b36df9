use Rattle.std.proofs.Common.{◌≡◌, ℕ, ◌+◌, ◌*◌, IfSome, is_some, arith, refl, subst, sym, ap, ◌∙◌}
use Rattle.atomic_table.specs.Seated.{TableId}
use Rattle.region_words.specs.Parts.{Owned}
use Rattle.free_pages.specs.Legal.{IsFree, IsGive, IsHandedBack}
use Rattle.free_pages.specs.Runs.{granted_in}
use Rattle.free_pages.specs.PagesView.{PagesView, pages_view, MayGive}
use Rattle.free_pages.proofs.Gives.{none_there, not_there, give_is, records_region, after_give, adds_as}
use Rattle.free_pages.proofs.Filled.{filled_give}
use Rattle.free_pages.proofs.Used.{used_adds}
use Rattle.free_pages.proofs.pages.Pages.give.Goals as goal

pub returns-then-at-self-clause-refused : goal.returns-then-at-self-clause-refused
returns-then-at-self-clause-refused c =
    subst (λ (b : PagesView). IsHandedBack b.first b.state c.args.run.at c.args.run.pages (is_some c.args.run.control) b.state) c.self.view_is
    (none_there c.self.inside.first c.self.inside.pages c.self.inside.heads c.args.run.at c.args.run.pages c.self.inside.runs (is_some c.args.run.control) c.self.invariant.0.runs_are
    (λ from h e. c.page_of-at.ensures.none c.if-at-self.true from h (c.word.ensures ∙ e)))

pub returns-then-not-release-clause-refused : goal.returns-then-not-release-clause-refused
returns-then-not-release-clause-refused c =
    let place : c.args.run.at ≡ c.self.inside.first + 512 * c.page_of-at.result = sym c.word.ensures ∙ c.page_of-at.ensures.found c.if-at-self.false in
    subst (λ (b : PagesView). IsHandedBack b.first b.state c.args.run.at c.args.run.pages (is_some c.args.run.control) (pages_view c.self.inside.runs.region c.self.inside.first c.self.inside.pages (granted_in c.release.new.runs.words c.self.inside.heads c.self.inside.pages)).state) c.self.view_is
    (not_there c.self.inside.first c.self.inside.pages c.self.inside.heads c.args.run.at c.args.run.pages c.page_of-at.result c.self.inside.runs c.release.new.runs (is_some c.args.run.control) (c.if-not-release.ensures.same refl)
    (λ rest a. c.if-not-release.ensures.none refl rest
    (adds_as rest (granted_in c.self.inside.runs.words c.self.inside.heads c.self.inside.pages) rest (granted_in c.self.inside.runs.words c.self.inside.heads c.self.inside.pages) c.page_of-at.result c.args.run.pages c.from-count.result (is_some c.args.run.control) c.is_some-control.result
    refl refl (sym c.from-count.ensures) (sym c.is_some-control.ensures) a))
    place)

pub join_back-requires-clause-there : goal.join_back-requires-clause-there
join_back-requires-clause-there c =
    let place : c.args.run.at ≡ c.self.inside.first + 512 * c.page_of-at.result = sym c.word.ensures ∙ c.page_of-at.ensures.found c.if-at-self.false in
    let may : MayGive c.self.inside.runs.region c.self.inside.first c.self.inside.pages c.args.run.at c.args.run.pages c.args.run.words c.args.run.control = subst (λ (b : PagesView). MayGive b.region b.first b.state.pages c.args.run.at c.args.run.pages c.args.run.words c.args.run.control) (sym c.self.view_is) c.requires.run in
    let free : IsFree c.self.inside.pages (granted_in c.release.new.runs.words c.self.inside.heads c.self.inside.pages) c.page_of-at.result c.args.run.pages = subst (λ (z : ℕ). IsFree c.self.inside.pages (granted_in c.release.new.runs.words c.self.inside.heads c.self.inside.pages) c.page_of-at.result z) c.from-count.ensures (c.if-not-release.ensures.freed refl) in
    subst (λ (t : TableId). IfSome c.args.run.control (λ (o : Owned). o.region ≡ t)) (ap (λ (b : PagesView). b.region) c.self.view_is ∙ c.requires.here)
    (records_region c.self.inside.runs.region c.self.inside.first c.self.inside.pages c.page_of-at.result c.args.run.pages c.args.run.control (may.records_are c.page_of-at.result place free.inside))

pub invariant_of-self-2 : goal.invariant_of-self-2
invariant_of-self-2 c =
    let place : c.args.run.at ≡ c.self.inside.first + 512 * c.page_of-at.result = sym c.word.ensures ∙ c.page_of-at.ensures.found c.if-at-self.false in
    let may : MayGive c.self.inside.runs.region c.self.inside.first c.self.inside.pages c.args.run.at c.args.run.pages c.args.run.words c.args.run.control = subst (λ (b : PagesView). MayGive b.region b.first b.state.pages c.args.run.at c.args.run.pages c.args.run.words c.args.run.control) (sym c.self.view_is) c.requires.run in
    let free : IsFree c.self.inside.pages (granted_in c.release.new.runs.words c.self.inside.heads c.self.inside.pages) c.page_of-at.result c.args.run.pages = subst (λ (z : ℕ). IsFree c.self.inside.pages (granted_in c.release.new.runs.words c.self.inside.heads c.self.inside.pages) c.page_of-at.result z) c.from-count.ensures (c.if-not-release.ensures.freed refl) in
    let adds = adds_as (granted_in c.release.new.runs.words c.self.inside.heads c.self.inside.pages) (granted_in c.self.inside.runs.words c.self.inside.heads c.self.inside.pages) (granted_in c.release.new.runs.words c.self.inside.heads c.self.inside.pages) (granted_in c.self.inside.runs.words c.self.inside.heads c.self.inside.pages)
    c.page_of-at.result c.from-count.result c.args.run.pages c.is_some-control.result (is_some c.args.run.control) refl refl c.from-count.ensures c.is_some-control.ensures (c.if-not-release.ensures.removed refl) in (
      after_give c.self.inside.first c.self.inside.pages c.self.inside.heads c.page_of-at.result c.args.run.pages c.args.run.at c.self.inside.runs c.release.new.runs c.self.inside.words c.args.run.words c.join.new.self c.self.inside.records c.join_back.new.records c.args.run.control
          c.self.invariant.0 c.if-not-release.ensures.region c.if-not-release.ensures.runs free adds place may c.args.run.just c.join.ensures.both c.join_back.ensures,
      filled_give c.self.inside.runs.words c.release.new.runs.words c.self.inside.heads c.self.inside.pages c.self.inside.filled c.page_of-at.result c.args.run.pages c.smaller-self-inside.result (is_some c.args.run.control) c.self.invariant.0.runs_are c.if-not-release.ensures.heads adds c.smaller-self-inside.ensures c.self.invariant.1,
      tt,
      (let less = used_adds _ _ _ adds in omega (arith, less, c.self.invariant.3)),
    )

pub returns-clause-given : goal.returns-clause-given
returns-clause-given c =
    let place : c.args.run.at ≡ c.self.inside.first + 512 * c.page_of-at.result = sym c.word.ensures ∙ c.page_of-at.ensures.found c.if-at-self.false in
    let adds = adds_as (granted_in c.release.new.runs.words c.self.inside.heads c.self.inside.pages) (granted_in c.self.inside.runs.words c.self.inside.heads c.self.inside.pages) (granted_in c.release.new.runs.words c.self.inside.heads c.self.inside.pages) (granted_in c.self.inside.runs.words c.self.inside.heads c.self.inside.pages)
    c.page_of-at.result c.from-count.result c.args.run.pages c.is_some-control.result (is_some c.args.run.control) refl refl c.from-count.ensures c.is_some-control.ensures (c.if-not-release.ensures.removed refl) in
    subst (λ (b : PagesView). IsGive b.first b.state c.args.run.at c.args.run.pages (is_some c.args.run.control) (pages_view c.self.inside.runs.region c.self.inside.first c.self.inside.pages (granted_in c.release.new.runs.words c.self.inside.heads c.self.inside.pages)).state) c.self.view_is
    (give_is c.self.inside.first c.self.inside.pages c.self.inside.heads c.page_of-at.result c.args.run.pages c.args.run.at c.self.inside.runs c.release.new.runs (is_some c.args.run.control) c.if-not-release.ensures.runs adds place)

pub overflow_sub-self : goal.overflow_sub-self
overflow_sub-self c =
    let less = used_adds _ _ _ (c.if-not-release.ensures.removed refl) in
    omega (arith, less, c.self.invariant.3, c.from-count.ensures)
