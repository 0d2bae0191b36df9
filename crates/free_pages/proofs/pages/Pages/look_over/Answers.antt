use Rattle.std.proofs.Common.{arith, List, sym, ap, ◌∙◌, ◌<◌, ◌≤◌, ⊎_elim, subst}
use Rattle.std.proofs.lemmas.Bool.{cases_lt}
use Rattle.free_pages.specs.Legal.{Granted, IsLargest, used_by}
use Rattle.free_pages.specs.Runs.{granted_in}
use Rattle.free_pages.specs.PagesView.{PagesView}
use Rattle.free_pages.proofs.Grants.{after_walk}
use Rattle.free_pages.proofs.pages.Pages.look_over.Goals as goal

pub invariant_of-self : goal.invariant_of-self
invariant_of-self c =
    let full : c.self.inside.pages ≤ c.find-found.result.at = ⊎_elim (λ (h : c.find-found.result.at < c.self.inside.pages). absurd (let x = c.find-found.ensures.found h in omega (arith, x))) (λ (h : c.self.inside.pages ≤ c.find-found.result.at). h) (cases_lt c.find-found.result.at c.self.inside.pages) in
    let largest : IsLargest c.self.inside.pages (granted_in c.find-found.new.runs.words c.self.inside.heads c.self.inside.pages) c.find-found.result.len = subst (λ (gs : List Granted). IsLargest c.self.inside.pages gs c.find-found.result.len) (sym c.find-found.ensures.granted) (c.find-found.ensures.none full).1 in (
      after_walk c.self.inside.first c.self.inside.pages c.self.inside.heads c.self.inside.runs c.find-found.new.runs c.self.inside.words c.self.inside.records c.self.invariant.0 c.find-found.ensures.region c.find-found.ensures.runs c.find-found.ensures.granted,
      c.find-found.ensures.filled,
      largest,
      c.self.invariant.3 ∙ ap used_by (sym c.find-found.ensures.granted),
    )

pub returns-clause-largest : goal.returns-clause-largest
returns-clause-largest c =
    let full : c.self.inside.pages ≤ c.find-found.result.at = ⊎_elim (λ (h : c.find-found.result.at < c.self.inside.pages). absurd (let x = c.find-found.ensures.found h in omega (arith, x))) (λ (h : c.self.inside.pages ≤ c.find-found.result.at). h) (cases_lt c.find-found.result.at c.self.inside.pages) in
    subst (λ (b : PagesView). IsLargest b.state.pages b.state.granted c.find-found.result.len) c.self.view_is (c.find-found.ensures.none full).1
