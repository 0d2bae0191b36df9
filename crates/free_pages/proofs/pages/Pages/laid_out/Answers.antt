use Rattle.std.proofs.Common.{◌-◌, ℕ, sym, ap, ◌∙◌}
use Rattle.region_words.specs.Parts.{Owned}
use Rattle.free_pages.specs.Legal.{used_by}
use Rattle.free_pages.proofs.Stores.{owns_after}
use Rattle.free_pages.proofs.News.{new_owns_head, new_owns, new_pages}
use Rattle.free_pages.proofs.Filled.{filled_none}
use Rattle.free_pages.proofs.pages.Pages.laid_out.Goals as goal

pub store-requires-clause-owns : goal.store-requires-clause-owns
store-requires-clause-owns c = rw c.split-records.ensures.rest (new_owns_head c.args.control.words c.args.first c.args.pages (c.args.first - c.front.result) c.requires.control c.requires.place.0 (ap (λ (z : ℕ). c.args.first - z) c.front.ensures))

pub blank-requires-clause-owns : goal.blank-requires-clause-owns
blank-requires-clause-owns c = λ p h.
    rw (c.store.ensures, c.split-records.ensures.rest) (owns_after _ _ _ _ (new_owns c.args.control.words c.args.first c.args.pages (c.args.first - c.front.result) p c.requires.control c.requires.place.0 (ap (λ (z : ℕ). c.args.first - z) c.front.ensures) h))

pub invariant_of-result : goal.invariant_of-result
invariant_of-result c =
    let old = c.blank.ensures.region ∙ ap (λ (o : Owned). o.region) c.store.ensures ∙ ap (λ (o : Owned). o.region) c.split-records.ensures.rest in (
      new_pages c.args.first c.args.pages (c.args.first - c.front.result) c.args.control c.blank.new.runs c.args.words c.split-records.result c.requires.control c.requires.place.0 c.requires.place.1 (ap (λ (z : ℕ). c.args.first - z) c.front.ensures)
          (c.requires.here.0 ∙ sym (old ∙ c.requires.here.1)) (ap (λ (o : Owned). o.region) c.split-records.ensures.range ∙ sym old) c.blank.ensures.runs c.blank.ensures.granted c.requires.words (ap (λ (o : Owned). o.words) c.split-records.ensures.range),
      filled_none c.blank.new.runs.words (c.args.first - c.front.result) c.args.pages c.blank.ensures.runs,
      tt,
      sym (ap used_by c.blank.ensures.granted),
    )
