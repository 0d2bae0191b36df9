use Rattle.std.proofs.Common.{◌≡◌, ℕ, is_some, ap, subst, ◌∙◌}
use Rattle.free_pages.specs.Legal.{IsGive, IsHandedBack}
use Rattle.free_pages.specs.PagesView.{PagesView}
use Rattle.free_pages.proofs.Offers.{accepted, as_before}
use Rattle.uses_area.proofs.runs.out_and_back.Goals as goal
use Rattle.uses_area.proofs.runs.out_and_back.Goals.{in-Ok-give, in-Err-give}

same_view : (b c : PagesView) → b.region ≡ c.region → b.first ≡ c.first → b.state ≡ c.state → b ≡ c
same_view b c e f g = λ i. record { region = e i; first = f i; state = g i }

pub returns-after-give-clause-accepted : goal.returns-after-give-clause-accepted
returns-after-give-clause-accepted c = elim c.match-give.branch [
  | in-Ok-give w ↦ w.result-is
  | in-Err-give w ↦ absurd (accepted c.args.pages.now.region c.args.pages.now.first c.args.pages.now.first c.args.pages.now.state.pages c.args.n c.in-Ok.run'.at c.in-Ok.run'.pages c.args.control c.args.pages.now.state c.take.new.self.state c.give.new.self.state c.in-Ok.run'.words c.in-Ok.run'.control c.in-Ok.ensures.taken c.in-Ok.ensures.run
      (subst (λ (z : ℕ). IsHandedBack z c.take.new.self.state c.in-Ok.run'.at c.in-Ok.run'.pages (is_some c.in-Ok.run'.control) c.give.new.self.state) (ap (λ (b : PagesView). b.first) c.take.ensures.same) w.in-Err-give.ensures.refused))
]

pub returns-after-give-clause-same : goal.returns-after-give-clause-same
returns-after-give-clause-same c = elim c.match-give.branch [
  | in-Ok-give w ↦ same_view _ _ (ap (λ (b : PagesView). b.region) c.give.ensures.same ∙ ap (λ (b : PagesView). b.region) c.take.ensures.same) (ap (λ (b : PagesView). b.first) c.give.ensures.same ∙ ap (λ (b : PagesView). b.first) c.take.ensures.same)
      (as_before c.args.pages.now.region c.args.pages.now.first c.args.pages.now.first c.args.pages.now.state.pages c.args.n c.in-Ok.run'.at c.in-Ok.run'.pages c.args.control c.args.pages.now.state c.take.new.self.state c.give.new.self.state c.in-Ok.run'.words c.in-Ok.run'.control c.in-Ok.ensures.taken c.in-Ok.ensures.run
      (subst (λ (z : ℕ). IsGive z c.take.new.self.state c.in-Ok.run'.at c.in-Ok.run'.pages (is_some c.in-Ok.run'.control) c.give.new.self.state) (ap (λ (b : PagesView). b.first) c.take.ensures.same) w.in-Ok-give.ensures.given))
  | in-Err-give w ↦ absurd (accepted c.args.pages.now.region c.args.pages.now.first c.args.pages.now.first c.args.pages.now.state.pages c.args.n c.in-Ok.run'.at c.in-Ok.run'.pages c.args.control c.args.pages.now.state c.take.new.self.state c.give.new.self.state c.in-Ok.run'.words c.in-Ok.run'.control c.in-Ok.ensures.taken c.in-Ok.ensures.run
      (subst (λ (z : ℕ). IsHandedBack z c.take.new.self.state c.in-Ok.run'.at c.in-Ok.run'.pages (is_some c.in-Ok.run'.control) c.give.new.self.state) (ap (λ (b : PagesView). b.first) c.take.ensures.same) w.in-Err-give.ensures.refused))
]
