use Rattle.std.proofs.Common.{◌≡◌, ◌<◌, ◌++◌, ◌∙◌, List, ℕ, ap, length, refl, rules, slice_index, subst, take, true}
use Rattle.csv_rows.specs.Places.{place_after}
use Rattle.good_rows.specs.Lines.{ends_here}
use Rattle.good_groups.specs.declared.sifter.Sifter.{Sifter}
use Rattle.good_groups.proofs.Steps.{leap_ends}
use Rattle.good_groups.proofs.sifter.Sifter.leap.Goals as goal

pub returns-clause-ready : goal.returns-clause-ready
returns-clause-ready c =
    let self = c.args.self.now in
    let at = c.in-Some.end.at in
    let q = c.in-Some.end.place in
    let text = c.extend_from_slice-added.new.self.items in
    let was : text ≡ self.line.items ++ take at c.left-2.result.now = search rules in
    let within = subst (λ (t : List ℕ). at < length t) c.left.ensures c.in-Some.ensures.within in
    let ends = subst (λ (t : List ℕ). ends_here q (slice_index t at) ≡ true) c.left.ensures c.in-Some.ensures.ends in
    let place = subst (λ (t : List ℕ). q ≡ place_after self.place (take at t)) c.left.ensures c.in-Some.ensures.place in
    let is = c.if-not-take_lines.ensures in
    let both = leap_ends c.args.rules.now self c.take_lines.new.self c.begin_line.new.self c.skip.new.self at q text c.requires.ready within ends place (was ∙ ap (λ (t : List ℕ). self.line.items ++ take at t) c.left-2.ensures)
    (ap (λ (x : Sifter). x.pending) is.same) (is.ahead refl) (is.good refl) (is.counts refl) (is.feeds refl) is.few c.skip.ensures c.begin_line.ensures.same c.begin_line.ensures.line c.begin_line.ensures.place in
    both.0

pub returns-clause-sifts : goal.returns-clause-sifts
returns-clause-sifts c =
    let self = c.args.self.now in
    let at = c.in-Some.end.at in
    let q = c.in-Some.end.place in
    let text = c.extend_from_slice-added.new.self.items in
    let was : text ≡ self.line.items ++ take at c.left-2.result.now = search rules in
    let within = subst (λ (t : List ℕ). at < length t) c.left.ensures c.in-Some.ensures.within in
    let ends = subst (λ (t : List ℕ). ends_here q (slice_index t at) ≡ true) c.left.ensures c.in-Some.ensures.ends in
    let place = subst (λ (t : List ℕ). q ≡ place_after self.place (take at t)) c.left.ensures c.in-Some.ensures.place in
    let is = c.if-not-take_lines.ensures in
    let both = leap_ends c.args.rules.now self c.take_lines.new.self c.begin_line.new.self c.skip.new.self at q text c.requires.ready within ends place (was ∙ ap (λ (t : List ℕ). self.line.items ++ take at t) c.left-2.ensures)
    (ap (λ (x : Sifter). x.pending) is.same) (is.ahead refl) (is.good refl) (is.counts refl) (is.feeds refl) is.few c.skip.ensures c.begin_line.ensures.same c.begin_line.ensures.line c.begin_line.ensures.place in
    both.1
