use Rattle.std.proofs.Common.{◌≡◌, ◌++◌, ℕ, List, subst}
use Rattle.std.specs.List.Sorted.{IsSortedBy}
use Rattle.result_text.specs.GroupOrder.{is_before}
use Rattle.result_text.specs.Pieces.{lines_text}
use Rattle.result_text.specs.Text.{AreLinesOf}
use Rattle.result_text.specs.declared.order.GroupRef.{GroupRef}
use Rattle.state_range.proofs.Lines.{are_lines, on_ok}
use Rattle.state_range.proofs.text.push_lines.Goals as goal

pub returns : goal.returns
returns c =
    let plan = c.args.bound.now in
    let groups = c.args.groups.now in
    let refs = c.in_ok-refs.refs.items in
    let old = c.args.text.now.items in
    let new = c.push_each.new.text.items in
    let sorted = subst (λ (n : ℕ). IsSortedBy (is_before n) refs) c.requires.columns c.in_ok-refs.ensures.sorted in
    let lines = are_lines plan groups refs c.requires.printable c.in_ok-refs.ensures.short c.in_ok-refs.ensures.same sorted in
    on_ok c.push_each.result (new ≡ old ++ lines_text plan groups c.deref.result.now) ((x : List ℕ) × AreLinesOf plan groups x × (new ≡ old ++ x))
    (λ wrote. (lines_text plan groups refs, lines, subst (λ (rs : List GroupRef). new ≡ old ++ lines_text plan groups rs) c.deref.ensures.value wrote)) c.push_each.ensures
