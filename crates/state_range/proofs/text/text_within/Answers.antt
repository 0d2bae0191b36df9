use Rattle.std.proofs.Common.{◌++◌, ◌∙◌, ℕ, List, ap}
use Rattle.state_range.proofs.text.text_within.Goals as goal

pub returns : goal.returns
returns c =
    let wrote = c.in_ok-push_lines.ensures in
    record { lines = wrote.0; are_lines = wrote.1; is = wrote.2 ∙ ap (λ (t : List ℕ). t ++ wrote.0) c.in_ok-text.ensures }
