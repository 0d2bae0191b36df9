use Rattle.std.proofs.Common.{◌++◌, ◌∙◌, List, ℕ, length, ap, append_assoc}
use Rattle.state_file.specs.Number.{number_bytes}
use Rattle.state_file.specs.Text.{text_bytes}
use Rattle.state_file.proofs.text.push_text.Goals as goal

pub returns : goal.returns
unfolding text_bytes
returns c =
    c.in_ok-extend_from_slice.ensures.items ∙ ap (λ (bs : List ℕ). bs ++ c.args.text.now) c.in_ok-push_number.ensures
    ∙ append_assoc c.args.out.now.items (number_bytes (length c.args.text.now)) c.args.text.now
