use Rattle.std.proofs.Common.{[], ◌++◌, ◌∙◌, ℕ, List, ap, append-nil, sym}
use Rattle.answer_text.proofs.Going.{all_gone, puts-then}
use Rattle.answer_text.proofs.Joined.{lines_text}
use Rattle.answer_text.proofs.lines.text_of.Goals as goal

pub returns : goal.returns
returns g c =
    let fine = sym c.is_broken.ensures ∙ c.if-is_broken.false in
    let all = lines_text (g.L.Lines.record_of c.args.lines.now) c.args.items.now in
    let both = puts-then _ _ c.new-text.result c.put_lines.new.out c.pass_on.new.out c.in_ok-held.held c.put_lines.new.held c.pass_on.new.self all [] c.put_lines.ensures c.pass_on.ensures.puts in
    let gone = all_gone _ _ c.new-text.result c.pass_on.new.out c.in_ok-held.held c.pass_on.new.self (all ++ []) c.in_ok-held.ensures.empty fine (c.pass_on.ensures.none fine) both in
    c.into_bytes.ensures ∙ gone ∙ ap (λ (l : List ℕ). l ++ (all ++ [])) c.new-text.ensures ∙ append-nil all
