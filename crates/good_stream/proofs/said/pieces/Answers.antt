use Rattle.std.proofs.Common.{rules, ◌≡◌, ◌∙◌, ap}
use Rattle.stream_groups.specs.Lines.{line}
use Rattle.good_stream.specs.Said.{left_out_text, left_out_text_of}
use Rattle.good_stream.proofs.said.pieces.Goals as goal

pub returns : goal.returns
returns c =
    let text : left_out_text_of c.format.result.now c.format-2.result.now c.format-3.result.now c.as_str.result.now ≡ left_out_text c.args.left_out.now = search rules in
    c.of_texts.ensures ∙ ap line text
