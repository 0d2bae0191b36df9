use Rattle.std.proofs.Common.{◌≡◌, ◌+◌, ◌/◌, ◌%◌, ◌∙◌, min, Result, Ok, Err, IfOk, get_or, length, rules, subst, sym}
use Rattle.answer_text.proofs.Joined.{lines_text}
use Rattle.answer_text.proofs.lines.texts_of.Goals as goal

-- two facts of an answer
both : {X Y : Type 0} (r : Result X Y) (P Q R : X → Type 0) → ((x : X) → P x → Q x → R x) → IfOk r P → IfOk r Q → IfOk r R
both (Ok x) P Q R f p q = f x p q
both (Err y) P Q R f p q = p

pub returns : goal.returns
returns g c =
    let items = c.args.items.now in
    both c.map_chunks.result _ _ _ (λ parts len each.
    record {
      count = sym parts.ok.0 ∙ len;
      each = λ n d lt.
          let gives = (each n d lt).1 in
          let call = gives.call in
          let text : IfOk (get_or parts.items n d) (λ text. text.items ≡ lines_text (g.L.Lines.record_of c.args.lines.now) gives.argument.now) = search rules in
          subst (λ range. IfOk (get_or parts.items n d) (λ text. text.items ≡ lines_text (g.L.Lines.record_of c.args.lines.now) range)) gives.argument_is.value text;
    }) c.map_chunks.ensures.len c.map_chunks.ensures.each
