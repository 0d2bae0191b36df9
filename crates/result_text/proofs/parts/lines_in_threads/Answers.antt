use Rattle.std.proofs.Common.{◌≡◌, ◌≤◌, ◌<◌, ◌*◌, ◌+◌, ◌/◌, ◌%◌, ◌∙◌, min, Result, Ok, Err, IfOk, List, ℕ, arith, get_or, length, rules, subst, sym}
use Rattle.result_text.specs.Pieces.{lines_text}
use Rattle.result_text.specs.declared.order.GroupRef.{GroupRef}
use Rattle.result_text.proofs.Ranges.{cover}
use Rattle.result_text.proofs.parts.lines_in_threads.Goals as goal

-- two facts of an answer
both : {X Y : Type 0} (r : Result X Y) (P Q R : X → Type 0) → ((x : X) → P x → Q x → R x) → IfOk r P → IfOk r Q → IfOk r R
both (Ok x) P Q R f p q = f x p q
both (Err y) P Q R f p q = p

pub returns : goal.returns
returns g c =
    let refs = c.args.refs.now in
    let size = c.max-size.result in
    let some : 0 < size = omega (arith, c.max-size.ensures) in
    both c.map_chunks.result _ _ _ (λ parts len each.
    let many : length parts.items ≡ length refs / size + min 1 (length refs % size) = sym parts.ok.0 ∙ len in
    record {
      size = size;
      enough = subst (λ (n : ℕ). length refs ≤ n * size) (sym many) (cover (length refs) size some);
      each = λ n d lt.
          let gives = (each n d lt).1 in
          let call = gives.call in
          let text : IfOk (get_or parts.items n d) (λ text. text.items ≡ lines_text c.args.bound.now c.args.groups.now gives.argument.now) = search rules in
          subst (λ (range : List GroupRef). IfOk (get_or parts.items n d) (λ text. text.items ≡ lines_text c.args.bound.now c.args.groups.now range)) gives.argument_is.value text;
    }) c.map_chunks.ensures.len c.map_chunks.ensures.each
