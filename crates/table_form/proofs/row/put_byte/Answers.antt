use Rattle.std.proofs.Common.{◌≡◌, ◌∙◌, ◌∷◌, ◌++◌, [], List, ℕ, ap, append_assoc, false, sym}
use Rattle.std.specs.Prelude.{◌==◌, ◌&&◌}
use Rattle.std.proofs.lemmas.Bool.{ne_eqb}
use Rattle.table_form.specs.Reading.{once}
use Rattle.table_form.proofs.FieldTexts.{and-first, and-second, once-other, once-second}
use Rattle.table_form.proofs.row.put_byte.Goals as goal
use Rattle.table_form.proofs.row.put_byte.Goals.{else-byte-eq34-via-then-byte-eq34+else-after_quote, else-byte-eq34-via-else-byte-eq34}

pub returns-then-after_quote : goal.returns-then-after_quote
returns-then-after_quote c rest =
    ap (λ (t : List ℕ). c.args.buffer.now.items ++ t) (sym (once-second c.args.after_quote c.args.byte rest c.if-after_quote.true c.if-byte-eq34.true))

pub returns : goal.returns
returns c rest =
    let byte = c.args.byte in
    let old = c.args.buffer.now.items in
    let other : ((byte == 34) && c.args.after_quote) ≡ false = elim c.else-byte-eq34.branch [
      | else-byte-eq34-via-then-byte-eq34+else-after_quote w ↦ and-second (byte == 34) c.args.after_quote w.if-after_quote.false
      | else-byte-eq34-via-else-byte-eq34 w ↦ and-first (byte == 34) c.args.after_quote (ne_eqb byte 34 w.if-byte-eq34.false)
    ] in
    ap (λ (t : List ℕ). t ++ once (byte == 34) rest) c.in_ok-push.ensures.items ∙ append_assoc old (byte ∷ []) (once (byte == 34) rest)
    ∙ ap (λ (t : List ℕ). old ++ t) (sym (once-other c.args.after_quote byte rest other))
