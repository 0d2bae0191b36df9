use Rattle.std.proofs.Common.{◌≡◌, ◌∷◌, ◌++◌, ◌∙◌, [], ℕ, Bool, true, List, ap, if◌then◌else◌, subst, sym}
use Rattle.csv.specs.Writing.{by_style, default_writer, escaped, needs_quotes, quoted}
use Rattle.csv.specs.declared.writer.QuoteStyle.TheVariants.{Necessary}
use Rattle.answer_text.specs.Held.{Puts}
use Rattle.answer_text.proofs.Going.{puts-then}
use Rattle.answer_text.proofs.record.put_field.Goals as goal

pub returns-then-is_quoted : goal.returns-then-is_quoted
returns-then-is_quoted g c =
    let field = c.args.field.now in
    let taken = g.O.Sink.taken in
    let faults = g.O.Sink.faults in
    let Text : List ℕ → Type 0 = Puts taken faults c.args.out.now c.put-then-is_quoted.new.out c.args.held.now c.put-then-is_quoted.new.self in
    let needs : needs_quotes default_writer field ≡ true = sym c.is_quoted.ensures ∙ c.if-is_quoted.true in
    subst Text (sym (ap (λ (b : Bool). if by_style Necessary b then quoted default_writer field else field) needs))
    (puts-then taken faults c.args.out.now c.put.new.out c.put-then-is_quoted.new.out c.args.held.now c.put.new.self c.put-then-is_quoted.new.self (34 ∷ []) (escaped default_writer field ++ 34 ∷ []) c.put.ensures
    (puts-then taken faults c.put.new.out c.put_escaped.new.out c.put-then-is_quoted.new.out c.put.new.self c.put_escaped.new.held c.put-then-is_quoted.new.self (escaped default_writer field) (34 ∷ []) c.put_escaped.ensures c.put-then-is_quoted.ensures))
