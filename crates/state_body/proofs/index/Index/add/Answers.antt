use Rattle.std.proofs.Common.{◌≡◌, ◌++◌, ◌∙◌, ℕ, List, ap, arith, refl}
use Rattle.state_file.specs.Number.{number_bytes}
use Rattle.state_file.specs.Text.{text_bytes}
use Rattle.state_body.proofs.Indexes.{index_more}
use Rattle.state_body.proofs.index.Index.add.Goals as goal

pub returns-clause-ok : goal.returns-clause-ok
returns-clause-ok c = λ kinds start blocks block is key many long.
    let at : c.from.result ≡ c.args.self.now.at = omega arith in
    index_more kinds start blocks block c.args.self.now _ c.args.first.now c.args.groups c.args.bytes is key many long
    (c.in_ok-push_text.ensures
    ∙ ap (λ (bs : List ℕ). bs ++ text_bytes c.args.first.now) (c.in_ok-push_number.ensures ∙ ap (λ (n : ℕ). c.args.self.now.places.items ++ number_bytes n) at)) refl refl refl
