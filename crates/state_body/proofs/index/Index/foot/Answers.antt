use Rattle.std.proofs.Common.{◌≡◌, ◌++◌, ◌∙◌, ℕ, List, ap, arith}
use Rattle.state_file.specs.Number.{number_bytes}
use Rattle.state_body.proofs.Ends.{foot_is}
use Rattle.state_body.proofs.index.Index.foot.Goals as goal

pub returns : goal.returns
returns c = λ kinds start blocks is.
    let rest = c.as_slice.result.now in
    let groups = number_bytes c.from.result in
    let many = number_bytes c.from-2.result in
    let groups_are : c.from.result ≡ c.args.self.now.groups = omega arith in
    let many_are : c.from-2.result ≡ c.args.self.now.blocks = omega arith in
    foot_is kinds start blocks c.args.self.now _ is (
    c.in_ok-extend_from_slice.ensures.items
    ∙ ap (λ (bs : List ℕ). bs ++ rest) (c.in_ok-push_number-2.ensures ∙ ap (λ (bs : List ℕ). bs ++ many) (c.in_ok-push_number.ensures ∙ ap (λ (bs : List ℕ). bs ++ groups) c.new-foot.ensures.items))
    ∙ ap (λ (n : ℕ). (number_bytes n ++ many) ++ rest) groups_are ∙ ap (λ (n : ℕ). (number_bytes c.args.self.now.groups ++ number_bytes n) ++ rest) many_are
    ∙ ap (λ (bs : List ℕ). (number_bytes c.args.self.now.groups ++ number_bytes c.args.self.now.blocks) ++ bs) c.as_slice.ensures.value)
