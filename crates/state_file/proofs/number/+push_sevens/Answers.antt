use Rattle.std.proofs.Common.{◌≡◌, ◌++◌, ◌-◌, ◌/◌, ◌∙◌, ℕ, List, OnOk, ap, sym, subst}
use Rattle.state_file.specs.Number.{sevens}
use Rattle.state_file.proofs.Sevens.{has_more, last, written_on}
use Rattle.state_file.proofs.number.+push_sevens.Goals as goal

pub returns-in_ok-push : goal.returns-in_ok-push
returns-in_ok-push t c =
    c.in_ok-push.ensures.items ∙ ap (λ (bs : List ℕ). c.args.out.now.items ++ bs) (sym (last c.args.more c.args.n c.if-n-lt128.true))

pub returns-in_ok-push-2 : goal.returns-in_ok-push-2
returns-in_ok-push-2 t c =
    let n = c.args.n in
    let more = c.args.more in
    subst (λ (bs : List ℕ). OnOk c.push_sevens.result (c.push_sevens.new.out.items ≡ bs))
    (ap (λ (bs : List ℕ). bs ++ sevens (more - 1) (n / 128)) c.in_ok-push-2.ensures.items ∙ written_on c.args.out.now.items more n c.if-n-lt128.false (has_more more n c.requires c.if-n-lt128.false))
    c.push_sevens.ensures
