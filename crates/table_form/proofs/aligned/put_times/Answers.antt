use Rattle.std.proofs.Common.{◌≡◌, ◌∙◌, ◌∷◌, ◌++◌, [], List, ℕ, ap, append-nil, append_assoc, arith, replicate, sym}
use Rattle.std.proofs.lemmas.List.{replicate_more}
use Rattle.table_form.proofs.aligned.put_times.Goals as goal

pub loop-at-init : goal.loop-at-init
loop-at-init c = sym (append-nil c.args.out.now.items)

pub loop-at-preserved : goal.loop-at-preserved
loop-at-preserved c =
    let out = c.args.out.now.items in
    let byte = c.args.byte in
    let at = c.loop-at._at in
    c.in_ok-push.ensures.items ∙ ap (λ (t : List ℕ). t ++ byte ∷ []) c.loop-at.invariant ∙ append_assoc out (replicate at byte) (byte ∷ []) ∙ ap (λ (t : List ℕ). out ++ t) (replicate_more at byte)

pub returns : goal.returns
returns c =
    let same : c.loop-at._at ≡ c.args.times = omega (arith, c.loop-at-test.false) in
    c.loop-at.invariant ∙ ap (λ (n : ℕ). c.args.out.now.items ++ replicate n c.args.byte) same
