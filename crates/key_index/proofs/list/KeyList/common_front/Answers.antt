use Rattle.std.proofs.Common.{◌≡◌, ◌<◌, ◌∙◌, [], ap, arith, length, subst, sym}
use Rattle.std.proofs.lemmas.List.{get_or_default}
use Rattle.std.proofs.lemmas.Option.{get_or_from_slice_get}
use Rattle.key_index.specs.Front.{IsFrontOf}
use Rattle.key_index.specs.Keys.{key_at}
use Rattle.key_index.proofs.Front.{front-of-front, front-same}
use Rattle.key_index.proofs.Index.{more_steps}
use Rattle.key_index.proofs.list.KeyList.common_front.Goals as goal

pub loop-at-init : goal.loop-at-init
loop-at-init c = λ k first lt.
    let e : k ≡ 0 = omega arith in
    front-same c.get_or_none-front.result.now (key_at c.args.self.now k) (ap (key_at c.args.self.now) e ∙ sym c.get_or_none-front.ensures)

pub loop-at-preserved : goal.loop-at-preserved
loop-at-preserved c =
    let keys = c.args.self.now in
    more_steps {P = λ k. k < length keys → IsFrontOf c.common_front-front.result.now (key_at keys k)} c.loop-at.at
    (λ k before lt. front-of-front c.common_front-front.result.now c.loop-at.front.now (key_at keys k) c.common_front-front.ensures.front (c.loop-at.invariant k before lt))
    (λ lt. subst (IsFrontOf c.common_front-front.result.now) (sym (get_or_from_slice_get keys c.loop-at.at c.get.result.now [] c.get.ensures)) c.common_front-front.ensures.key)

pub returns : goal.returns
returns c = λ k d lt.
    let keys = c.args.self.now in
    subst (IsFrontOf c.loop-at.front.now) (get_or_default keys k [] d lt) (c.loop-at.invariant k (omega (arith, lt, c.len-at-end.ensures, c.loop-at-test.false)) lt)
