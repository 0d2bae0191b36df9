use Rattle.std.proofs.Common.{◌++◌, ◌∙◌, List, ℕ, ap, drop, length, refl, sym}
use Rattle.std.proofs.lemmas.Bool.Decides.{Decides-eqb}
use Rattle.std.proofs.lemmas.List.{take-append-drop, take_all}
use Rattle.std.proofs.lemmas.Slice.Eq.{starts_is}
use Rattle.key_index.proofs.Front.{front-same}
use Rattle.key_index.proofs.list.common_front.Goals as goal

pub returns-then-starts_with-clause-front : goal.returns-then-starts_with-clause-front
returns-then-starts_with-clause-front c = front-same c.args.front.now c.args.front.now refl

pub returns-then-starts_with-clause-key : goal.returns-then-starts_with-clause-key
returns-then-starts_with-clause-key c = record {
  rest = drop (length c.args.front.now) c.args.key.now;
  is = (starts_is Decides-eqb c.args.key.now c.args.front.now c.starts_with.result c.starts_with.ensures.value).0 c.if-starts_with.true;
}

pub returns-then-at-key-clause-front : goal.returns-then-at-key-clause-front
returns-then-at-key-clause-front c = record { rest = drop c.loop-at.at c.args.front.now; is = sym (take-append-drop c.loop-at.at c.args.front.now) }

pub returns-then-at-key-clause-key : goal.returns-then-at-key-clause-key
returns-then-at-key-clause-key c = record {
  rest = drop c.loop-at.at c.args.key.now;
  is = sym (take-append-drop c.loop-at.at c.args.key.now) ∙ ap (λ (front : List ℕ). front ++ drop c.loop-at.at c.args.key.now) (sym c.loop-at.invariant.same);
}

pub returns-clause-key : goal.returns-clause-key
returns-clause-key c = record {
  rest = drop c.loop-at.at c.args.key.now;
  is =
      sym (take-append-drop c.loop-at.at c.args.key.now)
      ∙ ap (λ (front : List ℕ). front ++ drop c.loop-at.at c.args.key.now) (sym c.loop-at.invariant.same ∙ take_all c.loop-at.at c.args.front.now c.loop-at-test.false);
}
