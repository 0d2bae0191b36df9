use Rattle.std.proofs.Common.{◌≡◌, ◌≢◌, ◌+◌, ◌++◌, [], ◌∷◌, ℕ, List, length, arith, ap, sym, subst, ◌∙◌, length-append}
use Rattle.join_pairs.specs.Chains.{before_in}
use Rattle.join_pairs.specs.declared.pairs.Pair.{Pair}
use Rattle.join_pairs.proofs.Following.{IsPart, follow_end, follow_next}
use Rattle.join_pairs.proofs.pairing.follow.Goals as goal

pub loop-left-preserved : goal.loop-left-preserved
loop-left-preserved c =
    let b = before_in c.args.chains.now.befores.items in
    let one : Pair = record { left = c.loop-left.left; right = c.args.right } in
    let pushed : c.push.new.self.items ≡ c.loop-left.pairs.items ++ one ∷ [] = rw c.if-is_err.ensures.negation at c.push.ensures.items in
    let long : length c.push.new.self.items ≡ length c.loop-left.pairs.items + 1 = ap (λ (l : List Pair). length l) pushed ∙ length-append c.loop-left.pairs.items (one ∷ []) in
    let some : c.loop-left.left ≢ 0 = grind (arith, c.loop-left-test.true) in
    let next = follow_next b c.args.right c.args.pairs.now.items c.args.last c.loop-left.left c.loop-left.pairs.items some c.loop-left.invariant.1 in (
      omega (arith, long, c.if-len-ge-MOST_PAIRS.false, c.len.ensures),
      λ chain h. subst (λ (n : ℕ). IsPart b c.args.right c.args.pairs.now.items n c.push.new.self.items chain) (sym c.before-left.ensures)
          (subst (λ (l : List Pair). IsPart b c.args.right c.args.pairs.now.items (b c.loop-left.left) l chain) (sym pushed) (next chain h)),
    )

pub returns-clause-added : goal.returns-clause-added
returns-clause-added c =
    let none : c.loop-left.left ≡ 0 = grind (arith, c.loop-left-test.false) in
    follow_end (before_in c.args.chains.now.befores.items) c.args.right c.args.pairs.now.items c.args.last c.loop-left.left c.loop-left.pairs.items none c.loop-left.invariant.1
