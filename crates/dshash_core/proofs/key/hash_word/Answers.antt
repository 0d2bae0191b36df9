use Rattle.std.proofs.Common.{◌≡◌, ℕ, ◌-◌, ◌≤◌, ◌/◌, get_or, refl, sym, ◌∙◌, arith}
use Rattle.dshash_core.proofs.Hashes.{some_left, next_byte, next_low, last_product, are_powers, listed_powers}
use Rattle.dshash_core.proofs.key.hash_word.Goals as goal

pub loop-rest-init : goal.loop-rest-init
loop-rest-init c = record {
  hashed = refl;
  rest = let e : c.args.word ≡ c.args.word / 1 = omega arith in e;
  most = omega arith;
  low = c.ranges.word.fits;
}

pub overflow_sub-left : goal.overflow_sub-left
overflow_sub-left c = some_left c.loop-rest.left c.loop-rest.rest c.loop-rest.invariant.low (omega (arith, c.loop-rest-test.true))

pub loop-rest-preserved : goal.loop-rest-preserved
loop-rest-preserved c =
    let i = c.loop-rest.invariant in
    let some : 1 ≤ c.loop-rest.left = some_left c.loop-rest.left c.loop-rest.rest i.low (omega (arith, c.loop-rest-test.true)) in
    let next = next_byte c.loop-rest.left c.loop-rest.rest c.loop-rest.hashed c.args.word i.most some i.rest in
    record {
      hashed = i.hashed ∙ next.0;
      rest = next.1;
      most = omega (arith, i.most);
      low = next_low c.loop-rest.left c.loop-rest.rest some i.low;
    }

pub bounds-left : goal.bounds-left
bounds-left c = let most = c.loop-rest.invariant.most in omega arith

pub returns : goal.returns
returns c =
    let i = c.loop-rest.invariant in
    let left : ℕ = c.loop-rest.left in
    last_product left (8 - left) c.loop-rest.hashed c.args.word (get_or listed_powers left 0) (omega (arith, c.loop-rest.auto.hashed-fits)) (sym i.rest ∙ c.loop-rest-test.false) (are_powers left (let most = i.most in omega arith)) ∙ sym i.hashed
