use Rattle.std.proofs.Common.{◌≡◌, IfSome, Option, Some, arith, subst}
use Rattle.uses_load.proofs.table.puts.Goals as goal

some_of : {X : Type 0} (P : X → Type 0) (o : Option X) (x : X) → o ≡ Some x → IfSome o P → P x
some_of P o x e h = subst (λ p. IfSome p P) e h

pub loop-at-init : goal.loop-at-init
loop-at-init g c = record {
  own = c.requires.own;
  spares = some_of _ _ _ c.in-Ok-Some.field-0-is c.in-Ok-Some.ensures.spares c.args.r.now;
  size = some_of _ _ _ c.in-Ok-Some.field-0-is c.in-Ok-Some.ensures.size;
  spare = tt;
  few = omega arith;
}
