-- What a started or refused worker brings back is what the caller is promised.
use Rattle.std.proofs.Common.{ℕ, List, subst, sym}
use Rattle.std.specs.List.{AllZip}
use Rattle.parallel_ctx.specs.declared.tokens.Shared.{Shared}
use Rattle.parallel_ctx.specs.declared.tokens.Hand.{Hand}
use Rattle.parallel_ctx.specs.declared.start.Back.{Back}
use Rattle.parallel_ctx.specs.declared.start.Placed.{Placed}
use Rattle.parallel_ctx.specs.declared.start.Placed.TheVariants.{Running, Here}
use Rattle.par_model.specs.Plan.{Plan}
use Rattle.parallel_ctx.specs.Accounts.{Account}
use Rattle.parallel_ctx.specs.Returns.{Returns, Carries, Brought}
use Rattle.parallel_ctx.proofs.Zips.{AllZip-through}

module _ {W E : Type 0} (did : W → Plan → ℕ → Account → E → Type 0) (w : W) (s : Shared) where
  pub carried : (h : Hand) (p : Placed W E) (b : Back E) → Carries did w s h p → Brought did p b → Returns (did w) s h b
  carried h (Running c) b k q =
      subst (λ x. Returns (did x) s h b) k.0
      (subst (λ x. Returns (did c.promise.worker.value) x h b) k.1
      (subst (λ x. Returns (did c.promise.worker.value) c.promise.shared.value x b) k.2 q))
  carried h (Here x) b k q = subst (λ y. Returns (did w) s h y) (sym q) k

  pub all_carried : (hs : List Hand) (ps : List (Placed W E)) (bs : List (Back E))
      → AllZip (Carries did w s) hs ps → AllZip (Brought did) ps bs → AllZip (Returns (did w) s) hs bs
  all_carried = AllZip-through (Carries did w s) (Brought did) (Returns (did w) s) carried
