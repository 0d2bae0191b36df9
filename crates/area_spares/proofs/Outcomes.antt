-- What a call on the spares of one class says of those of all classes.
use Rattle.std.proofs.Common.{◌≡◌, ℕ, suc, ◌+◌, List, Result, IfOk, IfErr, inl, sym, subst, arith}
use Rattle.atomic_table.specs.Seated.{TableId}
use Rattle.region_words.specs.declared.chunk.Chunk.{Chunk}
use Rattle.size_classes.specs.Classes.{IsClass, IsLeast, class_size, first_class}
use Rattle.dsa_area.specs.declared.area.Area.{Area}
use Rattle.dsa_area.specs.declared.area.AreaPass.{AreaPass}
use Rattle.dsa_area.specs.declared.requests.NoSpace.{NoSpace}
use Rattle.dsa_area.specs.declared.requests.Stranger.{Stranger}
use Rattle.area_spares.specs.declared.spares.Spares.{Spares}
use Rattle.area_spares.specs.declared.classes.ClassSpares.{ClassSpares}
use Rattle.area_spares.specs.Spares.{AllGoBack, IsKept, IsKeptBeside, IsLacking, IsTakenOut, batch_of, class_of, kept_of}
use Rattle.area_spares.specs.Classes.{ComesOut, FirstBack, GoesIn, GoesInBeside, IsShort, kept_in}
use Rattle.area_spares.proofs.Each.{Changed, batch_is, kept_is}
use Rattle.area_spares.proofs.Lists.{err_as, ok_as}

module _ (a : Area) (p q : AreaPass) (region : TableId) (old : ClassSpares) (class : ℕ) (x y : Spares) (new : ClassSpares) (k : Changed region old class x y new) where
  pub comes_out : (bytes : ℕ) (r : Result Chunk NoSpace) → IsLeast bytes class → IfOk r (λ c. IsTakenOut a p q (class_of x) (batch_of x) (kept_of x) (kept_of y) c) → IfOk r (λ c. ComesOut a p q old new bytes c)
  comes_out bytes r least = ok_as r (λ c. IsTakenOut a p q (class_of x) (batch_of x) (kept_of x) (kept_of y) c) (λ c. ComesOut a p q old new bytes c) (λ c h. inl (
    class,
    least,
    subst (λ (z : ℕ × ℕ × List Chunk × List Chunk). IsTakenOut a p q z.0 z.1 z.2 z.3 c) (λ i. (k.class_is i, sym (batch_is old class x k.is) i, sym (kept_is old class x k.is) i, sym (kept_is new class y k.here) i)) h,
    k.else,
  ))

  pub is_short : (bytes : ℕ) (r : Result Chunk NoSpace) → IsLeast bytes class → IfErr r (λ e. IsLacking a p q (class_of x) (batch_of x) (kept_of x) (kept_of y) e.pages e.largest) → IfErr r (λ e. IsShort a p q old new bytes e.pages e.largest)
  is_short bytes r least = err_as r (λ e. IsLacking a p q (class_of x) (batch_of x) (kept_of x) (kept_of y) e.pages e.largest) (λ e. IsShort a p q old new bytes e.pages e.largest) (λ e h. inl (
    class,
    least,
    subst (λ (z : ℕ × ℕ × List Chunk × List Chunk). IsLacking a p q z.0 z.1 z.2 z.3 e.pages e.largest) (λ i. (k.class_is i, sym (batch_is old class x k.is) i, sym (kept_is old class x k.is) i, sym (kept_is new class y k.here) i)) h,
    k.else,
  ))

  pub goes_in : {T : Type 0} (c : Chunk) (r : Result T Stranger) → IsClass class → class_size class ≡ c.bytes → IfOk r (λ _. IsKept a p q (class_of x) (kept_of x) (kept_of y) c) → IfOk r (λ _. GoesIn a p q old new c)
  goes_in c r is size = ok_as r (λ _. IsKept a p q (class_of x) (kept_of x) (kept_of y) c) (λ _. GoesIn a p q old new c) (λ _ h. inl (
    class,
    is,
    size,
    subst (λ (z : ℕ × List Chunk × List Chunk). IsKept a p q z.0 z.1 z.2 c) (λ i. (k.class_is i, sym (kept_is old class x k.is) i, sym (kept_is new class y k.here) i)) h,
    k.else,
  ))

  pub goes_in_beside : {T : Type 0} (c : Chunk) (r : Result T Stranger) → IsClass class → class_size class ≡ c.bytes → IfErr r (λ s. IsKeptBeside a p q (class_of x) (kept_of x) (kept_of y) c s.chunk) → IfErr r (λ s. GoesInBeside a p q old new c s.chunk)
  goes_in_beside c r is size = err_as r (λ s. IsKeptBeside a p q (class_of x) (kept_of x) (kept_of y) c s.chunk) (λ s. GoesInBeside a p q old new c s.chunk) (λ s h. inl (
    class,
    is,
    size,
    subst (λ (z : ℕ × List Chunk × List Chunk). IsKeptBeside a p q z.0 z.1 z.2 c s.chunk) (λ i. (k.class_is i, sym (kept_is old class x k.is) i, sym (kept_is new class y k.here) i)) h,
    k.else,
  ))

  -- all objects of the class went back
  pub all_back : AllGoBack a (class_of x) p (kept_of x) q → AllGoBack a class p (kept_of x) q
  all_back h = subst (λ (z : ℕ). AllGoBack a z p (kept_of x) q) k.class_is h

-- one class more
pub back_next : (a : Area) (s : ClassSpares) (n : ℕ) (p mid q : AreaPass) → FirstBack a s n p mid → AllGoBack a (n + first_class) mid (kept_in s (n + first_class)) q → FirstBack a s (n + 1) p q
back_next a s n p mid q before this =
    let more : suc n ≡ n + 1 = omega arith in
    subst (λ (m : ℕ). FirstBack a s m p q) more (mid, before, this)
