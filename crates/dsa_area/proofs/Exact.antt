-- A call has one answer: a chunk is not both taken back and handed back.
use Rattle.std.proofs.Common.{◌≡◌, ◌≢◌, ℕ, ◌/◌, ◌%◌, ◌<◌, ◌⊎◌, true, false, List, [], ◌∷◌, ◌++◌, map, refl, sym, ap, ◌∙◌, subst, ⊎_elim}
use Rattle.std.proofs.lemmas.List.{append-nil, append_assoc, append_cancel_left}
use mathlib.Core.Logic.{dite}
use native.Mathlib.Decide.{ℕ_discrete}
use Rattle.lock_book.specs.declared.view.Entry.{Entry}
use Rattle.lock_book.specs.History.{entry}
use Rattle.size_classes.specs.Classes.{IsClass, class_size, largest_size}
use Rattle.free_pages.specs.Area.{superblock_pages}
use Rattle.free_pages.specs.Legal.{PagesCall, PagesReply, Give, Accepts, HandsBack}
use Rattle.span_pools.specs.Legal.{PoolCall, PoolReply, Free, Kept, Whole, Stranger}
use Rattle.dsa_area.specs.declared.area.Area.{Area}
use Rattle.dsa_area.specs.declared.area.AreaPass.{AreaPass}
use Rattle.lock_book.specs.Told.{MakesAll}
use Rattle.dsa_area.specs.Sizes.{page_bytes}
use Rattle.dsa_area.specs.Shown.{number_of, none_granted, no_superblock, pages_legal, pool_legal, pages_seen, pages_mine, pool_seen, pool_mine}
use Rattle.dsa_area.specs.Requests.{AtPages, AtPool, Events, PoolEvents, PageEvents, IsTakenBack, IsHandedBack}

module _ {S C R : Type 0} (legal : ℕ → S → C → R → S → Type 0) (opening : S) (n : ℕ) where
  -- the own calls grow by entries with just these calls and replies
  own_grows : (s m s' m' : List (Entry S C R)) (es : List (C × R)) → MakesAll legal opening n s m s' m' es → (xs : List (Entry S C R)) × (m' ≡ m ++ xs) × (map (λ (e : Entry S C R). (e.call, e.reply)) xs ≡ es)
  own_grows s m s' m' [] x = ([], x.1 ∙ sym (append-nil m), refl)
  own_grows s m s' m' (e ∷ es) x =
      let r = own_grows x.0 x.1 s' m' es x.3 in
      let one = entry n e.0 e.1 x.2.after in
      (one ∷ r.0, r.1 ∙ (ap (λ (z : List (Entry S C R)). z ++ r.0) x.2.own ∙ append_assoc m (one ∷ []) r.0), ap (λ (z : List (C × R)). e ∷ z) r.2)

  -- so the same growth is made by the same calls with the same replies
  one_reading : (s m s' m' : List (Entry S C R)) (es fs : List (C × R)) → MakesAll legal opening n s m s' m' es → MakesAll legal opening n s m s' m' fs → es ≡ fs
  one_reading s m s' m' es fs x y =
      let a = own_grows s m s' m' es x in
      let b = own_grows s m s' m' fs y in
      sym a.2 ∙ (ap (map (λ (e : Entry S C R). (e.call, e.reply))) (append_cancel_left m a.0 b.0 (sym a.1 ∙ b.1)) ∙ b.2)

one_none : {A : Type 0} (x : A) → x ∷ [] ≡ [] → ⊥
one_none x e = absurd (cc)

reply_same : {C R : Type 0} (c : C) (r t : R) → ◌≡◌ {A = List (C × R)} ((c, r) ∷ []) ((c, t) ∷ []) → r ≡ t
reply_same {C} {R} c r t e = let one : ◌≡◌ {A = C × R} (c, r) (c, t) = cc in ap (λ (z : C × R). z.1) one

module _ (a : Area) (p q : AreaPass) (at bytes : ℕ) where
  at_pool : (class : ℕ) (es fs : List (PoolCall × PoolReply)) → AtPool a p q class es → AtPool a p q class fs → es ≡ fs
  at_pool class es fs = one_reading (pool_legal a class) no_superblock (number_of p) (pool_seen p class) (pool_mine p class) (pool_seen q class) (pool_mine q class) es fs

  at_pages : (es fs : List (PagesCall × PagesReply)) → AtPages a p q es → AtPages a p q fs → es ≡ fs
  at_pages es fs = one_reading (pages_legal a) (none_granted a) (number_of p) (pages_seen p) (pages_mine p) (pages_seen q) (pages_mine q) es fs

  abbrev object_back : Type 0
  object_back = (class : ℕ) × IsClass class × (class_size class ≡ bytes) × PoolEvents a p q class ((Free at bytes, Stranger) ∷ [])

  abbrev pages_back : Type 0
  pages_back = (largest_size < bytes) × (bytes % page_bytes ≡ 0) × PageEvents a p q ((Give at (bytes / page_bytes) false, HandsBack) ∷ [])

  abbrev nothing_asked : Type 0
  nothing_asked = ((class : ℕ) → IsClass class → class_size class ≢ bytes) × (largest_size < bytes → bytes % page_bytes ≢ 0) × PageEvents a p q []

  -- a pool that took the object did not hand it back
  object_taken : (class : ℕ) (r : PoolReply) → (r ≡ Stranger → ⊥) → IsClass class → class_size class ≡ bytes → AtPool a p q class ((Free at bytes, r) ∷ []) → IsHandedBack a p q at bytes → ⊥
  object_taken class r ne is size x h = ⊎_elim
      (λ (k : object_back). dite (ℕ_discrete class k.0)
      (λ e. ne (reply_same (Free at bytes) r Stranger (at_pool class _ _ x (subst (λ (z : ℕ). AtPool a p q z ((Free at bytes, Stranger) ∷ [])) (sym e) k.3.pool))))
      (λ n. one_none (Free at bytes, r) (at_pool class _ _ x (k.3.others class is n))))
      (λ (m : pages_back ⊎ nothing_asked). ⊎_elim
      (λ (l : pages_back). one_none (Free at bytes, r) (at_pool class _ _ x (l.2.pools class is)))
      (λ (o : nothing_asked). o.0 class is size)
      m)
      h

  -- pages that were taken back were not handed back
  pages_taken : largest_size < bytes → bytes % page_bytes ≡ 0 → PageEvents a p q ((Give at (bytes / page_bytes) false, Accepts) ∷ []) → IsHandedBack a p q at bytes → ⊥
  pages_taken large whole x h = ⊎_elim
      (λ (k : object_back). one_none (Free at bytes, Stranger) (at_pool k.0 _ _ k.3.pool (x.pools k.0 k.1)))
      (λ (m : pages_back ⊎ nothing_asked). ⊎_elim
      (λ (l : pages_back). absurd (let e = reply_same (Give at (bytes / page_bytes) false) Accepts HandsBack (at_pages _ _ x.pages l.2.pages) in cc))
      (λ (o : nothing_asked). o.1 large whole)
      m)
      h

  -- a chunk is not both taken back and handed back: so `free` answers Stranger exactly where its own event did, or by
  -- the size
  pub not_both : IsTakenBack a p q at bytes → IsHandedBack a p q at bytes → ⊥
  not_both x h = ⊎_elim
      (λ (k : (class : ℕ) × IsClass class × (class_size class ≡ bytes) × PoolEvents a p q class ((Free at bytes, Kept) ∷ [])). object_taken k.0 Kept (λ e. absurd (cc)) k.1 k.2 k.3.pool h)
      (λ (m : ((class run : ℕ) × (reply : PagesReply) × IsClass class × (class_size class ≡ bytes) × Events a p q class ((Free at bytes, Whole run) ∷ []) ((Give run superblock_pages true, reply) ∷ []))
      ⊎ ((largest_size < bytes) × (bytes % page_bytes ≡ 0) × PageEvents a p q ((Give at (bytes / page_bytes) false, Accepts) ∷ []))). ⊎_elim
      (λ (k : (class run : ℕ) × (reply : PagesReply) × IsClass class × (class_size class ≡ bytes) × Events a p q class ((Free at bytes, Whole run) ∷ []) ((Give run superblock_pages true, reply) ∷ [])).
      object_taken k.0 (Whole k.1) (λ e. absurd (cc)) k.3 k.4 k.5.pool h)
      (λ (l : (largest_size < bytes) × (bytes % page_bytes ≡ 0) × PageEvents a p q ((Give at (bytes / page_bytes) false, Accepts) ∷ [])). pages_taken l.0 l.1 l.2 h)
      m)
      x
