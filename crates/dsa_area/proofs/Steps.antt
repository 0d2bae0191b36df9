-- A call at the pages or at one pool is an event of the area; and events after events.
use Rattle.std.proofs.Common.{◌≡◌, ◌≢◌, ℕ, ◌+◌, ◌-◌, ◌*◌, ◌/◌, ◌%◌, ◌<◌, ◌⊎◌, ⊎_elim, inl, inr, Bool, true, false, IfOk, IfErr, Option, Some, None, is_some, IsSomeAnd, Vec, Result, Ok, Err, List, [], ◌∷◌, refl, sym, ap, ◌∙◌, subst, arith}
use mathlib.Core.Option.{some}
use lib.ListN.{get_elem?}
use Rattle.std.specs.Global.{Global}
use Rattle.atomic_table.specs.Seated.{TableId}
use Rattle.lock_book.specs.declared.view.Entry.{Entry}
use Rattle.lock_book.specs.Told.{Adds}
use Rattle.lock_book.specs.Shown as shelf
use Rattle.size_classes.specs.Classes.{IsClass, class_size, largest_size}
use Rattle.free_pages.specs.Area.{superblock_pages}
use Rattle.dsa_area.specs.Sizes.{page_bytes}
use Rattle.region_words.specs.declared.chunk.Chunk.{Chunk}
use Rattle.region_words.specs.declared.chunk.Run.{Run}
use Rattle.free_pages.specs.declared.pages.NoRun.{NoRun}
use Rattle.free_pages.specs.declared.pages.Usage.{Usage}
use Rattle.free_pages.specs.Legal.{PagesCall, PagesReply, Give, Accepts, HandsBack}
use Rattle.span_pools.specs.Legal.{PoolCall, PoolReply, PoolState}
use Rattle.span_pools.specs.declared.layout.Layout.{Layout}
use Rattle.span_pools.specs.PoolView.{IsSuperblock}
use Rattle.span_pools.specs.Batch.{AreChunks}
use Rattle.span_pools.proofs.Offers.{object_bytes}
use Rattle.dsa_area.specs.declared.area.Area.{Area}
use Rattle.dsa_area.specs.declared.area.AreaPass.{AreaPass}
use Rattle.dsa_area.specs.declared.pages.PagesName.{PagesName}
use Rattle.dsa_area.specs.declared.pages.PagesAnswer.{PagesAnswer}
use Rattle.dsa_area.specs.declared.pages.PagesAnswer.TheVariants.{Granted, Refused, Returned, Back, Seen}
use Rattle.dsa_area.specs.declared.pages.PagesAsk.TheVariants.{TakeRun, GiveRun, LookAt}
use Rattle.dsa_area.specs.Pages as pages
use Rattle.dsa_area.specs.Pages.{PagesLegal}
use Rattle.dsa_area.specs.Pools as pools
use Rattle.dsa_area.specs.Pools.{PoolLegal, IsObject}
use Rattle.dsa_area.specs.declared.pools.PoolAnswer.{PoolAnswer}
use Rattle.dsa_area.specs.declared.pools.PoolAnswer.TheVariants.{Given, AllLive, Freed, Emptied, NotOurs, Filled, FreedMany, EmptiedMany, NotAllOurs, Untouched}
use Rattle.dsa_area.specs.declared.pools.PoolAsk.TheVariants.{AllocObject, FreeObject, AllocObjects, FreeObjects, TrimPool}
use Rattle.span_pools.specs.declared.histories.PoolName.{PoolName}
use Rattle.dsa_area.specs.Shown.{IsArea, number_of, pages_name, none_granted, pool_name, no_superblock, pages_legal, pool_legal, pages_seen, pages_mine, pool_seen, pool_mine}
use Rattle.lock_book.specs.Told.{MakesAll}
use Rattle.dsa_area.specs.Requests.{Events, PageEvents, IsHandedBack}
use Rattle.lock_book.proofs.Uses.{one_call, then_calls}

-- the pages stand at place 0 of their shelf
pub pages_there : (region : TableId) (a : Area) → IsArea region a → get_elem? (shelf.opens_of a.pages) 0 ≡ some (pages_name region a, none_granted a)
pages_there region a k = ap (λ l. get_elem? l 0) k.pages

-- the pool of a class stands two places before its number
pub pool_there : (region : TableId) (a : Area) (class at : ℕ) → IsArea region a → IsClass class → at + 2 ≡ class → get_elem? (shelf.opens_of a.pools) at ≡ some (pool_name region a class, no_superblock)
pool_there region a class at k c e = subst (λ (z : ℕ). get_elem? (shelf.opens_of a.pools) at ≡ some (pool_name region a z, no_superblock)) e (k.pools at (let h = c.high in omega arith))

module _ (region : TableId) (a : Area) (p q : AreaPass) where
  pub page_event : (c : PagesCall) (r : PagesReply) → IsArea region a → q.pools ≡ p.pools → shelf.Called a.pages p.pages q.pages 0 c r → PageEvents a p q ((c, r) ∷ [])
  page_event c r k e x = record {
    pages = one_call PagesLegal (shelf.opens_of a.pages) (number_of p) (shelf.seen_of p.pages) (shelf.mine_of p.pages) (shelf.seen_of q.pages) (shelf.mine_of q.pages) 0 c r (pages_name region a, none_granted a) (pages_there region a k) x;
    pools = λ class is. (ap (λ z. shelf.seen_of z (class - 2)) e, ap (λ z. shelf.mine_of z (class - 2)) e);
  }

  pub pool_event : (class at : ℕ) (c : PoolCall) (r : PoolReply) → IsArea region a → shelf.number_of p.pools ≡ shelf.number_of p.pages → IsClass class → at + 2 ≡ class → q.pages ≡ p.pages → shelf.Called a.pools p.pools q.pools at c r
      → Events a p q class ((c, r) ∷ []) []
  pool_event class at c r k one is here e x =
      let place : at ≡ class - 2 = omega arith in
      let y : Adds PoolLegal (shelf.opens_of a.pools) (number_of p) (shelf.seen_of p.pools) (shelf.mine_of p.pools) (shelf.seen_of q.pools) (shelf.mine_of q.pools) (class - 2) c r =
      subst (λ (z : ℕ × ℕ). Adds PoolLegal (shelf.opens_of a.pools) z.0 (shelf.seen_of p.pools) (shelf.mine_of p.pools) (shelf.seen_of q.pools) (shelf.mine_of q.pools) z.1 c r) (λ i. (one i, place i)) x in
      record {
        pool = one_call PoolLegal (shelf.opens_of a.pools) (number_of p) (shelf.seen_of p.pools) (shelf.mine_of p.pools) (shelf.seen_of q.pools) (shelf.mine_of q.pools) (class - 2) c r (pool_name region a class, no_superblock)
            (pool_there region a class (class - 2) k is (let l = is.low in omega arith)) y;
        pages = (ap (λ z. shelf.seen_of z 0) e, ap (λ z. shelf.mine_of z 0) e);
        others = λ other o ne. let far : other - 2 ≢ class - 2 = (λ s. ne (let l = is.low in let m = o.low in omega arith)) in (y.others_seen (other - 2) far, y.others_mine (other - 2) far);
      }

-- an ask for a run is answered by one or by its lack
pub no_other_take : (n : PagesName) (count : ℕ) (control : _) (answer : PagesAnswer) → pages.AnswerFits n (TakeRun count control) answer → ((x : Run) → answer ≡ Granted x → ⊥) → ((x : NoRun) → answer ≡ Refused x → ⊥) → ⊥
no_other_take n count control (Granted x) f g h = g x refl
no_other_take n count control (Refused x) f g h = h x refl
no_other_take n count control Returned f g h = f
no_other_take n count control (Back x) f g h = f
no_other_take n count control (Seen x) f g h = f

-- a run that was brought is taken or handed back
pub no_other_give : (n : PagesName) (run : Run) (answer : PagesAnswer) → pages.AnswerFits n (GiveRun run) answer → (answer ≡ Returned → ⊥) → ((x : Run) → answer ≡ Back x → ⊥) → ⊥
no_other_give n run (Granted x) f g h = f
no_other_give n run (Refused x) f g h = f
no_other_give n run Returned f g h = g refl
no_other_give n run (Back x) f g h = h x refl
no_other_give n run (Seen x) f g h = f

-- a look is answered by what it saw
pub no_other_look : (n : PagesName) (answer : PagesAnswer) → pages.AnswerFits n LookAt answer → ((x : Usage) → answer ≡ Seen x → ⊥) → ⊥
no_other_look n (Granted x) f g = f
no_other_look n (Refused x) f g = f
no_other_look n Returned f g = f
no_other_look n (Back x) f g = f
no_other_look n (Seen x) f g = g x refl

-- an object is given, or none is free
pub no_other_alloc : (n : PoolName) (answer : PoolAnswer) → pools.AnswerFits n AllocObject answer → ((x : Chunk) → answer ≡ Given x → ⊥) → (answer ≡ AllLive → ⊥) → ⊥
no_other_alloc n (Given x) f g h = g x refl
no_other_alloc n AllLive f g h = h refl
no_other_alloc n Freed f g h = f
no_other_alloc n (Emptied x) f g h = f
no_other_alloc n (NotOurs x) f g h = f
no_other_alloc n (Filled x) f g h = f
no_other_alloc n (FreedMany x) f g h = f
no_other_alloc n (EmptiedMany x y) f g h = f
no_other_alloc n (NotAllOurs x y) f g h = f
no_other_alloc n Untouched f g h = f

-- an object that was brought is taken, with its superblock or without, or is handed back
pub no_other_free : (n : PoolName) (object : Chunk) (answer : PoolAnswer) → pools.AnswerFits n (FreeObject object) answer → (answer ≡ Freed → ⊥) → ((x : Run) → answer ≡ Emptied x → ⊥) → ((x : Chunk) → answer ≡ NotOurs x → ⊥) → ⊥
no_other_free n object (Given x) f g h k = f
no_other_free n object AllLive f g h k = f
no_other_free n object Freed f g h k = g refl
no_other_free n object (Emptied x) f g h k = h x refl
no_other_free n object (NotOurs x) f g h k = k x refl
no_other_free n object (Filled x) f g h k = f
no_other_free n object (FreedMany x) f g h k = f
no_other_free n object (EmptiedMany x y) f g h k = f
no_other_free n object (NotAllOurs x y) f g h k = f
no_other_free n object Untouched f g h k = f

-- a superblock goes out, or nothing does
pub no_other_trim : (n : PoolName) (answer : PoolAnswer) → pools.AnswerFits n TrimPool answer → ((x : Run) → answer ≡ Emptied x → ⊥) → (answer ≡ Untouched → ⊥) → ⊥
no_other_trim n (Given x) f g h = f
no_other_trim n AllLive f g h = f
no_other_trim n Freed f g h = f
no_other_trim n (Emptied x) f g h = g x refl
no_other_trim n (NotOurs x) f g h = f
no_other_trim n (Filled x) f g h = f
no_other_trim n (FreedMany x) f g h = f
no_other_trim n (EmptiedMany x y) f g h = f
no_other_trim n (NotAllOurs x y) f g h = f
no_other_trim n Untouched f g h = h refl

-- a list that was to be filled comes back
pub no_other_fill : (n : PoolName) (count : ℕ) (objects : Vec Chunk Global) (answer : PoolAnswer) → pools.AnswerFits n (AllocObjects count objects) answer → ((x : Vec Chunk Global) → answer ≡ Filled x → ⊥) → ⊥
no_other_fill n count objects (Given x) f g = f
no_other_fill n count objects AllLive f g = f
no_other_fill n count objects Freed f g = f
no_other_fill n count objects (Emptied x) f g = f
no_other_fill n count objects (NotOurs x) f g = f
no_other_fill n count objects (Filled x) f g = g x refl
no_other_fill n count objects (FreedMany x) f g = f
no_other_fill n count objects (EmptiedMany x y) f g = f
no_other_fill n count objects (NotAllOurs x y) f g = f
no_other_fill n count objects Untouched f g = f

-- the rest of a list comes back in three ways
pub no_other_return : (n : PoolName) (count : ℕ) (objects : Vec Chunk Global) (answer : PoolAnswer) → pools.AnswerFits n (FreeObjects count objects) answer → ((x : Vec Chunk Global) → answer ≡ FreedMany x → ⊥)
    → ((x : Vec Chunk Global) (y : Run) → answer ≡ EmptiedMany x y → ⊥) → ((x : Vec Chunk Global) (y : Chunk) → answer ≡ NotAllOurs x y → ⊥) → ⊥
no_other_return n count objects (Given x) f g h k = f
no_other_return n count objects AllLive f g h k = f
no_other_return n count objects Freed f g h k = f
no_other_return n count objects (Emptied x) f g h k = f
no_other_return n count objects (NotOurs x) f g h k = f
no_other_return n count objects (Filled x) f g h k = f
no_other_return n count objects (FreedMany x) f g h k = g x refl
no_other_return n count objects (EmptiedMany x y) f g h k = h x y refl
no_other_return n count objects (NotAllOurs x y) f g h k = k x y refl
no_other_return n count objects Untouched f g h k = f

-- an object has the bytes of its class
pub is_object : (region : TableId) (a : Area) (class : ℕ) (x : Chunk) → IsClass class → IsObject (pool_name region a class) x → (x.bytes ≡ class_size class) × (x.part.region ≡ region)
is_object region a class x is o = (o.0 ∙ object_bytes class a.first a.count is, o.1)

-- and so have many
pub are_objects : (region : TableId) (a : Area) (class : ℕ) (xs : List Chunk) → IsClass class → AreChunks region (8 * (pool_name region a class).layout.size) xs → AreChunks region (class_size class) xs
are_objects region a class xs is h = subst (λ (z : ℕ). AreChunks region z xs) (object_bytes class a.first a.count is) h

-- a pool may be given chunks of its class's bytes
pub may_come : (region : TableId) (a : Area) (class : ℕ) (xs : List Chunk) → IsClass class → AreChunks region (class_size class) xs → AreChunks region (8 * (pool_name region a class).layout.size) xs
may_come region a class xs is h = subst (λ (z : ℕ). AreChunks region z xs) (sym (object_bytes class a.first a.count is)) h

-- so the pool of the class may be asked to take them
pub pool_asked : (region : TableId) (a : Area) (class at : ℕ) (xs : List Chunk) (o : PoolName × PoolState) → IsArea region a → IsClass class → at + 2 ≡ class → get_elem? (shelf.opens_of a.pools) at ≡ some o
    → AreChunks region (class_size class) xs → (region ≡ o.0.region) × AreChunks o.0.region (8 * o.0.layout.size) xs
pool_asked region a class at xs o k is here e h =
    let there : some (pool_name region a class, no_superblock) ≡ some o = sym (pool_there region a class at k is here) ∙ e in
    let same : ◌≡◌ {A = PoolName × PoolState} (pool_name region a class, no_superblock) o = cc in
    subst (λ (z : PoolName × PoolState). (region ≡ z.0.region) × AreChunks z.0.region (8 * z.0.layout.size) xs) same (refl, may_come region a class xs is h)

-- events at the pages after events at a pool
pub pool_then_pages : (a : Area) (p m q : AreaPass) (class : ℕ) (es : List (PoolCall × PoolReply)) (fs : List (PagesCall × PagesReply)) → number_of m ≡ number_of p → IsClass class
    → Events a p m class es [] → PageEvents a m q fs → Events a p q class es fs
pool_then_pages a p m q class es fs same is x y =
    let later = y.pools class is in
    record {
      pool = subst (λ (z : List (Entry PoolState PoolCall PoolReply) × List (Entry PoolState PoolCall PoolReply)). MakesAll (pool_legal a class) no_superblock (number_of p) (pool_seen p class) (pool_mine p class) z.0 z.1 es) (λ i. (sym later.0 i, sym later.1 i)) x.pool;
      pages = then_calls (pages_legal a) (none_granted a) (number_of p) (pages_seen p) (pages_mine p) (pages_seen m) (pages_mine m) (pages_seen q) (pages_mine q) [] fs x.pages
          (subst (λ (n : ℕ). MakesAll (pages_legal a) (none_granted a) n (pages_seen m) (pages_mine m) (pages_seen q) (pages_mine q) fs) same y.pages);
      others = λ other o ne. let before = x.others other o ne in let after = y.pools other o in (after.0 ∙ before.0, after.1 ∙ before.1);
    }

has_some : {T : Type 0} (o : Option T) (P : T → Type 0) → IsSomeAnd o P → is_some o ≡ true
has_some None P h = absurd h
has_some (Some x) P h = refl

-- a superblock was given to the pages, whatever they replied
pub some_reply : (region : TableId) (a : Area) (p q : AreaPass) (run : Run) (l : Layout) (result : Result (Unit {0}) Run) → IsSuperblock region l run.at run.pages run.words run.control
    → IfOk result (λ _. PageEvents a p q ((Give run.at run.pages (is_some run.control), Accepts) ∷ [])) → IfErr result (λ _. PageEvents a p q ((Give run.at run.pages (is_some run.control), HandsBack) ∷ []))
    → (reply : PagesReply) × PageEvents a p q ((Give run.at superblock_pages true, reply) ∷ [])
some_reply region a p q run l result s x y = go result x y
  where
    whole : (reply : PagesReply) → PageEvents a p q ((Give run.at run.pages (is_some run.control), reply) ∷ []) → PageEvents a p q ((Give run.at superblock_pages true, reply) ∷ [])
    whole reply z = subst (λ (z : ℕ × Bool). PageEvents a p q ((Give run.at z.0 z.1, reply) ∷ [])) (λ i. (s.pages_is i, has_some run.control _ s.records_are i)) z

    go : (result : Result (Unit {0}) Run) → IfOk result (λ _. PageEvents a p q ((Give run.at run.pages (is_some run.control), Accepts) ∷ [])) → IfErr result (λ _. PageEvents a p q ((Give run.at run.pages (is_some run.control), HandsBack) ∷ []))
        → (reply : PagesReply) × PageEvents a p q ((Give run.at superblock_pages true, reply) ∷ [])
    go (Ok u) x y = (Accepts, whole Accepts x)
    go (Err e) x y = (HandsBack, whole HandsBack y)

-- whole pages that come back as they were were handed back
pub whole_back : {T E : Type 0} (a : Area) (p q : AreaPass) (at bytes : ℕ) (result : Result T E) → largest_size < bytes → ((class : ℕ) → IsClass class → class_size class ≢ bytes)
    → IfErr result (λ _. ((bytes % page_bytes ≡ 0) × PageEvents a p q ((Give at (bytes / page_bytes) false, HandsBack) ∷ [])) ⊎ ((bytes % page_bytes ≢ 0) × PageEvents a p q []))
    → IfErr result (λ _. IsHandedBack a p q at bytes)
whole_back a p q at bytes (Ok x) large none h = tt
whole_back a p q at bytes (Err e) large none h =
    ⊎_elim
    (λ (x : (bytes % page_bytes ≡ 0) × PageEvents a p q ((Give at (bytes / page_bytes) false, HandsBack) ∷ [])). inr (inl (large, x.0, x.1)))
    (λ (x : (bytes % page_bytes ≢ 0) × PageEvents a p q []). inr (inr (none, (λ _. x.0), x.1)))
    h
