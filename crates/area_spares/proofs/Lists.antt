-- The list of kept objects after each kind of step, and what the events say of its length.
use Rattle.std.proofs.Common.{◌≡◌, ℕ, ◌*◌, ◌<◌, ◌≤◌, List, [], ◌∷◌, ◌++◌, Vec, vec_capacity, length, Result, Ok, Err, IfOk, IfErr, length-append, refl, sym, ap, subst, arith}
use Rattle.std.proofs.lemmas.List.{length-map}
use Rattle.std.specs.Global.{Global}
use Rattle.atomic_table.specs.Seated.{TableId}
use Rattle.region_words.specs.declared.chunk.Chunk.{Chunk}
use Rattle.size_classes.specs.Classes.{class_size}
use Rattle.span_pools.specs.Legal.{AllocMany, Objects}
use Rattle.span_pools.specs.Batch.{AreChunks, places}
use Rattle.span_pools.proofs.Batches.{chunks_last, chunks_next}
use Rattle.dsa_area.specs.declared.area.Area.{Area}
use Rattle.dsa_area.specs.declared.area.AreaPass.{AreaPass}
use Rattle.dsa_area.specs.Requests.{PoolEvents}
use Rattle.area_spares.specs.declared.spares.Spares.{Spares}
use Rattle.area_spares.specs.Spares.{IsSpares}

pub none_of : (xs : List Chunk) → length xs ≡ 0 → xs ≡ []
none_of [] e = refl
none_of (x ∷ xs) e = absurd (omega arith)

-- those at the front of a list are chunks of these bytes, where all are
chunks_front : (region : TableId) (bytes : ℕ) (xs ys : List Chunk) → AreChunks region bytes (xs ++ ys) → AreChunks region bytes xs
chunks_front region bytes [] ys h = tt
chunks_front region bytes (x ∷ xs) ys h = (h.0, h.1, chunks_front region bytes xs ys h.2)

-- a batch has no more objects than were asked for
pub few_given : (a : Area) (p q : AreaPass) (class count : ℕ) (cs : List Chunk) → PoolEvents a p q class ((AllocMany count, Objects (places cs)) ∷ []) → length cs ≤ count
few_given a p q class count cs x = let f = x.pool.2.step.few in omega (arith, f, length-map cs (λ (c : Chunk). c.at))

-- a batch came in, where none was kept
pub spares_filled : (region : TableId) (s : Spares) (list : Vec Chunk Global) → IsSpares region s → vec_capacity list ≡ vec_capacity s.kept → length list.items ≤ s.batch → AreChunks region (class_size s.class) list.items
    → IsSpares region (record s { kept = list })
spares_filled region s list k same few chunks = record {
  class = k.class;
  some = k.some;
  low = k.low;
  room = omega (arith, k.room, same);
  few = omega (arith, few);
  chunks = chunks;
}

-- objects went off the end of the list
pub spares_less : (region : TableId) (s : Spares) (list : Vec Chunk Global) (out : List Chunk) → IsSpares region s → vec_capacity list ≡ vec_capacity s.kept → s.kept.items ≡ list.items ++ out → IsSpares region (record s { kept = list })
spares_less region s list out k same e = record {
  class = k.class;
  some = k.some;
  low = k.low;
  room = omega (arith, k.room, same);
  few = omega (arith, k.few, ap length e, length-append list.items out);
  chunks = chunks_front region (class_size s.class) list.items out (subst (AreChunks region (class_size s.class)) e k.chunks);
}

-- the last of the list has the bytes of the class, and is of the region
pub last_of_spares : (region : TableId) (s : Spares) (rest : List Chunk) (c : Chunk) → IsSpares region s → s.kept.items ≡ rest ++ c ∷ [] → (c.bytes ≡ class_size s.class) × (c.part.region ≡ region)
last_of_spares region s rest c k e = (chunks_last region (class_size s.class) rest c (subst (AreChunks region (class_size s.class)) e k.chunks)).1

-- one more is kept
pub spares_more : (region : TableId) (s : Spares) (list : Vec Chunk Global) (c : Chunk) → IsSpares region s → vec_capacity list ≡ vec_capacity s.kept → list.items ≡ s.kept.items ++ c ∷ [] → length s.kept.items < 2 * s.batch
    → c.bytes ≡ class_size s.class → c.part.region ≡ region → IsSpares region (record s { kept = list })
spares_more region s list c k same e low bytes here = record {
  class = k.class;
  some = k.some;
  low = k.low;
  room = omega (arith, k.room, same);
  few = omega (arith, low, ap length e, length-append s.kept.items (c ∷ []));
  chunks = subst (AreChunks region (class_size s.class)) (sym e) (chunks_next region (class_size s.class) s.kept.items c k.chunks (bytes, here));
}

-- what an answer says follows from what another says
pub ok_as : {T E : Type 0} (r : Result T E) (P Q : T → Type 0) → ((x : T) → P x → Q x) → IfOk r P → IfOk r Q
ok_as (Ok x) P Q f h = f x h
ok_as (Err e) P Q f h = tt

pub err_as : {T E : Type 0} (r : Result T E) (P Q : E → Type 0) → ((e : E) → P e → Q e) → IfErr r P → IfErr r Q
err_as (Ok x) P Q f h = tt
err_as (Err e) P Q f h = f e h
