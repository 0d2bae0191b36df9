use Rattle.std.proofs.Common.{◌≡◌, ℕ, ◌+◌, ◌-◌, ◌*◌, ◌<◌, ◌≤◌, Bool, true, false, ◌&&◌, ◌||◌, Option, is_some, IfSome, option_map, refl, sym, ap, subst, ◌∙◌, arith}
use Rattle.region_words.specs.declared.chunk.Chunk.{Chunk}
use Rattle.dsa_area.specs.declared.area.Area.{Area}
use Rattle.dsa_area.specs.declared.area.AreaPass.{AreaPass}
use Rattle.dsa_area.specs.Sizes.{chunk_size}
use Rattle.lock_book.specs.Shown.{number_of, seen_of, mine_of}
use Rattle.dshash_core.specs.Key.{hash_of}
use Rattle.dshash_core.specs.Cells.{partition_of}
use Rattle.dshash_chunks.specs.Held.{held_in, stepped}
use Rattle.dshash_chunks.specs.declared.held.ChunkCalls.TheVariants as chunk
use Rattle.dshash_chunks.specs.declared.held.ChunkReplies.TheVariants as said
use Rattle.dshash_parts.specs.Tables.{AtPartition, size_at}
use Rattle.dshash_parts.specs.declared.histories.PartitionCalls.TheVariants.{Call}
use Rattle.dshash_parts.specs.declared.histories.PartitionReplies.TheVariants.{Made, LacksItem, HasToGrow}
use Rattle.dshash_parts.specs.Sweeps.{GaveBack}
use Rattle.chunk_table.specs.Tables.{IsSpare, item_of, sight_of}
use Rattle.dshash_parts.specs.Promises.{one_if}
use Rattle.dshash_parts.specs.Rounds.{Underway}
use Rattle.dshash_parts.proofs.Uses.{partition_low, seen_cells, seen_roomy}
use Rattle.dshash_parts.proofs.Owners.{allowed, lawful, own_cells}
use Rattle.dshash_parts.proofs.Rounds.{starts}
use Rattle.dshash_parts.proofs.Spares.{kept_bytes, unused_spare}
use Rattle.dshash_parts.proofs.Ends.{made, last, no_item, item_came, full_size, all_came, no_slice}
use Rattle.chunk_table.proofs.table.ChunkTable.put_with_spare.Goals as goal

pub put_at-requires-clause-may : goal.put_at-requires-clause-may
put_at-requires-clause-may g c κs within = subst (λ (x : Chunk). g.W.ChunkObject.may (number_of c.turns.pass) c.args.key.now (chunk.Put (held_in x))) (sym c.turns.invariant.carried) (subst (λ (n : ℕ). g.W.ChunkObject.may n c.args.key.now (chunk.Put (held_in c.args.chunk))) (sym c.turns.invariant.caller) c.requires.may)

pub turns-init : goal.turns-init
turns-init g c =
    let low = (seen_roomy (stepped g.W.ChunkObject.worked) (seen_of c.args.pass.now) (λ i few. lawful (stepped g.W.ChunkObject.worked) g.W.ChunkObject.may i _ (c.requires.own.stands.lawful i _ (c.requires.table.parts i few))) (partition_of (hash_of c.args.key.now)) (partition_low c.args.key.now)).from in
    record {
      own = c.requires.own;
      caller = refl;
      area_own = c.requires.area_own;
      area_caller = refl;
      spare = subst (λ (o : Option Chunk). IsSpare c.args.r.now c.args.self.now o) (sym c.take-held.ensures.value) c.requires.spare;
      none = c.take-held.ensures.after;
      carried = refl;
      underway = subst (λ (o : Option Chunk). Underway (partition_of (hash_of c.args.key.now)) (item_of c.args.self.now) c.args.key.now (chunk.Put (held_in c.args.chunk)) (stepped g.W.ChunkObject.worked) c.args.area.now (number_of c.args.pass.now) (is_some c.args.spare.now) (is_some o) (sight_of c.args.pass.now c.args.apass.now) (sight_of c.args.pass.now c.args.apass.now)) (sym c.take-held.ensures.value)
          (starts (partition_of (hash_of c.args.key.now)) (item_of c.args.self.now) c.args.key.now (chunk.Put (held_in c.args.chunk)) (stepped g.W.ChunkObject.worked) c.args.area.now (number_of c.args.pass.now) (sight_of c.args.pass.now c.args.apass.now) (is_some c.args.spare.now) low);
    }

-- a spare item that was kept, and nothing else
or_false : (b : Bool) → b ≡ (b || false)
or_false true = refl
or_false false = refl

gave_none : (a : Area) (p : AreaPass) (bytes : ℕ) (b : Bool) → GaveBack a p p bytes (b && false)
gave_none a p bytes true = refl
gave_none a p bytes false = refl

pub put_at-requires-clause-chunk : goal.put_at-requires-clause-chunk
put_at-requires-clause-chunk g c κs within = subst (λ (x : Chunk). x.part.region ≡ c.args.r.now) (sym c.turns.invariant.carried) c.requires.chunk

pub returns-in-Done-clause-spare : goal.returns-in-Done-clause-spare
returns-in-Done-clause-spare g c = unused_spare c.args.r.now (chunk_size (item_of c.args.self.now)) c.turns.held c.in-Done.unused c.turns.invariant.spare c.in-Done.ensures.handed.1

pub returns-in-Done-clause-made : goal.returns-in-Done-clause-made
returns-in-Done-clause-made g c =
    let i = c.turns.invariant in
    let home = partition_of (hash_of c.args.key.now) in
    let same_at : c.partition_of_hash-number.result ≡ home = c.partition_of_hash-number.ensures.is ∙ ap partition_of c.hash_key-hash.ensures in
    let most = (seen_roomy (stepped g.W.ChunkObject.worked) (seen_of c.turns.pass) (λ k few. lawful (stepped g.W.ChunkObject.worked) g.W.ChunkObject.may k _ (i.own.stands.lawful k _ (c.requires.table.parts k few))) home (partition_low c.args.key.now)).to in
    made home (item_of c.args.self.now) c.args.key.now (chunk.Put (held_in c.args.chunk)) (stepped g.W.ChunkObject.worked) c.args.area.now (number_of c.args.pass.now) (sight_of c.args.pass.now c.args.apass.now)
    c.partition_of_hash-number.result (number_of c.turns.pass) (seen_of c.turns.pass) (mine_of c.turns.pass) (seen_of c.put_at.new.pass) (mine_of c.put_at.new.pass) (is_some c.turns.held) same_at i.caller
    c.turns.apass c.turns.apass (said.Was (option_map held_in c.in-Done.before)) (is_some c.in-Done.unused) false (is_some c.in-Done.unused) (or_false (is_some c.in-Done.unused)) i.underway most
    (subst (λ (x : Chunk). AtPartition (stepped g.W.ChunkObject.worked) (number_of c.turns.pass) (seen_of c.turns.pass) (mine_of c.turns.pass) (seen_of c.put_at.new.pass) (mine_of c.put_at.new.pass) c.partition_of_hash-number.result (Call c.args.key.now (chunk.Put (held_in x)) (is_some c.turns.held)) (Made (said.Was (option_map held_in c.in-Done.before)) (is_some c.in-Done.unused) false)) c.turns.invariant.carried c.in-Done.ensures.event) (gave_none c.args.area.now c.turns.apass (chunk_size (item_of c.args.self.now)) (is_some c.in-Done.unused)) refl c.in-Done.ensures.grows

pub returns-in-Done-clause-last : goal.returns-in-Done-clause-last
returns-in-Done-clause-last g c =
    let home = partition_of (hash_of c.args.key.now) in
    let same_at : c.partition_of_hash-number.result ≡ home = c.partition_of_hash-number.ensures.is ∙ ap partition_of c.hash_key-hash.ensures in
    last home (item_of c.args.self.now) c.args.key.now (chunk.Put (held_in c.args.chunk)) (stepped g.W.ChunkObject.worked) c.args.area.now (number_of c.args.pass.now) (sight_of c.args.pass.now c.args.apass.now)
    c.partition_of_hash-number.result (number_of c.turns.pass) (seen_of c.turns.pass) (mine_of c.turns.pass) (seen_of c.put_at.new.pass) (mine_of c.put_at.new.pass) (is_some c.turns.held) same_at c.turns.invariant.caller
    (said.Was (option_map held_in c.in-Done.before)) (is_some c.in-Done.unused) false (subst (λ (x : Chunk). AtPartition (stepped g.W.ChunkObject.worked) (number_of c.turns.pass) (seen_of c.turns.pass) (mine_of c.turns.pass) (seen_of c.put_at.new.pass) (mine_of c.put_at.new.pass) c.partition_of_hash-number.result (Call c.args.key.now (chunk.Put (held_in x)) (is_some c.turns.held)) (Made (said.Was (option_map held_in c.in-Done.before)) (is_some c.in-Done.unused) false)) c.turns.invariant.carried c.in-Done.ensures.event)

pub returns-in-Done-clause-cells : goal.returns-in-Done-clause-cells
returns-in-Done-clause-cells g c = seen_cells (stepped g.W.ChunkObject.worked) (seen_of c.put_at.new.pass) (λ k few. lawful (stepped g.W.ChunkObject.worked) g.W.ChunkObject.may k _ (c.in-Done.ensures.own.stands.lawful k _ (c.requires.table.parts k few)))

pub returns-in-Done-clause-roomy : goal.returns-in-Done-clause-roomy
returns-in-Done-clause-roomy g c = seen_roomy (stepped g.W.ChunkObject.worked) (seen_of c.put_at.new.pass) (λ k few. lawful (stepped g.W.ChunkObject.worked) g.W.ChunkObject.may k _ (c.in-Done.ensures.own.stands.lawful k _ (c.requires.table.parts k few)))

-- no item
pub returns-in-Err-clause-refused : goal.returns-in-Err-clause-refused
returns-in-Err-clause-refused g c =
    let i = c.turns.invariant in
    let home = partition_of (hash_of c.args.key.now) in
    let same_at : c.partition_of_hash-number.result ≡ home = c.partition_of_hash-number.ensures.is ∙ ap partition_of c.hash_key-hash.ensures in
    let most = (seen_roomy (stepped g.W.ChunkObject.worked) (seen_of c.turns.pass) (λ k few. lawful (stepped g.W.ChunkObject.worked) g.W.ChunkObject.may k _ (i.own.stands.lawful k _ (c.requires.table.parts k few))) home (partition_low c.args.key.now)).to in
    no_item home (item_of c.args.self.now) c.args.key.now (chunk.Put (held_in c.args.chunk)) (stepped g.W.ChunkObject.worked) c.args.area.now (number_of c.args.pass.now) (sight_of c.args.pass.now c.args.apass.now)
    c.partition_of_hash-number.result (number_of c.turns.pass) (seen_of c.turns.pass) (mine_of c.turns.pass) (seen_of c.put_at.new.pass) (mine_of c.put_at.new.pass) (is_some c.turns.held) same_at i.caller
    c.turns.apass c.ask.new.apass c.in-Err.lack.pages c.in-Err.lack.largest i.underway most (subst (λ (x : Chunk). AtPartition (stepped g.W.ChunkObject.worked) (number_of c.turns.pass) (seen_of c.turns.pass) (mine_of c.turns.pass) (seen_of c.put_at.new.pass) (mine_of c.put_at.new.pass) c.partition_of_hash-number.result (Call c.args.key.now (chunk.Put (held_in x)) (is_some c.turns.held)) LacksItem) c.turns.invariant.carried c.in-NeedItem.ensures.event) c.in-Err.ensures.asked c.in-Err.ensures.caller

pub returns-in-Err-clause-cells : goal.returns-in-Err-clause-cells
returns-in-Err-clause-cells g c = seen_cells (stepped g.W.ChunkObject.worked) (seen_of c.put_at.new.pass) (λ k few. lawful (stepped g.W.ChunkObject.worked) g.W.ChunkObject.may k _ (c.in-NeedItem.ensures.own.stands.lawful k _ (c.requires.table.parts k few)))

pub returns-in-Err-clause-roomy : goal.returns-in-Err-clause-roomy
returns-in-Err-clause-roomy g c = seen_roomy (stepped g.W.ChunkObject.worked) (seen_of c.put_at.new.pass) (λ k few. lawful (stepped g.W.ChunkObject.worked) g.W.ChunkObject.may k _ (c.in-NeedItem.ensures.own.stands.lawful k _ (c.requires.table.parts k few)))

pub returns-in-Err-clause-back : goal.returns-in-Err-clause-back
returns-in-Err-clause-back g c = c.in-NeedItem.ensures.handed ∙ c.turns.invariant.carried

pub returns-in-Err-double-clause-back : goal.returns-in-Err-double-clause-back
returns-in-Err-double-clause-back g c = c.in-TooFull.ensures.handed.0 ∙ c.turns.invariant.carried

-- an item came
pub turns-preserved-in-Ok : goal.turns-preserved-in-Ok
turns-preserved-in-Ok g c =
    let i = c.turns.invariant in
    let home = partition_of (hash_of c.args.key.now) in
    let same_at : c.partition_of_hash-number.result ≡ home = c.partition_of_hash-number.ensures.is ∙ ap partition_of c.hash_key-hash.ensures in
    record {
      own = c.in-NeedItem.ensures.own;
      caller = c.in-NeedItem.ensures.caller ∙ i.caller;
      area_own = c.in-Ok.ensures.own;
      area_caller = c.in-Ok.ensures.caller ∙ i.area_caller;
      spare = (c.in-Ok.ensures.here, c.in-Ok.ensures.size);
      none = i.none;
      carried = c.in-NeedItem.ensures.handed ∙ i.carried;
      underway = item_came home (item_of c.args.self.now) c.args.key.now (chunk.Put (held_in c.args.chunk)) (stepped g.W.ChunkObject.worked) c.args.area.now (number_of c.args.pass.now) (sight_of c.args.pass.now c.args.apass.now)
          c.partition_of_hash-number.result (number_of c.turns.pass) (seen_of c.turns.pass) (mine_of c.turns.pass) (seen_of c.put_at.new.pass) (mine_of c.put_at.new.pass) (is_some c.turns.held) same_at i.caller
          c.turns.apass c.ask.new.apass i.underway (partition_low c.args.key.now) c.in-NeedItem.ensures.grows (subst (λ (x : Chunk). AtPartition (stepped g.W.ChunkObject.worked) (number_of c.turns.pass) (seen_of c.turns.pass) (mine_of c.turns.pass) (seen_of c.put_at.new.pass) (mine_of c.put_at.new.pass) c.partition_of_hash-number.result (Call c.args.key.now (chunk.Put (held_in x)) (is_some c.turns.held)) LacksItem) c.turns.invariant.carried c.in-NeedItem.ensures.event) c.in-Ok.ensures.asked c.in-Ok.ensures.caller;
    }

-- no slice
pub returns-in-Err-double-clause-refused : goal.returns-in-Err-double-clause-refused
returns-in-Err-double-clause-refused g c =
    let i = c.turns.invariant in
    let home = partition_of (hash_of c.args.key.now) in
    let same_at : c.partition_of_hash-number.result ≡ home = c.partition_of_hash-number.ensures.is ∙ ap partition_of c.hash_key-hash.ensures in
    no_slice home (item_of c.args.self.now) c.args.key.now (chunk.Put (held_in c.args.chunk)) (stepped g.W.ChunkObject.worked) c.args.area.now (number_of c.args.pass.now) (sight_of c.args.pass.now c.args.apass.now)
    c.partition_of_hash-number.result (number_of c.turns.pass) (seen_of c.turns.pass) (mine_of c.turns.pass) (seen_of c.put_at.new.pass) (mine_of c.put_at.new.pass) (is_some c.turns.held) same_at i.caller
    c.in-TooFull.size (is_some c.in-TooFull.kept) (subst (λ (x : Chunk). AtPartition (stepped g.W.ChunkObject.worked) (number_of c.turns.pass) (seen_of c.turns.pass) (mine_of c.turns.pass) (seen_of c.put_at.new.pass) (mine_of c.put_at.new.pass) c.partition_of_hash-number.result (Call c.args.key.now (chunk.Put (held_in x)) (is_some c.turns.held)) (HasToGrow c.in-TooFull.size (is_some c.in-TooFull.kept))) c.turns.invariant.carried c.in-TooFull.ensures.event) (c.in-TooFull.ensures.grows home (partition_low c.args.key.now))
    (number_of c.put_at.new.pass) c.in-Err-double.lack.pages c.in-Err-double.lack.largest c.turns.apass (sight_of c.double.new.pass c.double.new.apass) (is_some c.in-TooFull.kept) refl
    (c.in-TooFull.ensures.caller ∙ i.caller) i.underway (c.in-Err-double.ensures.refused (chunk_size (item_of c.args.self.now)) (kept_bytes c.args.r.now (chunk_size (item_of c.args.self.now)) c.turns.held c.in-TooFull.kept i.spare c.in-TooFull.ensures.handed.1))

pub returns-in-Err-double-clause-cells : goal.returns-in-Err-double-clause-cells
returns-in-Err-double-clause-cells g c = seen_cells (stepped g.W.ChunkObject.worked) (seen_of c.double.new.pass) (λ k few. lawful (stepped g.W.ChunkObject.worked) g.W.ChunkObject.may k _ (c.in-Err-double.ensures.own.stands.lawful k _ (c.requires.table.parts k few)))

pub returns-in-Err-double-clause-roomy : goal.returns-in-Err-double-clause-roomy
returns-in-Err-double-clause-roomy g c = seen_roomy (stepped g.W.ChunkObject.worked) (seen_of c.double.new.pass) (λ k few. lawful (stepped g.W.ChunkObject.worked) g.W.ChunkObject.may k _ (c.in-Err-double.ensures.own.stands.lawful k _ (c.requires.table.parts k few)))

-- all partitions grew
pub turns-preserved : goal.turns-preserved
turns-preserved g c =
    let i = c.turns.invariant in
    let home = partition_of (hash_of c.args.key.now) in
    let same_at : c.partition_of_hash-number.result ≡ home = c.partition_of_hash-number.ensures.is ∙ ap partition_of c.hash_key-hash.ensures in
    let kept : c.in-Ok-double.kept ≡ c.turns.held = c.in-Ok-double.ensures.spare ∙ c.in-TooFull.ensures.handed.1 in
    let spare = subst (λ (o : Option Chunk). IfSome o (λ x. (x.part.region ≡ c.args.r.now) × (x.bytes ≡ chunk_size c.args.self.now.item_bytes))) (sym kept) i.spare in
    record {
      own = c.in-Ok-double.ensures.own;
      caller = c.in-Ok-double.ensures.caller ∙ (c.in-TooFull.ensures.caller ∙ i.caller);
      area_own = c.in-Ok-double.ensures.area_own;
      area_caller = c.in-Ok-double.ensures.area_caller ∙ i.area_caller;
      spare = spare;
      none = i.none;
      carried = c.in-TooFull.ensures.handed.0 ∙ i.carried;
      underway = all_came home (item_of c.args.self.now) c.args.key.now (chunk.Put (held_in c.args.chunk)) (stepped g.W.ChunkObject.worked) c.args.area.now (number_of c.args.pass.now) (sight_of c.args.pass.now c.args.apass.now)
          c.partition_of_hash-number.result (number_of c.turns.pass) (seen_of c.turns.pass) (mine_of c.turns.pass) (seen_of c.put_at.new.pass) (mine_of c.put_at.new.pass) (is_some c.turns.held) same_at i.caller
          c.in-TooFull.size (is_some c.in-TooFull.kept) (subst (λ (x : Chunk). AtPartition (stepped g.W.ChunkObject.worked) (number_of c.turns.pass) (seen_of c.turns.pass) (mine_of c.turns.pass) (seen_of c.put_at.new.pass) (mine_of c.put_at.new.pass) c.partition_of_hash-number.result (Call c.args.key.now (chunk.Put (held_in x)) (is_some c.turns.held)) (HasToGrow c.in-TooFull.size (is_some c.in-TooFull.kept))) c.turns.invariant.carried c.in-TooFull.ensures.event) (c.in-TooFull.ensures.grows home (partition_low c.args.key.now))
          (number_of c.put_at.new.pass) (seen_of c.double.new.pass) (mine_of c.double.new.pass) c.turns.apass c.double.new.apass (is_some c.in-Ok-double.kept) (ap is_some c.in-Ok-double.ensures.spare)
          (c.in-TooFull.ensures.caller ∙ i.caller) i.underway c.in-Ok-double.ensures.swept (partition_low c.args.key.now) c.in-Ok-double.ensures.large
          (λ k few. let x = c.in-TooFull.ensures.grows k few in let y = c.in-Ok-double.ensures.grows k few in omega arith);
    }

-- a size that rose, and the spare as it was
less : (before told after spare kept : ℕ) → before ≤ told → told < 20 → told + 1 ≤ after → kept ≡ spare → 2 * (20 - after) + (1 - kept) < 2 * (20 - before) + (1 - spare)
less before told after spare kept a b c e = omega arith

pub turns-smaller : goal.turns-smaller
turns-smaller g c =
    let i = c.turns.invariant in
    let home = partition_of (hash_of c.args.key.now) in
    let same_at : c.partition_of_hash-number.result ≡ home = c.partition_of_hash-number.ensures.is ∙ ap partition_of c.hash_key-hash.ensures in
    let low = c.in-TooFull.ensures.grows home (partition_low c.args.key.now) in
    let full = full_size home (item_of c.args.self.now) c.args.key.now (chunk.Put (held_in c.args.chunk)) (stepped g.W.ChunkObject.worked) c.args.area.now (number_of c.args.pass.now) (sight_of c.args.pass.now c.args.apass.now)
    c.partition_of_hash-number.result (number_of c.turns.pass) (seen_of c.turns.pass) (mine_of c.turns.pass) (seen_of c.put_at.new.pass) (mine_of c.put_at.new.pass) (is_some c.turns.held) same_at i.caller
    c.in-TooFull.size (is_some c.in-TooFull.kept) (subst (λ (x : Chunk). AtPartition (stepped g.W.ChunkObject.worked) (number_of c.turns.pass) (seen_of c.turns.pass) (mine_of c.turns.pass) (seen_of c.put_at.new.pass) (mine_of c.put_at.new.pass) c.partition_of_hash-number.result (Call c.args.key.now (chunk.Put (held_in x)) (is_some c.turns.held)) (HasToGrow c.in-TooFull.size (is_some c.in-TooFull.kept))) c.turns.invariant.carried c.in-TooFull.ensures.event) low in
    let told : size_at (seen_of c.put_at.new.pass) home ≡ c.in-TooFull.size = full.0 in
    let before : size_at (seen_of c.turns.pass) home ≤ c.in-TooFull.size = omega arith in
    less (size_at (seen_of c.turns.pass) home) c.in-TooFull.size (size_at (seen_of c.double.new.pass) home) (one_if (is_some c.turns.held)) (one_if (is_some c.in-Ok-double.kept)) before full.2
    (c.in-Ok-double.ensures.large home (partition_low c.args.key.now)) (ap (λ o. one_if (is_some o)) (c.in-Ok-double.ensures.spare ∙ c.in-TooFull.ensures.handed.1))

pub returns-in-Done-clause-allowed : goal.returns-in-Done-clause-allowed
returns-in-Done-clause-allowed g c = λ k few. allowed (stepped g.W.ChunkObject.worked) g.W.ChunkObject.may k _ (c.in-Done.ensures.own.stands.lawful k _ (c.requires.table.parts k few))

pub returns-in-Done-clause-owned : goal.returns-in-Done-clause-owned
returns-in-Done-clause-owned g c = own_cells (stepped g.W.ChunkObject.worked) g.W.ChunkObject.may (number_of c.put_at.new.pass) (number_of c.args.pass.now) (seen_of c.put_at.new.pass) (mine_of c.put_at.new.pass) (c.in-Done.ensures.caller ∙ c.turns.invariant.caller) (λ k few. c.in-Done.ensures.own.stands.lawful k _ (c.requires.table.parts k few)) c.in-Done.ensures.own.stands.own

pub returns-in-Err-clause-allowed : goal.returns-in-Err-clause-allowed
returns-in-Err-clause-allowed g c = λ k few. allowed (stepped g.W.ChunkObject.worked) g.W.ChunkObject.may k _ (c.in-NeedItem.ensures.own.stands.lawful k _ (c.requires.table.parts k few))

pub returns-in-Err-clause-owned : goal.returns-in-Err-clause-owned
returns-in-Err-clause-owned g c = own_cells (stepped g.W.ChunkObject.worked) g.W.ChunkObject.may (number_of c.put_at.new.pass) (number_of c.args.pass.now) (seen_of c.put_at.new.pass) (mine_of c.put_at.new.pass) (c.in-NeedItem.ensures.caller ∙ c.turns.invariant.caller) (λ k few. c.in-NeedItem.ensures.own.stands.lawful k _ (c.requires.table.parts k few)) c.in-NeedItem.ensures.own.stands.own

pub returns-in-Err-double-clause-allowed : goal.returns-in-Err-double-clause-allowed
returns-in-Err-double-clause-allowed g c = λ k few. allowed (stepped g.W.ChunkObject.worked) g.W.ChunkObject.may k _ (c.in-Err-double.ensures.own.stands.lawful k _ (c.requires.table.parts k few))

pub returns-in-Err-double-clause-owned : goal.returns-in-Err-double-clause-owned
returns-in-Err-double-clause-owned g c = own_cells (stepped g.W.ChunkObject.worked) g.W.ChunkObject.may (number_of c.double.new.pass) (number_of c.args.pass.now) (seen_of c.double.new.pass) (mine_of c.double.new.pass) (c.in-Err-double.ensures.caller ∙ (c.in-TooFull.ensures.caller ∙ c.turns.invariant.caller)) (λ k few. c.in-Err-double.ensures.own.stands.lawful k _ (c.requires.table.parts k few)) c.in-Err-double.ensures.own.stands.own
