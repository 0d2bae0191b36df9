use Rattle.std.proofs.Common.{◌≡◌, ℕ, ◌+◌, ◌-◌, ◌*◌, ◌<◌, ◌≤◌, Option, is_some, IfSome, refl, sym, ap, subst, ◌∙◌, arith}
use Rattle.region_words.specs.declared.chunk.Chunk.{Chunk}
use Rattle.dsa_area.specs.Sizes.{chunk_size}
use Rattle.lock_book.specs.Shown.{number_of, seen_of, mine_of}
use Rattle.dshash_core.specs.Key.{hash_of}
use Rattle.dshash_core.specs.Cells.{partition_of}
use Rattle.dshash_parts.specs.Tables.{IsSpare, item_of, size_at}
use Rattle.dshash_parts.specs.Traces.{sight_of}
use Rattle.dshash_parts.specs.Promises.{one_if}
use Rattle.dshash_parts.specs.Rounds.{Underway}
use Rattle.dshash_parts.proofs.Uses.{partition_low, seen_cells, seen_roomy}
use Rattle.dshash_parts.proofs.Owners.{allowed, lawful, own_cells}
use Rattle.dshash_parts.proofs.Rounds.{starts}
use Rattle.dshash_parts.proofs.Spares.{kept_bytes, unused_spare}
use Rattle.dshash_parts.proofs.Ends.{made, last, keeps, no_item, item_came, full_size, all_came, no_slice}
use Rattle.dshash_parts.proofs.table.Dshash.call_with_spare.Goals as goal

pub try_at-requires-clause-may : goal.try_at-requires-clause-may
try_at-requires-clause-may g c κs within = subst (λ (n : ℕ). g.O.CellObject.may n c.args.key.now c.args.call.now) (sym c.turns.invariant.caller) c.requires.may

pub turns-init : goal.turns-init
turns-init g c =
    let low = (seen_roomy g.O.CellObject.stepped (seen_of c.args.pass.now) (λ i few. lawful g.O.CellObject.stepped g.O.CellObject.may i _ (c.requires.own.stands.lawful i _ (c.requires.table.parts i few))) (partition_of (hash_of c.args.key.now)) (partition_low c.args.key.now)).from in
    record {
      own = c.requires.own;
      caller = refl;
      area_own = c.requires.area_own;
      area_caller = refl;
      spare = subst (λ (o : Option Chunk). IsSpare c.args.r.now c.args.self.now o) (sym c.take-held.ensures.value) c.requires.spare;
      none = c.take-held.ensures.after;
      underway = subst (λ (o : Option Chunk). Underway (partition_of (hash_of c.args.key.now)) (item_of c.args.self.now) c.args.key.now c.args.call.now g.O.CellObject.stepped c.args.area.now (number_of c.args.pass.now) (is_some c.args.spare.now) (is_some o) (sight_of c.args.pass.now c.args.apass.now) (sight_of c.args.pass.now c.args.apass.now)) (sym c.take-held.ensures.value)
          (starts (partition_of (hash_of c.args.key.now)) (item_of c.args.self.now) c.args.key.now c.args.call.now g.O.CellObject.stepped c.args.area.now (number_of c.args.pass.now) (sight_of c.args.pass.now c.args.apass.now) (is_some c.args.spare.now) low);
    }

pub keep_one-requires-clause-unused : goal.keep_one-requires-clause-unused
keep_one-requires-clause-unused g c κs within = unused_spare c.args.r.now (chunk_size (item_of c.args.self.now)) c.turns.held c.in-Done.unused c.turns.invariant.spare c.in-Done.ensures.handed.0

pub returns-in-Done-clause-made : goal.returns-in-Done-clause-made
returns-in-Done-clause-made g c =
    let i = c.turns.invariant in
    let home = partition_of (hash_of c.args.key.now) in
    let same_at : c.partition_of_hash-number.result ≡ home = c.partition_of_hash-number.ensures.is ∙ ap partition_of c.hash_key-hash.ensures in
    let most = (seen_roomy g.O.CellObject.stepped (seen_of c.turns.pass) (λ k few. lawful g.O.CellObject.stepped g.O.CellObject.may k _ (i.own.stands.lawful k _ (c.requires.table.parts k few))) home (partition_low c.args.key.now)).to in
    made home (item_of c.args.self.now) c.args.key.now c.args.call.now g.O.CellObject.stepped c.args.area.now (number_of c.args.pass.now) (sight_of c.args.pass.now c.args.apass.now)
    c.partition_of_hash-number.result (number_of c.turns.pass) (seen_of c.turns.pass) (mine_of c.turns.pass) (seen_of c.try_at.new.pass) (mine_of c.try_at.new.pass) (is_some c.turns.held) same_at i.caller
    c.turns.apass c.keep_one.new.apass c.in-Done.reply (is_some c.in-Done.unused) (is_some c.in-Done.freed) (is_some c.keep_one.result) c.keep_one.ensures.kept i.underway most
    c.in-Done.ensures.event c.keep_one.ensures.gave c.keep_one.ensures.caller c.in-Done.ensures.grows

pub returns-in-Done-clause-last : goal.returns-in-Done-clause-last
returns-in-Done-clause-last g c =
    let home = partition_of (hash_of c.args.key.now) in
    let same_at : c.partition_of_hash-number.result ≡ home = c.partition_of_hash-number.ensures.is ∙ ap partition_of c.hash_key-hash.ensures in
    last home (item_of c.args.self.now) c.args.key.now c.args.call.now g.O.CellObject.stepped c.args.area.now (number_of c.args.pass.now) (sight_of c.args.pass.now c.args.apass.now)
    c.partition_of_hash-number.result (number_of c.turns.pass) (seen_of c.turns.pass) (mine_of c.turns.pass) (seen_of c.try_at.new.pass) (mine_of c.try_at.new.pass) (is_some c.turns.held) same_at c.turns.invariant.caller
    c.in-Done.reply (is_some c.in-Done.unused) (is_some c.in-Done.freed) c.in-Done.ensures.event

pub returns-in-Done-clause-kept : goal.returns-in-Done-clause-kept
returns-in-Done-clause-kept g c =
    let home = partition_of (hash_of c.args.key.now) in
    let same_at : c.partition_of_hash-number.result ≡ home = c.partition_of_hash-number.ensures.is ∙ ap partition_of c.hash_key-hash.ensures in
    keeps home (item_of c.args.self.now) c.args.key.now c.args.call.now g.O.CellObject.stepped c.args.area.now (number_of c.args.pass.now) (sight_of c.args.pass.now c.args.apass.now)
    c.partition_of_hash-number.result (number_of c.turns.pass) (seen_of c.turns.pass) (mine_of c.turns.pass) (seen_of c.try_at.new.pass) (mine_of c.try_at.new.pass) (is_some c.turns.held) same_at c.turns.invariant.caller
    c.in-Done.reply (is_some c.in-Done.unused) (is_some c.in-Done.freed) (is_some c.keep_one.result) c.keep_one.ensures.kept c.in-Done.ensures.event

pub returns-in-Done-clause-cells : goal.returns-in-Done-clause-cells
returns-in-Done-clause-cells g c = seen_cells g.O.CellObject.stepped (seen_of c.try_at.new.pass) (λ k few. lawful g.O.CellObject.stepped g.O.CellObject.may k _ (c.in-Done.ensures.own.stands.lawful k _ (c.requires.table.parts k few)))

pub returns-in-Done-clause-roomy : goal.returns-in-Done-clause-roomy
returns-in-Done-clause-roomy g c = seen_roomy g.O.CellObject.stepped (seen_of c.try_at.new.pass) (λ k few. lawful g.O.CellObject.stepped g.O.CellObject.may k _ (c.in-Done.ensures.own.stands.lawful k _ (c.requires.table.parts k few)))

-- no item
pub returns-in-Err-clause-refused : goal.returns-in-Err-clause-refused
returns-in-Err-clause-refused g c =
    let i = c.turns.invariant in
    let home = partition_of (hash_of c.args.key.now) in
    let same_at : c.partition_of_hash-number.result ≡ home = c.partition_of_hash-number.ensures.is ∙ ap partition_of c.hash_key-hash.ensures in
    let most = (seen_roomy g.O.CellObject.stepped (seen_of c.turns.pass) (λ k few. lawful g.O.CellObject.stepped g.O.CellObject.may k _ (i.own.stands.lawful k _ (c.requires.table.parts k few))) home (partition_low c.args.key.now)).to in
    no_item home (item_of c.args.self.now) c.args.key.now c.args.call.now g.O.CellObject.stepped c.args.area.now (number_of c.args.pass.now) (sight_of c.args.pass.now c.args.apass.now)
    c.partition_of_hash-number.result (number_of c.turns.pass) (seen_of c.turns.pass) (mine_of c.turns.pass) (seen_of c.try_at.new.pass) (mine_of c.try_at.new.pass) (is_some c.turns.held) same_at i.caller
    c.turns.apass c.ask.new.apass c.in-Err.lack.pages c.in-Err.lack.largest i.underway most c.in-NeedItem.ensures.event c.in-Err.ensures.asked c.in-Err.ensures.caller

pub returns-in-Err-clause-cells : goal.returns-in-Err-clause-cells
returns-in-Err-clause-cells g c = seen_cells g.O.CellObject.stepped (seen_of c.try_at.new.pass) (λ k few. lawful g.O.CellObject.stepped g.O.CellObject.may k _ (c.in-NeedItem.ensures.own.stands.lawful k _ (c.requires.table.parts k few)))

pub returns-in-Err-clause-roomy : goal.returns-in-Err-clause-roomy
returns-in-Err-clause-roomy g c = seen_roomy g.O.CellObject.stepped (seen_of c.try_at.new.pass) (λ k few. lawful g.O.CellObject.stepped g.O.CellObject.may k _ (c.in-NeedItem.ensures.own.stands.lawful k _ (c.requires.table.parts k few)))

-- an item came
pub turns-preserved-in-Ok : goal.turns-preserved-in-Ok
turns-preserved-in-Ok g c =
    let i = c.turns.invariant in
    let home = partition_of (hash_of c.args.key.now) in
    let same_at : c.partition_of_hash-number.result ≡ home = c.partition_of_hash-number.ensures.is ∙ ap partition_of c.hash_key-hash.ensures in
    record {
      own = c.in-NeedItem.ensures.own;
      caller = c.in-NeedItem.ensures.caller ∙ i.caller;
      area_own = c.in-Ok.ensures.own;
      area_caller = c.in-Ok.ensures.caller ∙ i.area_caller;
      spare = (c.in-Ok.ensures.here, c.in-Ok.ensures.size);
      none = i.none;
      underway = item_came home (item_of c.args.self.now) c.args.key.now c.args.call.now g.O.CellObject.stepped c.args.area.now (number_of c.args.pass.now) (sight_of c.args.pass.now c.args.apass.now)
          c.partition_of_hash-number.result (number_of c.turns.pass) (seen_of c.turns.pass) (mine_of c.turns.pass) (seen_of c.try_at.new.pass) (mine_of c.try_at.new.pass) (is_some c.turns.held) same_at i.caller
          c.turns.apass c.ask.new.apass i.underway (partition_low c.args.key.now) c.in-NeedItem.ensures.grows c.in-NeedItem.ensures.event c.in-Ok.ensures.asked c.in-Ok.ensures.caller;
    }

-- no slice
pub returns-in-Err-double-clause-refused : goal.returns-in-Err-double-clause-refused
returns-in-Err-double-clause-refused g c =
    let i = c.turns.invariant in
    let home = partition_of (hash_of c.args.key.now) in
    let same_at : c.partition_of_hash-number.result ≡ home = c.partition_of_hash-number.ensures.is ∙ ap partition_of c.hash_key-hash.ensures in
    no_slice home (item_of c.args.self.now) c.args.key.now c.args.call.now g.O.CellObject.stepped c.args.area.now (number_of c.args.pass.now) (sight_of c.args.pass.now c.args.apass.now)
    c.partition_of_hash-number.result (number_of c.turns.pass) (seen_of c.turns.pass) (mine_of c.turns.pass) (seen_of c.try_at.new.pass) (mine_of c.try_at.new.pass) (is_some c.turns.held) same_at i.caller
    c.in-TooFull.size (is_some c.in-TooFull.kept) c.in-TooFull.ensures.event (c.in-TooFull.ensures.grows home (partition_low c.args.key.now))
    (number_of c.try_at.new.pass) c.in-Err-double.lack.pages c.in-Err-double.lack.largest c.turns.apass (sight_of c.double.new.pass c.double.new.apass) (is_some c.in-TooFull.kept) refl
    (c.in-TooFull.ensures.caller ∙ i.caller) i.underway (c.in-Err-double.ensures.refused (chunk_size (item_of c.args.self.now)) (kept_bytes c.args.r.now (chunk_size (item_of c.args.self.now)) c.turns.held c.in-TooFull.kept i.spare c.in-TooFull.ensures.handed))

pub returns-in-Err-double-clause-cells : goal.returns-in-Err-double-clause-cells
returns-in-Err-double-clause-cells g c = seen_cells g.O.CellObject.stepped (seen_of c.double.new.pass) (λ k few. lawful g.O.CellObject.stepped g.O.CellObject.may k _ (c.in-Err-double.ensures.own.stands.lawful k _ (c.requires.table.parts k few)))

pub returns-in-Err-double-clause-roomy : goal.returns-in-Err-double-clause-roomy
returns-in-Err-double-clause-roomy g c = seen_roomy g.O.CellObject.stepped (seen_of c.double.new.pass) (λ k few. lawful g.O.CellObject.stepped g.O.CellObject.may k _ (c.in-Err-double.ensures.own.stands.lawful k _ (c.requires.table.parts k few)))

-- all partitions grew
pub turns-preserved : goal.turns-preserved
turns-preserved g c =
    let i = c.turns.invariant in
    let home = partition_of (hash_of c.args.key.now) in
    let same_at : c.partition_of_hash-number.result ≡ home = c.partition_of_hash-number.ensures.is ∙ ap partition_of c.hash_key-hash.ensures in
    let kept : c.in-Ok-double.kept ≡ c.turns.held = c.in-Ok-double.ensures.spare ∙ c.in-TooFull.ensures.handed in
    let spare = subst (λ (o : Option Chunk). IfSome o (λ x. (x.part.region ≡ c.args.r.now) × (x.bytes ≡ chunk_size c.args.self.now.item_bytes))) (sym kept) i.spare in
    record {
      own = c.in-Ok-double.ensures.own;
      caller = c.in-Ok-double.ensures.caller ∙ (c.in-TooFull.ensures.caller ∙ i.caller);
      area_own = c.in-Ok-double.ensures.area_own;
      area_caller = c.in-Ok-double.ensures.area_caller ∙ i.area_caller;
      spare = spare;
      none = i.none;
      underway = all_came home (item_of c.args.self.now) c.args.key.now c.args.call.now g.O.CellObject.stepped c.args.area.now (number_of c.args.pass.now) (sight_of c.args.pass.now c.args.apass.now)
          c.partition_of_hash-number.result (number_of c.turns.pass) (seen_of c.turns.pass) (mine_of c.turns.pass) (seen_of c.try_at.new.pass) (mine_of c.try_at.new.pass) (is_some c.turns.held) same_at i.caller
          c.in-TooFull.size (is_some c.in-TooFull.kept) c.in-TooFull.ensures.event (c.in-TooFull.ensures.grows home (partition_low c.args.key.now))
          (number_of c.try_at.new.pass) (seen_of c.double.new.pass) (mine_of c.double.new.pass) c.turns.apass c.double.new.apass (is_some c.in-Ok-double.kept) (ap is_some c.in-Ok-double.ensures.spare)
          (c.in-TooFull.ensures.caller ∙ i.caller) i.underway c.in-Ok-double.ensures.swept (partition_low c.args.key.now) c.in-Ok-double.ensures.large
          (λ k few. let x = c.in-TooFull.ensures.grows k few in let y = c.in-Ok-double.ensures.grows k few in omega arith);
    }

-- a size that rose, and the spare as it was
less : (before told after spare kept : ℕ) → before ≤ told → told < 20 → told + 1 ≤ after → kept ≡ spare → 2 * (20 - after) + (1 - kept) < 2 * (20 - before) + (1 - spare)
less before told after spare kept a b c e = omega arith

pub turns-smaller : goal.turns-smaller
turns-smaller g c =
    let i = c.turns.invariant in
    let home = partition_of (hash_of c.args.key.now) in
    let same_at : c.partition_of_hash-number.result ≡ home = c.partition_of_hash-number.ensures.is ∙ ap partition_of c.hash_key-hash.ensures in
    let low = c.in-TooFull.ensures.grows home (partition_low c.args.key.now) in
    let full = full_size home (item_of c.args.self.now) c.args.key.now c.args.call.now g.O.CellObject.stepped c.args.area.now (number_of c.args.pass.now) (sight_of c.args.pass.now c.args.apass.now)
    c.partition_of_hash-number.result (number_of c.turns.pass) (seen_of c.turns.pass) (mine_of c.turns.pass) (seen_of c.try_at.new.pass) (mine_of c.try_at.new.pass) (is_some c.turns.held) same_at i.caller
    c.in-TooFull.size (is_some c.in-TooFull.kept) c.in-TooFull.ensures.event low in
    let told : size_at (seen_of c.try_at.new.pass) home ≡ c.in-TooFull.size = full.0 in
    let before : size_at (seen_of c.turns.pass) home ≤ c.in-TooFull.size = omega arith in
    less (size_at (seen_of c.turns.pass) home) c.in-TooFull.size (size_at (seen_of c.double.new.pass) home) (one_if (is_some c.turns.held)) (one_if (is_some c.in-Ok-double.kept)) before full.2
    (c.in-Ok-double.ensures.large home (partition_low c.args.key.now)) (ap (λ o. one_if (is_some o)) (c.in-Ok-double.ensures.spare ∙ c.in-TooFull.ensures.handed))

pub returns-in-Done-clause-allowed : goal.returns-in-Done-clause-allowed
returns-in-Done-clause-allowed g c = λ k few. allowed g.O.CellObject.stepped g.O.CellObject.may k _ (c.in-Done.ensures.own.stands.lawful k _ (c.requires.table.parts k few))

pub returns-in-Done-clause-owned : goal.returns-in-Done-clause-owned
returns-in-Done-clause-owned g c = own_cells g.O.CellObject.stepped g.O.CellObject.may (number_of c.try_at.new.pass) (number_of c.args.pass.now) (seen_of c.try_at.new.pass) (mine_of c.try_at.new.pass) (c.in-Done.ensures.caller ∙ c.turns.invariant.caller) (λ k few. c.in-Done.ensures.own.stands.lawful k _ (c.requires.table.parts k few)) c.in-Done.ensures.own.stands.own

pub returns-in-Err-clause-allowed : goal.returns-in-Err-clause-allowed
returns-in-Err-clause-allowed g c = λ k few. allowed g.O.CellObject.stepped g.O.CellObject.may k _ (c.in-NeedItem.ensures.own.stands.lawful k _ (c.requires.table.parts k few))

pub returns-in-Err-clause-owned : goal.returns-in-Err-clause-owned
returns-in-Err-clause-owned g c = own_cells g.O.CellObject.stepped g.O.CellObject.may (number_of c.try_at.new.pass) (number_of c.args.pass.now) (seen_of c.try_at.new.pass) (mine_of c.try_at.new.pass) (c.in-NeedItem.ensures.caller ∙ c.turns.invariant.caller) (λ k few. c.in-NeedItem.ensures.own.stands.lawful k _ (c.requires.table.parts k few)) c.in-NeedItem.ensures.own.stands.own

pub returns-in-Err-double-clause-allowed : goal.returns-in-Err-double-clause-allowed
returns-in-Err-double-clause-allowed g c = λ k few. allowed g.O.CellObject.stepped g.O.CellObject.may k _ (c.in-Err-double.ensures.own.stands.lawful k _ (c.requires.table.parts k few))

pub returns-in-Err-double-clause-owned : goal.returns-in-Err-double-clause-owned
returns-in-Err-double-clause-owned g c = own_cells g.O.CellObject.stepped g.O.CellObject.may (number_of c.double.new.pass) (number_of c.args.pass.now) (seen_of c.double.new.pass) (mine_of c.double.new.pass) (c.in-Err-double.ensures.caller ∙ (c.in-TooFull.ensures.caller ∙ c.turns.invariant.caller)) (λ k few. c.in-Err-double.ensures.own.stands.lawful k _ (c.requires.table.parts k few)) c.in-Err-double.ensures.own.stands.own
