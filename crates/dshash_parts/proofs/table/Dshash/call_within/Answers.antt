use Rattle.std.proofs.Common.{◌≡◌, ℕ, false, ◌+◌, ◌-◌, ◌*◌, ◌<◌, ◌≤◌, Option, is_some, IfSome, refl, sym, ap, subst, ◌∙◌, arith}
use Rattle.region_words.specs.declared.chunk.Chunk.{Chunk}
use Rattle.dsa_area.specs.Sizes.{chunk_size}
use Rattle.lock_book.specs.Shown.{number_of, seen_of, mine_of}
use Rattle.dshash_core.specs.Key.{hash_of}
use Rattle.dshash_core.specs.Cells.{partition_of}
use Rattle.dshash_core.specs.Outcome.{HandsOut}
use Rattle.dshash_core.specs.declared.outcome.CoreOut.TheVariants.{Done, NeedItem, TooFull}
use Rattle.dshash_parts.specs.Tables.{item_of, size_at}
use Rattle.dshash_parts.specs.Traces.{sight_of}
use Rattle.dshash_parts.specs.Promises.{one_if}
use Rattle.dshash_parts.proofs.Uses.{partition_low, seen_cells, seen_roomy}
use Rattle.dshash_parts.proofs.Owners.{allowed, lawful, own_cells}
use Rattle.dshash_parts.proofs.Rounds.{starts}
use Rattle.dshash_parts.proofs.Spares.{kept_bytes, unused_spare}
use Rattle.dshash_parts.proofs.Ends.{made, gave_spare, last, no_item, item_came, full_size, all_came, no_slice, crowded}
use Rattle.dshash_parts.proofs.Tries.{came}
use Rattle.dshash_parts.proofs.table.Dshash.call_within.Goals as goal

pub try_within-requires-clause-may : goal.try_within-requires-clause-may
try_within-requires-clause-may g c κs within = subst (λ (n : ℕ). g.O.CellObject.may n c.args.key.now c.args.call.now) (sym c.turns.invariant.caller) c.requires.may

pub turns-init : goal.turns-init
turns-init g c =
    let low = (seen_roomy g.O.CellObject.stepped (seen_of c.args.pass.now) (λ i few. lawful g.O.CellObject.stepped g.O.CellObject.may i _ (c.requires.own.stands.lawful i _ (c.requires.table.parts i few))) (partition_of (hash_of c.args.key.now)) (partition_low c.args.key.now)).from in
    record {
      own = c.requires.own;
      caller = refl;
      area_own = c.requires.area_own;
      area_caller = refl;
      spare = tt;
      underway = starts (partition_of (hash_of c.args.key.now)) (item_of c.args.self.now) c.args.key.now c.args.call.now g.O.CellObject.stepped c.args.area.now (number_of c.args.pass.now) (sight_of c.args.pass.now c.args.apass.now) false low;
    }

pub keep_one-kept-requires-clause-unused : goal.keep_one-kept-requires-clause-unused
keep_one-kept-requires-clause-unused g c κs within = unused_spare c.args.r.now (chunk_size (item_of c.args.self.now)) c.turns.held c.in-Ok-Done.unused c.turns.invariant.spare (subst (HandsOut c.args.r.now (chunk_size (item_of c.args.self.now)) c.turns.held) c.in-Ok-Done.field-0-is c.in-Ok-Done.ensures.handed).0

pub returns-in-Ok-Done-clause-made : goal.returns-in-Ok-Done-clause-made
returns-in-Ok-Done-clause-made g c =
    let i = c.turns.invariant in
    let home = partition_of (hash_of c.args.key.now) in
    let same_at : c.partition_of_hash-number.result ≡ home = c.partition_of_hash-number.ensures.is ∙ ap partition_of c.hash_key-hash.ensures in
    let most = (seen_roomy g.O.CellObject.stepped (seen_of c.turns.pass) (λ k few. lawful g.O.CellObject.stepped g.O.CellObject.may k _ (i.own.stands.lawful k _ (c.requires.table.parts k few))) home (partition_low c.args.key.now)).to in
    gave_spare home (item_of c.args.self.now) c.args.key.now c.args.call.now g.O.CellObject.stepped c.args.area.now (number_of c.args.pass.now) (sight_of c.args.pass.now c.args.apass.now)
    (seen_of c.try_within.new.pass) (mine_of c.try_within.new.pass) c.keep_one-kept.new.apass c.give_spare.new.apass (is_some c.keep_one-kept.result) c.in-Ok-Done.reply
    (made home (item_of c.args.self.now) c.args.key.now c.args.call.now g.O.CellObject.stepped c.args.area.now (number_of c.args.pass.now) (sight_of c.args.pass.now c.args.apass.now)
    c.partition_of_hash-number.result (number_of c.turns.pass) (seen_of c.turns.pass) (mine_of c.turns.pass) (seen_of c.try_within.new.pass) (mine_of c.try_within.new.pass) (is_some c.turns.held) same_at i.caller
    c.turns.apass c.keep_one-kept.new.apass c.in-Ok-Done.reply (is_some c.in-Ok-Done.unused) (is_some c.in-Ok-Done.freed) (is_some c.keep_one-kept.result) c.keep_one-kept.ensures.kept i.underway most
    (came g.O.CellObject.stepped _ _ _ _ _ c.partition_of_hash-number.result _ _ (Done c.in-Ok-Done.reply c.in-Ok-Done.unused c.in-Ok-Done.freed) c.in-Ok-Done.field-0-is c.in-Ok-Done.ensures.event) c.keep_one-kept.ensures.gave c.keep_one-kept.ensures.caller c.in-Ok-Done.ensures.grows)
    c.give_spare.ensures.gave c.give_spare.ensures.area_caller

pub returns-in-Ok-Done-clause-last : goal.returns-in-Ok-Done-clause-last
returns-in-Ok-Done-clause-last g c =
    let home = partition_of (hash_of c.args.key.now) in
    let same_at : c.partition_of_hash-number.result ≡ home = c.partition_of_hash-number.ensures.is ∙ ap partition_of c.hash_key-hash.ensures in
    last home (item_of c.args.self.now) c.args.key.now c.args.call.now g.O.CellObject.stepped c.args.area.now (number_of c.args.pass.now) (sight_of c.args.pass.now c.args.apass.now)
    c.partition_of_hash-number.result (number_of c.turns.pass) (seen_of c.turns.pass) (mine_of c.turns.pass) (seen_of c.try_within.new.pass) (mine_of c.try_within.new.pass) (is_some c.turns.held) same_at c.turns.invariant.caller
    c.in-Ok-Done.reply (is_some c.in-Ok-Done.unused) (is_some c.in-Ok-Done.freed) (came g.O.CellObject.stepped _ _ _ _ _ c.partition_of_hash-number.result _ _ (Done c.in-Ok-Done.reply c.in-Ok-Done.unused c.in-Ok-Done.freed) c.in-Ok-Done.field-0-is c.in-Ok-Done.ensures.event)

pub returns-in-Ok-Done-clause-cells : goal.returns-in-Ok-Done-clause-cells
returns-in-Ok-Done-clause-cells g c = seen_cells g.O.CellObject.stepped (seen_of c.try_within.new.pass) (λ k few. lawful g.O.CellObject.stepped g.O.CellObject.may k _ (c.in-Ok-Done.ensures.own.stands.lawful k _ (c.requires.table.parts k few)))

pub returns-in-Ok-Done-clause-roomy : goal.returns-in-Ok-Done-clause-roomy
returns-in-Ok-Done-clause-roomy g c = seen_roomy g.O.CellObject.stepped (seen_of c.try_within.new.pass) (λ k few. lawful g.O.CellObject.stepped g.O.CellObject.may k _ (c.in-Ok-Done.ensures.own.stands.lawful k _ (c.requires.table.parts k few)))

-- no item
pub returns-in-Err-ask-clause-refused : goal.returns-in-Err-ask-clause-refused
returns-in-Err-ask-clause-refused g c =
    let i = c.turns.invariant in
    let home = partition_of (hash_of c.args.key.now) in
    let same_at : c.partition_of_hash-number.result ≡ home = c.partition_of_hash-number.ensures.is ∙ ap partition_of c.hash_key-hash.ensures in
    let most = (seen_roomy g.O.CellObject.stepped (seen_of c.turns.pass) (λ k few. lawful g.O.CellObject.stepped g.O.CellObject.may k _ (i.own.stands.lawful k _ (c.requires.table.parts k few))) home (partition_low c.args.key.now)).to in
    no_item home (item_of c.args.self.now) c.args.key.now c.args.call.now g.O.CellObject.stepped c.args.area.now (number_of c.args.pass.now) (sight_of c.args.pass.now c.args.apass.now)
    c.partition_of_hash-number.result (number_of c.turns.pass) (seen_of c.turns.pass) (mine_of c.turns.pass) (seen_of c.try_within.new.pass) (mine_of c.try_within.new.pass) (is_some c.turns.held) same_at i.caller
    c.turns.apass c.ask.new.apass c.in-Err-ask.lack.pages c.in-Err-ask.lack.largest i.underway most (came g.O.CellObject.stepped _ _ _ _ _ c.partition_of_hash-number.result _ _ NeedItem c.in-Ok-NeedItem.field-0-is c.in-Ok-NeedItem.ensures.event) c.in-Err-ask.ensures.asked c.in-Err-ask.ensures.caller

pub returns-in-Err-ask-clause-cells : goal.returns-in-Err-ask-clause-cells
returns-in-Err-ask-clause-cells g c = seen_cells g.O.CellObject.stepped (seen_of c.try_within.new.pass) (λ k few. lawful g.O.CellObject.stepped g.O.CellObject.may k _ (c.in-Ok-NeedItem.ensures.own.stands.lawful k _ (c.requires.table.parts k few)))

pub returns-in-Err-ask-clause-roomy : goal.returns-in-Err-ask-clause-roomy
returns-in-Err-ask-clause-roomy g c = seen_roomy g.O.CellObject.stepped (seen_of c.try_within.new.pass) (λ k few. lawful g.O.CellObject.stepped g.O.CellObject.may k _ (c.in-Ok-NeedItem.ensures.own.stands.lawful k _ (c.requires.table.parts k few)))

-- an item came
pub turns-preserved-in-Ok : goal.turns-preserved-in-Ok
turns-preserved-in-Ok g c =
    let i = c.turns.invariant in
    let home = partition_of (hash_of c.args.key.now) in
    let same_at : c.partition_of_hash-number.result ≡ home = c.partition_of_hash-number.ensures.is ∙ ap partition_of c.hash_key-hash.ensures in
    record {
      own = c.in-Ok-NeedItem.ensures.own;
      caller = c.in-Ok-NeedItem.ensures.caller ∙ i.caller;
      area_own = c.in-Ok.ensures.own;
      area_caller = c.in-Ok.ensures.caller ∙ i.area_caller;
      spare = (c.in-Ok.ensures.here, c.in-Ok.ensures.size);
      underway = item_came home (item_of c.args.self.now) c.args.key.now c.args.call.now g.O.CellObject.stepped c.args.area.now (number_of c.args.pass.now) (sight_of c.args.pass.now c.args.apass.now)
          c.partition_of_hash-number.result (number_of c.turns.pass) (seen_of c.turns.pass) (mine_of c.turns.pass) (seen_of c.try_within.new.pass) (mine_of c.try_within.new.pass) (is_some c.turns.held) same_at i.caller
          c.turns.apass c.ask.new.apass i.underway (partition_low c.args.key.now) c.in-Ok-NeedItem.ensures.grows (came g.O.CellObject.stepped _ _ _ _ _ c.partition_of_hash-number.result _ _ NeedItem c.in-Ok-NeedItem.field-0-is c.in-Ok-NeedItem.ensures.event) c.in-Ok.ensures.asked c.in-Ok.ensures.caller;
    }

-- no slice
pub returns-in-Err-double-clause-refused : goal.returns-in-Err-double-clause-refused
returns-in-Err-double-clause-refused g c =
    let i = c.turns.invariant in
    let home = partition_of (hash_of c.args.key.now) in
    let same_at : c.partition_of_hash-number.result ≡ home = c.partition_of_hash-number.ensures.is ∙ ap partition_of c.hash_key-hash.ensures in
    no_slice home (item_of c.args.self.now) c.args.key.now c.args.call.now g.O.CellObject.stepped c.args.area.now (number_of c.args.pass.now) (sight_of c.args.pass.now c.args.apass.now)
    c.partition_of_hash-number.result (number_of c.turns.pass) (seen_of c.turns.pass) (mine_of c.turns.pass) (seen_of c.try_within.new.pass) (mine_of c.try_within.new.pass) (is_some c.turns.held) same_at i.caller
    c.in-Ok-TooFull.size (is_some c.in-Ok-TooFull.kept) (came g.O.CellObject.stepped _ _ _ _ _ c.partition_of_hash-number.result _ _ (TooFull c.in-Ok-TooFull.size c.in-Ok-TooFull.kept) c.in-Ok-TooFull.field-0-is c.in-Ok-TooFull.ensures.event) (c.in-Ok-TooFull.ensures.grows home (partition_low c.args.key.now))
    (number_of c.try_within.new.pass) c.in-Err-double.lack.pages c.in-Err-double.lack.largest c.turns.apass (sight_of c.double.new.pass c.double.new.apass) (is_some c.in-Ok-TooFull.kept) refl
    (c.in-Ok-TooFull.ensures.caller ∙ i.caller) i.underway (c.in-Err-double.ensures.refused (chunk_size (item_of c.args.self.now)) (kept_bytes c.args.r.now (chunk_size (item_of c.args.self.now)) c.turns.held c.in-Ok-TooFull.kept i.spare (subst (HandsOut c.args.r.now (chunk_size (item_of c.args.self.now)) c.turns.held) c.in-Ok-TooFull.field-0-is c.in-Ok-TooFull.ensures.handed)))

pub returns-in-Err-double-clause-cells : goal.returns-in-Err-double-clause-cells
returns-in-Err-double-clause-cells g c = seen_cells g.O.CellObject.stepped (seen_of c.double.new.pass) (λ k few. lawful g.O.CellObject.stepped g.O.CellObject.may k _ (c.in-Err-double.ensures.own.stands.lawful k _ (c.requires.table.parts k few)))

pub returns-in-Err-double-clause-roomy : goal.returns-in-Err-double-clause-roomy
returns-in-Err-double-clause-roomy g c = seen_roomy g.O.CellObject.stepped (seen_of c.double.new.pass) (λ k few. lawful g.O.CellObject.stepped g.O.CellObject.may k _ (c.in-Err-double.ensures.own.stands.lawful k _ (c.requires.table.parts k few)))

-- all partitions grew
pub turns-preserved : goal.turns-preserved
turns-preserved g c =
    let i = c.turns.invariant in
    let home = partition_of (hash_of c.args.key.now) in
    let same_at : c.partition_of_hash-number.result ≡ home = c.partition_of_hash-number.ensures.is ∙ ap partition_of c.hash_key-hash.ensures in
    let kept : c.in-Ok-double.kept ≡ c.turns.held = c.in-Ok-double.ensures.spare ∙ (subst (HandsOut c.args.r.now (chunk_size (item_of c.args.self.now)) c.turns.held) c.in-Ok-TooFull.field-0-is c.in-Ok-TooFull.ensures.handed) in
    let spare = subst (λ (o : Option Chunk). IfSome o (λ x. (x.part.region ≡ c.args.r.now) × (x.bytes ≡ chunk_size c.args.self.now.item_bytes))) (sym kept) i.spare in
    record {
      own = c.in-Ok-double.ensures.own;
      caller = c.in-Ok-double.ensures.caller ∙ (c.in-Ok-TooFull.ensures.caller ∙ i.caller);
      area_own = c.in-Ok-double.ensures.area_own;
      area_caller = c.in-Ok-double.ensures.area_caller ∙ i.area_caller;
      spare = spare;
      underway = all_came home (item_of c.args.self.now) c.args.key.now c.args.call.now g.O.CellObject.stepped c.args.area.now (number_of c.args.pass.now) (sight_of c.args.pass.now c.args.apass.now)
          c.partition_of_hash-number.result (number_of c.turns.pass) (seen_of c.turns.pass) (mine_of c.turns.pass) (seen_of c.try_within.new.pass) (mine_of c.try_within.new.pass) (is_some c.turns.held) same_at i.caller
          c.in-Ok-TooFull.size (is_some c.in-Ok-TooFull.kept) (came g.O.CellObject.stepped _ _ _ _ _ c.partition_of_hash-number.result _ _ (TooFull c.in-Ok-TooFull.size c.in-Ok-TooFull.kept) c.in-Ok-TooFull.field-0-is c.in-Ok-TooFull.ensures.event) (c.in-Ok-TooFull.ensures.grows home (partition_low c.args.key.now))
          (number_of c.try_within.new.pass) (seen_of c.double.new.pass) (mine_of c.double.new.pass) c.turns.apass c.double.new.apass (is_some c.in-Ok-double.kept) (ap is_some c.in-Ok-double.ensures.spare)
          (c.in-Ok-TooFull.ensures.caller ∙ i.caller) i.underway c.in-Ok-double.ensures.swept (partition_low c.args.key.now) c.in-Ok-double.ensures.large
          (λ k few. let x = c.in-Ok-TooFull.ensures.grows k few in let y = c.in-Ok-double.ensures.grows k few in omega arith);
    }

-- a size that rose, and the spare as it was
less : (before told after spare kept : ℕ) → before ≤ told → told < 20 → told + 1 ≤ after → kept ≡ spare → 2 * (20 - after) + (1 - kept) < 2 * (20 - before) + (1 - spare)
less before told after spare kept a b c e = omega arith

pub turns-smaller : goal.turns-smaller
turns-smaller g c =
    let i = c.turns.invariant in
    let home = partition_of (hash_of c.args.key.now) in
    let same_at : c.partition_of_hash-number.result ≡ home = c.partition_of_hash-number.ensures.is ∙ ap partition_of c.hash_key-hash.ensures in
    let low = c.in-Ok-TooFull.ensures.grows home (partition_low c.args.key.now) in
    let full = full_size home (item_of c.args.self.now) c.args.key.now c.args.call.now g.O.CellObject.stepped c.args.area.now (number_of c.args.pass.now) (sight_of c.args.pass.now c.args.apass.now)
    c.partition_of_hash-number.result (number_of c.turns.pass) (seen_of c.turns.pass) (mine_of c.turns.pass) (seen_of c.try_within.new.pass) (mine_of c.try_within.new.pass) (is_some c.turns.held) same_at i.caller
    c.in-Ok-TooFull.size (is_some c.in-Ok-TooFull.kept) (came g.O.CellObject.stepped _ _ _ _ _ c.partition_of_hash-number.result _ _ (TooFull c.in-Ok-TooFull.size c.in-Ok-TooFull.kept) c.in-Ok-TooFull.field-0-is c.in-Ok-TooFull.ensures.event) low in
    let told : size_at (seen_of c.try_within.new.pass) home ≡ c.in-Ok-TooFull.size = full.0 in
    let before : size_at (seen_of c.turns.pass) home ≤ c.in-Ok-TooFull.size = omega arith in
    less (size_at (seen_of c.turns.pass) home) c.in-Ok-TooFull.size (size_at (seen_of c.double.new.pass) home) (one_if (is_some c.turns.held)) (one_if (is_some c.in-Ok-double.kept)) before full.2
    (c.in-Ok-double.ensures.large home (partition_low c.args.key.now)) (ap (λ o. one_if (is_some o)) (c.in-Ok-double.ensures.spare ∙ (subst (HandsOut c.args.r.now (chunk_size (item_of c.args.self.now)) c.turns.held) c.in-Ok-TooFull.field-0-is c.in-Ok-TooFull.ensures.handed)))

pub returns-in-Ok-Done-clause-allowed : goal.returns-in-Ok-Done-clause-allowed
returns-in-Ok-Done-clause-allowed g c = λ k few. allowed g.O.CellObject.stepped g.O.CellObject.may k _ (c.in-Ok-Done.ensures.own.stands.lawful k _ (c.requires.table.parts k few))

pub returns-in-Ok-Done-clause-owned : goal.returns-in-Ok-Done-clause-owned
returns-in-Ok-Done-clause-owned g c = own_cells g.O.CellObject.stepped g.O.CellObject.may (number_of c.try_within.new.pass) (number_of c.args.pass.now) (seen_of c.try_within.new.pass) (mine_of c.try_within.new.pass) (c.in-Ok-Done.ensures.caller ∙ c.turns.invariant.caller) (λ k few. c.in-Ok-Done.ensures.own.stands.lawful k _ (c.requires.table.parts k few)) c.in-Ok-Done.ensures.own.stands.own

pub returns-in-Err-ask-clause-allowed : goal.returns-in-Err-ask-clause-allowed
returns-in-Err-ask-clause-allowed g c = λ k few. allowed g.O.CellObject.stepped g.O.CellObject.may k _ (c.in-Ok-NeedItem.ensures.own.stands.lawful k _ (c.requires.table.parts k few))

pub returns-in-Err-ask-clause-owned : goal.returns-in-Err-ask-clause-owned
returns-in-Err-ask-clause-owned g c = own_cells g.O.CellObject.stepped g.O.CellObject.may (number_of c.try_within.new.pass) (number_of c.args.pass.now) (seen_of c.try_within.new.pass) (mine_of c.try_within.new.pass) (c.in-Ok-NeedItem.ensures.caller ∙ c.turns.invariant.caller) (λ k few. c.in-Ok-NeedItem.ensures.own.stands.lawful k _ (c.requires.table.parts k few)) c.in-Ok-NeedItem.ensures.own.stands.own

pub returns-in-Err-double-clause-allowed : goal.returns-in-Err-double-clause-allowed
returns-in-Err-double-clause-allowed g c = λ k few. allowed g.O.CellObject.stepped g.O.CellObject.may k _ (c.in-Err-double.ensures.own.stands.lawful k _ (c.requires.table.parts k few))

pub returns-in-Err-double-clause-owned : goal.returns-in-Err-double-clause-owned
returns-in-Err-double-clause-owned g c = own_cells g.O.CellObject.stepped g.O.CellObject.may (number_of c.double.new.pass) (number_of c.args.pass.now) (seen_of c.double.new.pass) (mine_of c.double.new.pass) (c.in-Err-double.ensures.caller ∙ (c.in-Ok-TooFull.ensures.caller ∙ c.turns.invariant.caller)) (λ k few. c.in-Err-double.ensures.own.stands.lawful k _ (c.requires.table.parts k few)) c.in-Err-double.ensures.own.stands.own

-- the chain was too long
pub returns-in-Err-clause-refused : goal.returns-in-Err-clause-refused
returns-in-Err-clause-refused g c =
    let i = c.turns.invariant in
    let home = partition_of (hash_of c.args.key.now) in
    let same_at : c.partition_of_hash-number.result ≡ home = c.partition_of_hash-number.ensures.is ∙ ap partition_of c.hash_key-hash.ensures in
    let most = (seen_roomy g.O.CellObject.stepped (seen_of c.turns.pass) (λ k few. lawful g.O.CellObject.stepped g.O.CellObject.may k _ (i.own.stands.lawful k _ (c.requires.table.parts k few))) home (partition_low c.args.key.now)).to in
    crowded home (item_of c.args.self.now) c.args.key.now c.args.call.now g.O.CellObject.stepped c.args.area.now (number_of c.args.pass.now) (sight_of c.args.pass.now c.args.apass.now)
    c.partition_of_hash-number.result (number_of c.turns.pass) (seen_of c.turns.pass) (mine_of c.turns.pass) (seen_of c.try_within.new.pass) (mine_of c.try_within.new.pass) (is_some c.turns.held) same_at i.caller
    c.turns.apass c.give_spare-in-Err.new.apass c.args.self.now.seed c.args.longest (is_some c.in-Err.back) (ap is_some c.in-Err.ensures.back) i.underway most
    c.in-Err.ensures.crowded c.give_spare-in-Err.ensures.gave c.give_spare-in-Err.ensures.area_caller

pub returns-in-Err-clause-cells : goal.returns-in-Err-clause-cells
returns-in-Err-clause-cells g c = seen_cells g.O.CellObject.stepped (seen_of c.try_within.new.pass) (λ k few. lawful g.O.CellObject.stepped g.O.CellObject.may k _ (c.in-Err.ensures.own.stands.lawful k _ (c.requires.table.parts k few)))

pub returns-in-Err-clause-roomy : goal.returns-in-Err-clause-roomy
returns-in-Err-clause-roomy g c = seen_roomy g.O.CellObject.stepped (seen_of c.try_within.new.pass) (λ k few. lawful g.O.CellObject.stepped g.O.CellObject.may k _ (c.in-Err.ensures.own.stands.lawful k _ (c.requires.table.parts k few)))

pub returns-in-Err-clause-allowed : goal.returns-in-Err-clause-allowed
returns-in-Err-clause-allowed g c = λ k few. allowed g.O.CellObject.stepped g.O.CellObject.may k _ (c.in-Err.ensures.own.stands.lawful k _ (c.requires.table.parts k few))

pub returns-in-Err-clause-owned : goal.returns-in-Err-clause-owned
returns-in-Err-clause-owned g c = own_cells g.O.CellObject.stepped g.O.CellObject.may (number_of c.try_within.new.pass) (number_of c.args.pass.now) (seen_of c.try_within.new.pass) (mine_of c.try_within.new.pass) (c.in-Err.ensures.caller ∙ c.turns.invariant.caller) (λ k few. c.in-Err.ensures.own.stands.lawful k _ (c.requires.table.parts k few)) c.in-Err.ensures.own.stands.own
