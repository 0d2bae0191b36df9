use Rattle.std.proofs.Common.{◌≡◌, ℕ, Bool, false, List, length, is_some, refl, sym, ap, subst, ◌∙◌, append-nil, arith}
use Rattle.lock_book.specs.Shown.{number_of, seen_of, mine_of}
use Rattle.dshash_core.specs.Key.{hash_of}
use Rattle.dshash_core.specs.Cells.{partition_of}
use Rattle.dshash_core.specs.Listing.{pairs_of}
use Rattle.dshash_parts.specs.Lookups.{IsVisited}
use Rattle.dsa_area.specs.Sizes.{chunk_size}
use Rattle.dshash_parts.specs.Sweeps.{GaveBack}
use Rattle.dshash_parts.specs.Tables.{AreKeysOf, AtPartition, item_of}
use Rattle.dshash_parts.specs.declared.histories.PartitionCalls.TheVariants.{Call}
use Rattle.dshash_parts.specs.declared.histories.PartitionReplies.TheVariants.{Made}
use Rattle.dshash_scan.specs.Visits.{ScanView}
use Rattle.dshash_scan.proofs.Visits.{next_keys, next_left, nothing_of}
use Rattle.dshash_scan.proofs.visiting.Scan.visit_next.Goals as goal

pub returns-in_default-clause-keys : goal.returns-in_default-clause-keys
returns-in_default-clause-keys g c =
    let same = sym (append-nil c.pop.new.self.items) ∙ sym c.in_default.ensures.items in
    subst (λ items. AreKeysOf c.args.table.now c.self.inside.partition (pairs_of items)) (sym same) (subst (λ (v : ScanView g.row.O-State.Denot). AreKeysOf c.args.table.now v.partition v.left) (sym c.self.view_is) c.requires.keys)

pub returns-in_default-clause-done : goal.returns-in_default-clause-done
returns-in_default-clause-done g c =
    let same = sym (append-nil c.pop.new.self.items) ∙ sym c.in_default.ensures.items in (
      sym (ap (λ (v : ScanView g.row.O-State.Denot). v.left) c.self.view_is) ∙ ap (λ items. pairs_of items) (nothing_of c.self.inside.entries.items (omega (arith, c.in_default.ensures.cases.0, c.self.inside.entries.ok.0))),
      ap (λ items. record { partition = c.self.inside.partition; left = pairs_of items }) same ∙ c.self.view_is,
      refl,
      refl,
    )

pub visit-reply-requires-clause-key : goal.visit-reply-requires-clause-key
visit-reply-requires-clause-key g c κs within =
    let n = next_keys c.args.table.now c.args.self.now _ _ _ c.in-Some.entry c.self.view_is c.in-Some.ensures.items c.requires.keys in
    ap (λ (k : List ℕ). length k) c.words.ensures ∙ n.1.0

pub visit-reply-requires-clause-may : goal.visit-reply-requires-clause-may
visit-reply-requires-clause-may g c κs within =
    let n = next_keys c.args.table.now c.args.self.now _ _ _ c.in-Some.entry c.self.view_is c.in-Some.ensures.items c.requires.keys in
    subst (λ (k : List ℕ). g.O.CellObject.may (number_of c.args.pass.now) k c.args.call.now) (sym c.words.ensures)
    (c.requires.may c.in-Some.entry.key (n.1.1 ∙ ap (λ (v : ScanView g.row.O-State.Denot). v.partition) c.self.view_is))

pub returns-clause-keys : goal.returns-clause-keys
returns-clause-keys g c = (next_keys c.args.table.now c.args.self.now _ _ _ c.in-Some.entry c.self.view_is c.in-Some.ensures.items c.requires.keys).0

pub returns-clause-partition : goal.returns-clause-partition
returns-clause-partition g c = ap (λ (v : ScanView g.row.O-State.Denot). v.partition) c.self.view_is

pub returns-clause-visited : goal.returns-clause-visited
returns-clause-visited g c =
    let n = next_keys c.args.table.now c.args.self.now _ _ _ c.in-Some.entry c.self.view_is c.in-Some.ensures.items c.requires.keys in
    let here = ap (λ (v : ScanView g.row.O-State.Denot). v.partition) c.self.view_is in
    let p = c.args.pass.now in
    let q = c.visit-reply.new.pass in
    let key : List ℕ = c.in-Some.entry.key in
    let step = g.O.CellObject.stepped in
    let call = c.args.call.now in
    let reply = c.visit-reply.result.0 in
    let taken = is_some c.visit-reply.result.1 in
    let told : taken ≡ c.is_some-removed.result = sym c.is_some-removed.ensures in
    record {
      state = c.in-Some.entry.state;
      partition = here;
      next = next_left c.args.table.now c.args.self.now _ _ _ c.in-Some.entry c.self.view_is c.in-Some.ensures.items;
      turned = subst (λ (b : Bool). AtPartition step (number_of p) (seen_of p) (mine_of p) (seen_of q) (mine_of q) c.args.self.now.partition (Call key call false) (Made reply false b)) told
          (subst (λ (z : ℕ). AtPartition step (number_of p) (seen_of p) (mine_of p) (seen_of q) (mine_of q) z (Call key call false) (Made reply false taken)) (n.1.1 ∙ here)
          (subst (λ (k : List ℕ). AtPartition step (number_of p) (seen_of p) (mine_of p) (seen_of q) (mine_of q) (partition_of (hash_of k)) (Call k call false) (Made reply false taken)) c.words.ensures c.visit-reply.ensures.event));
      gave = subst (λ (b : Bool). GaveBack c.args.area.now c.args.apass.now c.give_spare.new.apass (chunk_size (item_of c.args.table.now)) b) told c.give_spare.ensures.gave;
    }

pub returns-clause-found : goal.returns-clause-found
returns-clause-found g c =
    let step = g.O.CellObject.stepped in
    let call = c.args.call.now in
    let reply = c.visit-reply.result.0 in
    let key : List ℕ = c.in-Some.entry.key in
    subst (λ (b : Bool). IsVisited step (seen_of c.visit-reply.new.pass) key call reply b) (sym c.is_some-removed.ensures)
    (subst (λ (k : List ℕ). IsVisited step (seen_of c.visit-reply.new.pass) k call reply (is_some c.visit-reply.result.1)) c.words.ensures c.visit-reply.ensures.found)
