use Rattle.std.proofs.Common.{◌≡◌, ◌<◌, ◌++◌, ℕ, List, is_some, length, sym, ap, subst}
use Rattle.std.specs.Option.{IfSome}
use Rattle.lock_book.specs.Shown.{begun_in, calls_in, number_in, place_in}
use Rattle.lock_book.proofs.Uses.{turn_legal}
use Rattle.dshash_core.specs.Key.{hash_of, seeded_hash}
use Rattle.dshash_core.specs.Cells.{partition_of}
use Rattle.dshash_parts.specs.Asked.{outcome_of}
use Rattle.dshash_parts.specs.States.{fresh}
use Rattle.dshash_parts.specs.Tables.{key_words_of, name_in, seed_of}
use Rattle.dshash_parts.specs.Turns.{TurnedIn}
use Rattle.dshash_parts.specs.declared.histories.PartitionCalls.TheVariants.{Call}
use Rattle.dshash_parts.specs.declared.histories.PartitionName.{PartitionName}
use Rattle.dshash_parts.proofs.Events.{no_other_make}
use Rattle.dshash_parts.proofs.Owners.{ours}
use Rattle.dshash_parts.proofs.InTurns.{name_is, told_in}
use Rattle.dshash_parts.proofs.table.Dshash.call_in.Goals as goal

pub call-requires-clause-input : goal.call-requires-clause-input
call-requires-clause-input g c κs within = λ o eo.
    let t = c.args.turn.now in
    let at = place_in t in
    let there = c.requires.table.parts at (subst (λ n. at < n) c.requires.table.count c.requires.turn.1.place) in
    let home = c.requires.key in
    let same = name_is _ at (name_in c.args.r.now c.args.self.now at) fresh o there eo in (
      ap (λ (n : PartitionName). n.region) same,
      (
        (
          subst (λ (n : PartitionName). length c.of.result ≡ n.key_words) same (subst (λ (k : List ℕ). length k ≡ key_words_of c.args.self.now) (sym c.of.ensures) home.0),
          subst (λ (n : PartitionName). c.seeded_hash_key-hash.result ≡ seeded_hash n.seed c.of.result) same (subst (λ (k : List ℕ). c.seeded_hash_key-hash.result ≡ seeded_hash (seed_of c.args.self.now) k) (sym c.of.ensures) c.seeded_hash_key-hash.ensures),
          subst (λ (n : PartitionName). partition_of (hash_of c.of.result) ≡ n.number) same (subst (λ (k : List ℕ). partition_of (hash_of k) ≡ at) (sym c.of.ensures) home.1),
          subst (λ (n : PartitionName). IfSome c.args.spare (λ s. (s.part.region ≡ n.region) × (s.bytes ≡ n.item_bytes))) same c.requires.spare,
        ),
        subst (λ (k : List ℕ). g.O.CellObject.may (number_in t) k c.args.call.now) (sym c.of.ensures) c.requires.may,
      ),
    )

pub unreachable-requires : goal.unreachable-requires
unreachable-requires g c =
    let at = place_in c.args.turn.now in
    let there = c.requires.table.parts at (subst (λ n. at < n) c.requires.table.count c.requires.turn.1.place) in
    no_other_make (name_in c.args.r.now c.args.self.now at) c.seeded_hash_key-hash.result c.of.result c.args.call.now c.args.spare c.call.result (c.call.ensures.output _ there) c.in_default.not-Came

pub returns-clause-event : goal.returns-clause-event
returns-clause-event g c =
    let t = c.args.turn.now in
    let at = place_in t in
    let there = c.requires.table.parts at (subst (λ n. at < n) c.requires.table.count c.requires.turn.1.place) in
    let e = c.in-Came.ensures.called in
    let history = turn_legal c.args.self.now.shelf c.requires.turn.0 t c.requires.turn.1 _ there in
    subst (λ z. TurnedIn g.O.CellObject.stepped t c.call.new.self (Call z c.args.call.now (is_some c.args.spare)) (outcome_of c.in-Came.out)) c.of.ensures record {
      after = e.after;
      calls = e.calls;
      legal = (e.step _ there (ours g.O.CellObject.stepped g.O.CellObject.may at (begun_in t ++ calls_in t) history)).0;
      begun = e.begun;
      place = e.place;
      number = e.number;
    }

pub returns-clause-handed : goal.returns-clause-handed
returns-clause-handed g c =
    let at = place_in c.args.turn.now in
    c.in-Came.ensures.output _ (c.requires.table.parts at (subst (λ n. at < n) c.requires.table.count c.requires.turn.1.place))

pub returns-clause-told : goal.returns-clause-told
returns-clause-told g c = told_in g.O.CellObject.stepped c.args.turn.now c.call.new.self c.args.key.now c.args.call.now (is_some c.args.spare) c.in-Came.out (returns-clause-event g c)
