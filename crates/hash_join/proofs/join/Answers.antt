use Rattle.std.proofs.Common.{◌∙◌, ℕ, ap, sym, subst}
use Rattle.dshash_parts.specs.Ending.{whole_of}
use Rattle.dshash_parts.specs.Tables.{map_at}
use Rattle.frozen_table.specs.Parts.{ListMaps, map_in}
use Rattle.join_pairs.specs.Found.{HasNone}
use Rattle.hash_join.specs.Probes.{last_in}
use Rattle.hash_join.proofs.Frozen.{chains_same, last_same}
use Rattle.hash_join.proofs.join.Goals as goal

-- the chains begin where the look-up says
pub returns-in-Ok-find_pairs-clause-pairs : goal.returns-in-Ok-find_pairs-clause-pairs
returns-in-Ok-find_pairs-clause-pairs g c =
    let t = c.in-Ok.gathered in
    let p = c.of-probe.result in
    let maps = map_at (whole_of t.table) in
    let listed = subst (ListMaps maps) (sym c.of-probe.ensures.lookup) (c.lookup.ensures maps c.in-Ok.ensures.maps) in
    c.in-Ok-find_pairs.ensures.pairs c.args.left.now c.args.left_column
    (chains_same c.args.left.now c.args.left_column (last_in maps t.key_words) (last_in (map_in p.lookup.now) p.key_words) t.chains
    (λ field. ap (λ (words : ℕ). last_in maps words field) (sym c.of-probe.ensures.words) ∙ last_same maps p.lookup.now listed p.key_words field) c.in-Ok.ensures.chains)

pub returns-in-Err-TooMany-clause-cause : goal.returns-in-Err-TooMany-clause-cause
returns-in-Err-TooMany-clause-cause g c =
    let t = c.in-Ok.gathered in
    let p = c.of-probe.result in
    let maps = map_at (whole_of t.table) in
    let listed = subst (ListMaps maps) (sym c.of-probe.ensures.lookup) (c.lookup.ensures maps c.in-Ok.ensures.maps) in (
      c.in_default.ensures.accepted,
      c.in_default-first_refused.ensures.accepted,
      subst (HasNone c.args.left.now c.args.right.now c.args.left_column c.args.right_column) c.in-Err-TooMany.field-0-is
          (c.in-Err-TooMany.ensures.none c.args.left.now c.args.left_column
          (chains_same c.args.left.now c.args.left_column (last_in maps t.key_words) (last_in (map_in p.lookup.now) p.key_words) t.chains
          (λ field. ap (λ (words : ℕ). last_in maps words field) (sym c.of-probe.ensures.words) ∙ last_same maps p.lookup.now listed p.key_words field) c.in-Ok.ensures.chains)),
    )
