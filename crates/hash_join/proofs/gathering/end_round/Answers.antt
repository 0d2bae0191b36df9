use Rattle.std.proofs.Common.{◌∙◌, ℕ, List, ap, sym, subst}
use Rattle.dshash_parts.specs.Ending.{whole_of}
use Rattle.dshash_parts.specs.Tables.{map_at}
use Rattle.frozen_table.specs.Parts.{ListMaps, map_in}
use Rattle.scan_claim.specs.Shown.{AreSeats}
use Rattle.scan_claim.specs.declared.claims.ClaimSeat.{ClaimSeat}
use Rattle.hash_join.specs.Probes.{last_in}
use Rattle.hash_join.proofs.Frozen.{chains_same, covered_same, last_same}
use Rattle.hash_join.proofs.Homes.{callers_past, home_covered, home_shared, table_at}
use Rattle.hash_join.proofs.gathering.end_round.Goals as goal

pub close-drawn-requires : goal.close-drawn-requires
close-drawn-requires c =
    let home = c.requires.home.1 in
    subst (λ (seats : List ClaimSeat). AreSeats c.args.claims seats) (sym home.claims) home.all.claims

pub chain_all-requires-clause-covered : goal.chain_all-requires-clause-covered
chain_all-requires-clause-covered c κs =
    let rows = c.args.rows.now in
    let column = c.args.column in
    let d = c.close-drawn.ensures in
    let t = c.in_ok-table.field-0 in
    let e = c.in_ok-table.ensures.ended in
    let fs = c.requires.home.0 in
    let home = c.requires.home.1 in
    let p = c.of-probe.result in
    let maps = map_at (whole_of t.table) in
    let listed = subst (ListMaps maps) (sym c.of-probe.ensures.lookup) (c.lookup.ensures maps c.in_ok-table.ensures.maps) in
    covered_same rows column (last_in maps p.key_words) (last_in (map_in p.lookup.now) p.key_words) _ _ (last_same maps p.lookup.now listed p.key_words)
    (home_covered rows column c.args.store c.args.claims fs c.args.home home c.close-drawn.result d.lists c.requires.some c.requires.blocks d.all (whole_of t.table) (λ n i f at. e.mine n i f.table (table_at rows column c.args.store c.args.claims fs c.args.home home n f at))
    (λ i n past. e.no_others i n (callers_past rows column c.args.store c.args.claims fs c.args.home home n past)) e.lawful p.key_words (c.of-probe.ensures.words ∙ c.requires.words) c.requires.bytes d.drawn)

pub returns-clause-chains : goal.returns-clause-chains
returns-clause-chains c =
    let t = c.in_ok-table.field-0 in
    let p = c.of-probe.result in
    let maps = map_at (whole_of t.table) in
    let listed = subst (ListMaps maps) (sym c.of-probe.ensures.lookup) (c.lookup.ensures maps c.in_ok-table.ensures.maps) in
    chains_same c.args.rows.now c.args.column (last_in (map_in p.lookup.now) p.key_words) (last_in maps c.args.store.key_words) c.in_ok-chains.chains
    (λ field. sym (last_same maps p.lookup.now listed p.key_words field) ∙ ap (λ (words : ℕ). last_in maps words field) c.of-probe.ensures.words) c.in_ok-chains.ensures

pub returns-clause-shared : goal.returns-clause-shared
returns-clause-shared c =
    let rows = c.args.rows.now in
    let column = c.args.column in
    let d = c.close-drawn.ensures in
    let t = c.in_ok-table.field-0 in
    let e = c.in_ok-table.ensures.ended in
    let fs = c.requires.home.0 in
    let home = c.requires.home.1 in
    home_shared rows column c.args.store c.args.claims fs c.args.home home c.close-drawn.result d.lists c.requires.some c.requires.blocks d.all (whole_of t.table)
    (λ n i f at. e.mine n i f.table (table_at rows column c.args.store c.args.claims fs c.args.home home n f at)) (λ i n past. e.no_others i n (callers_past rows column c.args.store c.args.claims fs c.args.home home n past)) e.lawful
