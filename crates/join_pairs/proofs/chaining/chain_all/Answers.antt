use Rattle.std.proofs.Common.{◌≡◌, ◌<◌, ◌+◌, ◌++◌, ℕ, List, All, get_or, length, map, take, replicate, [], ap, subst, sym, ◌∙◌, append-nil, append_assoc, Vec, Global}
use Rattle.std.specs.List.{flat_map}
use Rattle.std.proofs.Math.ListN.{get_or-map}
use Rattle.std.proofs.lemmas.List.{length-map, length-replicate}
use Rattle.std.proofs.lemmas.List.Elements.{All-weaker}
use Rattle.row_blocks.proofs.Elements.{All-apart}
use Rattle.join_pairs.specs.Gathered.{AreApart, AreChains, HasChains, linked}
use Rattle.join_pairs.specs.Join.{IsRow}
use Rattle.join_pairs.specs.declared.chains.Link.{Link}
use Rattle.join_pairs.proofs.Collecting.{flat_more}
use Rattle.join_pairs.proofs.Covered.{covered_apart, covered_chains, covered_rows}
use Rattle.join_pairs.proofs.Flats.{apart_list, flat_all}
use Rattle.join_pairs.proofs.Linking.{length-linked}
use Rattle.join_pairs.proofs.chaining.chain_all.Goals as goal

abbrev links_of : Vec Link Global → List Link
links_of v = v.items

abbrev rows_of : Vec ℕ Global → List ℕ
rows_of v = v.items

-- what holds of the rows of links holds of the links
of_links : (P : ℕ → Type 0) (ls : List Link) → All P (map (λ (l : Link). l.row) ls) → All (λ (l : Link). P l.row) ls
of_links P ls h = λ k d low. subst P (get_or-map (λ (l : Link). l.row) ls k d) (h k d.row (subst (λ n. k < n) (sym (length-map ls (λ (l : Link). l.row))) low))

pub link_rows-requires : goal.link_rows-requires
link_rows-requires g c =
    let rows = c.args.rows.now in
    let links = flat_map links_of c.args.links.now.items in
    let spilled = flat_map rows_of c.args.spilled.now.items in
    let long : length c.in_ok-chains.chains.befores.items ≡ length rows =
    ap (λ (l : List ℕ). length l) c.in_ok-chains.ensures.befores ∙ length-replicate (c.count.result + 1) 0 ∙ c.count.ensures.rows in
    let are = (All-apart (IsRow rows) (map (λ (l : Link). l.row) links) spilled (covered_rows rows c.args.column (g.L.Lasts.last_of c.args.table.now) links spilled c.requires.covered)).0 in
    record {
      rows = All-weaker (λ (l : Link). IsRow rows l.row) (λ (l : Link). l.row < length c.in_ok-chains.chains.befores.items) (λ l r. subst (λ n. l.row < n) (sym long) r.1) links (of_links (IsRow rows) links are);
    }

pub loop-list-init : goal.loop-list-init
loop-list-init g c =
    let rows = c.args.rows.now in
    let column = c.args.column in
    let last = g.L.Lasts.last_of c.args.table.now in
    let links = flat_map links_of c.args.links.now.items in
    let numbers = map (λ (l : Link). l.row) links in
    let made = c.link_rows.new.chains in
    let zeros : c.in_ok-chains.chains.befores.items ≡ replicate (length rows) 0 = c.in_ok-chains.ensures.befores ∙ ap (λ n. replicate n 0) c.count.ensures.rows in
    let befores : made.befores.items ≡ linked links (replicate (length rows) 0) = c.link_rows.ensures.linked ∙ ap (linked links) zeros in
    let keys : made.keys ≡ [] = c.link_rows.ensures.same.0 ∙ c.in_ok-chains.ensures.keys.0 in
    let lasts : made.lasts.items ≡ [] = ap (λ (v : Vec ℕ Global). v.items) c.link_rows.ensures.same.1 ∙ c.in_ok-chains.ensures.keys.1 in
    let lists = covered_chains rows column last links (flat_map rows_of c.args.spilled.now.items) c.requires.covered in (
      ap (λ (l : List (List ℕ)). length l) keys ∙ sym (ap (λ (l : List ℕ). length l) lasts),
      ap (λ (l : List ℕ). length l) befores ∙ length-linked links (replicate (length rows) 0) ∙ length-replicate (length rows) 0,
      subst (λ (l : List ℕ). AreChains rows column l last made.keys made.lasts.items made.befores.items) (sym (append-nil numbers))
          (subst (λ (ks : List (List ℕ)). AreChains rows column numbers last ks made.lasts.items made.befores.items) (sym keys)
          (subst (λ (ls : List ℕ). AreChains rows column numbers last [] ls made.befores.items) (sym lasts)
          (subst (λ (bs : List ℕ). AreChains rows column numbers last [] [] bs) (sym befores) lists))),
    )

pub add_rows-requires-clause-rows : goal.add_rows-requires-clause-rows
add_rows-requires-clause-rows g c κs within =
    let rows = c.args.rows.now in
    let i = c.loop-list.list-index in
    let list = c.list-item.result in
    let value = c.deref-list-items.ensures.value in
    let links = flat_map links_of c.args.links.now.items in
    let spilled = flat_map rows_of c.args.spilled.now.items in
    let are = (All-apart (IsRow rows) (map (λ (l : Link). l.row) links) spilled (covered_rows rows c.args.column (g.L.Lasts.last_of c.args.table.now) links spilled c.requires.covered)).1 in
    subst (All (IsRow rows)) (sym c.as_slice.ensures.value)
    (flat_all (IsRow rows) rows_of c.args.spilled.now.items i list (subst (λ (l : List (Vec ℕ Global)). i < length l) value c.loop-list-test.true)
    (subst (λ (l : List (Vec ℕ Global)). list ≡ get_or l i list) value c.list-item.is) are)

pub loop-list-preserved : goal.loop-list-preserved
loop-list-preserved g c =
    let rows = c.args.rows.now in
    let column = c.args.column in
    let i = c.loop-list.list-index in
    let list = c.list-item.result in
    let value = c.deref-list-items.ensures.value in
    let lists = c.args.spilled.now.items in
    let links = flat_map links_of c.args.links.now.items in
    let numbers = map (λ (l : Link). l.row) links in
    let known = numbers ++ flat_map rows_of (take i lists) in
    let made = c.add_rows.new.chains in
    let low = subst (λ (l : List (Vec ℕ Global)). i < length l) value c.loop-list-test.true in
    let at = subst (λ (l : List (Vec ℕ Global)). list ≡ get_or l i list) value c.list-item.is in
    let same = c.as_slice.ensures.value in
    let away : AreApart known list.items = apart_list numbers rows_of lists i list low at (covered_apart rows column (g.L.Lasts.last_of c.args.table.now) links (flat_map rows_of lists) c.requires.covered) in
    let chains : HasChains rows column (known ++ list.items) (g.L.Lasts.last_of c.args.table.now) made =
    subst (λ (l : List ℕ). HasChains rows column (known ++ l) (g.L.Lasts.last_of c.args.table.now) made) same (c.in-Ok.ensures.added known (subst (AreApart known) (sym same) away) c.loop-list.invariant.2) in (
      c.in-Ok.ensures.places,
      c.add_rows.ensures.room ∙ c.loop-list.invariant.1,
      subst (λ (l : List ℕ). HasChains rows column l (g.L.Lasts.last_of c.args.table.now) made)
          (append_assoc numbers (flat_map rows_of (take i lists)) list.items ∙ ap (λ (l : List ℕ). numbers ++ l) (sym (flat_more rows_of lists i list low at))) chains,
    )
