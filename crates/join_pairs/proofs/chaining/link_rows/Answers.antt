use Rattle.std.proofs.Common.{◌≡◌, ◌<◌, List, All, ℕ, length, get_or, ap, sym, subst, ◌∙◌, Vec, Global}
use Rattle.std.specs.List.{flat_map}
use Rattle.std.proofs.lemmas.List.Elements.{All-weaker}
use Rattle.join_pairs.specs.Gathered.{HasRoom, linked}
use Rattle.join_pairs.specs.declared.chains.Link.{Link}
use Rattle.join_pairs.proofs.Flats.{flat_all, links_step}
use Rattle.join_pairs.proofs.Linking.{length-linked}
use Rattle.join_pairs.proofs.chaining.link_rows.Goals as goal

abbrev links_of : Vec Link Global → List Link
links_of v = v.items

pub link_all-requires : goal.link_all-requires
link_all-requires c =
    let i = c.loop-list.list-index in
    let list = c.list-item.result in
    let value = c.deref-list-items.ensures.value in
    let room = λ (l : Link). HasRoom c.args.chains.now l.row in
    let here = λ (l : Link). HasRoom c.loop-list.chains l.row in
    record {
      rows = subst (All here) (sym c.as_slice.ensures.value)
          (All-weaker room here (λ l r. subst (λ n. l.row < n) (sym c.loop-list.invariant.1) r) list.items
          (flat_all room links_of c.args.links.now.items i list (subst (λ (l : List (Vec Link Global)). i < length l) value c.loop-list-test.true)
          (subst (λ (l : List (Vec Link Global)). list ≡ get_or l i list) value c.list-item.is) c.requires.rows));
    }

pub loop-list-preserved : goal.loop-list-preserved
loop-list-preserved c =
    let i = c.loop-list.list-index in
    let list = c.list-item.result in
    let value = c.deref-list-items.ensures.value in
    let cur = c.loop-list.chains.befores.items in
    let next = c.link_all.new.self.befores.items in
    let set = c.link_all.ensures.linked ∙ ap (λ (l : List Link). linked l cur) c.as_slice.ensures.value in (
      links_step links_of c.args.links.now.items i list cur next (linked (flat_map links_of c.args.links.now.items) c.args.chains.now.befores.items)
          (subst (λ (l : List (Vec Link Global)). i < length l) value c.loop-list-test.true) (subst (λ (l : List (Vec Link Global)). list ≡ get_or l i list) value c.list-item.is) set c.loop-list.invariant.0,
      ap (λ (l : List ℕ). length l) set ∙ length-linked list.items cur ∙ c.loop-list.invariant.1,
      c.link_all.ensures.same.0 ∙ c.loop-list.invariant.2,
      c.link_all.ensures.same.1 ∙ c.loop-list.invariant.3,
    )
