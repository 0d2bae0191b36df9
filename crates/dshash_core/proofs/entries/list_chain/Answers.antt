use Rattle.std.proofs.Common.{◌≡◌, List, [], ◌∷◌, ◌++◌, map, ap, sym, subst, ◌∙◌, refl, append_assoc}
use Rattle.std.proofs.lemmas.List.{map-append, append-nil}
use Rattle.dshash_core.specs.Chains.{Item, Among}
use Rattle.dshash_core.specs.Hung.{Hung, Holds, chain_of}
use Rattle.dshash_core.specs.Cells.{entry_of}
use Rattle.dshash_core.specs.Listing.{pairs_of}
use Rattle.dshash_core.proofs.Views.{first_item, among_here}
use Rattle.dshash_core.proofs.entries.list_chain.Goals as goal

pub loop-item-init : goal.loop-item-init
loop-item-init g c = ([], chain_of c.args.buckets.now c.args.bucket, c.first-item.ensures.same, refl, c.first-item.ensures.first, c.first-item.ensures.ends, sym (append-nil (pairs_of c.args.entries.now.items)), refl)

pub read_entry-requires-clause-item : goal.read_entry-requires-clause-item
read_entry-requires-clause-item g c =
    let i = c.loop-item.invariant in
    let f = first_item i.1 c.loop-item.item i.4 c.loop-item-test.true in
    let held : Among f.0 (chain_of c.args.buckets.now c.args.bucket) = subst (λ (l : List Item). Among f.0 l) (sym (i.3 ∙ ap (λ (l : List Item). i.0 ++ l) f.2)) (among_here f.0 i.0 f.1) in
    (f.0, subst (λ (u : Hung). Holds u f.0) (sym i.2) (c.args.bucket, c.requires.bucket, held), f.3)

pub loop-item-preserved : goal.loop-item-preserved
loop-item-preserved g c =
    let i = c.loop-item.invariant in
    let f = first_item i.1 c.loop-item.item i.4 c.loop-item-test.true in
    let splits : chain_of c.args.buckets.now c.args.bucket ≡ i.0 ++ f.0 ∷ f.1 = i.3 ∙ ap (λ (l : List Item). i.0 ++ l) f.2 in
    let held : Among f.0 (chain_of c.args.buckets.now c.args.bucket) = subst (λ (l : List Item). Among f.0 l) (sym splits) (among_here f.0 i.0 f.1) in
    let same : c.read_entry.new.buckets ≡ c.args.buckets.now = c.in_ok-entry.ensures.same ∙ i.2 in
    let now : chain_of c.read_entry.new.buckets c.args.bucket ≡ i.0 ++ f.0 ∷ f.1 = ap (λ (u : Hung). chain_of u c.args.bucket) same ∙ splits in
    let entry = c.in_ok-entry.ensures.entry f.0 (subst (λ (u : Hung). Holds u f.0) (sym i.2) (c.args.bucket, c.requires.bucket, held)) f.3 in
    let step = entry_of g.O.CellObject.decoded in (
      i.0 ++ f.0 ∷ [],
      f.1,
      c.next-item.ensures.same ∙ same,
      splits ∙ sym (append_assoc i.0 (f.0 ∷ []) f.1),
      c.next-item.ensures.next i.0 f.1 f.0 now f.3,
      c.next-item.ensures.ends i.0 f.1 f.0 now f.3,
      ap pairs_of c.in_ok-push.ensures.items
          ∙ map-append (λ e. (e.key, e.state)) c.loop-item.entries.items (c.in_ok-entry.entry ∷ [])
          ∙ (λ t. i.6 t ++ entry t ∷ [])
          ∙ append_assoc (pairs_of c.args.entries.now.items) (map step i.0) (step f.0 ∷ [])
          ∙ ap (λ l. pairs_of c.args.entries.now.items ++ l) (sym (map-append step i.0 (f.0 ∷ []))),
      c.read_entry.auto.buffer ∙ i.7,
    )
