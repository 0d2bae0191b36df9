use Rattle.std.proofs.Common.{◌≡◌, length, ap, sym, ◌∙◌, refl}
use Rattle.dshash_core.specs.Chains.{word, Item, item_at}
use Rattle.dshash_core.specs.Hung.{IsItemChunk}
use Rattle.dshash_core.proofs.calls.insert.Goals as goal

pub returns : goal.returns
returns g c =
    let it : Item = record { at = c.args.item.at; key = c.args.key.now; value = c.encode.new.out } in
    let long : length c.encode.new.out ≡ c.args.buckets.now.layout.value_words = c.encode.auto.out ∙ c.requires.buffer ∙ sym c.requires.values in
    let words = c.fill-item.result.part.words in
    let is_item : IsItemChunk c.fill-item.result.at words c.args.buckets.now.layout it = record {
      reads = (λ i. item_at (word words) (sym c.requires.key i) (sym long i) c.fill-item.result.at) ∙ c.fill-item.ensures.item;
      hashed = c.fill-item.ensures.hashed ∙ c.requires.hash;
    } in
    (it, refl, ap g.O.CellObject.decoded c.encode.ensures.words ∙ g.met.O.CellObject.reads_back c.args.state.now c.encode.ensures.value, c.push.ensures it is_item)
