use Rattle.std.proofs.Common.{◌≡◌, ℕ, ◌+◌, ◌∷◌, false, ap, sym, subst, ◌∙◌}
use Rattle.std.specs.FinMap as fin
use Rattle.dshash_core.specs.Key.{seeded_hash}
use Rattle.dshash_core.specs.Chains.{Item}
use Rattle.dshash_core.specs.Hung.{Hung, Layout, with_chain, chain_of}
use Rattle.dshash_core.specs.Cells.{PartitionView, IsRoomy, cells_of}
use Rattle.dshash_core.proofs.Chains.{word_is}
use Rattle.dshash_core.proofs.Flats.{cells_len}
use Rattle.dshash_core.proofs.Moves.{taken_in, chunk_of}
use Rattle.dshash_core.proofs.partition.Partition.take_in.Goals as goal

pub invariant_of-self : goal.invariant_of-self
invariant_of-self g c =
    let S : Type 0 = g.row.O-State.Denot in
    let b = c.self.inside.buckets in
    let k = c.self.invariant.cells in
    let dec = g.O.CellObject.decoded in
    let vw : ℕ = g.O.CellObject.VALUE_WORDS in
    let it : Item = c.requires.item.0 in
    let lay : ◌≡◌ {A = Layout} (record { seed = c.args.self.now.seed; key_words = c.args.self.now.key_words; value_words = vw; item_bytes = c.args.self.now.item_bytes }) b.layout =
    λ t. record { seed = sym (ap (λ (w : PartitionView S). w.seed) c.self.view_is) t; key_words = sym (ap (λ (w : PartitionView S). w.key_words) c.self.view_is) t; value_words = sym k.values t; item_bytes = sym (ap (λ (w : PartitionView S). w.item_bytes) c.self.view_is) t } in
    let hash : c.load-hash.result ≡ seeded_hash b.layout.seed it.key = sym (word_is c.args.item.part.words (c.args.item.at + 1) c.load-hash.result c.load-hash.ensures.found) ∙ c.requires.item.1.hashed ∙ ap (λ (w : PartitionView S). seeded_hash w.seed it.key) (sym c.self.view_is) in
    let none : fin.contains_key (cells_of dec b.chains) it.key ≡ false = ap (λ (w : PartitionView S). fin.contains_key w.cells it.key) c.self.view_is ∙ c.requires.item.2 in
    let len = cells_len c.self.inside.size c.self.inside.count vw b k dec in
    let roomy : IsRoomy c.self.inside.size (c.self.inside.count + 1) =
    subst (λ (n : ℕ). IsRoomy c.self.inside.size (n + 1)) len (subst (λ (w : PartitionView S). IsRoomy w.size (fin.len w.cells + 1)) (sym c.self.view_is) c.requires.room) in
    let made = taken_in dec c.self.inside.size c.self.inside.count vw b c.push.new.self k c.bucket_of_hash-bucket.result c.load-hash.result it hash c.bucket_of_hash-bucket.ensures none roomy
    (c.push.ensures it (chunk_of c.args.item.at c.load-hash.new.self.at c.args.item.part c.load-hash.new.self.part (record { seed = c.args.self.now.seed; key_words = c.args.self.now.key_words; value_words = vw; item_bytes = c.args.self.now.item_bytes }) b.layout it c.load-hash.ensures.place.0 c.load-hash.ensures.part lay c.requires.item.1)) in
    record { cells = made.0; short = c.self.invariant.short }

pub returns : goal.returns
returns g c = λ it chunk.
    let S : Type 0 = g.row.O-State.Denot in
    let b = c.self.inside.buckets in
    let k = c.self.invariant.cells in
    let dec = g.O.CellObject.decoded in
    let vw : ℕ = g.O.CellObject.VALUE_WORDS in
    let one : c.requires.item.0 ≡ it = sym c.requires.item.1.reads ∙ chunk.reads in
    let lay : ◌≡◌ {A = Layout} (record { seed = c.args.self.now.seed; key_words = c.args.self.now.key_words; value_words = vw; item_bytes = c.args.self.now.item_bytes }) b.layout =
    λ t. record { seed = sym (ap (λ (w : PartitionView S). w.seed) c.self.view_is) t; key_words = sym (ap (λ (w : PartitionView S). w.key_words) c.self.view_is) t; value_words = sym k.values t; item_bytes = sym (ap (λ (w : PartitionView S). w.item_bytes) c.self.view_is) t } in
    let hash : c.load-hash.result ≡ seeded_hash b.layout.seed it.key = sym (word_is c.args.item.part.words (c.args.item.at + 1) c.load-hash.result c.load-hash.ensures.found) ∙ chunk.hashed ∙ ap (λ (w : PartitionView S). seeded_hash w.seed it.key) (sym c.self.view_is) in
    let none : fin.contains_key (cells_of dec b.chains) it.key ≡ false =
    ap (λ (w : PartitionView S). fin.contains_key w.cells it.key) c.self.view_is ∙ ap (λ (x : Item). fin.contains_key c.args.self.now.cells x.key) (sym one) ∙ c.requires.item.2 in
    let len = cells_len c.self.inside.size c.self.inside.count vw b k dec in
    let roomy : IsRoomy c.self.inside.size (c.self.inside.count + 1) =
    subst (λ (n : ℕ). IsRoomy c.self.inside.size (n + 1)) len (subst (λ (w : PartitionView S). IsRoomy w.size (fin.len w.cells + 1)) (sym c.self.view_is) c.requires.room) in
    let pushed : c.push.new.self ≡ with_chain b c.bucket_of_hash-bucket.result (it ∷ chain_of b c.bucket_of_hash-bucket.result) =
    c.push.ensures it (chunk_of c.args.item.at c.load-hash.new.self.at c.args.item.part c.load-hash.new.self.part (record { seed = c.args.self.now.seed; key_words = c.args.self.now.key_words; value_words = vw; item_bytes = c.args.self.now.item_bytes }) b.layout it c.load-hash.ensures.place.0 c.load-hash.ensures.part lay chunk) in
    let made = taken_in dec c.self.inside.size c.self.inside.count vw b c.push.new.self k c.bucket_of_hash-bucket.result c.load-hash.result it hash c.bucket_of_hash-bucket.ensures none roomy pushed in
    let cells = made.1 ∙ ap (λ (w : PartitionView S). fin.insert w.cells it.key (dec it.value)) c.self.view_is in
    let region = ap (λ (u : Hung). u.region) pushed ∙ ap (λ (w : PartitionView S). w.region) c.self.view_is in
    let slice = ap (λ (u : Hung). u.slice) pushed ∙ ap (λ (w : PartitionView S). w.slice) c.self.view_is in
    let words = ap (λ (u : Hung). u.words) pushed ∙ ap (λ (w : PartitionView S). w.words) c.self.view_is in
    let seed = ap (λ (u : Hung). u.layout.seed) pushed ∙ ap (λ (w : PartitionView S). w.seed) c.self.view_is in
    let key_words = ap (λ (u : Hung). u.layout.key_words) pushed ∙ ap (λ (w : PartitionView S). w.key_words) c.self.view_is in
    let item_bytes = ap (λ (u : Hung). u.layout.item_bytes) pushed ∙ ap (λ (w : PartitionView S). w.item_bytes) c.self.view_is in
    let size = ap (λ (w : PartitionView S). w.size) c.self.view_is in
    λ t. record { region = region t; slice = slice t; words = words t; seed = seed t; key_words = key_words t; item_bytes = item_bytes t; size = size t; cells = cells t }
