use Rattle.std.proofs.Common.{◌≡◌, ℕ, arith, ap, sym, subst, ◌∙◌}
use Rattle.std.specs.FinMap as fin
use Rattle.dshash_core.specs.Hung.{Hung}
use Rattle.dshash_core.specs.Cells.{PartitionView, AreCells, cells_of}
use Rattle.dshash_core.proofs.Flats.{cells_len}
use Rattle.dshash_core.proofs.Moves.{empty_cells, empty_map}
use Rattle.dshash_core.proofs.partition.Partition.start_over.Goals as goal

pub new-buckets-requires-clause-fits : goal.new-buckets-requires-clause-fits
new-buckets-requires-clause-fits g c = omega (arith, c.is_sound.ensures.fits, c.key_words.ensures, c.VALUE_WORDS.ensures, c.item_bytes.ensures, c.self.invariant.cells.values)

pub invariant_of-self : goal.invariant_of-self
invariant_of-self g c =
    let now = c.replace.ensures.after ∙ c.new-buckets.ensures in
    record {
      cells = empty_cells c.args.size g.O.CellObject.VALUE_WORDS c.bucket_count.result c.replace.new.dest c.requires.size.0 c.requires.size.1 c.bucket_count.ensures
          (ap (λ (u : Hung). u.chains) now) (ap (λ (u : Hung). u.layout.value_words) now ∙ c.VALUE_WORDS.ensures);
      short = c.self.invariant.short;
    }

pub returns-clause-fresh : goal.returns-clause-fresh
returns-clause-fresh g c =
    let now = c.replace.ensures.after ∙ c.new-buckets.ensures in
    let region = ap (λ (u : Hung). u.region) now ∙ sym c.requires.here.0 in
    let slice = ap (λ (u : Hung). u.slice) now in
    let words = ap (λ (u : Hung). u.words) now in
    let seed = ap (λ (u : Hung). u.layout.seed) now ∙ c.seed.ensures ∙ ap (λ (w : PartitionView g.row.O-State.Denot). w.seed) c.self.view_is in
    let key_words = ap (λ (u : Hung). u.layout.key_words) now ∙ c.key_words.ensures ∙ ap (λ (w : PartitionView g.row.O-State.Denot). w.key_words) c.self.view_is in
    let item_bytes = ap (λ (u : Hung). u.layout.item_bytes) now ∙ c.item_bytes.ensures ∙ ap (λ (w : PartitionView g.row.O-State.Denot). w.item_bytes) c.self.view_is in
    let cells = empty_map g.O.CellObject.decoded c.bucket_count.result c.replace.new.dest.chains (ap (λ (u : Hung). u.chains) now) in
    λ t. record { region = region t; slice = slice t; words = words t; seed = seed t; key_words = key_words t; item_bytes = item_bytes t; size = c.args.size; cells = cells t }

pub returns-clause-cells : goal.returns-clause-cells
returns-clause-cells g c =
    let b = c.self.inside.buckets in
    let P : PartitionView g.row.O-State.Denot → Type 0 = λ w. AreCells w.size (fin.len w.cells) g.O.CellObject.VALUE_WORDS c.replace.result × (cells_of g.O.CellObject.decoded c.replace.result.chains ≡ w.cells) in
    let len = cells_len c.self.inside.size c.self.inside.count g.O.CellObject.VALUE_WORDS b c.self.invariant.cells g.O.CellObject.decoded in
    subst P c.self.view_is (
      subst (λ (u : Hung). AreCells c.self.inside.size (fin.len (cells_of g.O.CellObject.decoded b.chains)) g.O.CellObject.VALUE_WORDS u) (sym c.replace.ensures.value)
          (subst (λ (n : ℕ). AreCells c.self.inside.size n g.O.CellObject.VALUE_WORDS b) (sym len) c.self.invariant.cells),
      ap (λ (u : Hung). cells_of g.O.CellObject.decoded u.chains) c.replace.ensures.value,
    )
