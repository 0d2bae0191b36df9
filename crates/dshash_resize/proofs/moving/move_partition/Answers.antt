use Rattle.std.proofs.Common.{ℕ, arith, ap, sym, subst, ◌∙◌}
use Rattle.std.specs.FinMap as fin
use Rattle.dshash_core.specs.Cells.{PartitionView, IsRoomy}
use Rattle.dshash_resize.proofs.MoveSteps.{begins, ends, grows}
use Rattle.dshash_resize.proofs.moving.move_partition.Goals as goal

pub move_chain-requires-clause-moving : goal.move_chain-requires-clause-moving
move_chain-requires-clause-moving g c =
    let S : Type 0 = g.row.O-State.Denot in
    let all = c.args.p.now.cells in
    let start = c.start_over-from.ensures in
    let roomy : IsRoomy c.args.p.now.size (fin.len all) = subst (λ (n : ℕ). IsRoomy c.args.p.now.size n) c.count.ensures.is c.count.ensures.roomy in
    let larger : IsRoomy c.start_over-from.new.self.size (fin.len all) =
    subst (λ (w : PartitionView S). IsRoomy w.size (fin.len all)) (sym start.fresh) (grows c.args.p.now.size c.args.size (fin.len all) roomy c.requires.size.0 c.requires.size.1) in (
      c.args.p.now.size,
      fin.len all,
      all,
      c.loop-bucket.invariant.moved.moving c.args.p.now.size (fin.len all) all
          (begins g.O.CellObject.decoded g.O.CellObject.VALUE_WORDS c.args.p.now.size all c.start_over-from.new.self c.start_over-from.result start.cells.0 start.cells.1
          (ap (λ (w : PartitionView S). w.cells) start.fresh) larger
          (start.layout.0 ∙ sym (ap (λ (w : PartitionView S). w.seed) start.fresh))
          (start.layout.1 ∙ sym (ap (λ (w : PartitionView S). w.key_words) start.fresh))
          (start.layout.3 ∙ sym (ap (λ (w : PartitionView S). w.item_bytes) start.fresh))),
    )

pub returns-clause-same : goal.returns-clause-same
returns-clause-same g c =
    let S : Type 0 = g.row.O-State.Denot in
    let all = c.args.p.now.cells in
    let start = c.start_over-from.ensures in
    let roomy : IsRoomy c.args.p.now.size (fin.len all) = subst (λ (n : ℕ). IsRoomy c.args.p.now.size n) c.count.ensures.is c.count.ensures.roomy in
    let larger : IsRoomy c.start_over-from.new.self.size (fin.len all) =
    subst (λ (w : PartitionView S). IsRoomy w.size (fin.len all)) (sym start.fresh) (grows c.args.p.now.size c.args.size (fin.len all) roomy c.requires.size.0 c.requires.size.1) in
    let moving = c.loop-bucket.invariant.moved.moving c.args.p.now.size (fin.len all) all
    (begins g.O.CellObject.decoded g.O.CellObject.VALUE_WORDS c.args.p.now.size all c.start_over-from.new.self c.start_over-from.result start.cells.0 start.cells.1
    (ap (λ (w : PartitionView S). w.cells) start.fresh) larger
    (start.layout.0 ∙ sym (ap (λ (w : PartitionView S). w.seed) start.fresh))
    (start.layout.1 ∙ sym (ap (λ (w : PartitionView S). w.key_words) start.fresh))
    (start.layout.3 ∙ sym (ap (λ (w : PartitionView S). w.item_bytes) start.fresh))) in
    let cells = ends g.O.CellObject.decoded g.O.CellObject.VALUE_WORDS c.args.p.now.size (fin.len all) all c.loop-bucket.p c.loop-bucket.from moving
    (λ i l. c.loop-bucket.invariant.empty i (omega (arith, l, c.loop-bucket.invariant.moved.buckets_same, c.len-bucket-end.ensures, c.loop-bucket-test.false))) in
    let same = c.loop-bucket.invariant.moved.same in
    let region = ap (λ (w : PartitionView S). w.region) same ∙ ap (λ (w : PartitionView S). w.region) start.fresh in
    let slice = ap (λ (w : PartitionView S). w.slice) same ∙ ap (λ (w : PartitionView S). w.slice) start.fresh in
    let words = ap (λ (w : PartitionView S). w.words) same ∙ ap (λ (w : PartitionView S). w.words) start.fresh in
    let seed = ap (λ (w : PartitionView S). w.seed) same ∙ ap (λ (w : PartitionView S). w.seed) start.fresh in
    let key_words = ap (λ (w : PartitionView S). w.key_words) same ∙ ap (λ (w : PartitionView S). w.key_words) start.fresh in
    let item_bytes = ap (λ (w : PartitionView S). w.item_bytes) same ∙ ap (λ (w : PartitionView S). w.item_bytes) start.fresh in
    let size = ap (λ (w : PartitionView S). w.size) same ∙ ap (λ (w : PartitionView S). w.size) start.fresh in
    λ t. record { region = region t; slice = slice t; words = words t; seed = seed t; key_words = key_words t; item_bytes = item_bytes t; size = size t; cells = cells t }

pub returns-clause-moved : goal.returns-clause-moved
returns-clause-moved g c =
    let S : Type 0 = g.row.O-State.Denot in
    let same = returns-clause-same g c in
    let size = ap (λ (w : PartitionView S). w.size) same in
    record {
      same = ap (λ (w : PartitionView S). w.cells) same;
      size_is = λ larger within. size;
      otherwise = λ no. absurd (no c.requires.size.0 c.requires.size.1);
    }

pub returns-clause-roomy : goal.returns-clause-roomy
returns-clause-roomy g c =
    let S : Type 0 = g.row.O-State.Denot in
    let all = c.args.p.now.cells in
    let roomy : IsRoomy c.args.p.now.size (fin.len all) = subst (λ (n : ℕ). IsRoomy c.args.p.now.size n) c.count.ensures.is c.count.ensures.roomy in
    subst (λ (w : PartitionView S). IsRoomy w.size (fin.len w.cells)) (sym (returns-clause-same g c)) (grows c.args.p.now.size c.args.size (fin.len all) roomy c.requires.size.0 c.requires.size.1)
