use Rattle.std.proofs.Common.{◌≡◌, ◌<◌, ◌∙◌, ℕ, List, ap, arith, get_or, length, map, subst, sym, take}
use Rattle.std.proofs.lemmas.List.{take_all}
use Rattle.std.proofs.lemmas.List.Elements.{All-get_or}
use Rattle.std.proofs.lemmas.Option.{get_or_from_slice_get, slice_get-get_or}
use Rattle.csv.specs.Writing.{default_writer, row_text}
use Rattle.csv_rows.specs.Records.{record_at}
use Rattle.par_model.specs.Table.{table_text}
use Rattle.answer_text.specs.Held.{Puts}
use Rattle.answer_text.specs.Special.{BeginsSpecial}
use Rattle.answer_text.proofs.Going.{puts-none, puts-then}
use Rattle.answer_text.proofs.RowLines.{row-more, text-none}
use Rattle.order_query.proofs.rows.put_block.Goals as goal

pub loop-at-init : goal.loop-at-init
loop-at-init g c =
    let Text : List ℕ → Type 0 = Puts g.O.Sink.taken g.O.Sink.faults c.args.out.now c.args.out.now c.args.held.now c.args.held.now in
    subst Text (sym text-none) (puts-none g.O.Sink.taken g.O.Sink.faults c.args.out.now c.args.held.now)

-- the number at a place of the order is that of a record
pub find-requires : goal.find-requires
find-requires g c =
    let within : ℕ → Type 0 = λ row. row < length c.args.rows.now in
    let lt : c.loop-at.at < length c.args.numbers.now = omega (arith, c.loop-at-test.true) in
    All-get_or within c.args.numbers.now c.loop-at.at 0 lt c.requires.rows

pub put_known-requires : goal.put_known-requires
put_known-requires g c =
    let i = c.loop-at.at in
    let lt : i < length c.args.numbers.now = omega (arith, c.loop-at-test.true) in
    record { known = λ marked. subst BeginsSpecial (sym c.find.ensures) (c.look_ahead-begins.ensures i lt marked) }

pub loop-at-preserved : goal.loop-at-preserved
loop-at-preserved g c =
    let taken = g.O.Sink.taken in
    let faults = g.O.Sink.faults in
    let f = record_at c.args.rows.now in
    let order = c.args.numbers.now in
    let i = c.loop-at.at in
    let row = get_or order i 0 in
    let lt : i < length order = omega (arith, c.loop-at-test.true) in
    let there : get_or order i row ≡ row = get_or_from_slice_get order i row row (slice_get-get_or order i 0 lt) in
    let Text : List ℕ → Type 0 = Puts taken faults c.args.out.now c.put_known.new.out c.args.held.now c.put_known.new.held in
    let Row : List (List ℕ) → Type 0 = λ fields. Puts taken faults c.loop-at.out c.put_known.new.out c.loop-at.held c.put_known.new.held (row_text default_writer fields) in
    subst Text (row-more f order i row lt there)
    (puts-then taken faults c.args.out.now c.loop-at.out c.put_known.new.out c.args.held.now c.loop-at.held c.put_known.new.held (table_text (map f (take i order))) (row_text default_writer (f row)) c.loop-at.invariant
    (subst Row c.find.ensures c.put_known.ensures))

pub returns : goal.returns
returns g c =
    let order = c.args.numbers.now in
    let all : take c.loop-at.at order ≡ order = take_all c.loop-at.at order (omega (arith, c.loop-at-test.false)) in
    let Text : List ℕ → Type 0 = Puts g.O.Sink.taken g.O.Sink.faults c.args.out.now c.loop-at.out c.args.held.now c.loop-at.held in
    subst Text (ap (λ (rows : List ℕ). table_text (map (record_at c.args.rows.now) rows)) all) c.loop-at.invariant
