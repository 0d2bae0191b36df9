use Rattle.std.proofs.Common.{◌≡◌, ◌≤◌, ◌<◌, ◌+◌, ◌-◌, ◌∙◌, ℕ, List, ap, arith, drop, length, map, min, subst, sym, take}
use Rattle.std.proofs.lemmas.List.{take_all}
use Rattle.std.proofs.lemmas.List.Elements.{All-drop, All-take}
use Rattle.csv_rows.specs.Records.{record_at}
use Rattle.answer_text.specs.Held.{Puts}
use Rattle.answer_text.proofs.Going.{puts-broken, puts-none, puts-then}
use Rattle.answer_text.proofs.RowLines.{rows-cut, text-none}
use Rattle.order_query.specs.Pieces.{rows_text}
use Rattle.answer_text.proofs.Joined.{round-more}
use Rattle.order_query.proofs.rows.put_rows.Goals as goal

pub stretches-init : goal.stretches-init
stretches-init g c =
    let Text : List ℕ → Type 0 = Puts g.O.Sink.taken g.O.Sink.faults c.args.out.now c.args.out.now c.args.held.now c.args.held.now in
    record { within = omega arith; puts = subst Text (sym text-none) (puts-none g.O.Sink.taken g.O.Sink.faults c.args.out.now c.args.held.now) }

-- a write had failed
pub returns-then-is_broken : goal.returns-then-is_broken
returns-then-is_broken g c =
    let records = c.args.rows.now in
    let numbers = c.args.numbers.now in
    let at = c.stretches.at in
    let Text : List ℕ → Type 0 = Puts g.O.Sink.taken g.O.Sink.faults c.args.out.now c.stretches.out c.args.held.now c.stretches.held in
    subst Text (rows-cut (record_at records) numbers at)
    (puts-broken g.O.Sink.taken g.O.Sink.faults c.args.out.now c.stretches.out c.args.held.now c.stretches.held (rows_text records (take at numbers)) (rows_text records (drop at numbers)) (sym c.is_broken.ensures ∙ c.if-is_broken.true) c.stretches.invariant.puts)

pub put_block-requires-clause-rows : goal.put_block-requires-clause-rows
put_block-requires-clause-rows g c =
    let within : ℕ → Type 0 = λ row. row < length c.args.rows.now in
    All-take within _ (drop c.stretches.at c.args.numbers.now) (All-drop within c.stretches.at c.args.numbers.now c.requires)

pub stretches-preserved : goal.stretches-preserved
stretches-preserved g c =
    let records = c.args.rows.now in
    let numbers = c.args.numbers.now in
    let taken = g.O.Sink.taken in
    let faults = g.O.Sink.faults in
    let Text : List ℕ → Type 0 = Puts taken faults c.args.out.now c.put_block.new.out c.args.held.now c.put_block.new.held in
    record {
      within = omega (arith, c.stretches.invariant.within);
      puts = subst Text (round-more (record_at records) numbers c.stretches.at _)
          (puts-then taken faults c.args.out.now c.stretches.out c.put_block.new.out c.args.held.now c.stretches.held c.put_block.new.held (rows_text records (take c.stretches.at numbers)) _ c.stretches.invariant.puts c.put_block.ensures);
    }

pub returns : goal.returns
returns g c =
    let numbers = c.args.numbers.now in
    let Text : List ℕ → Type 0 = Puts g.O.Sink.taken g.O.Sink.faults c.args.out.now c.stretches.out c.args.held.now c.stretches.held in
    subst Text (ap (rows_text c.args.rows.now) (take_all c.stretches.at numbers (omega (arith, c.stretches-test.false)))) c.stretches.invariant.puts
