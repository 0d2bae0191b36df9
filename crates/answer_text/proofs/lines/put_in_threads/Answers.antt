use Rattle.std.proofs.Common.{◌≡◌, ◌≤◌, ◌<◌, ◌+◌, ◌-◌, ◌∙◌, ℕ, List, ap, arith, drop, length, min, subst, sym, take}
use Rattle.std.proofs.lemmas.List.{take_all}
use Rattle.std.proofs.lemmas.List.Elements.{All-drop, All-take}
use Rattle.answer_text.specs.Held.{Puts}
use Rattle.answer_text.proofs.Going.{puts-broken, puts-none, puts-then}
use Rattle.answer_text.proofs.Joined.{lines_text, round-more}
use Rattle.answer_text.proofs.RowLines.{rows-cut, text-none}
use Rattle.answer_text.proofs.lines.put_in_threads.Goals as goal

pub rounds-init : goal.rounds-init
rounds-init g c =
    let Text : List ℕ → Type 0 = Puts g.O.Sink.taken g.O.Sink.faults c.args.out.now c.args.out.now c.args.held.now c.args.held.now in
    record { within = omega arith; puts = subst Text (sym text-none) (puts-none g.O.Sink.taken g.O.Sink.faults c.args.out.now c.args.held.now) }

-- a write had failed
pub returns-then-is_broken : goal.returns-then-is_broken
returns-then-is_broken g c =
    let f = g.L.Lines.record_of c.args.lines.now in
    let items = c.args.items.now in
    let at = c.rounds.at in
    let Text : List ℕ → Type 0 = Puts g.O.Sink.taken g.O.Sink.faults c.args.out.now c.rounds.out c.args.held.now c.rounds.held in
    subst Text (rows-cut f items at)
    (puts-broken g.O.Sink.taken g.O.Sink.faults c.args.out.now c.rounds.out c.args.held.now c.rounds.held (lines_text f (take at items)) (lines_text f (drop at items)) (sym c.is_broken.ensures ∙ c.if-is_broken.true) c.rounds.invariant.puts)

pub put_round-requires-clause-fits : goal.put_round-requires-clause-fits
put_round-requires-clause-fits g c =
    let fits = g.L.Lines.fits c.args.lines.now in
    λ κs bounds. All-take fits _ (drop c.rounds.at c.args.items.now) (All-drop fits c.rounds.at c.args.items.now c.requires.fits)

pub rounds-preserved : goal.rounds-preserved
rounds-preserved g c =
    let f = g.L.Lines.record_of c.args.lines.now in
    let items = c.args.items.now in
    let taken = g.O.Sink.taken in
    let faults = g.O.Sink.faults in
    let Text : List ℕ → Type 0 = Puts taken faults c.args.out.now c.put_round.new.out c.args.held.now c.put_round.new.held in
    record {
      within = omega (arith, c.rounds.invariant.within);
      puts = subst Text (round-more f items c.rounds.at _)
          (puts-then taken faults c.args.out.now c.rounds.out c.put_round.new.out c.args.held.now c.rounds.held c.put_round.new.held (lines_text f (take c.rounds.at items)) _ c.rounds.invariant.puts c.put_round.ensures);
    }

pub returns : goal.returns
returns g c =
    let items = c.args.items.now in
    let Text : List ℕ → Type 0 = Puts g.O.Sink.taken g.O.Sink.faults c.args.out.now c.rounds.out c.args.held.now c.rounds.held in
    subst Text (ap (lines_text (g.L.Lines.record_of c.args.lines.now)) (take_all c.rounds.at items (omega (arith, c.rounds-test.false)))) c.rounds.invariant.puts
