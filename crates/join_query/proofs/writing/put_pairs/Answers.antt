use Rattle.std.proofs.Common.{◌≡◌, ◌<◌, ◌++◌, ◌∙◌, ℕ, List, ap, ap₂, arith, drop, get_or, length, map, subst, sym, take}
use Rattle.std.proofs.lemmas.List.{take_all}
use Rattle.std.proofs.lemmas.Option.{get_or_from_slice_get, slice_get-get_or}
use Rattle.csv.specs.Writing.{default_writer, row_text}
use Rattle.join_pairs.specs.declared.pairs.Pair.{Pair}
use Rattle.par_model.specs.Table.{table_text}
use Rattle.answer_text.specs.Held.{Puts}
use Rattle.answer_text.proofs.Going.{puts-broken, puts-none, puts-then}
use Rattle.answer_text.proofs.RowLines.{row-more, rows-cut, text-none}
use Rattle.join_query.specs.Writable.{beside}
use Rattle.join_query.proofs.Writables.{none, writable_at}
use Rattle.join_query.proofs.writing.put_pairs.Goals as goal

pub pairs-init : goal.pairs-init
pairs-init g c =
    let Text : List ℕ → Type 0 = Puts g.O.Sink.taken g.O.Sink.faults c.args.out.now c.args.out.now c.args.held.now c.args.held.now in
    subst Text (sym text-none) (puts-none g.O.Sink.taken g.O.Sink.faults c.args.out.now c.args.held.now)

-- a write had failed
pub returns-then-is_broken : goal.returns-then-is_broken
returns-then-is_broken g c =
    let f = beside c.args.left.now c.args.right.now in
    let pairs = c.args.pairs.now in
    let i = c.pairs.at in
    let Text : List ℕ → Type 0 = Puts g.O.Sink.taken g.O.Sink.faults c.args.out.now c.pairs.out c.args.held.now c.pairs.held in
    subst Text (rows-cut f pairs i)
    (puts-broken g.O.Sink.taken g.O.Sink.faults c.args.out.now c.pairs.out c.args.held.now c.pairs.held (table_text (map f (take i pairs))) (table_text (map f (drop i pairs))) (sym c.is_broken.ensures ∙ c.if-is_broken.true) c.pairs.invariant)

pub find-requires : goal.find-requires
find-requires g c =
    let lt : c.pairs.at < length c.args.pairs.now = omega (arith, c.pairs-test.true) in
    (writable_at c.args.left.now c.args.right.now c.args.pairs.now c.pairs.at c.requires lt).of_left.there

pub find-requires-in-pairs : goal.find-requires-in-pairs
find-requires-in-pairs g c =
    let lt : c.pairs.at < length c.args.pairs.now = omega (arith, c.pairs-test.true) in
    (writable_at c.args.left.now c.args.right.now c.args.pairs.now c.pairs.at c.requires lt).of_right.there

pub put_beside-requires-clause-left : goal.put_beside-requires-clause-left
put_beside-requires-clause-left g c =
    let lt : c.pairs.at < length c.args.pairs.now = omega (arith, c.pairs-test.true) in
    subst (λ (row : List (List ℕ)). 0 < length row) (sym c.find.ensures) (writable_at c.args.left.now c.args.right.now c.args.pairs.now c.pairs.at c.requires lt).of_left.some

pub put_beside-requires-clause-right : goal.put_beside-requires-clause-right
put_beside-requires-clause-right g c =
    let lt : c.pairs.at < length c.args.pairs.now = omega (arith, c.pairs-test.true) in
    subst (λ (row : List (List ℕ)). 0 < length row) (sym c.find-in-pairs.ensures) (writable_at c.args.left.now c.args.right.now c.args.pairs.now c.pairs.at c.requires lt).of_right.some

pub pairs-preserved : goal.pairs-preserved
pairs-preserved g c =
    let taken = g.O.Sink.taken in
    let faults = g.O.Sink.faults in
    let f = beside c.args.left.now c.args.right.now in
    let pairs = c.args.pairs.now in
    let i = c.pairs.at in
    let pair = get_or pairs i none in
    let lt : i < length pairs = omega (arith, c.pairs-test.true) in
    let there : get_or pairs i pair ≡ pair = get_or_from_slice_get pairs i pair pair (slice_get-get_or pairs i none lt) in
    let Text : List ℕ → Type 0 = Puts taken faults c.args.out.now c.put_beside.new.out c.args.held.now c.put_beside.new.held in
    let Row : List (List ℕ) → Type 0 = λ fields. Puts taken faults c.pairs.out c.put_beside.new.out c.pairs.held c.put_beside.new.held (row_text default_writer fields) in
    let both : c.find.result ++ c.find-in-pairs.result ≡ f pair = ap₂ (λ (a b : List (List ℕ)). a ++ b) c.find.ensures c.find-in-pairs.ensures in
    subst Text (row-more f pairs i pair lt there)
    (puts-then taken faults c.args.out.now c.pairs.out c.put_beside.new.out c.args.held.now c.pairs.held c.put_beside.new.held (table_text (map f (take i pairs))) (row_text default_writer (f pair)) c.pairs.invariant
    (subst Row both c.put_beside.ensures))

pub returns : goal.returns
returns g c =
    let pairs = c.args.pairs.now in
    let all : take c.pairs.at pairs ≡ pairs = take_all c.pairs.at pairs (omega (arith, c.pairs-test.false)) in
    let Text : List ℕ → Type 0 = Puts g.O.Sink.taken g.O.Sink.faults c.args.out.now c.pairs.out c.args.held.now c.pairs.held in
    subst Text (ap (λ (some : List Pair). table_text (map (beside c.args.left.now c.args.right.now) some)) all) c.pairs.invariant
