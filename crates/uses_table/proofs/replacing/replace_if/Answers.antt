use Rattle.std.proofs.Common.{◌∙◌, ◌++◌, ℕ, Some, ap, cond, subst, sym}
use Rattle.lock_book.specs.Shown.{mine_of, place_in, seen_of}
use Rattle.dshash_core.specs.Cells.{partition_of}
use Rattle.dshash_parts.specs.Turns.{under_in}
use Rattle.uses_table.specs.declared.text.TextCall.TheVariants.{Get}
use Rattle.uses_table.specs.Cached.{Swapped}
use Rattle.uses_table.proofs.InTurn.{under_is}
use Rattle.uses_table.proofs.replacing.replace_if.Goals as goal

pub end_turn-requires-clause-turn : goal.end_turn-requires-clause-turn
end_turn-requires-clause-turn g c κs = (c.args.pass.now, c.swap_in-replaced.ensures.turn _ c.turn-turn.ensures.turn)

pub returns-clause-caller : goal.returns-clause-caller
returns-clause-caller g c = c.end_turn.ensures.caller ∙ (c.swap_in-replaced.ensures.same.1 ∙ c.turn-turn.ensures.turn.number)

pub returns-clause-replaced : goal.returns-clause-replaced
returns-clause-replaced g c = λ yes.
    let s = c.swap_in-replaced.ensures in
    let u = c.swap_in-replaced.new.turn in
    let here = sym (s.same.0 ∙ (c.turn-turn.ensures.place ∙ (c.partition_of_hash-partition.ensures.is ∙ ap partition_of c.hash_key.ensures))) in
    under_is u u c.args.name.now Get (seen_of c.end_turn.new.pass) here c.end_turn.ensures.state ∙ (s.after ∙ ap (λ b. cond b (Some c.args.text) (under_in c.turn-turn.result c.args.name.now)) yes)

pub returns-clause-kept : goal.returns-clause-kept
returns-clause-kept g c = λ no.
    let s = c.swap_in-replaced.ensures in
    let u = c.swap_in-replaced.new.turn in
    let here = sym (s.same.0 ∙ (c.turn-turn.ensures.place ∙ (c.partition_of_hash-partition.ensures.is ∙ ap partition_of c.hash_key.ensures))) in
    λ still.
    let before = sym (s.after ∙ ap (λ b. cond b (Some c.args.text) (under_in c.turn-turn.result c.args.name.now)) no) ∙ (sym (under_is u u c.args.name.now Get (seen_of c.end_turn.new.pass) here c.end_turn.ensures.state) ∙ still) in
    let both = sym (s.told.1 before) ∙ no in
    absurd (cc)

pub returns-clause-swapped : goal.returns-clause-swapped
returns-clause-swapped g c =
    let s = c.swap_in-replaced.ensures in
    let u = c.swap_in-replaced.new.turn in
    let here = s.same.0 ∙ (c.turn-turn.ensures.place ∙ (c.partition_of_hash-partition.ensures.is ∙ ap partition_of c.hash_key.ensures)) in
    let all = c.end_turn.ensures.turned _ (s.turn _ c.turn-turn.ensures.turn) in
    let es = s.swap.1 ∙ ap (λ xs. xs ++ s.swap.0) c.turn-turn.ensures.none in
    subst (λ (home : ℕ). Swapped (seen_of c.end_turn.new.pass home) (mine_of c.args.pass.now home) (mine_of c.end_turn.new.pass home) c.args.name.now c.args.expected.now c.args.text c.swap_in-replaced.result) here record {
      found = under_in c.turn-turn.result c.args.name.now;
      before = all.before;
      events = s.swap.0;
      ends = all.ends ∙ ap (λ xs. all.before ++ xs) es;
      own = all.mine_grows ∙ ap (λ xs. mine_of c.args.pass.now (place_in u) ++ xs) es;
      told = s.told;
      swap = s.swap.2;
    }
