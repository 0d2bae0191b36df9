use Rattle.std.proofs.Common.{◌≡◌, ◌∙◌, ◌∷◌, ◌-◌, length, set, ap, arith, get_or, subst, ℕ, List, Fits, w64, rules}
use Rattle.std.proofs.lemmas.List.{places}
use Rattle.agg_cell.proofs.Written.{length-slots_words, written_whole}
use Rattle.agg_cell.proofs.words.write_state.Goals as goal

pub returns-clause-words : goal.returns-clause-words
returns-clause-words c =
    let words = c.args.words.now in
    let rows = c.args.state.now.rows in
    let first_long : length (set words 0 rows) ≡ 41 = search (rules, places, c.requires) in
    let long : length c.write_slots.new.words ≡ 40 = ap length c.write_slots.ensures.words ∙ omega (arith, length-slots_words c.args.state.now.slots, c.write_slots.ensures.long) in
    written_whole words c.write_slots.new.words rows (length (set words 0 rows) - 1) c.requires long (omega arith) ∙ ap (λ (tail : List ℕ). rows ∷ tail) c.write_slots.ensures.words

pub returns-clause-value : goal.returns-clause-value
returns-clause-value c =
    let fits : Fits w64 c.args.state.now.rows = subst (λ (ws : List ℕ). Fits w64 (get_or ws 0 0)) (returns-clause-words c) (c.type_inv.words 0) in
    record { rows = omega arith; long = c.write_slots.ensures.long; numbers = c.write_slots.ensures.numbers }
