use Rattle.std.proofs.Common.{◌≡◌, ℕ, List, Option, Some, None, cond, replicate, arith, ap, sym, subst, length, ◌∙◌}
use Rattle.atomic_table.specs.Seated.{TableId}
use Rattle.atomic_table.specs.Table.{opening}
use Rattle.word_map.specs.WordMap.{numbered, is_within}
use Rattle.word_map.specs.WordMap.{at as word_at}
use Rattle.word_map.proofs.Maps.{at-zeros}
use Rattle.region_rule.specs.View.{Own}
use Rattle.region_rule.specs.Places.{idle, Ruled}
use Rattle.region_rule.proofs.Opens.{opens_table}
use Rattle.region_words.specs.Parts.{Owned}
use Rattle.region_words.proofs.Parts.{begun, length-zeros}
use Rattle.given_heap.proofs.laying.lay.Goals as goal

pub new-requires : goal.new-requires
new-requires c =
    subst (λ (l : List ℕ). Ruled c.args.words (opening l c.in_ok-slots.slots.items (idle (Own (numbered 0 (replicate c.args.words 0)) None)))) (sym (c.as_slice.ensures.value ∙ c.in_ok-row.ensures))
    (subst (λ (l : List ℕ). Ruled c.args.words (opening (replicate c.args.words 0) l (idle (Own (numbered 0 (replicate c.args.words 0)) None)))) (sym c.in_ok-slots.ensures) (opens_table c.args.words))

pub of_seat-part-requires-clause-below : goal.of_seat-part-requires-clause-below
of_seat-part-requires-clause-below c =
    (begun c.in-Ok.made.1.table_id c.args.words c.in-Ok.made.1.me c.in-Ok.ensures.ok.4
    (ap (λ (t : TableId). t.words) c.in-Ok.ensures.ok.2 ∙ c.in-Ok.ensures.ok.0 ∙ ap length c.as_slice.ensures.value ∙ ap length c.in_ok-row.ensures ∙ length-zeros c.args.words)
    (ap (λ (t : TableId). t.slots) c.in-Ok.ensures.ok.2 ∙ c.in-Ok.ensures.ok.1 ∙ ap length c.in_ok-slots.ensures ∙ length-zeros c.args.words)
    (omega (arith, c.requires.0))
    c.requires.1).below

pub returns-clause-zeros : goal.returns-clause-zeros
returns-clause-zeros c = λ k.
    subst (λ (o : Owned). word_at o.words k ≡ cond {A = Option ℕ} (is_within 0 c.args.words k) (Some 0) None) (sym c.of_seat-part.ensures) (rw c.in-Ok.ensures.ok.4 (at-zeros c.args.words 0 k))
