use Rattle.std.proofs.Common.{◌≡◌, ℕ, ◌+◌, ◌==◌, ◌/◌, ◌%◌, ◌*◌, ◌^◌, true, bit_or, Option, unwrap_or, arith, sym, ap, subst, ◌∙◌, w64}
use Rattle.std.specs.FinMap as fin
use Rattle.std.specs.Int.{bit_at}
use Rattle.std.proofs.lemmas.Nat.Bits.{bit_at_set_same, bit_at_set_other}
use Rattle.region_words.specs.Parts.{Owned, owned}
use Rattle.span_pools.proofs.Bits.{marked_now}
use Rattle.span_pools.proofs.marks.set_mark.Goals as goal

pub returns : goal.returns
returns c =
    marked_now c.args.layout c.args.marks.now c.store.new.self c.args.page (bit_or c.load-word.result (1 * 2 ^ (c.args.page % 64) % 2 ^ 64)) true c.requires.inside c.requires.bits
    (ap (λ (z : ℕ). z == 1) (bit_at_set_same w64 c.load-word.result (c.args.page % 64) (omega arith)))
    (λ i h n. bit_at_set_other w64 c.load-word.result (c.args.page % 64) (omega arith) i n ∙ ap (λ (o : Option ℕ). bit_at (unwrap_or o 0) i) (sym c.load-word.ensures.found))
    (subst (λ (o : Owned). c.store.new.self ≡ owned o.region (fin.insert o.words (c.args.layout.marks + c.args.page / 64) (bit_or c.load-word.result (1 * 2 ^ (c.args.page % 64) % 2 ^ 64)))) c.load-word.ensures.same c.store.ensures)
