use Rattle.std.proofs.Common.{◌≡◌, ℕ, ◌++◌, length, take, drop, ap, sym, subst, ◌∙◌, arith}
use Rattle.std.proofs.Math.Seq.{take-append_seam}
use Rattle.dshash_core.specs.Hung.{Hung, Holds}
use Rattle.dshash_core.proofs.entries.read_entry.Goals as goal

pub returns-clause-entry : goal.returns-clause-entry
returns-clause-entry g c = λ it m e.
    let long : c.in_ok-words.words.len ≡ length c.read_key.new.out = omega (arith, c.read_key.auto.out, c.as_mut_slice.ensures.len) in
    let key : take c.in_ok-words.words.len (c.read_key.new.out ++ drop (length c.read_key.new.out) c.in_ok-words.words.items) ≡ it.key =
    ap (λ (n : ℕ). take n (c.read_key.new.out ++ drop (length c.read_key.new.out) c.in_ok-words.words.items)) long
    ∙ take-append_seam c.read_key.new.out (drop (length c.read_key.new.out) c.in_ok-words.words.items) ∙ c.read_key.ensures.key it m e in
    let state : c.decode.result ≡ g.O.CellObject.decoded it.value =
    c.decode.ensures ∙ ap g.O.CellObject.decoded (c.read_value.ensures.value it (subst (λ (u : Hung). Holds u it) (sym c.read_key.ensures.same) m) e) in
    λ t. (key t, state t)
