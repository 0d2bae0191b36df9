use Rattle.std.proofs.Common.{◌≡◌, ◌-◌, ◌<◌, ◌++◌, ◌∙◌, ℕ, List, ap, append_assoc, arith, drop, length, length-drop, string_bytes, take, take_all}
use Rattle.std.proofs.lemmas.Bool.Decides.{nat_tests}
use Rattle.shown_text.specs.Shown.{front_text, shown_after}
use Rattle.shown_text.proofs.Fronts.{front_then}
use Rattle.shown_text.proofs.escaped.put_escaped.Goals as goal

pub fronts-preserved : goal.fronts-preserved
fronts-preserved c =
    let bytes = c.fronts.rest.now in
    let size = c.in_ok-size.size in
    let before = string_bytes c.fronts.text in
    let wrote = c.in_ok-size.ensures in
    let some : 0 < length bytes = grind (arith, nat_tests, c.is_empty.ensures, c.fronts-test.true) in
    let whole : take (length bytes - size) (drop size bytes) ≡ drop size bytes = take_all _ _ (omega (arith, length-drop size bytes)) in
    ap (λ (l : List ℕ). string_bytes c.put_front.new.text ++ shown_after 0 l) whole
    ∙ ap (λ (t : List ℕ). t ++ shown_after 0 (drop size bytes)) wrote.text
    ∙ append_assoc before (front_text bytes) (shown_after 0 (drop size bytes))
    ∙ ap (λ (l : List ℕ). before ++ l) (front_then bytes size wrote.size wrote.some some)
    ∙ c.fronts.invariant
